-- `check_inside::slabs_of`: the cell's number along each axis.
-- Assumes nothing.
use Rattle.std.proofs.Common.{rules}
use Rattle.check_inside.specs.Cells.{slabs_of}
use Rattle.check_inside.proofs.slabs_of.Goals as goal

pub returns : goal.returns
unfolding slabs_of
returns c = search rules
