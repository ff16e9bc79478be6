-- `check_inside::slab` divides by no 0.
-- Assumes nothing.
use Rattle.std.proofs.Common.{rules}
use Rattle.check_inside.specs.Cells.{slab_of}
use Rattle.check_inside.proofs.slab.Goals as goal

pub returns : goal.returns
unfolding slab_of
returns c = search rules
