-- `check_inside::asking_of`: the record's four corners.
-- Assumes nothing.
use Rattle.std.proofs.Common.{rules}
use Rattle.check_inside.specs.Cells.{asking_of}
use Rattle.check_inside.proofs.asking_of.Goals as goal

pub returns : goal.returns
unfolding asking_of
returns c = search rules
