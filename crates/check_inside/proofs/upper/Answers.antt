-- `check_inside::upper` takes the greater coordinate along each axis.
-- Assumes nothing.
use Rattle.std.proofs.Common.{rules}
use Rattle.check_inside.specs.Cells.{upper_of}
use Rattle.check_inside.proofs.upper.Goals as goal

pub returns : goal.returns
unfolding upper_of
returns c = search rules
