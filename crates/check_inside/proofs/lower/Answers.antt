-- `check_inside::lower` takes the lesser coordinate along each axis.
-- Assumes nothing.
use Rattle.std.proofs.Common.{rules}
use Rattle.check_inside.specs.Cells.{lower_of}
use Rattle.check_inside.proofs.lower.Goals as goal

pub returns : goal.returns
unfolding lower_of
returns c = search rules
