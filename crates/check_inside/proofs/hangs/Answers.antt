-- `check_inside::hangs`: no corner, and in the piece where it stands.
-- Assumes nothing.
use Rattle.std.proofs.Common.{rules}
use Rattle.check_inside.specs.Cells.{hangs_among}
use Rattle.check_inside.proofs.hangs.Goals as goal

pub returns-then-not-is_corner : goal.returns-then-not-is_corner
unfolding hangs_among
returns-then-not-is_corner c = search rules

pub returns-else-not-is_corner : goal.returns-else-not-is_corner
unfolding hangs_among
returns-else-not-is_corner c = search rules
