-- `check_inside::is_corner`: v is one of the corners, or the last.
-- Assumes nothing.
use Rattle.std.proofs.Common.{rules}
use Rattle.check_inside.specs.Cells.{is_corner}
use Rattle.check_inside.proofs.is_corner.Goals as goal

pub returns-then-q-v-3 : goal.returns-then-q-v-3
unfolding is_corner
returns-then-q-v-3 c = search rules

pub returns-else-q-v-3 : goal.returns-else-q-v-3
unfolding is_corner
returns-else-q-v-3 c = search rules
