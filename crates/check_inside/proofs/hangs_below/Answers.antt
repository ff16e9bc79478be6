-- `check_inside::hangs_below`: each way out is one case of the definition, at what the calls return.
-- Assumes nothing.
use Rattle.std.proofs.Common.{rules}
use Rattle.check_inside.specs.Cells.{hangs_below, hangs_within}
use Rattle.check_inside.proofs.hangs_below.Goals as goal

pub returns-then-count-u : goal.returns-then-count-u
unfolding hangs_below hangs_within
returns-then-count-u c = search rules

pub returns-then-is_corner : goal.returns-then-is_corner
unfolding hangs_below hangs_within
returns-then-is_corner c = search rules

pub returns-then-is_within : goal.returns-then-is_within
unfolding hangs_below hangs_within
returns-then-is_within c = search rules

pub returns-else-is_within : goal.returns-else-is_within
unfolding hangs_below hangs_within
returns-else-is_within c = search rules
