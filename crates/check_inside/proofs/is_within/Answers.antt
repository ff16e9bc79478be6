-- `check_inside::is_within`: each coordinate lies in the box.
-- Assumes nothing.
use Rattle.std.proofs.Common.{rules}
use Rattle.check_inside.specs.Cells.{is_within}
use Rattle.check_inside.proofs.is_within.Goals as goal

pub returns-then-space-p-3 : goal.returns-then-space-p-3
unfolding is_within
returns-then-space-p-3 c = search rules

pub returns-else-space-p-3 : goal.returns-else-space-p-3
unfolding is_within
returns-else-space-p-3 c = search rules
