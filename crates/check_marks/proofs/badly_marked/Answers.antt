-- `check_marks::badly_marked`: it is the definition at what the calls return.
-- Assumes nothing.
use Rattle.std.proofs.Common.{rules}
use Rattle.check_refusals.specs.Refusals.{bad_marks}
use Rattle.check_marks.proofs.badly_marked.Goals as goal

pub returns-then-edge-gt5 : goal.returns-then-edge-gt5
unfolding bad_marks
returns-then-edge-gt5 c = search rules

pub returns-else-edge-gt5 : goal.returns-else-edge-gt5
unfolding bad_marks
returns-else-edge-gt5 c = search rules
