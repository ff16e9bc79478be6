-- `check_shared::same_two`: it is the definition.
-- Assumes nothing.
use Rattle.std.proofs.Common.{rules}
use Rattle.check_shared.specs.Marks.{same_two}
use Rattle.check_shared.proofs.same_two.Goals as goal

pub returns-then-a-c : goal.returns-then-a-c
unfolding same_two
returns-then-a-c c = search rules

pub returns-then-a-d : goal.returns-then-a-d
unfolding same_two
returns-then-a-d c = search rules

pub returns-else-a-d : goal.returns-else-a-d
unfolding same_two
returns-else-a-d c = search rules
