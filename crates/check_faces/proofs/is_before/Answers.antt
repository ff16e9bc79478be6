-- `check_faces::is_before`: both ways out are cases of the definition, at what the call returns.
-- Assumes nothing.
use Rattle.std.proofs.Common.{rules}
use Rattle.check_faces.specs.Faces.{is_before}
use Rattle.check_faces.proofs.is_before.Goals as goal

pub returns-then-f-r : goal.returns-then-f-r
unfolding is_before
returns-then-f-r c = search rules

pub returns-else-f-r : goal.returns-else-f-r
unfolding is_before
returns-else-f-r c = search rules
