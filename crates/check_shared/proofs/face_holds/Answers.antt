-- `check_shared::face_holds`: it is the definition.
-- Assumes nothing.
use Rattle.std.proofs.Common.{rules}
use Rattle.check_shared.specs.Faces.{holds}
use Rattle.check_shared.proofs.face_holds.Goals as goal

pub returns-then-f-x-2 : goal.returns-then-f-x-2
unfolding holds
returns-then-f-x-2 c = search rules

pub returns-else-f-x-2 : goal.returns-else-f-x-2
unfolding holds
returns-else-f-x-2 c = search rules
