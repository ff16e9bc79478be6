-- `check_shared::face_inside`: it is the definition at what the calls return.
-- Assumes nothing.
use Rattle.std.proofs.Common.{rules}
use Rattle.check_shared.specs.Faces.{inside}
use Rattle.check_shared.proofs.face_inside.Goals as goal

pub returns-then-face_holds-2 : goal.returns-then-face_holds-2
unfolding inside
returns-then-face_holds-2 c = search rules

pub returns-else-face_holds-2 : goal.returns-else-face_holds-2
unfolding inside
returns-else-face_holds-2 c = search rules
