-- `check_shared::same_face`: it is the definition at what the calls return.
-- Assumes nothing.
use Rattle.std.proofs.Common.{rules}
use Rattle.check_shared.specs.Faces.{same_set}
use Rattle.check_shared.proofs.same_face.Goals as goal

pub returns-then-face_inside : goal.returns-then-face_inside
unfolding same_set
returns-then-face_inside c = search rules

pub returns-else-face_inside : goal.returns-else-face_inside
unfolding same_set
returns-else-face_inside c = search rules
