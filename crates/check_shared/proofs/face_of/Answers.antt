-- `check_shared::face_of`: each corner is the one of its slot.
-- Assumes nothing.
use Rattle.std.proofs.Common.{rules}
use Rattle.check_shared.specs.Faces.{face_of}
use Rattle.check_shared.proofs.face_of.Goals as goal

pub returns-then-i-le2 : goal.returns-then-i-le2
unfolding face_of
returns-then-i-le2 c = search rules

pub returns-else-i-le2 : goal.returns-else-i-le2
unfolding face_of
returns-else-i-le2 c = search rules
