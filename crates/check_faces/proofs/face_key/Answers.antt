-- `check_faces::face_key`: the key of the face's sum.
-- Assumes nothing.
use Rattle.std.proofs.Common.{rules}
use Rattle.check_faces.specs.Linked.{face_key}
use Rattle.check_faces.proofs.face_key.Goals as goal

pub returns : goal.returns
unfolding face_key
returns c = search rules
