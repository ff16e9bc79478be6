-- `check_faces::is_face` compares the face that the calls read.
-- Assumes nothing.
use Rattle.std.proofs.Common.{rules}
use Rattle.check_faces.specs.Faces.{is_face}
use Rattle.check_faces.proofs.is_face.Goals as goal

pub returns : goal.returns
unfolding is_face
returns c = search rules
