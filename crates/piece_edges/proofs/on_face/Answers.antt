-- `piece_edges::on_face`: it is the definition at what the call returns.
-- Assumes nothing.
use Rattle.std.proofs.Common.{rules}
use Rattle.piece_edges.specs.Edges.{on_face}
use Rattle.piece_edges.proofs.on_face.Goals as goal

pub returns-then-e-lt6 : goal.returns-then-e-lt6
unfolding on_face
returns-then-e-lt6 c = search rules

pub returns-else-e-lt6 : goal.returns-else-e-lt6
unfolding on_face
returns-else-e-lt6 c = search rules
