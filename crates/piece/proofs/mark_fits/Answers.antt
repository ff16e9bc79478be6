-- `piece::mark_fits`: each way out is one case of the definition, at what the calls return.
-- Assumes nothing.
use Rattle.std.proofs.Common.{rules}
use Rattle.piece.specs.Shape.{mark_fits}
use Rattle.piece.proofs.mark_fits.Goals as goal

pub returns-then-not-on_face : goal.returns-then-not-on_face
unfolding mark_fits
returns-then-not-on_face c = search rules

pub returns-else-not-on_face : goal.returns-else-not-on_face
unfolding mark_fits
returns-else-not-on_face c = search rules

pub returns-else-on_face : goal.returns-else-on_face
unfolding mark_fits
returns-else-on_face c = search rules
