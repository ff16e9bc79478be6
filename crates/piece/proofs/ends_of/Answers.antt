-- `piece::ends_of`: those of its corners.
-- Assumes nothing.
use mathlib.Core.Path.{◌∙◌}
use Rattle.piece.specs.Ends.{ends_at_lem}
use Rattle.piece.proofs.ends_of.Goals as goal

pub returns : goal.returns
returns c = let a = c.args in c.ends_at.ensures ∙ ends_at_lem a.p a.e
