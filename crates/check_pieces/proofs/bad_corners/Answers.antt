-- `check_pieces::bad_corners`: equal corners, or one not in the base.
-- Assumes nothing.
use mathlib.Core.Path.{sym, ◌∙◌}
use Rattle.check_refusals.specs.Refusals.{bad_corners}
use Rattle.check_pieces.proofs.bad_corners.Goals as goal

pub returns-then-equal_corners : goal.returns-then-equal_corners
unfolding bad_corners
returns-then-equal_corners c = rw (sym c.equal_corners.ensures ∙ c.if-equal_corners.true)

pub returns : goal.returns
unfolding bad_corners
returns c = rw (sym c.equal_corners.ensures ∙ c.if-equal_corners.false) c.corner_not_in_base.ensures
