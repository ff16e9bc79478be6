-- `check_faces::bad_in_lists`: lists that are too short are answered at once, else each record is judged.
-- Assumes nothing.
use mathlib.Core.Path.{sym, ◌∙◌}
use Rattle.laws.specs.Links.{roomy}
use Rattle.check_refusals.specs.Refusals.{bad_base_faces}
use Rattle.check_faces.proofs.bad_in_lists.Goals as goal

pub bad_below-requires : goal.bad_below-requires
bad_below-requires c = roomy _ _ _ (sym c.is_short.ensures ∙ c.if-is_short.false)

pub returns-else-is_short : goal.returns-else-is_short
unfolding bad_base_faces
returns-else-is_short c empty = rw (sym c.is_short.ensures ∙ c.if-is_short.false) (c.bad_below.ensures empty)
