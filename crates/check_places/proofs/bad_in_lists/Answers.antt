-- `check_places::bad_in_lists`: lists that are not too short have room for all vertices.
-- Assumes nothing.
use mathlib.Core.Path.{sym, ◌∙◌}
use Rattle.laws.specs.Links.{roomy}
use Rattle.check_places.proofs.bad_in_lists.Goals as goal

pub any_bad-requires : goal.any_bad-requires
any_bad-requires c = roomy _ _ _ (sym c.is_short.ensures ∙ c.if-is_short.false)
