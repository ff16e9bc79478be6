-- `check_hanging::first_in_lists` searches along the links of all vertices, filled from empty ones, where there is room and there are made vertices.
-- Assumes nothing.
use mathlib.Core.Path.{sym, ◌∙◌}
use Rattle.laws.specs.Links.{roomy}
use Rattle.mesh_parents.specs.Pairs.{links_linked}
use Rattle.check_hanging.specs.Hanging.{found_along, none_made}
use Rattle.check_hanging.proofs.first_in_lists.Goals as goal

pub returns-then-is_short : goal.returns-then-is_short
unfolding found_along
returns-then-is_short c = rw (sym c.is_short.ensures ∙ c.if-is_short.true)

pub returns-then-mesh : goal.returns-then-mesh
unfolding found_along
returns-then-mesh c = rw (sym c.is_short.ensures ∙ c.if-is_short.false) (none_made _ c.if-mesh.true)

pub invariant_of-linked : goal.invariant_of-linked
invariant_of-linked c = record { linked = rw (c.read.ensures.heads, c.read.ensures.nexts) (links_linked _ _ _ (roomy _ _ _ (sym c.is_short.ensures ∙ c.if-is_short.false)) _ c.link_pairs.ensures.linked) }

pub returns : goal.returns
unfolding found_along
returns c = rw (sym c.is_short.ensures ∙ c.if-is_short.false) c.search.ensures
