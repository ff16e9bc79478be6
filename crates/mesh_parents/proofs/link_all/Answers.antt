-- `mesh_parents::link_all` has put in the vertices before v.
-- Assumes nothing.
use mathlib.Core.Path.{◌≡◌, refl, sym, ◌∙◌, ap}
use native.Mathlib.Numerals.{add-one}
use lib.ListN.{length}
use Rattle.laws.specs.Links.{Links}
use Rattle.mesh_parents.specs.Pairs.{pairs_none, pairs_suc, pairs_heads_long}
use Rattle.mesh_parents.proofs.link_all.Goals as goal

pub loop-v-init : goal.loop-v-init
loop-v-init c = (sym (pairs_none _ _), (refl, refl))

pub loop-v-preserved : goal.loop-v-preserved
loop-v-preserved c =
    let (is, (heads, nexts)) = c.loop-v.invariant in
    let keys : length c.loop-v.links.heads.now ≡ length c.args.links.now.heads.now = ap (λ (l : Links). length l.heads) is ∙ pairs_heads_long _ _ c.loop-v.v in
    let turn = c.link_vertex.ensures in
    (rw (add-one c.loop-v.v, pairs_suc, ← is, turn.linked, keys), (turn.same.0 ∙ heads, turn.same.1 ∙ nexts))
