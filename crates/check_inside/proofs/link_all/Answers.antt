-- `check_inside::link_all` has put in the vertices before v.
-- Assumes nothing.
use mathlib.Core.Path.{◌≡◌, sym, ◌∙◌, ap}
use native.Mathlib.Numerals.{add-one}
use lib.ListN.{length}
use Rattle.laws.specs.Links.{Links, linked_none, linked_suc, linked_heads_long}
use Rattle.check_inside.proofs.link_all.Goals as goal

pub loop-v-init : goal.loop-v-init
loop-v-init c = sym (linked_none _ _)

pub loop-v-preserved : goal.loop-v-preserved
loop-v-preserved c =
    let is = c.loop-v.invariant in
    let keys : length c.loop-v.links.heads.now ≡ length c.args.links.now.heads.now = ap (λ (l : Links). length l.heads) is ∙ linked_heads_long _ _ c.loop-v.v in
    rw (add-one c.loop-v.v, linked_suc, ← is, c.push.ensures.pushed, c.place_key-key.ensures, c.keys.ensures, c.place.ensures, keys)
