-- `check_places::any_bad` has found no bad vertex before v, and has linked those before v, in lists as long as they were.
-- Assumes nothing.
use mathlib.Core.Path.{refl, sym, ◌∙◌, ap}
use native.Mathlib.Omega.{arith}
use lib.ListN.{length}
use Rattle.laws.specs.Below.{any_none, any_next, any_is, any_end}
use Rattle.laws.specs.Links.{Links, pushed_nexts_long}
use Rattle.check_refusals.specs.Refusals.{bad_vertex, bad_vertices}
use Rattle.check_places.specs.Kept.{none_kept, vertex_kept}
use Rattle.check_places.proofs.any_bad.Goals as goal

pub loop-v-init : goal.loop-v-init
loop-v-init c = (λ empty. (any_none _, none_kept _ _ _ c.requires.keys empty), refl)

pub returns-then-bad_vertex : goal.returns-then-bad_vertex
unfolding bad_vertices
returns-then-bad_vertex c empty =
    let at = c.loop-v in
    sym (any_is (bad_vertex _) _ at.v c.loop-v-test.true (sym (c.bad_vertex.ensures (rw (c.read.ensures.heads, c.read.ensures.nexts) (at.invariant.0 empty).1)) ∙ c.if-bad_vertex.true))

pub loop-v-preserved : goal.loop-v-preserved
loop-v-preserved c =
    let at = c.loop-v in
    let lent = c.requires in
    let below = c.loop-v-test.true in
    let turn = c.link_vertex.ensures in
    let last = c.bad_vertex in (
      λ empty.
          let (none, kept) = at.invariant.0 empty in (
            any_next _ _ none (sym (last.ensures (rw (c.read.ensures.heads, c.read.ensures.nexts) kept)) ∙ c.if-bad_vertex.false),
            vertex_kept _ at.v _ _ _ _ kept (omega (arith, below, lent.places, at.invariant.1)) (omega (arith, below, lent.fits)) (ap (λ (l : Links). l.heads) turn.linked) (ap (λ (l : Links). l.nexts) turn.linked),
          ),
      ap (λ (l : Links). length l.nexts) turn.linked ∙ pushed_nexts_long _ _ _ ∙ at.invariant.1,
    )

pub returns : goal.returns
unfolding bad_vertices
returns c empty = sym (any_end (bad_vertex _) _ c.loop-v.v c.loop-v-test.false c.loop-v.auto.v-end (c.loop-v.invariant.0 empty).0)
