-- `check_hanging::search` has passed no hanging edge of a record before n, of an edge code before e.
-- Assumes nothing.
use mathlib.Core.Path.{◌≡◌, refl, sym, ◌∙◌}
use mathlib.Core.Bool.{false}
use Rattle.laws.specs.Below.{any_none, any_next, any_end}
use Rattle.piece.specs.Ends.{ends_of, ends_at_lem}
use Rattle.mesh_tables.specs.Tables.{Tables, tables_read, has_parents, hangs, piece_at, leaf_hangs}
use Rattle.mesh_parents.specs.Pairs.{Linked, pair_key}
use Rattle.laws.specs.Links.{any_along}
use Rattle.piece.specs.declared.Ends.{Ends}
use Rattle.std.specs.Prelude.{Bool, List, ℕ, length, get_or}
use Rattle.std.proofs.Common.{rules}
use Rattle.check_hanging.specs.Hanging.{rests, place_found, none_found}
use Rattle.mesh_hanging.specs.Hanging.{any_linked, leaf_not_linked, linked_hangs, not_leaf}
use Rattle.check_hanging.proofs.search.Goals as goal

-- What is found along the links is what a search through all vertices would find.
edge_hangs : (m : Tables) (heads nexts : List ℕ) (ends : Ends) {head : ℕ} {found : Bool} → Linked m heads nexts → head ≡ get_or heads (pair_key (length heads) ends) 0 → found ≡ any_along nexts (has_parents m ends) head → found ≡ hangs m ends
edge_hangs m heads nexts ends linked is found = found ∙ rw is (linked_hangs m heads nexts linked ends)

pub search-init : goal.search-init
search-init c = (refl, any_none _)

pub search-preserved-then-not-is_leaf : goal.search-preserved-then-not-is_leaf
search-preserved-then-not-is_leaf c =
    let (none, before) = c.search.invariant in
    (none, any_next _ _ before (not_leaf _ _ (sym c.is_leaf.ensures ∙ c.if-not-is_leaf.true)))

pub search-preserved-then-not-any_linked : goal.search-preserved-then-not-any_linked
search-preserved-then-not-any_linked c =
    let (none, before) = c.search.invariant in
    let rest : any_linked c.args.linked.now.links.heads.now (piece_at (tables_read c.args.linked.now.mesh.now) c.search.n).corners ≡ false = rw (← c.corners-corners.ensures) (sym c.any_linked.ensures ∙ c.if-not-any_linked.true) in
    (none, any_next _ _ before (leaf_not_linked _ _ _ c.args.linked.now.linked _ rest))

pub loop-e-init : goal.loop-e-init
loop-e-init c = (c.search.invariant.0, any_none _)

pub loop-e-preserved : goal.loop-e-preserved
loop-e-preserved c =
    let m = tables_read c.args.linked.now.mesh.now in
    let at = c.loop-e in
    let ends = c.ends_at-ends.result in
    let ends_are : ends ≡ ends_of (piece_at m c.search.n) at.e = rw (c.ends_at-ends.ensures, c.corners-corners.ensures) (ends_at_lem _ _) in
    (at.invariant.0, any_next _ _ at.invariant.1 (rests m _ _ ends ends_are (sym (edge_hangs m _ _ ends c.args.linked.now.linked c.head_of-head.ensures (c.any.ensures (has_parents m ends) (λ u yes l posted. search rules))) ∙ c.if-any.false)))

pub search-preserved : goal.search-preserved
unfolding leaf_hangs
search-preserved c =
    let at = c.loop-e in
    (at.invariant.0, any_next _ _ c.search.invariant.1 (any_end _ 6 at.e c.loop-e-test.false at.auto.e-end at.invariant.1))

pub returns-after-search : goal.returns-after-search
returns-after-search c =
    let at = c.search in
    at.invariant.0 ∙ none_found _ (any_end _ _ at.n c.search-test.false at.auto.n-end at.invariant.1)

pub returns-then-any : goal.returns-then-any
returns-then-any c =
    let m = tables_read c.args.linked.now.mesh.now in
    let at = c.search in
    let edge = c.loop-e in
    let ends = c.ends_at-ends.result in
    let ends_are : ends ≡ ends_of (piece_at m at.n) edge.e = rw (c.ends_at-ends.ensures, c.corners-corners.ensures) (ends_at_lem _ _) in
    let leaf = sym c.is_leaf.ensures ∙ c.if-not-is_leaf.false in
    place_found m at.n edge.e ends ends_are c.search-test.true at.invariant.1 leaf c.loop-e-test.true edge.invariant.1 (sym (edge_hangs m _ _ ends c.args.linked.now.linked c.head_of-head.ensures (c.any.ensures (has_parents m ends) (λ u yes l posted. search rules))) ∙ c.if-any.true)
