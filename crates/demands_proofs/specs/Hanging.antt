-- What the tests for hanging edges say of the tables as the mathematics of sets of cuts has them. Assumes nothing.
use Rattle.std.specs.Prelude.{◌≡◌, false}
use Rattle.std.proofs.Common.{sym, ◌∙◌, eqb-true, lt-ltb, le-ltb}
use Rattle.std.proofs.Math.Path.{ap}
use Rattle.std.proofs.Math.Bool.{true, not}
use Rattle.std.proofs.Math.Logic.{inl, inr, ⊎_elim}
use Prim.Native.Nat.{ℕ, ◌<◌}
use native.Mathlib.Omega.{arith}
use Rattle.std.proofs.lemmas.Bool.{not-false}
use Rattle.laws.specs.Below.{and_left, and_right, any_where}
use Rattle.laws.specs.Pairs.{SamePair}
use Rattle.piece_edges.specs.Edges.{low_slot, high_slot}
use Rattle.piece.specs.Ends.{corner_at, lower_end, higher_end, ends_of}
use Rattle.stored.specs.Layout.{none}
use Rattle.mesh_tables.specs.Tables as Check
use Rattle.mesh_tables.specs.Tables.{all_vertices, all_records, piece_at, is_leaf, is_cut, has_parents, hangs, hangs_at, leaf_hangs, hanging_edge}
use Rattle.check_meaning.specs.Accepted.{HasParents, first_child}
use Rattle.check_meaning.specs.Vertices.{parents_are}
use Rattle.check_meaning.proofs.Cuts.{rule10_holds}
use Rattle.check_meaning.specs.Descent.{ends_are}
use Rattle.cuts.specs.Tables.{Lawful, HangsIn}
use Rattle.demands_proofs.specs.Link.{link}

module _ (m : Check.Tables) where
  -- The parents of the vertex are the two ends of edge e, whichever way round.
  parents_ends : (n e v : ℕ) → HasParents m (ends_of (piece_at m n) e) v → SamePair (m.vertex_at v).p (m.vertex_at v).q (corner_at (piece_at m n) (low_slot e)) (corner_at (piece_at m n) (high_slot e))
  unfolding ends_of
  parents_ends n e v h =
      let corner : ℕ → ℕ = corner_at (piece_at m n) in
      ⊎_elim
      (λ x. inl (h.p ∙ ap corner (sym x.0), h.q ∙ ap corner (sym x.1)))
      (λ x. inr (h.p ∙ ap corner (sym x.0), h.q ∙ ap corner (sym x.1)))
      (ends_are (piece_at m n) e)

  -- The first of its parents has the lower number, so they are the ends in that order.
  ends_parents : (n e v : ℕ) → (m.vertex_at v).p < (m.vertex_at v).q → SamePair (m.vertex_at v).p (m.vertex_at v).q (corner_at (piece_at m n) (low_slot e)) (corner_at (piece_at m n) (high_slot e)) →
      HasParents m (ends_of (piece_at m n) e) v
  unfolding ends_of lower_end higher_end
  ends_parents n e v rise =
      let low : ℕ = corner_at (piece_at m n) (low_slot e) in
      let high : ℕ = corner_at (piece_at m n) (high_slot e) in
      ⊎_elim
      (λ x. let (a, b) = x in let l : low < high = omega arith in record { p = rw (lt-ltb low high l) a; q = rw (lt-ltb low high l) b })
      (λ x. let (a, b) = x in let l : high < low = omega arith in record { p = rw (le-ltb low high (omega arith)) a; q = rw (le-ltb low high (omega arith)) b })

  -- A leaf that hangs is uncut, and one of its edges hangs.
  pub leaf_hangs_lem : (n : ℕ) → leaf_hangs m n ≡ true → (is_cut m n ≡ false) × ((e : ℕ) × HangsIn (link m) n e)
  unfolding leaf_hangs hangs_at hangs
  leaf_hangs_lem n t =
      let (e, l, h) = any_where (hangs_at m n) 6 t in
      let leaf : is_leaf m n ≡ true = and_left (is_leaf m n) (hangs m (ends_of (piece_at m n) e)) h in
      let (v, b, x) = any_where (has_parents m (ends_of (piece_at m n) e)) (all_vertices m) (and_right (is_leaf m n) (hangs m (ends_of (piece_at m n) e)) h) in
      let (beyond, parents) = (parents_are m (ends_of (piece_at m n) e) v).0 x in
      (ap not leaf, (e, record { edge = l; vertex = v; made = (beyond, b); ends = parents_ends n e v parents }))

  -- Where there is no hanging edge, no edge of an uncut record hangs.
  pub none_hangs : Lawful (link m) → hanging_edge m ≡ false → (n e : ℕ) → n < all_records m → is_cut m n ≡ false → HangsIn (link m) n e → ⊥
  none_hangs lawful f n e l u h =
      (rule10_holds m).0 f n l (eqb-true (first_child m n) none (not-false (is_leaf m n) u)) e h.edge h.vertex (record { beyond = h.made.0; there = h.made.1 })
      (ends_parents n e h.vertex (lawful.parents h.vertex h.made).0 h.ends)
