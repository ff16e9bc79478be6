-- The ends of a piece's edges, as the ranking sees them.
use Rattle.std.specs.Prelude.{◌≡◌, refl, ◌⊎◌, ℕ, ◌≤◌, ◌<◌, ltb}
use Rattle.std.proofs.Common.{inl, inr, arith}
use Rattle.std.proofs.Math.Logic.{⊎_elim}
use borrow.Author.Tests.{ltb-true, ltb-false}
use Rattle.laws.specs.Below.{fold_below, all_below, either}
use Rattle.laws.specs.Pairs.{SamePair, pair_through, pair_turned, pair_in_order}
use Rattle.piece.specs.declared.Piece.{Piece}
use Rattle.piece_edges.specs.Edges.{low_slot, high_slot, slots_small}
use Rattle.piece.specs.Ends.{corner_at, lower_end, higher_end, ends_of}
use Rattle.check_meaning.specs.Tests.{equal, not_passes, fails_unless, and_passes, or_passes, all_pass}

-- The corners of a piece are four different vertices.
abbrev pub Different : Piece → Type 0
Different p = (j k : ℕ) → j < 4 → k < 4 → corner_at p j ≡ corner_at p k → j ≡ k

-- An edge code is known by its two slots, whichever way round.
one_edge : (e : ℕ) → e < 6 → (f : ℕ) → f < 6 → (SamePair (low_slot e) (high_slot e) (low_slot f) (high_slot f) → ⊥) ⊎ (e ≡ f)
unfolding low_slot high_slot all_below fold_below
one_edge =
    (all_pass 6 (λ e l. all_pass 6 (λ f k. or_passes
    (not_passes (fails_unless (or_passes
    (and_passes (equal (low_slot e) (low_slot f)) (equal (high_slot e) (high_slot f)))
    (and_passes (equal (low_slot e) (high_slot f)) (equal (high_slot e) (low_slot f))))))
    (equal e f)))).0 refl

module _ (p : Piece) (e : ℕ) where
  -- The ends of an edge are the corners in its two slots, in rising order.
  pub ends_are : SamePair (ends_of p e).lower (ends_of p e).higher (corner_at p (low_slot e)) (corner_at p (high_slot e)) × ((ends_of p e).lower ≤ (ends_of p e).higher)
  unfolding ends_of lower_end higher_end
  ends_are =
      let low = corner_at p (low_slot e) in
      let high = corner_at p (high_slot e) in
      ⊎_elim
      (λ t. rw t (inl (refl, refl), let l = ltb-true low high t in omega arith))
      (λ f. rw f (inr (refl, refl), ltb-false low high f))
      (either (ltb low high))

-- Two different edges of a piece with four different corners have different ends.
pub edge_by_ends : (p : Piece) → Different p → (e f : ℕ) → e < 6 → f < 6 → (ends_of p e).lower ≡ (ends_of p f).lower → (ends_of p e).higher ≡ (ends_of p f).higher → e ≡ f
edge_by_ends p d e f le lf lower higher =
    let corners : SamePair (corner_at p (low_slot e)) (corner_at p (high_slot e)) (corner_at p (low_slot f)) (corner_at p (high_slot f)) =
    pair_through (ends_are p e).0 (rw (lower, higher) (ends_are p f).0) in
    let slots : SamePair (low_slot e) (high_slot e) (low_slot f) (high_slot f) =
    ⊎_elim
    (λ c. inl (d (low_slot e) (low_slot f) (slots_small e).0 (slots_small f).0 c.0, d (high_slot e) (high_slot f) (slots_small e).1 (slots_small f).1 c.1))
    (λ c. inr (d (low_slot e) (high_slot f) (slots_small e).0 (slots_small f).1 c.0, d (high_slot e) (low_slot f) (slots_small e).1 (slots_small f).0 c.1))
    corners in
    ⊎_elim (λ no. absurd (no slots)) (λ same. same) (one_edge e le f lf)

-- Edges with the same two corners have the same ends, whatever their pieces and slots.
pub ends_same : (p q : Piece) (e f : ℕ) → SamePair (corner_at p (low_slot e)) (corner_at p (high_slot e)) (corner_at q (low_slot f)) (corner_at q (high_slot f)) → ends_of p e ≡ ends_of q f
ends_same p q e f corners =
    let a = ends_are p e in
    let b = ends_are q f in
    let both = pair_in_order (pair_through (pair_through corners (pair_turned a.0)) (pair_turned b.0)) a.1 b.1 in
    λ i. record { lower = both.0 i; higher = both.1 i }
