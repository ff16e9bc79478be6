-- Two edges compared by their ends, in either order.
use Rattle.std.specs.Prelude.{◌≡◌, refl, Bool, false, cond, ◌&&◌, List, ℕ, ◌≤◌, ltb, get_or}
use Rattle.std.proofs.Math.Bool.{true}
use Rattle.std.proofs.Math.Logic.{inl, inr, ⊎_elim}
use Rattle.std.proofs.Common.{arith}
use Rattle.std.proofs.Math.Dec.{eqb}
use borrow.Author.Tests.{eqb-true, eq-eqb, ltb-true, ltb-false}
use Rattle.laws.specs.Below.{same_tests, and_left, and_right, either}
use Rattle.laws.specs.Pairs.{SamePair, pair_through, pair_turned, pair_in_order}
use Rattle.piece_edges.specs.Edges.{low_slot, high_slot}
use Rattle.piece.specs.declared.Piece.{Piece}
use Rattle.piece.specs.declared.Ends.{Ends}
use Rattle.piece.specs.Ends.{corner_at, lower_end, higher_end, ends_of}
use Rattle.check_refusals.specs.Refusals.{same_ends}

-- Two pairs of numbers are the same, in either order.
unfoldable pub same_two : ℕ → ℕ → ℕ → ℕ → Bool
same_two a b c d = let turned = eqb a d && eqb b c in cond (eqb a c) (eqb b d) turned

-- Edge e of a piece with the corners p is edge f of one with the corners q.
unfoldable pub same_edge : List ℕ → ℕ → List ℕ → ℕ → Bool
same_edge p e q f = same_two (get_or p (low_slot e) 0) (get_or p (high_slot e) 0) (get_or q (low_slot f) 0) (get_or q (high_slot f) 0)

-- ---- the same as the ends in the order of their numbers

module _ (a b c d : ℕ) where
  two_pair : same_two a b c d ≡ true → SamePair a b c d
  unfolding same_two
  two_pair e =
      ⊎_elim
      (λ t. inl (eqb-true a c t, eqb-true b d (rw t at e)))
      (λ n.
      let turned : (eqb a d && eqb b c) ≡ true = rw n at e in
      inr (eqb-true a d (and_left (eqb a d) (eqb b c) turned), eqb-true b c (and_right (eqb a d) (eqb b c) turned)))
      (either (eqb a c))

  pair_two : SamePair a b c d → same_two a b c d ≡ true
  unfolding same_two
  pair_two (inl h) = rw (eq-eqb a c h.0, eq-eqb b d h.1)
  pair_two (inr h) =
      let x = h.0 in
      let y = h.1 in
      ⊎_elim (λ t. let z = eqb-true a c t in rw (t, eq-eqb b d (omega arith))) (λ (n : eqb a c ≡ false). rw (n, eq-eqb a d x, eq-eqb b c y)) (either (eqb a c))

module _ (p : Piece) (e : ℕ) where
  ends_pair : SamePair (corner_at p (low_slot e)) (corner_at p (high_slot e)) (ends_of p e).lower (ends_of p e).higher
  unfolding ends_of lower_end higher_end
  ends_pair =
      ⊎_elim (λ t. rw t (inl (refl, refl))) (λ n. rw n (inr (refl, refl))) (either (ltb (corner_at p (low_slot e)) (corner_at p (high_slot e))))

  ends_order : (ends_of p e).lower ≤ (ends_of p e).higher
  unfolding ends_of lower_end higher_end
  ends_order =
      let x = corner_at p (low_slot e) in
      let y = corner_at p (high_slot e) in
      ⊎_elim (λ t. let l = ltb-true x y t in rw t (omega arith)) (λ n. let l = ltb-false x y n in rw n (omega arith)) (either (ltb x y))

pub same_edge_is : (p q : Piece) (e f : ℕ) → same_edge p.corners e q.corners f ≡ same_ends (ends_of p e) (ends_of q f)
unfolding same_edge same_ends
same_edge_is p q e f = same_tests (same_two a b c d) (eqb one.lower other.lower && eqb one.higher other.higher) there back
  where
    a : ℕ
    a = corner_at p (low_slot e)

    b : ℕ
    b = corner_at p (high_slot e)

    c : ℕ
    c = corner_at q (low_slot f)

    d : ℕ
    d = corner_at q (high_slot f)

    one : Ends
    one = ends_of p e

    other : Ends
    other = ends_of q f

    there : same_two a b c d ≡ true → (eqb one.lower other.lower && eqb one.higher other.higher) ≡ true
    there t =
        let (x, y) = pair_in_order (pair_through (pair_turned (pair_through (ends_pair p e) (two_pair a b c d t))) (ends_pair q f)) (ends_order p e) (ends_order q f) in
        rw (eq-eqb one.lower other.lower x, eq-eqb one.higher other.higher y)

    back : (eqb one.lower other.lower && eqb one.higher other.higher) ≡ true → same_two a b c d ≡ true
    back t =
        let x = eqb-true one.lower other.lower (and_left (eqb one.lower other.lower) (eqb one.higher other.higher) t) in
        let y = eqb-true one.higher other.higher (and_right (eqb one.lower other.lower) (eqb one.higher other.higher) t) in
        pair_two a b c d (pair_through (pair_through (inl (x, y)) (pair_turned (ends_pair p e))) (pair_turned (ends_pair q f)))
