-- Two pieces with the same corners share a face, also where a corner occurs twice in a piece.
use Rattle.std.specs.Prelude.{◌≡◌, Bool, true, false, not, cond, ◌&&◌, ◌||◌, ◌≢◌, ltb}
use Rattle.std.proofs.Common.{sym, ◌∙◌}
use Rattle.std.proofs.Math.Path.{subst}
use Rattle.std.proofs.Math.Logic.{⊎_elim}
use Prim.Native.Nat.{ℕ, suc, ◌-◌, ◌<◌}
use native.Mathlib.Omega.{arith}
use Rattle.std.proofs.Math.Dec.{eqb}
use borrow.Author.Tests.{eqb-true, eqb-false, eq-eqb, ne_eqb, ltb-true, ltb-false, lt-ltb, le-ltb}
use Rattle.laws.specs.Below.{any_below, any_is, any_where, any_fails_at, all_at, all_of, and_left, and_right, or_true, either}
use Rattle.piece.specs.declared.Piece.{Piece}
use Rattle.piece.specs.Ends.{corner_at}
use Rattle.check_refusals.specs.Refusals.{has_corner, face_has, face_within, same_face, corners_within, same_corners}

-- A slot other than i that has corner x: face i has it.
slot_on : (q : Piece) (i x k : ℕ) → k < 4 → k ≢ i → corner_at q k ≡ x → face_has q i x ≡ true
unfolding face_has
slot_on q i x k l n e = any_is (λ k. not (eqb k i) && eqb (corner_at q k) x) 4 k l (rw (ne_eqb k i n, eq-eqb (corner_at q k) x e))

-- Slots a and b of p have one corner.
record Twice (p : Piece) : Type 0 where
  a : ℕ
  b : ℕ
  low : a < 4
  lower : b < a
  same : corner_at p a ≡ corner_at p b

unfoldable twice : Piece → Bool
twice p = any_below 4 (λ a. any_below a (λ b. eqb (corner_at p a) (corner_at p b)))

twice_is : (p : Piece) → twice p ≡ true → Twice p
unfolding twice
twice_is p t =
    let (a, low, u) = any_where (λ a. any_below a (λ b. eqb (corner_at p a) (corner_at p b))) 4 t in
    let (b, lower, e) = any_where (λ b. eqb (corner_at p a) (corner_at p b)) a u in
    record { a = a; b = b; low = low; lower = lower; same = eqb-true (corner_at p a) (corner_at p b) e }

-- No two slots have.
module _ (p : Piece) (once : twice p ≡ false) where
  apart : (a b : ℕ) → a < 4 → b < a → corner_at p a ≢ corner_at p b
  unfolding twice
  apart a b low lower =
      eqb-false (corner_at p a) (corner_at p b)
      (any_fails_at (λ b. eqb (corner_at p a) (corner_at p b)) a b (any_fails_at (λ a. any_below a (λ b. eqb (corner_at p a) (corner_at p b))) 4 a once low) lower)

  one_slot : (a b : ℕ) → a < 4 → b < 4 → corner_at p a ≡ corner_at p b → a ≡ b
  one_slot a b l m e =
      ⊎_elim
      (λ t. absurd (apart a b l (ltb-true b a t) e))
      (λ n. ⊎_elim (λ t. absurd (apart b a m (ltb-true a b t) (sym e))) (λ o. let x = ltb-false b a n in let y = ltb-false a b o in omega arith) (either (ltb a b)))
      (either (ltb b a))

-- The slots but a, by three numbers.
unfoldable but : ℕ → ℕ → ℕ
but a z = cond (ltb z a) z (suc z)

-- Four numbers below three are not all different.
four : (s u v w : ℕ) → s < 3 → u < 3 → v < 3 → w < 3 → s ≢ u → s ≢ v → s ≢ w → u ≢ v → u ≢ w → v ≢ w → ⊥
four s u v w sl ul vl wl su sv sw uv uw vw = omega arith

-- Every corner of p is one of q's.
module _ (p q : Piece) (within : corners_within p q ≡ true) where
  slot_of : (k : ℕ) → k < 4 → (y : ℕ) × (y < 4) × (corner_at q y ≡ corner_at p k)
  unfolding corners_within has_corner
  slot_of k l =
      let (y, m, t) = any_where (λ y. eqb (corner_at q y) (corner_at p k)) 4 (all_at (λ k. has_corner q (corner_at p k)) 4 k within l) in
      (y, m, eqb-true (corner_at q y) (corner_at p k) t)

  face_of_lem : (i j : ℕ) → ((k : ℕ) → k < 4 → k ≢ i → face_has q j (corner_at p k) ≡ true) → face_within p i q j ≡ true
  unfolding face_within
  face_of_lem i j h =
      all_of (λ k. eqb k i || face_has q j (corner_at p k)) 4
      (λ k l. ⊎_elim (λ t. rw t) (λ n. rw (h k l (eqb-false k i n)) (or_true (eqb k i))) (either (eqb k i)))

  -- Both are left without a corner that each has once.
  once_within : twice p ≡ false → (i j : ℕ) → i < 4 → corner_at q j ≡ corner_at p i → face_within p i q j ≡ true
  once_within once i j low e =
      face_of_lem i j
      (λ k l n.
      let (y, m, same) = slot_of k l in
      slot_on q j (corner_at p k) y m (λ (is : y ≡ j). n (one_slot p once k i l low (sym same ∙ subst (λ (s : ℕ). corner_at q s ≡ corner_at p i) (sym is) e))) same)

  -- q is left without one of two slots with one corner.
  twice_within : (t : Twice q) (i : ℕ) → face_within p i q t.a ≡ true
  twice_within t i =
      face_of_lem i t.a
      (λ k l n.
      let (y, m, same) = slot_of k l in
      ⊎_elim
      (λ h.
      let is = eqb-true y t.a h in
      slot_on q t.a (corner_at p k) t.b (omega arith) (λ e. omega arith) (sym t.same ∙ subst (λ (s : ℕ). corner_at q s ≡ corner_at p k) is same))
      (λ h. slot_on q t.a (corner_at p k) y m (eqb-false y t.a h) same)
      (either (eqb y t.a)))

  -- Four corners are not among three.
  slot_but : (t : Twice q) (k : ℕ) → k < 4 → (z : ℕ) × (z < 3) × (corner_at q (but t.a z) ≡ corner_at p k)
  unfolding but
  slot_but t k l =
      let (y, m, same) = slot_of k l in
      ⊎_elim
      (λ h. let lower = ltb-true y t.a h in (y, omega arith, rw h same))
      (λ h.
      let upper = ltb-false y t.a h in
      ⊎_elim
      (λ g.
      let is = eqb-true y t.a g in
      (t.b, omega arith, rw (lt-ltb t.b t.a t.lower) (sym t.same ∙ subst (λ (s : ℕ). corner_at q s ≡ corner_at p k) is same)))
      (λ g.
      let other : y ≢ t.a = eqb-false y t.a g in
      let next : y ≡ suc (y - 1) = omega arith in
      (y - 1, omega arith, rw (le-ltb (y - 1) t.a (omega arith)) (subst (λ (s : ℕ). corner_at q s ≡ corner_at p k) next same)))
      (either (eqb y t.a)))
      (either (ltb y t.a))

  never : twice p ≡ false → Twice q → ⊥
  never once t =
      let (s, sl, se) = slot_but t 0 (omega arith) in
      let (u, ul, ue) = slot_but t 1 (omega arith) in
      let (v, vl, ve) = slot_but t 2 (omega arith) in
      let (w, wl, we) = slot_but t 3 (omega arith) in
      four s u v w sl ul vl wl
      (differ s u 0 1 (omega arith) (omega arith) se ue)
      (differ s v 0 2 (omega arith) (omega arith) se ve)
      (differ s w 0 3 (omega arith) (omega arith) se we)
      (differ u v 1 2 (omega arith) (omega arith) ue ve)
      (differ u w 1 3 (omega arith) (omega arith) ue we)
      (differ v w 2 3 (omega arith) (omega arith) ve we)
    where
      differ : (x y k m : ℕ) → m < 4 → k < m → corner_at q (but t.a x) ≡ corner_at p k → corner_at q (but t.a y) ≡ corner_at p m → x ≢ y
      differ x y k m l b one other is = apart p once m k l b (sym other ∙ subst (λ (z : ℕ). corner_at q (but t.a z) ≡ corner_at p k) is one)

-- The face that they share.
pub record Shared (p q : Piece) : Type 0 where
  pub j : ℕ
  pub i : ℕ
  pub one : j < 4
  pub other : i < 4
  pub same : same_face p j q i ≡ true

module _ (p q : Piece) (e : same_corners p q ≡ true) where
  there : corners_within p q ≡ true
  unfolding same_corners
  there = and_left (corners_within p q) (corners_within q p) e

  back : corners_within q p ≡ true
  unfolding same_corners
  back = and_right (corners_within p q) (corners_within q p) e

  pub share_face : Shared p q
  unfolding same_face
  share_face =
      ⊎_elim
      (λ t.
      let one = twice_is p t in
      ⊎_elim
      (λ u.
      let other = twice_is q u in
      record { j = one.a; i = other.a; one = one.low; other = other.low; same = rw (twice_within p q there other one.a, twice_within q p back one other.a) })
      (λ u. absurd (never q p back u one))
      (either (twice q)))
      (λ t.
      ⊎_elim
      (λ u. absurd (never p q there t (twice_is q u)))
      (λ u.
      let (y, l, s) = slot_of p q there 0 (omega arith) in
      record { j = 0; i = y; one = omega arith; other = l; same = rw (once_within p q there t 0 y (omega arith) s, once_within q p back u y 0 l (sym s)) })
      (either (twice q)))
      (either (twice p))
