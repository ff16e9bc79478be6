-- Document 02, "Three": right-handed and left-handed, and what keeps a piece right-handed.
-- Assumes nothing.
use Rattle.std.specs.Prelude.{◌≡◌, refl, true, false, ◌↔◌, ◌≢◌, ℕ, zero, suc, ◌*◌, ◌<◌, ℤ, pos, negsuc, neg_ℤ, nat_abs, ◌*ℤ◌, ◌≤ℤ◌, ◌<ℤ◌}
use Rattle.std.proofs.Common.{sym, ◌∙◌, subst, true≢false, zero-le, le→leb, lt→ltb, arith, le-ltb}
use Rattle.grid.specs.Places.{Point}
use Rattle.grid.specs.Corners.{exchanged}
use Rattle.grid_volume.specs.Volume.{signed_of, is_negative, left_handed, sixfold_of}
use Rattle.grid_volume.specs.Halving.{determinant_turned}

-- The tests at a natural number.
none_below : (n : ℕ) → is_negative (pos n) ≡ false
none_below n = le-ltb n 0 zero-le

above : (n : ℕ) → pos 0 <ℤ pos (suc n)
above n = record { lt = lt→ltb 0 (suc n) (omega arith) }

-- A number is not negative exactly where the test for a negative one fails.
pub not_negative : (z : ℤ) → (is_negative z ≡ false) ↔ (pos 0 ≤ℤ z)
not_negative (pos n) = (λ e. record { le = le→leb 0 n zero-le }, λ l. none_below n)
not_negative (negsuc n) = (λ e. absurd (true≢false e), λ l. absurd l.le)

-- Neither 0 nor negative: positive.
pub positive : (z : ℤ) → nat_abs z ≢ 0 → is_negative z ≡ false → pos 0 <ℤ z
positive (pos zero) solid e = absurd (solid refl)
positive (pos (suc n)) solid e = above n
positive (negsuc n) solid e = absurd (true≢false e)

-- A positive number is neither.
pub positive_solid : (z : ℤ) → pos 0 <ℤ z → nat_abs z ≢ 0
positive_solid (pos zero) l e = absurd l.lt
positive_solid (pos (suc n)) l e = omega arith
positive_solid (negsuc n) l e = absurd l.lt

pub positive_not_negative : (z : ℤ) → pos 0 <ℤ z → is_negative z ≡ false
positive_not_negative (pos n) l = none_below n
positive_not_negative (negsuc n) l = absurd l.lt

-- Half of a positive number is positive.
pub half_positive : (z half : ℤ) → pos 2 *ℤ half ≡ z → pos 0 <ℤ z → pos 0 <ℤ half
half_positive z (pos zero) e l = subst (λ (x : ℤ). pos 0 <ℤ x) (sym e) l
half_positive z (pos (suc n)) e l = above n
half_positive z (negsuc n) e l = absurd (never (2 * suc n) (subst (λ (x : ℤ). pos 0 <ℤ x) (sym e) l))
  where
    never : (m : ℕ) → pos 0 <ℤ neg_ℤ (pos m) → ⊥
    never zero h = h.lt
    never (suc m) h = h.lt

-- A left-handed piece is right-handed once two of its corners are exchanged.
pub right_by_exchange : (corner : ℕ → Point) (i j : ℕ) → i < 4 → j < 4 → i ≢ j → left_handed corner ≡ true → pos 0 <ℤ signed_of (exchanged i j corner)
unfolding left_handed
right_by_exchange corner i j hi hj apart left =
    subst (λ (z : ℤ). pos 0 <ℤ z) (sym (determinant_turned corner i j hi hj apart)) (turned (signed_of corner) left)
  where
    turned : (z : ℤ) → is_negative z ≡ true → pos 0 <ℤ neg_ℤ z
    turned (pos n) e = absurd (true≢false (sym e ∙ none_below n))
    turned (negsuc n) e = above n

-- What is neither flat nor left-handed is right-handed.
pub right_unless_left : (corner : ℕ → Point) → sixfold_of corner ≢ 0 → left_handed corner ≡ false → pos 0 <ℤ signed_of corner
unfolding left_handed sixfold_of
right_unless_left corner solid = positive (signed_of corner) solid
