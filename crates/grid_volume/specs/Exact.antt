-- How code on i64 stays exact: a number that the code holds is the one that is meant, and its absolute value has a bound that each operation raises by a known amount.
-- One rule for each operation, so that a proof follows the code's expression. Assumes nothing.
use Rattle.std.specs.Prelude.{◌≡◌, refl, ℕ, ◌+◌, ◌*◌, ◌^◌, ◌≤◌, ◌<◌, true, false, T, ltb, ℤ, pos, negsuc, neg_ℤ, nat_abs, ◌+ℤ◌, ◌-ℤ◌, ◌*ℤ◌}
use Rattle.std.proofs.Common.{sym, ◌∙◌, ap, subst, le_trans, lt_of_le_of_lt, lt_of_lt_of_le, add-le-add, mul-le-mul, le_of_eq, le_refl, true≢false, ltb-true, ltb→lt, lit≤, Fits, SFits, to_z, of_z, to_z-of_z, arith}
use Rattle.std.proofs.Math.IntN.{+ℤ_idl}
use Rattle.std.specs.Int.Signed.{mag, lt_z, non_neg}
use Rattle.std.specs.Int.{w64}
use Rattle.std.proofs.Math.Facts.{to_z_pos}
use Rattle.algebra.specs.Absolute.{abs_neg, abs_times, abs_plus, abs_minus}

-- y is the number z, and z is at most k in absolute value
pub record Holds (k : ℕ) (z y : ℤ) : Type 0 where
  pub is : y ≡ z
  pub small : nat_abs z ≤ k

pub itself : (k : ℕ) (z : ℤ) → nat_abs z ≤ k → Holds k z z
itself k z h = record { is = refl; small = h }

pub bounded : {k : ℕ} {y z : ℤ} → Holds k z y → nat_abs y ≤ k
bounded {k} h = subst (λ (x : ℤ). nat_abs x ≤ k) (sym h.is) h.small

-- a number that was returned as equal to one that is held
pub returned : {k : ℕ} {x y z : ℤ} → x ≡ y → Holds k z y → Holds k z x
returned e h = record { is = e ∙ h.is; small = h.small }

pub sum : {k l : ℕ} {y z v w : ℤ} → Holds k z y → Holds l w v → Holds (k + l) (z +ℤ w) (y +ℤ v)
sum {z} {w} h g =
    record { is = λ i. h.is i +ℤ g.is i; small = le_trans (abs_plus z w) (add-le-add h.small g.small) }

pub difference : {k l : ℕ} {y z v w : ℤ} → Holds k z y → Holds l w v → Holds (k + l) (z -ℤ w) (y -ℤ v)
difference {z} {w} h g =
    record { is = λ i. h.is i -ℤ g.is i; small = le_trans (abs_minus z w) (add-le-add h.small g.small) }

pub product : {k l : ℕ} {y z v w : ℤ} → Holds k z y → Holds l w v → Holds (k * l) (z *ℤ w) (y *ℤ v)
product {z} {w} h g =
    record { is = λ i. h.is i *ℤ g.is i; small = le_trans (le_of_eq (abs_times z w)) (mul-le-mul h.small g.small) }

mag_le : (z : ℤ) → mag z ≤ nat_abs z
mag_le (pos n) = le_refl n
mag_le (negsuc n) = omega arith

-- below 2 ^ 63 a number fits an i64
pub fits : {k : ℕ} {y z : ℤ} → Holds k z y → T (ltb k (2 ^ 63)) → SFits w64 y
fits {k} {y} {z} h t =
    subst (SFits w64) (sym h.is) (record { sfits = lt_of_le_of_lt (le_trans (mag_le z) h.small) (ltb→lt k (2 ^ 63) t) })

-- a number as it is read back from its bits
abbrev pub read_back : ℤ → ℤ
read_back z = to_z w64 (of_z w64 z)

pub stored : {k : ℕ} {y z : ℤ} → Holds k z y → T (ltb k (2 ^ 63)) → Holds k z (read_back y)
stored h t = record { is = to_z-of_z (fits h t) ∙ h.is; small = h.small }

-- and an unsigned number of few bits is read as itself
pub unsigned : (k n : ℕ) → n ≤ k → T (ltb k (2 ^ 63)) → Holds k (pos n) (to_z w64 n)
unsigned k n h t = record { is = to_z_pos w64 (lt_of_le_of_lt h (ltb→lt k (2 ^ 63) t)); small = h }

-- an argument of a call, which goes to it as bits
pub passed : (k : ℕ) (z : ℤ) → nat_abs z ≤ k → T (ltb k (2 ^ 63)) → Holds k z (read_back z)
passed k z h t = stored (itself k z h) t

-- a number below 0 becomes one that is not when it is taken from 0, and keeps its absolute value
pub above_zero : (z : ℤ) → lt_z z (pos 0) ≡ true → T (non_neg (pos 0 -ℤ z))
above_zero (pos n) e = absurd (none n (ltb-true n 0 e))
  where
    none : (n : ℕ) → n < 0 → ⊥
    none n h = omega arith
above_zero (negsuc n) e = tt

pub not_below_zero : (z : ℤ) → lt_z z (pos 0) ≡ false → T (non_neg z)
not_below_zero (pos n) e = tt
not_below_zero (negsuc n) e = absurd (true≢false e)

pub abs_from_zero : (z : ℤ) → nat_abs (pos 0 -ℤ z) ≡ nat_abs z
abs_from_zero z = ap nat_abs (+ℤ_idl (neg_ℤ z)) ∙ abs_neg z

-- what a cast of a number that is not below 0 to u64 asks
pub cast_fits : {k : ℕ} {y z : ℤ} → Holds k z y → T (ltb k (2 ^ 63)) → T (non_neg z) → T (non_neg y) × Fits w64 (nat_abs y)
cast_fits {k} {y} {z} h t s = (
  subst (λ (x : ℤ). T (non_neg x)) (sym h.is) s,
  record { fits = lt_of_le_of_lt (bounded h) (lt_of_lt_of_le (ltb→lt k (2 ^ 63) t) (lit≤ tt)) },
)
