-- Equal multiples, halves, and the multiples of a number.
-- Assumes nothing.
use Rattle.std.specs.Prelude.{◌≡◌, [], ◌∷◌, ℕ, suc, ◌+◌, ◌*◌, ◌%◌, ◌/◌, ◌<◌, ℤ, pos, negsuc, neg_ℤ, nat_abs, ◌+ℤ◌, ◌-ℤ◌, ◌*ℤ◌}
use Rattle.std.proofs.Common.{sym, ◌∙◌, ap, mul-zero, add-zero, lit<}
use Rattle.std.proofs.Math.Nat.{eq_of_mul-eq-mul_left, mul-mod_right, div-add-mod}
use Rattle.std.proofs.Math.IntN.{*ℤ_comm, +ℤ_invr}
use Rattle.algebra.specs.Ring.{neg_times, equal_of_difference}
use Rattle.algebra.specs.Solver.{variable, number, plus, minus, times, solve}
use Rattle.algebra.specs.Absolute.{abs_times, zero_of_abs}

-- numbers whose multiples by a number above 0 are equal are equal
pub cancel : (m : ℕ) (x y : ℤ) → 0 < m → pos m *ℤ x ≡ pos m *ℤ y → x ≡ y
cancel m x y h e =
    equal_of_difference x y (zero_of_abs (x -ℤ y)
    (eq_of_mul-eq-mul_left m h (nat_abs (x -ℤ y)) 0
    (sym (abs_times (pos m) (x -ℤ y)) ∙ ap nat_abs (apart ∙ ap (λ (z : ℤ). z -ℤ pos m *ℤ y) e ∙ +ℤ_invr (pos m *ℤ y)) ∙ sym (mul-zero m))))
  where
    apart : pos m *ℤ (x -ℤ y) ≡ pos m *ℤ x -ℤ pos m *ℤ y
    apart =
        solve (times (variable 0) (minus (variable 1) (variable 2)))
        (minus (times (variable 0) (variable 1)) (times (variable 0) (variable 2)))
        tt (pos m ∷ x ∷ y ∷ [])

-- twice a number, as a sum and as a product
pub double : (x : ℤ) → x +ℤ x ≡ pos 2 *ℤ x
double x = solve (plus (variable 0) (variable 0)) (times (number (pos 2)) (variable 0)) tt (x ∷ [])

-- numbers whose doubles are equal are equal
pub halves : (x y : ℤ) → x +ℤ x ≡ y +ℤ y → x ≡ y
halves x y e = cancel 2 x y (lit< tt) (sym (double x) ∙ e ∙ double y)

-- z is m times something
pub record Multiple (m : ℕ) (z : ℤ) : Type 0 where
  pub quotient : ℤ
  pub is : z ≡ pos m *ℤ quotient

exact : (m n : ℕ) → n % m ≡ 0 → n ≡ m * (n / m)
exact m n e = sym (div-add-mod n m) ∙ ap (λ (k : ℕ). m * (n / m) + k) e ∙ add-zero (m * (n / m))

-- a number is a multiple exactly if its absolute value leaves no remainder
pub multiple_of_remainder : (m : ℕ) (z : ℤ) → nat_abs z % m ≡ 0 → Multiple m z
multiple_of_remainder m (pos n) e = record { quotient = pos (n / m); is = ap pos (exact m n e) }
multiple_of_remainder m (negsuc n) e =
    record {
      quotient = neg_ℤ (pos (suc n / m));
      is = ap (λ (k : ℕ). neg_ℤ (pos k)) (exact m (suc n) e) ∙ sym (*ℤ_comm (pos m) (neg_ℤ (pos (suc n / m))) ∙ neg_times (pos (suc n / m)) (pos m) ∙ ap neg_ℤ (*ℤ_comm (pos (suc n / m)) (pos m)));
    }

pub remainder_of_multiple : {m : ℕ} {z : ℤ} → Multiple m z → nat_abs z % m ≡ 0
remainder_of_multiple {m} h = ap (λ (x : ℤ). nat_abs x % m) h.is ∙ ap (λ (k : ℕ). k % m) (abs_times (pos m) h.quotient) ∙ mul-mod_right m (nat_abs h.quotient)
