-- Absolute values: `nat_abs` of products, sums and differences, and what follows from an absolute value of 0.
-- Assumes nothing.
use Rattle.std.specs.Prelude.{◌≡◌, refl, Bool, true, false, not, cond, ℕ, zero, suc, ◌+◌, ◌*◌, ◌-◌, ◌≤◌, ◌<◌, T, ltb, ℤ, pos, negsuc, neg_ℤ, nat_abs, ◌+ℤ◌, ◌-ℤ◌, ◌*ℤ◌}
use Rattle.std.proofs.Common.{sym, ◌∙◌, ap, subst, le_refl, arith, ltb→lt, nltb→le}
use Rattle.std.proofs.Math.IntN.{sub_ℕ, neg_ℤ-+ℤ, neg_ℤ-neg_ℤ, +ℤ_comm}

pub abs_neg : (z : ℤ) → nat_abs (neg_ℤ z) ≡ nat_abs z
abs_neg (pos zero) = refl
abs_neg (pos (suc n)) = refl
abs_neg (negsuc n) = refl

pub abs_times : (x y : ℤ) → nat_abs (x *ℤ y) ≡ nat_abs x * nat_abs y
abs_times (pos a) (pos b) = refl
abs_times (pos a) (negsuc b) = abs_neg (pos (a * suc b))
abs_times (negsuc a) (pos b) = abs_neg (pos (suc a * b))
abs_times (negsuc a) (negsuc b) = refl

-- a square is never below 0
pub square_is : (z : ℤ) → z *ℤ z ≡ pos (nat_abs (z *ℤ z))
square_is (pos n) = refl
square_is (negsuc n) = refl

-- by the two ways that a difference of naturals goes
pub difference_cases : (a b : ℕ) (P : ℤ → Type 0) → (a < b → P (negsuc (b - suc a))) → (b ≤ a → P (pos (a - b))) → P (sub_ℕ a b)
difference_cases a b P f g = go (ltb a b) (λ t. f (ltb→lt a b t)) (λ t. g (nltb→le a b t))
  where
    go : (c : Bool) → (T c → P (negsuc (b - suc a))) → (T (not c) → P (pos (a - b))) → P (cond c (negsuc (b - suc a)) (pos (a - b)))
    go true f g = f tt
    go false f g = g tt

-- the difference of two naturals, as integers
pub difference_is : (a b : ℕ) → pos a -ℤ pos b ≡ sub_ℕ a b
difference_is a zero = difference_cases a zero (λ (z : ℤ). pos (a + zero) ≡ z) (λ h. absurd (never a h)) (λ h. ap pos (same a))
  where
    never : (a : ℕ) → a < 0 → ⊥
    never a h = omega arith

    same : (a : ℕ) → a + 0 ≡ a - 0
    same a = omega arith
difference_is a (suc b) = refl

-- how far apart two naturals are
pub abs_difference_is : (a b : ℕ) → b ≤ a → nat_abs (sub_ℕ a b) ≡ a - b
abs_difference_is a b h = difference_cases a b (λ (z : ℤ). nat_abs z ≡ a - b) (λ s. omega arith) (λ s. refl)

pub abs_difference_swap : (x y : ℤ) → nat_abs (x -ℤ y) ≡ nat_abs (y -ℤ x)
abs_difference_swap x y =
    sym (abs_neg (x -ℤ y)) ∙ ap nat_abs (neg_ℤ-+ℤ x (neg_ℤ y) ∙ ap (λ (z : ℤ). neg_ℤ x +ℤ z) (neg_ℤ-neg_ℤ y) ∙ +ℤ_comm (neg_ℤ x) y)

-- two naturals up to k are at most k apart
pub abs_difference : (a b k : ℕ) → a ≤ k → b ≤ k → nat_abs (sub_ℕ a b) ≤ k
abs_difference a b k h l = difference_cases a b (λ (z : ℤ). nat_abs z ≤ k) (λ s. omega arith) (λ s. omega arith)

pub abs_plus : (x y : ℤ) → nat_abs (x +ℤ y) ≤ nat_abs x + nat_abs y
abs_plus (pos a) (pos b) = le_refl (a + b)
abs_plus (pos a) (negsuc b) = abs_difference a (suc b) (a + suc b) (omega arith) (omega arith)
abs_plus (negsuc a) (pos b) = abs_difference b (suc a) (suc a + b) (omega arith) (omega arith)
abs_plus (negsuc a) (negsuc b) = omega arith

pub abs_minus : (x y : ℤ) → nat_abs (x -ℤ y) ≤ nat_abs x + nat_abs y
abs_minus x y = subst (λ (n : ℕ). nat_abs (x -ℤ y) ≤ nat_abs x + n) (abs_neg y) (abs_plus x (neg_ℤ y))

pub zero_of_abs : (z : ℤ) → nat_abs z ≡ 0 → z ≡ pos 0
zero_of_abs (pos n) e = ap pos e
zero_of_abs (negsuc n) e = absurd (never n e)
  where
    never : (n : ℕ) → suc n ≡ 0 → ⊥
    never n e = omega arith
