-- Sums over the numbers below a bound: of two terms, in either order, with one term that counts, over a part of the numbers.
use Rattle.std.specs.Prelude.{◌≡◌, refl, Bool, true, false, cond, ◌≢◌, ℕ, zero, suc, ◌+◌, ◌≤◌, ◌<◌, eqb, ltb}
use Rattle.std.proofs.Common.{sym, ap, ◌∙◌, ⊎_elim, le_refl, not-suc-le-zero, eq-or-lt_of_le, le_of_suc-le-suc, arith, lt-ltb, le-ltb, eq-eqb, ne_eqb}
use Rattle.laws.specs.Below.{sum_below, sum_same, sum_none, sum_suc}

pub sum_plus : (n : ℕ) (f g : ℕ → ℕ) → sum_below n (λ k. f k + g k) ≡ sum_below n f + sum_below n g
sum_plus zero f g = rw (sum_none (λ k. f k + g k), sum_none f, sum_none g)
sum_plus (suc n) f g = rw (sum_suc (λ k. f k + g k) n, sum_suc f n, sum_suc g n, sum_plus n f g) (omega arith)

pub sum_of_none : (n : ℕ) (f : ℕ → ℕ) → ((k : ℕ) → k < n → f k ≡ 0) → sum_below n f ≡ 0
sum_of_none zero f h = sum_none f
sum_of_none (suc n) f h = rw (sum_suc f n, sum_of_none n f (λ k l. h k (omega arith)), h n (le_refl (suc n)))

-- Row by row and column by column it is the same.
pub sum_swap : (n m : ℕ) (f : ℕ → ℕ → ℕ) → sum_below n (λ a. sum_below m (f a)) ≡ sum_below m (λ b. sum_below n (λ a. f a b))
sum_swap zero m f = rw (sum_none (λ a. sum_below m (f a)), sum_of_none m (λ b. sum_below zero (λ a. f a b)) (λ b l. sum_none (λ a. f a b)))
sum_swap (suc n) m f =
    sum_suc (λ a. sum_below m (f a)) n
    ∙ ap (λ (x : ℕ). x + sum_below m (f n)) (sum_swap n m f)
    ∙ sym (sum_plus m (λ b. sum_below n (λ a. f a b)) (f n))
    ∙ sum_same m (λ b. sum_below n (λ a. f a b) + f n b) (λ b. sum_below (suc n) (λ a. f a b)) (λ b l. sym (sum_suc (λ a. f a b) n))

-- Where all but k's term are 0.
pub sum_of_one : (n k : ℕ) (f : ℕ → ℕ) → k < n → ((j : ℕ) → j < n → j ≢ k → f j ≡ 0) → sum_below n f ≡ f k
sum_of_one zero k f l h = absurd (not-suc-le-zero l)
sum_of_one (suc n) k f l h =
    sum_suc f n
    ∙ ⊎_elim
    (λ last. rw (sum_of_none n f (λ j b. h j (omega arith) (omega arith)), last) (omega arith))
    (λ b. rw (sum_of_one n k f b (λ j c. h j (omega arith)), h n (le_refl (suc n)) (omega arith)) (omega arith))
    (eq-or-lt_of_le (le_of_suc-le-suc l))

-- Where only the terms below b count.
pub sum_of_part : (n b : ℕ) (f : ℕ → ℕ) → b ≤ n → sum_below n (λ k. cond (ltb k b) (f k) 0) ≡ sum_below b f
sum_of_part zero b f l = let none : b ≡ 0 = omega arith in rw none (sum_none (λ k. cond (ltb k 0) (f k) 0) ∙ sym (sum_none f))
sum_of_part (suc n) b f l =
    ⊎_elim
    (λ all. rw all (sum_same (suc n) (λ k. cond (ltb k (suc n)) (f k) 0) f (λ k h. rw (lt-ltb k (suc n) h))))
    (λ h. rw (sum_suc (λ k. cond (ltb k b) (f k) 0) n, sum_of_part n b f (le_of_suc-le-suc h), le-ltb n b (le_of_suc-le-suc h)) (omega arith))
    (eq-or-lt_of_le l)

-- Where only k's term counts.
pub sum_at_lem : (n k : ℕ) (f : ℕ → ℕ) → k < n → sum_below n (λ j. cond (eqb k j) (f j) 0) ≡ f k
sum_at_lem n k f l = sum_of_one n k (λ j. cond (eqb k j) (f j) 0) l (λ j b other. rw (ne_eqb k j (λ e. other (sym e)))) ∙ rw (eq-eqb k k refl)

-- The terms that a test picks, and the others.
pub sum_parts : (n : ℕ) (test : ℕ → Bool) (f : ℕ → ℕ) → sum_below n f ≡ sum_below n (λ k. cond (test k) (f k) 0) + sum_below n (λ k. cond (test k) 0 (f k))
sum_parts n test f =
    sum_same n f (λ k. cond (test k) (f k) 0 + cond (test k) 0 (f k)) (λ k l. picked (test k) (f k))
    ∙ sum_plus n (λ k. cond (test k) (f k) 0) (λ k. cond (test k) 0 (f k))
  where
    picked : (b : Bool) (x : ℕ) → x ≡ cond b x 0 + cond b 0 x
    picked true x = omega arith
    picked false x = omega arith
