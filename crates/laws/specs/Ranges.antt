-- What a test answers of the numbers of a range, by the numbers below its end.
use Rattle.std.specs.Prelude.{◌≡◌, refl, Bool, true, false, ◌||◌, ℕ, zero, suc, ◌+◌}
use Rattle.std.specs.List.{list_any, range_with_len}
use Rattle.std.proofs.Common.{sym, ap, ◌∙◌, arith}
use Rattle.laws.specs.Below.{fold_below, any_below}

-- The first number asked first.
any_ahead : (n : ℕ) (P : ℕ → Bool) → any_below (suc n) P ≡ (P 0 || any_below n (λ k. P (suc k)))
unfolding any_below fold_below
any_ahead zero P = go (P 0)
  where
    go : (b : Bool) → (false || b) ≡ (b || false)
    go true = refl
    go false = refl
any_ahead (suc n) P = ap (λ (b : Bool). b || P (suc n)) (any_ahead n P) ∙ go (P 0) (any_below n (λ k. P (suc k))) (P (suc n))
  where
    go : (a b d : Bool) → ((a || b) || d) ≡ (a || (b || d))
    go true b d = refl
    go false b d = refl

from_range : (n a : ℕ) (P Q : ℕ → Bool) → ((j k : ℕ) → j ≡ a + k → P j ≡ Q k) → list_any P (range_with_len a n) ≡ any_below n Q
unfolding any_below fold_below
from_range zero a P Q h = refl
from_range (suc n) a P Q h =
    rw (h a 0 (omega arith))
    (ap (λ (b : Bool). Q 0 || b) (from_range n (a + 1) P (λ k. Q (suc k)) (λ j k e. h j (suc k) (omega (arith, e)))) ∙ sym (any_ahead n Q))

pub any_of_range : (n : ℕ) (P : ℕ → Bool) → list_any P (range_with_len 0 n) ≡ any_below n P
any_of_range n P = from_range n 0 P P (λ j k e. ap P (omega (arith, e)))
