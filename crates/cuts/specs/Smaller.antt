-- Going by what is known of smaller numbers: proofs, and functions that take their own values there.
use Rattle.std.specs.Prelude.{◌≡◌}
use Prim.Native.Nat.{ℕ, zero, suc, ◌<◌}
use Rattle.std.proofs.Common.{arith}
use lib.Measure.{by_dom}
use lib.WfN.{lt-wf_rel}

-- What holds of a number wherever it holds of all smaller ones holds of every number.
pub by_smaller : (P : ℕ → Type 0) → ((n : ℕ) → ((m : ℕ) → m < n → P m) → P n) → (n : ℕ) → P n
by_smaller P step n = by_dom ◌<◌ P step n (lt-wf_rel.wf.apply n)

-- step, at most so many times; it is handed the function itself.
unfoldable pub down_from : {A : Type 0} → A → ((ℕ → A) → ℕ → A) → ℕ → ℕ → A
down_from start step zero n = start
down_from start step (suc fuel) n = step (down_from start step fuel) n

-- The function whose values step gives from its values at smaller numbers. What start is does not matter.
unfoldable pub going_down : {A : Type 0} → A → ((ℕ → A) → ℕ → A) → ℕ → A
going_down start step n = down_from start step (suc n) n

module _ {A : Type 0} (start : A) (step : (ℕ → A) → ℕ → A) (bound : ℕ) (smaller : (n : ℕ) → n < bound → (f g : ℕ → A) → ((m : ℕ) → m < n → f m ≡ g m) → step f n ≡ step g n) where
  same_fuel : (i j n : ℕ) → n < i → n < j → n < bound → down_from start step i n ≡ down_from start step j n
  unfolding down_from
  same_fuel zero j n a b h = absurd (omega arith)
  same_fuel (suc i) zero n a b h = absurd (omega arith)
  same_fuel (suc i) (suc j) n a b h = smaller n h (down_from start step i) (down_from start step j) (λ m l. same_fuel i j m (omega arith) (omega arith) (omega arith))

  -- Below the bound under which step looks at smaller numbers alone, it is that function.
  pub one_step : (n : ℕ) → n < bound → going_down start step n ≡ step (going_down start step) n
  unfolding going_down down_from
  one_step n h = smaller n h (down_from start step n) (going_down start step) (λ m l. same_fuel n (suc m) m l (omega arith) (omega arith))
