-- Lists by the numbers of their elements: f's values at the numbers below n that pass a test.
use Rattle.std.specs.Prelude.{◌≡◌, Bool, true, cond, ◌&&◌, ◌||◌, List, [], ◌∷◌, length}
use Rattle.std.proofs.Math.Path.{sym}
use Rattle.std.proofs.Common.{ap, ap₂, ◌∙◌, arith}
use Rattle.std.proofs.Math.Bool.{or_comm, or-false}
use Rattle.std.proofs.Math.Logic.{⊎_elim}
use Prim.Native.Nat.{ℕ, zero, suc, ◌<◌}
use Rattle.laws.specs.Below.{either, and_left, and_right, any_below, any_none, any_suc, any_is, any_where, count_below, count_none, count_suc}
use Rattle.cuts_names.specs.Lists.{Equality, among, Distinct, not_so}

-- The last number's value first.
unfoldable pub list_where : {A : Type 0} → (ℕ → Bool) → (ℕ → A) → ℕ → List A
list_where test f zero = []
list_where test f (suc n) = let rest = list_where test f n in cond (test n) (f n ∷ rest) rest

-- As many as pass the test.
pub where_length : {A : Type 0} (test : ℕ → Bool) (f : ℕ → A) (n : ℕ) → length (list_where test f n) ≡ count_below n test
unfolding list_where
where_length test f zero = sym (count_none test)
where_length test f (suc n) = rw count_suc (⊎_elim (λ e. rw e (omega (arith, where_length test f n))) (λ e. rw e (omega (arith, where_length test f n))) (either (test n)))

module _ {A : Type 0} {same : A → A → Bool} (eq : Equality same) (test : ℕ → Bool) (f : ℕ → A) where
  abbrev at : A → ℕ → Bool
  at x k = test k && same x (f k)

  -- Among them are the values at numbers that pass.
  pub where_among : (x : A) (n : ℕ) → among same x (list_where test f n) ≡ any_below n (at x)
  unfolding list_where
  where_among x zero = sym (any_none (at x))
  where_among x (suc n) = rw (any_suc (at x) n) (⊎_elim (λ e. rw e (ap (λ (b : Bool). same x (f n) || b) (where_among x n) ∙ or_comm (same x (f n)) (any_below n (at x)))) (λ e. rw e (where_among x n ∙ sym (or-false (any_below n (at x))))) (either (test n)))

  -- The value at a number that passes is among them.
  pub where_is : (k n : ℕ) → k < n → test k ≡ true → among same (f k) (list_where test f n) ≡ true
  where_is k n h e = where_among (f k) n ∙ any_is (at (f k)) n k h (ap₂ ◌&&◌ e (eq.self (f k)))

  -- What is among them is the value at a number that passes.
  pub where_which : (x : A) (n : ℕ) → among same x (list_where test f n) ≡ true → (k : ℕ) × (k < n) × (test k ≡ true) × (f k ≡ x)
  where_which x n e =
      let (k, h, b) = any_where (at x) n (sym (where_among x n) ∙ e) in
      (k, h, and_left (test k) (same x (f k)) b, sym (eq.only x (f k) (and_right (test k) (same x (f k)) b)))

  -- Where f has different values at different numbers that pass, none stands twice.
  pub where_distinct : (n : ℕ) → ((j k : ℕ) → j < n → k < n → test j ≡ true → test k ≡ true → f j ≡ f k → j ≡ k) → Distinct same (list_where test f n)
  unfolding list_where
  where_distinct zero apart = tt
  where_distinct (suc n) apart =
      let rest = where_distinct n (λ j k hj hk. apart j k (omega arith) (omega arith)) in
      ⊎_elim
      (λ e. rw e (not_so _ (λ t. let (k, h, b, q) = where_which (f n) n t in let z : k ≡ n = apart k n (omega arith) (omega arith) b e q in omega arith), rest))
      (λ e. rw e rest)
      (either (test n))
