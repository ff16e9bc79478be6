-- Of some numbers below a bound one is first in a strict order.
use Rattle.std.specs.Prelude.{◌≡◌, Bool, true, false, ℕ, zero, suc, ◌<◌}
use Rattle.std.proofs.Common.{sym, ap, ◌∙◌, true≢false, ⊎_elim, le_refl, eq-or-lt_of_le, le_of_suc-le-suc, not-suc-le-zero, arith}
use Rattle.laws.specs.Below.{either, any_below, any_is, any_where, any_fails_at}

-- e is one of the numbers, and none of them comes before it.
pub record FirstOf (n : ℕ) (among : ℕ → Bool) (before : ℕ → ℕ → Bool) (e : ℕ) : Type 0 where
  pub there : e < n
  pub is_among : among e ≡ true
  pub first : (f : ℕ) → f < n → among f ≡ true → before f e ≡ false

module _ (among : ℕ → Bool) (before : ℕ → ℕ → Bool)
    (irreflexive : (a : ℕ) → before a a ≡ true → ⊥)
    (transitive : (a b c : ℕ) → before a b ≡ true → before b c ≡ true → before a c ≡ true) where
  not_itself : (a : ℕ) → before a a ≡ false
  not_itself a = ⊎_elim (λ t. absurd (irreflexive a t)) (λ f. f) (either (before a a))

  -- None below suc n comes before e where n does not, and none below n.
  up_to : (n e : ℕ) → (among n ≡ true → before n e ≡ false) → ((f : ℕ) → f < n → among f ≡ true → before f e ≡ false) →
      (f : ℕ) → f < suc n → among f ≡ true → before f e ≡ false
  up_to n e here below f l t =
      ⊎_elim (λ q. ap (λ (k : ℕ). before k e) q ∙ here (ap among (sym q) ∙ t)) (λ b. below f b t) (eq-or-lt_of_le (le_of_suc-le-suc l))

  -- Where there is one among them, there is a first.
  pub first_exists : (n : ℕ) → any_below n among ≡ true → (e : ℕ) × FirstOf n among before e
  first_exists zero t = let (k, l, a) = any_where among zero t in absurd (not-suc-le-zero l)
  first_exists (suc n) t =
      ⊎_elim
      (λ here. ⊎_elim
      (λ some.
      let (e, r) = first_exists n some in
      ⊎_elim
      (λ b. (
        n,
        record {
          there = le_refl (suc n);
          is_among = here;
          first = up_to n n (λ a. not_itself n)
              (λ f l a. ⊎_elim (λ c. absurd (true≢false (sym (transitive f n e c b) ∙ r.first f l a))) (λ g. g) (either (before f n)));
        },
      ))
      (λ b. (e, record { there = let l = r.there in omega arith; is_among = r.is_among; first = up_to n e (λ a. b) r.first }))
      (either (before n e)))
      (λ no. (
        n,
        record {
          there = le_refl (suc n);
          is_among = here;
          first = up_to n n (λ a. not_itself n) (λ f l a. absurd (true≢false (sym a ∙ any_fails_at among n f no l)));
        },
      ))
      (either (any_below n among)))
      (λ not_here.
      let (k, l, a) = any_where among (suc n) t in
      let other : k ≡ n → ⊥ = λ q. true≢false (sym a ∙ ap among q ∙ not_here) in
      let (e, r) = first_exists n (any_is among n k (omega arith) a) in (
        e,
        record {
          there = let l = r.there in omega arith;
          is_among = r.is_among;
          first = up_to n e (λ a. absurd (true≢false (sym a ∙ not_here))) r.first;
        },
      ))
      (either (among n))
