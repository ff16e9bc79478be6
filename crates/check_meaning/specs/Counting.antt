-- One is counted exactly if there is exactly one.
use Rattle.std.specs.Prelude.{◌≡◌, refl, Bool, true, false, ◌↔◌, ◌≢◌, ℕ, zero, suc, ◌<◌}
use Rattle.std.proofs.Common.{sym, ap, ◌∙◌, true≢false, ⊎_elim, le_refl, not-suc-le-zero, arith}
use Rattle.laws.specs.Below.{or_left_false, or_right_false, either, any_below, any_none, any_suc, any_fails, any_fails_at, count_below, count_none, count_suc, bit}
use Rattle.check_meaning.specs.Tests.{Passes, fails_unless}
use Rattle.check_meaning.specs.Accepted.{ExactlyOne}

bit_unset : (b : Bool) → bit b ≡ 0 → b ≡ false
bit_unset true e = absurd (omega arith)
bit_unset false e = refl

module _ (f : ℕ → Bool) where
  none_counted : (n : ℕ) → (count_below n f ≡ 0) ↔ (any_below n f ≡ false)
  none_counted zero = (λ e. any_none f, λ e. count_none f)
  none_counted (suc n) = (
    λ e. let z = rw count_suc at e in rw (any_suc, (none_counted n).0 (omega arith), bit_unset (f n) (omega arith)),
    λ e. let z = rw any_suc at e in
        rw (count_suc, (none_counted n).1 (or_left_false (any_below n f) (f n) z), or_right_false (any_below n f) (f n) z),
  )

  module _ {P : ℕ → Type 0} (h : (k : ℕ) → Passes (f k) (P k)) where
    -- Where the test fails at n, a number below suc n with P is below n.
    before : (n k : ℕ) → f n ≡ false → k < suc n → P k → k < n
    before n k e l p =
        let other : k ≢ n = λ q. true≢false (sym ((h k).1 p) ∙ ap f q ∙ e) in
        omega arith

    pub one_counted : (n : ℕ) → (count_below n f ≡ 1) ↔ ExactlyOne n P
    one_counted zero = (λ e. let z = sym (count_none f) ∙ e in absurd (omega arith), λ o. absurd (not-suc-le-zero o.there))
    one_counted (suc n) = (
      λ e. let z = rw count_suc at e in
          ⊎_elim
          (λ t.
          let u : bit (f n) ≡ 1 = ap bit t in
          let no_more = (none_counted n).0 (omega arith) in
          record {
            it = n;
            there = le_refl (suc n);
            holds = (h n).0 t;
            only = λ k l p. let late : ¬ (k < n) = λ b. true≢false (sym ((h k).1 p) ∙ any_fails_at f n k no_more b) in omega arith;
          })
          (λ g.
          let u : bit (f n) ≡ 0 = ap bit g in
          let o = (one_counted n).0 (omega arith) in
          record { it = o.it; there = omega arith; holds = o.holds; only = λ k l p. o.only k (before n k g l p) p })
          (either (f n)),
      λ o. rw count_suc
          (⊎_elim
          (λ t.
          let last : n ≡ o.it = o.only n (le_refl (suc n)) ((h n).0 t) in
          let no_more = any_fails f n (λ k l. (fails_unless (h k)).1 (λ p. let q : k ≡ o.it = o.only k (omega arith) p in omega arith)) in
          rw ((none_counted n).1 no_more, t))
          (λ g.
          rw (
            (one_counted n).1
                (record { it = o.it; there = before n o.it g o.there o.holds; holds = o.holds; only = λ k l p. o.only k (omega arith) p }),
            g,
          ))
          (either (f n))),
    )
