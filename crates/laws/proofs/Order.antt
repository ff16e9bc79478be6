-- Of specs/Order.antt, the theorems that an edit of a definition breaks, and what only they need.
use Rattle.std.specs.Prelude.{◌≡◌, refl, Bool, true, false, not, cond, ◌↔◌, ◌≢◌, ◌⊎◌, List, [], ◌∷◌, ◌++◌, ℕ, eqb}
use Rattle.std.proofs.Common.{sym, ◌∙◌, ⊎_elim, eqb-true, ne_eqb}
use Rattle.std.proofs.lemmas.Bool.{eqb-false, not-true}
use Rattle.laws.specs.Below.{and_left, and_right, either}
use Rattle.laws.specs.Order.{Row, row, first_broken, numbers_of, each, given_passes, differ, broken_at, Rule, Giving, Judged, done, judge, Holding}

module _ (r : Row) (rest : List Row) (d : differ (r ∷ rest) ≡ true) where
  others : each (λ k. not (eqb k r.number)) (0 ∷ numbers_of rest) ≡ true
  others = and_left (each (λ k. not (eqb k r.number)) (0 ∷ numbers_of rest)) (differ rest) d

  rest_differ : differ rest ≡ true
  rest_differ = and_right (each (λ k. not (eqb k r.number)) (0 ∷ numbers_of rest)) (differ rest) d

  not_later : first_broken rest ≢ r.number
  not_later = eqb-false (first_broken rest) r.number (not-true (eqb (first_broken rest) r.number) (given_passes (λ k. not (eqb k r.number)) rest others))

  not_zero : r.number ≢ 0
  not_zero e = eqb-false 0 r.number (not-true (eqb 0 r.number) (and_left (not (eqb 0 r.number)) (each (λ k. not (eqb k r.number)) (numbers_of rest)) others)) (sym e)

or_else : (n m : ℕ) → n ≢ 0 → cond (eqb n 0) m n ≡ n
or_else n m other = rw (ne_eqb n 0 other)

-- Rows after rows: the first rows' number, and where they give 0 that of those that follow.
pub one_after_other : (a b : List Row) → differ a ≡ true → first_broken (a ++ b) ≡ cond (eqb (first_broken a) 0) (first_broken b) (first_broken a)
unfolding first_broken
one_after_other [] b d = refl
one_after_other (r ∷ a) b d =
    ⊎_elim (λ t. rw t (sym (or_else r.number (first_broken b) (not_zero r a d)))) (λ f. rw f (one_after_other a b (rest_differ r a d))) (either r.broken)

-- 0 is given where both give 0.
pub both_hold : (a b : List Row) → differ a ≡ true → (first_broken (a ++ b) ≡ 0) ↔ ((first_broken a ≡ 0) × (first_broken b ≡ 0))
both_hold a b d =
    let parts = one_after_other a b d in (
      λ e. ⊎_elim
          (λ t. let z = eqb-true (first_broken a) 0 t in (z, sym (parts ∙ rw z) ∙ e))
          (λ f. absurd (eqb-false (first_broken a) 0 f (sym (parts ∙ rw f) ∙ e)))
          (either (eqb (first_broken a) 0)),
      λ z. parts ∙ rw z.0 z.1,
    )

-- Where 0 is given none is.
pub none_broken_lem : (rows : List Row) → differ rows ≡ true → first_broken rows ≡ 0 → (n : ℕ) → broken_at rows n ≡ false
unfolding first_broken
none_broken_lem [] d e n = refl
none_broken_lem (r ∷ rest) d e n =
    ⊎_elim (λ t. absurd (not_zero r rest d (rw t at e)))
    (λ f. go (eqb r.number n) f (none_broken_lem rest (rest_differ r rest d) (rw f at e) n))
    (either r.broken)
  where
    go : (here : Bool) → r.broken ≡ false → broken_at rest n ≡ false → cond here r.broken (broken_at rest n) ≡ false
    go true f later = f
    go false f later = later

-- A number is given exactly where every rule before it holds and its own does not.
pub given_exactly : {rows : List Row} {rules : List Rule} → Judged rows rules → differ rows ≡ true → (n : ℕ) → (first_broken rows ≡ n) ↔ Giving rules n
unfolding first_broken
given_exactly done d n = (sym, sym)
given_exactly (judge {n = k} {b = b} {A = A} {rows = rows} {rules = rules} h rest) d n =
    ⊎_elim
    (λ here. rw here (
      λ e x. not_later (row k b) rows d (rw (h.1 x) at e ∙ sym (eqb-true k n here)),
      λ no. ⊎_elim (λ t. rw t (eqb-true k n here)) (λ f. absurd (no (h.0 f))) (either b),
    ))
    (λ other. rw other (
      λ e. ⊎_elim
          (λ t. absurd (eqb-false k n other (rw t at e)))
          (λ f. let x = h.0 f in (x, (given_exactly (rest x) (rest_differ (row k b) rows d) n).0 (rw f at e)))
          (either b),
      λ g. rw (h.1 g.0) ((given_exactly (rest g.0) (rest_differ (row k b) rows d) n).1 g.1),
    ))
    (either (eqb k n))

-- 0 is given exactly where all hold.
pub accepted_exactly : {rows : List Row} {rules : List Rule} → Judged rows rules → differ rows ≡ true → (first_broken rows ≡ 0) ↔ Holding rules
unfolding first_broken
accepted_exactly done d = (λ e. tt, λ held. refl)
accepted_exactly (judge {n = k} {b = b} {rows = rows} h rest) d = (
  λ e. ⊎_elim
      (λ t. absurd (not_zero (row k b) rows d (rw t at e)))
      (λ f. let x = h.0 f in (x, (accepted_exactly (rest x) (rest_differ (row k b) rows d)).0 (rw f at e)))
      (either b),
  λ held. rw (h.1 held.0) ((accepted_exactly (rest held.0) (rest_differ (row k b) rows d)).1 held.1),
)
