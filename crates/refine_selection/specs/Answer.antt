-- No second answer of `judged_selection` fits: its number, which is never 10, tells it whole.
use Rattle.std.specs.Prelude.{◌≡◌, refl, false, not, ℕ, Result, eqb}
use Rattle.std.proofs.Common.{sym, ap, ◌∙◌}
use Rattle.std.proofs.lemmas.Bool.{not-true}
use Rattle.laws.specs.Order.{first_broken, given_passes}
use Rattle.stored.specs.declared.Header.{Header}
use Rattle.stored.specs.Layout.{StoredSelection}
use Rattle.check_refusals.specs.declared.Refusal.{Refusal}
use Rattle.check_refusals.specs.Outcomes.{outcome_number}
use Rattle.check_refusals.specs.OneOutcome.{same_outcome}
use Rattle.refine_selection.specs.Selected.{selection_rows}

rows_not_10 : (h : Header) (t : StoredSelection) → eqb (first_broken (selection_rows h t)) 10 ≡ false
unfolding selection_rows
rows_not_10 h t = not-true (eqb (first_broken (selection_rows h t)) 10) (given_passes (λ k. not (eqb k 10)) (selection_rows h t) refl)

pub one_selection_answer : (h : Header) (t : StoredSelection) (o o' : Result Unit Refusal) →
    outcome_number o ≡ first_broken (selection_rows h t) → outcome_number o' ≡ first_broken (selection_rows h t) → o ≡ o'
one_selection_answer h t o o' is is' = same_outcome o o' (is ∙ sym is') (ap (λ (n : ℕ). eqb n 10) is ∙ rows_not_10 h t)
