-- No second answer of build fits: its number, which is never 10, tells it whole.
use Rattle.std.specs.Prelude.{◌≡◌, refl, false, not, List, ℕ, ℤ, Result, eqb}
use Rattle.std.proofs.Common.{ap, ◌∙◌}
use Rattle.std.proofs.lemmas.Bool.{not-true}
use Rattle.laws.specs.Order.{first_broken, given_passes}
use Rattle.check_refusals.specs.declared.Refusal.{Refusal}
use Rattle.check_refusals.specs.Outcomes.{outcome_number}
use Rattle.check_refusals.specs.OneOutcome.{same_outcome}
use Rattle.build_service.specs.Build.{build_rows, build_number, BuildOutcomeIs, one_build}

build_not_10 : (job : ℕ) (coordinates : List ℤ) (corners : List ℕ) (room : ℕ) → eqb (build_number job coordinates corners room) 10 ≡ false
unfolding build_number build_rows
build_not_10 job coordinates corners room =
    let rows = build_rows job coordinates corners room in not-true (eqb (first_broken rows) 10) (given_passes (λ k. not (eqb k 10)) rows refl)

pub one_build_answer : (job : ℕ) (coordinates : List ℤ) (corners : List ℕ) (room : ℕ) (o o' : Result Unit Refusal) (out out' : List ℕ) →
    BuildOutcomeIs job coordinates corners room (outcome_number o) out → BuildOutcomeIs job coordinates corners room (outcome_number o') out' → (o ≡ o') × (out ≡ out')
one_build_answer job coordinates corners room o o' out out' is is' =
    let (number, bytes) = one_build job coordinates corners room (outcome_number o) (outcome_number o') out out' is is' in
    (same_outcome o o' number (ap (λ (n : ℕ). eqb n 10) is.number ∙ build_not_10 job coordinates corners room), bytes)
