-- No second answer of refine fits, not even another edge with 10.
use Rattle.std.specs.Prelude.{◌≡◌, refl, false, not, List, ℕ, Result, eqb}
use Rattle.std.proofs.lemmas.Bool.{not-true}
use Rattle.laws.specs.Order.{first_broken, given_passes}
use Rattle.stored.specs.Layout.{Stored, StoredSelection}
use Rattle.mesh_tables.specs.Tables.{Tables}
use Rattle.check_refusals.specs.declared.Refusal.{Refusal}
use Rattle.check_refusals.specs.Outcomes.{outcome_number}
use Rattle.check_service.specs.Verdict.{NamesTheEdge, one_answer}
use Rattle.refine_selection.specs.Selected.{selection_rows, round_row}
use Rattle.refine_service.specs.Refine.{closed, refine_selection_rows, result_rows, RefineOutcomeIs, one_refine}
use Rattle.refine_service.specs.Order.{selection_number}
use Rattle.refine_service.specs.Storing.{stored_number, later_number}

pub one_refine_answer : (mesh : Stored) (selection : StoredSelection) (room : ℕ) (o o' : Result Unit Refusal) (out out' : List ℕ) →
    RefineOutcomeIs mesh selection room (outcome_number o) out → NamesTheEdge mesh o →
    RefineOutcomeIs mesh selection room (outcome_number o') out' → NamesTheEdge mesh o' → (o ≡ o') × (out ≡ out')
one_refine_answer mesh selection room o o' out out' is named is' named' =
    let (number, bytes) = one_refine mesh selection room (outcome_number o) (outcome_number o') out out' is is' in (one_answer mesh o o' number named named', bytes)

-- What the selection and the result are refused with is never 10.
pub selection_not_10 : (m : Tables) (t : StoredSelection) → eqb (selection_number m t) 10 ≡ false
unfolding selection_number refine_selection_rows selection_rows round_row
selection_not_10 m t = not-true (eqb (first_broken (refine_selection_rows m t)) 10) (given_passes (λ k. not (eqb k 10)) (refine_selection_rows m t) refl)

pub later_not_10 : (mesh : Stored) (selection : StoredSelection) (room : ℕ) → eqb (later_number mesh selection room) 10 ≡ false
unfolding later_number stored_number result_rows
later_not_10 mesh selection room =
    let rows = result_rows mesh.kind (closed mesh selection).header room in not-true (eqb (first_broken rows) 10) (given_passes (λ k. not (eqb k 10)) rows refl)
