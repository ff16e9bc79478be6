-- No second answer of taking cuts back fits, not even another edge with 10.
use Rattle.std.specs.Prelude.{◌≡◌, refl, false, not, List, [], ◌∷◌, ℕ, Result, eqb}
use Rattle.std.proofs.lemmas.Bool.{not-true}
use Rattle.laws.specs.Order.{first_broken, given_passes}
use Rattle.stored.specs.declared.Kind.{Kind}
use Rattle.stored.specs.declared.Header.{Header}
use Rattle.stored.specs.Layout.{Stored, StoredSelection}
use Rattle.mesh_tables.specs.Tables.{Tables}
use Rattle.check_refusals.specs.declared.Refusal.{Refusal}
use Rattle.check_refusals.specs.Outcomes.{outcome_number}
use Rattle.check_service.specs.Verdict.{NamesTheEdge, one_answer}
use Rattle.refine_selection.specs.Selected.{selection_rows, round_row}
use Rattle.refine_service.specs.Refine.{room_row}
use Rattle.takeback_service.specs.TakeBack.{request_rows, TakeBackOutcomeIs, one_take_back}
use Rattle.takeback_service.specs.Order.{request_number, room_number}

pub one_take_back_answer : (mesh : Stored) (request : StoredSelection) (room : ℕ) (o o' : Result Unit Refusal) (out out' : List ℕ) →
    TakeBackOutcomeIs mesh request room (outcome_number o) out → NamesTheEdge mesh o →
    TakeBackOutcomeIs mesh request room (outcome_number o') out' → NamesTheEdge mesh o' → (o ≡ o') × (out ≡ out')
one_take_back_answer mesh request room o o' out out' is named is' named' =
    let (number, bytes) = one_take_back mesh request room (outcome_number o) (outcome_number o') out out' is is' in (one_answer mesh o o' number named named', bytes)

-- What the request and the room are refused with is never 10.
pub request_not_10 : (m : Tables) (t : StoredSelection) → eqb (request_number m t) 10 ≡ false
unfolding request_number request_rows selection_rows round_row
request_not_10 m t = not-true (eqb (first_broken (request_rows m t)) 10) (given_passes (λ k. not (eqb k 10)) (request_rows m t) refl)

pub room_not_10 : (k : Kind) (h : Header) (room : ℕ) → eqb (room_number k h room) 10 ≡ false
unfolding room_number
room_not_10 k h room = not-true (eqb (first_broken (room_row k h room ∷ [])) 10) (given_passes (λ k. not (eqb k 10)) (room_row k h room ∷ []) refl)
