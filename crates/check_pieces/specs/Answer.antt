-- No second answer of `judged_pieces` fits: its number, which is never 10, tells it whole.
use Rattle.std.specs.Prelude.{◌≡◌, refl, false, not, [], ◌∷◌, ℕ, Result, eqb}
use Rattle.std.proofs.Common.{sym, ap, ◌∙◌}
use Rattle.std.proofs.lemmas.Bool.{not-true}
use Rattle.laws.specs.Order.{row, given_passes}
use Rattle.mesh_tables.specs.Tables.{Tables}
use Rattle.check_refusals.specs.declared.Refusal.{Refusal}
use Rattle.check_refusals.specs.Refusals.{bad_base_records, left_handed_records}
use Rattle.check_refusals.specs.Outcomes.{outcome_number}
use Rattle.check_refusals.specs.OneOutcome.{same_outcome}
use Rattle.check_pieces.specs.Pieces.{pieces_number}

pieces_not_10 : (m : Tables) → eqb (pieces_number m) 10 ≡ false
unfolding pieces_number
pieces_not_10 m =
    let rows = row 5 (bad_base_records m) ∷ row 22 (left_handed_records m) ∷ [] in not-true (eqb (pieces_number m) 10) (given_passes (λ k. not (eqb k 10)) rows refl)

pub one_pieces_answer : (m : Tables) (o o' : Result Unit Refusal) → outcome_number o ≡ pieces_number m → outcome_number o' ≡ pieces_number m → o ≡ o'
one_pieces_answer m o o' is is' = same_outcome o o' (is ∙ sym is') (ap (λ (n : ℕ). eqb n 10) is ∙ pieces_not_10 m)
