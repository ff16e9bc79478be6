-- The rules in their order, as the code tries them.
use Rattle.std.specs.Prelude.{◌≡◌, false, [], ◌∷◌, ℕ, eqb, Result}
use Rattle.std.proofs.Math.Path.{refl, sym}
use Rattle.std.proofs.Common.{ap, ◌∙◌}
use Rattle.laws.specs.Order.{row, first_broken}
use Rattle.laws.proofs.Order.{one_after_other}
use Rattle.stored.specs.Layout.{Stored, StoredSelection, selection_of, named_in}
use Rattle.mesh_tables.specs.Tables.{Tables}
use Rattle.check_refusals.specs.declared.Report.{Report}
use Rattle.check_refusals.specs.declared.Refusal.{Refusal}
use Rattle.check_refusals.specs.Check.{check_number, check_of}
use Rattle.check_refusals.specs.Outcomes.{outcome_number, outcome_report, outcome_reported}
use Rattle.check_refusals.specs.Rows.{report_number}
use Rattle.check_service.specs.Verdict.{VerdictIs}
use Rattle.refine_selection.specs.Selected.{selection_rows, names_cut, names_last, round_row}
use Rattle.refine_service.specs.Refine.{refine_selection_rows}

-- Refusals 11 to 18, or 0.
unfoldable pub selection_number : Tables → StoredSelection → ℕ
selection_number m selection = first_broken (refine_selection_rows m selection)

-- 16 to 18, or 0.
unfoldable pub named_number : Tables → ℕ → (ℕ → ℕ) → ℕ
named_number m count named = first_broken (row 16 (names_cut m.record_at count named) ∷ row 17 (names_last m.record_at count named) ∷ round_row m.header ∷ [])

module _ (m : Tables) (t : StoredSelection) where
  -- 11 to 15 come first.
  pub selection_wrong : eqb (first_broken (selection_rows m.header t)) 0 ≡ false → first_broken (selection_rows m.header t) ≡ selection_number m t
  unfolding selection_number refine_selection_rows selection_rows
  selection_wrong e = sym (one_after_other (selection_rows m.header t) _ refl ∙ rw e)

  pub selection_right : first_broken (selection_rows m.header t) ≡ 0 → named_number m (selection_of t).count (named_in t) ≡ selection_number m t
  unfolding selection_number refine_selection_rows selection_rows named_number
  selection_right e = sym (one_after_other (selection_rows m.header t) _ refl ∙ rw e)

-- The number of the verdict is check's: the number in its report says so.
pub number_told : (s : Stored) (o : Result Unit Refusal) → (outcome_report o).number ≡ (check_of s).number → outcome_number o ≡ check_number s
number_told s o is = sym (outcome_reported o) ∙ is ∙ report_number s

pub verdict_number : (s : Stored) (o : Result Unit Refusal) → VerdictIs s (outcome_report o) → outcome_number o ≡ check_number s
verdict_number s o is = number_told s o (ap (λ (r : Report). r.number) is)
