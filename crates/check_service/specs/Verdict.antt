-- Check's answer without the figures, and what it leaves to add.
use Rattle.std.specs.Prelude.{◌≡◌, Bool, ◌≢◌, ◌^◌, ◌≤◌, ◌<◌, ℕ, Result, eqb}
use Rattle.std.proofs.Math.Path.{refl}
use Rattle.std.proofs.Common.{sym, ◌∙◌, ⊎_elim, arith, ne_eqb, eqb-true}
use Rattle.std.proofs.lemmas.Bool.{eqb-false}
use Rattle.std.proofs.Math.Bool.{true, false, cond}
use Rattle.std.proofs.Math.Nat.{mul-le-mul_right}
use Rattle.laws.specs.Below.{either, sum_at_most}
use Rattle.laws.proofs.Order.{none_broken_lem}
use Rattle.stored.specs.Layout.{limits, Stored, header_of, layout_in}
use Rattle.mesh_tables.specs.Tables.{tables_of, base_records, piece_at}
use Rattle.check_refusals.specs.declared.Report.{Report}
use Rattle.check_refusals.specs.declared.Refusal.{Refusal}
use Rattle.check_refusals.specs.Bounded.{Bounded, bounded}
use Rattle.check_refusals.specs.Outcomes.{outcome_number, outcome_report}
use Rattle.check_refusals.specs.OneOutcome.{one_outcome, same_outcome}
use Rattle.check_refusals.specs.Rows.{report_number}
use Rattle.check_refusals.specs.Check.{rows, table_rows, check_number, sixfold, refused_with, accepted, hanging_report, report_of, check_of}
use Rattle.check_meaning.proofs.Exactly.{accepts_exactly}
use Rattle.check_meaning.specs.Cuts.{stored_four}
use Rattle.check_meaning.specs.Volumes.{volume}
use Rattle.check_meaning.proofs.Volumes.{volume_kept}
use Rattle.check_figures.specs.Bounds.{most, sixfold_at_most}

-- The number, record and edge of a report, and 0 for leaves, deepest and sixfold.
abbrev pub without_figures : Report → Report
without_figures r = record { number = r.number; leaves = 0; deepest = 0; sixfold = 0; «record» = r.«record»; edge = r.edge }

-- The one outcome of the verdict on s, and no second fits.
abbrev pub VerdictIs : Stored → Report → Type 0
VerdictIs s r = r ≡ without_figures (check_of s)

pub one_verdict : (s : Stored) (r r' : Report) → VerdictIs s r → VerdictIs s r' → r ≡ r'
one_verdict s r r' is is' = is ∙ sym is'

pub one_verdict_answer : (s : Stored) (o o' : Result Unit Refusal) → VerdictIs s (outcome_report o) → VerdictIs s (outcome_report o') → o ≡ o'
one_verdict_answer s o o' is is' = one_outcome o o' (one_verdict s (outcome_report o) (outcome_report o') is is')

-- An answer with 10 names the edge that check reports: its record and its edge code.
abbrev pub NamesTheEdge : Stored → Result Unit Refusal → Type 0
NamesTheEdge s o = outcome_number o ≡ 10 → VerdictIs s (outcome_report o)

-- Any other number names none.
pub names_none : (s : Stored) (o : Result Unit Refusal) (n : ℕ) → outcome_number o ≡ n → eqb n 10 ≡ false → NamesTheEdge s o
names_none s o n is other ten = absurd (eqb-false n 10 other (sym is ∙ ten))

-- Two answers with one number that name the edge are one.
pub one_answer : (s : Stored) (o o' : Result Unit Refusal) → outcome_number o ≡ outcome_number o' → NamesTheEdge s o → NamesTheEdge s o' → o ≡ o'
one_answer s o o' n named named' =
    ⊎_elim
    (λ t. let ten = eqb-true (outcome_number o) 10 t in one_verdict_answer s o o' (named ten) (named' (sym n ∙ ten)))
    (λ f. same_outcome o o' n f)
    (either (eqb (outcome_number o) 10))

module _ (s : Stored) where
  -- A refusal has none.
  pub refused_whole : (check_of s).number ≢ 0 → without_figures (check_of s) ≡ check_of s
  unfolding check_of report_of
  refused_whole n = rw (ne_eqb (check_number s) 0 (λ e. n (report_number s ∙ e))) (go (eqb (check_number s) 10))
    where
      go : (b : Bool) → let r = cond b (hanging_report (tables_of s)) (refused_with (check_number s)) in without_figures r ≡ r
      go true = refl
      go false = refl

  -- What is accepted is reported with the figures of its tables.
  pub accepted_whole : (check_of s).number ≡ 0 → accepted (tables_of s) ≡ check_of s
  unfolding check_of report_of
  accepted_whole e = rw (sym (report_number s) ∙ e)

  -- Its counts are within their bounds.
  pub accepted_bounded : (check_of s).number ≡ 0 → Bounded s.kind.limits (header_of s)
  unfolding check_number rows table_rows
  accepted_bounded e = bounded s.kind.limits (header_of s) (none_broken_lem (rows s) refl (sym (report_number s) ∙ e) 3)

  -- The leaves' volumes add up to the base's, and these, of no more records than any kind has, fit a u64.
  pub accepted_fits : (check_of s).number ≡ 0 → sixfold (tables_of s) < 2 ^ 64
  unfolding tables_of
  accepted_fits e =
      let m = tables_of s in
      let a = (accepts_exactly s).0 (sym (report_number s) ∙ e) in
      let few : base_records m ≤ limits.base_records = let b = accepted_bounded e in omega (arith, b.base_limit, s.right.base_records_lem) in
      let all = sum_at_most (volume m) (base_records m) most (λ n l. sixfold_at_most (layout_in s) s.base s.grown (piece_at m n)) in
      omega (arith, volume_kept m a.mesh (stored_four s), all, mul-le-mul_right most few)
