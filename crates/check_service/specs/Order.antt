-- The rules in their order, as the code tries them.
use Rattle.std.specs.Prelude.{◌≡◌, refl, true, false, cond, ℕ, eqb}
use Rattle.std.proofs.Math.Path.{sym}
use Rattle.std.proofs.Common.{◌∙◌, ⊎_elim}
use Rattle.std.proofs.Math.Bool.{not}
use borrow.Author.Tests.{not-true}
use Rattle.laws.specs.Below.{either}
use Rattle.laws.specs.Order.{first_broken, given_passes, in_turn_lem}
use Rattle.laws.proofs.Order.{one_after_other}
use Rattle.stored.specs.Layout.{Stored, header_of, right_length, right_mark}
use Rattle.check_hanging.specs.Hanging.{found_of, reported, found_reported}
use Rattle.mesh_tables.specs.Tables.{Tables, tables_of}
use Rattle.check_refusals.specs.declared.Report.{Report}
use Rattle.check_refusals.specs.declared.Refusal.{Refusal}
use Rattle.check_refusals.specs.Refusals.{wrong_length, wrong_mark, wrong_counts, bad_vertices, bad_base_records, left_handed_records, bad_base_marks, bad_base_faces, unused_vertices, hanging_vertices, bad_cuts}
use Rattle.check_refusals.specs.Check.{base_rows, cut_rows, table_rows, rows, check_number, refused_with, report_of, check_of}
use Rattle.check_refusals.specs.Outcomes.{refusal_number, refusal_report, some_number, plain_report}
use Rattle.check_service.specs.Verdict.{without_figures}

-- Refusals 4, 5, 22, 6, 7, 8 and 23, tried in this order, or 0.
unfoldable pub base_number : Tables → ℕ
base_number m = first_broken (base_rows m)

-- 9 and 10, or none.
unfoldable pub cuts_report : Tables → Report
cuts_report m = cond (bad_cuts m) (refused_with 9) (reported (found_of m))

-- 4 to 10, 22 and 23, or none.
unfoldable pub judged_report : Tables → Report
judged_report m = let later = cuts_report m in cond (eqb (base_number m) 0) later (refused_with (base_number m))

module _ (m : Tables) where
  cuts_reported : cuts_report m ≡ without_figures (report_of m (first_broken (cut_rows m)))
  unfolding cuts_report report_of
  cuts_reported = rw (found_reported m) (sym (in_turn_lem (λ n. without_figures (report_of m n)) (cut_rows m)))

  base_not_10 : eqb (base_number m) 10 ≡ false
  unfolding base_number
  base_not_10 = not-true (eqb (first_broken (base_rows m)) 10) (given_passes (λ k. not (eqb k 10)) (base_rows m) refl)

  -- A refusal of the base is neither 0 nor 10, which alone are reported with more than their number.
  base_reported : eqb (base_number m) 0 ≡ false → refused_with (base_number m) ≡ without_figures (report_of m (base_number m))
  unfolding report_of
  base_reported e = rw (e, base_not_10)

  -- Why the base is refused is what is reported.
  pub base_refused : (r : Refusal) → refusal_number r ≡ base_number m → refusal_report r ≡ judged_report m
  unfolding judged_report
  base_refused r is = plain_report r (rw is base_not_10) ∙ rw (← is, some_number r)

  -- Where the base is not refused, what the cuts have is.
  pub base_passed : 0 ≡ base_number m → cuts_report m ≡ judged_report m
  unfolding judged_report
  base_passed is = rw (← is)

  judged_reported : judged_report m ≡ without_figures (report_of m (first_broken (table_rows m)))
  unfolding judged_report table_rows base_number
  judged_reported =
      rw (one_after_other (base_rows m) (cut_rows m) refl)
      (⊎_elim (λ t. rw t cuts_reported) (λ f. rw f (base_reported f)) (either (eqb (first_broken (base_rows m)) 0)))

module _ (s : Stored) where
  pub verdict_1 : right_length s.kind s.base s.grown ≡ false → refused_with 1 ≡ without_figures (check_of s)
  unfolding check_of check_number rows first_broken report_of wrong_length
  verdict_1 e = rw e

  pub verdict_2 : right_length s.kind s.base s.grown ≡ true → right_mark s.kind.format s.base ≡ false → refused_with 2 ≡ without_figures (check_of s)
  unfolding check_of check_number rows first_broken report_of wrong_length wrong_mark
  verdict_2 e f = rw (e, f)

  pub verdict_3 : right_length s.kind s.base s.grown ≡ true → right_mark s.kind.format s.base ≡ true → wrong_counts s.kind.limits (header_of s) ≡ true → refused_with 3 ≡ without_figures (check_of s)
  unfolding check_of check_number rows first_broken report_of wrong_length wrong_mark
  verdict_3 e f g = rw (e, f, g)

  pub verdict_rest : right_length s.kind s.base s.grown ≡ true → right_mark s.kind.format s.base ≡ true → wrong_counts s.kind.limits (header_of s) ≡ false → judged_report (tables_of s) ≡ without_figures (check_of s)
  unfolding check_of check_number rows first_broken wrong_length wrong_mark
  verdict_rest e f g = rw (e, f, g) (judged_reported (tables_of s))

  -- Where rules 1 to 9, 22 and 23 hold, what check reports, but for the figures, is the paper's number and values for what the search found.
  pub verdict_found : right_length s.kind s.base s.grown ≡ true → right_mark s.kind.format s.base ≡ true → wrong_counts s.kind.limits (header_of s) ≡ false → let m = tables_of s in
      bad_vertices m ≡ false → bad_base_records m ≡ false → left_handed_records m ≡ false → bad_base_marks m ≡ false → bad_base_faces m ≡ false → unused_vertices m ≡ false → hanging_vertices m ≡ false → bad_cuts m ≡ false →
      without_figures (check_of s) ≡ reported (found_of m)
  unfolding judged_report cuts_report base_number first_broken
  verdict_found b₁ b₂ b₃ b₄ b₅ b₂₂ b₆ b₇ b₈ b₂₃ b₉ = sym (verdict_rest b₁ b₂ b₃) ∙ rw (b₄, b₅, b₂₂, b₆, b₇, b₈, b₂₃, b₉)
