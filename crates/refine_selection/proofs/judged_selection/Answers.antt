-- `refine_selection::judged_selection`: each way out is the first rule broken, at what the calls return.
-- Assumes nothing.
use mathlib.Core.Path.{◌≡◌, sym, ap, ◌∙◌}
use mathlib.Core.Bool.{Bool, true, false}
use borrow.Author.Tests.{eq-eqb, ne_eqb}
use Rattle.laws.specs.Order.{first_broken}
use Rattle.stored.specs.declared.Selection.{Selection}
use Rattle.stored.specs.Layout.{selection_in, right_selection_length, right_selection_mark, selection_of, named_in}
use Rattle.refine_selection.specs.Selected.{wrong_selection_length, wrong_selection_mark, another_job, another_round, bad_numbers, selection_rows}
use Rattle.refine_selection.proofs.judged_selection.Goals as goal

pub returns-then-not-right_selection_length : goal.returns-then-not-right_selection_length
unfolding selection_rows first_broken wrong_selection_length
returns-then-not-right_selection_length c = rw (sym c.right_selection_length.ensures ∙ c.if-not-right_selection_length.true)

pub returns-then-not-right_selection_mark : goal.returns-then-not-right_selection_mark
unfolding selection_rows first_broken wrong_selection_length wrong_selection_mark
returns-then-not-right_selection_mark c =
    let length_right : right_selection_length (selection_in c.args.format c.args.selection.now) ≡ true = sym c.right_selection_length.ensures ∙ c.if-not-right_selection_length.false in
    rw (length_right, sym c.right_selection_mark.ensures ∙ c.if-not-right_selection_mark.true)

pub returns-then-s-h : goal.returns-then-s-h
unfolding selection_rows first_broken wrong_selection_length wrong_selection_mark another_job
returns-then-s-h c =
    let length_right : right_selection_length (selection_in c.args.format c.args.selection.now) ≡ true = sym c.right_selection_length.ensures ∙ c.if-not-right_selection_length.false in
    let mark_right : right_selection_mark (selection_in c.args.format c.args.selection.now) ≡ true = sym c.right_selection_mark.ensures ∙ c.if-not-right_selection_mark.false in
    rw (
      length_right,
      mark_right,
      ← c.selection_of-s.ensures,
      ne_eqb c.selection_of-s.result.job c.args.h.job c.if-s-h.true,
    )

pub returns-then-s-h-2 : goal.returns-then-s-h-2
unfolding selection_rows first_broken wrong_selection_length wrong_selection_mark another_round another_job
returns-then-s-h-2 c =
    let length_right : right_selection_length (selection_in c.args.format c.args.selection.now) ≡ true = sym c.right_selection_length.ensures ∙ c.if-not-right_selection_length.false in
    let mark_right : right_selection_mark (selection_in c.args.format c.args.selection.now) ≡ true = sym c.right_selection_mark.ensures ∙ c.if-not-right_selection_mark.false in
    let job_same : another_job c.args.h (selection_of (selection_in c.args.format c.args.selection.now)) ≡ false = rw (← c.selection_of-s.ensures, eq-eqb c.selection_of-s.result.job c.args.h.job c.if-s-h.false) in
    rw (
      length_right,
      mark_right,
      job_same,
      ← c.selection_of-s.ensures,
      ne_eqb c.selection_of-s.result.round c.args.h.round c.if-s-h-2.true,
    )

pub returns-then-bad_numbers : goal.returns-then-bad_numbers
unfolding selection_rows first_broken wrong_selection_length wrong_selection_mark another_job another_round
returns-then-bad_numbers c =
    let length_right : right_selection_length (selection_in c.args.format c.args.selection.now) ≡ true = sym c.right_selection_length.ensures ∙ c.if-not-right_selection_length.false in
    let mark_right : right_selection_mark (selection_in c.args.format c.args.selection.now) ≡ true = sym c.right_selection_mark.ensures ∙ c.if-not-right_selection_mark.false in
    let job_same : another_job c.args.h (selection_of (selection_in c.args.format c.args.selection.now)) ≡ false = rw (← c.selection_of-s.ensures, eq-eqb c.selection_of-s.result.job c.args.h.job c.if-s-h.false) in
    let round_same : another_round c.args.h (selection_of (selection_in c.args.format c.args.selection.now)) ≡ false = rw (← c.selection_of-s.ensures, eq-eqb c.selection_of-s.result.round c.args.h.round c.if-s-h-2.false) in
    let numbers_judged : (b : Bool) → c.bad_numbers.result ≡ b →
    let a = c.args in bad_numbers a.h.records (selection_of (selection_in a.format a.selection.now)).count (named_in (selection_in a.format a.selection.now)) ≡ b = λ b e. let a = c.args in
    sym (c.bad_numbers.ensures ∙ ap (λ (s : Selection). bad_numbers a.h.records s.count (named_in (selection_in a.format a.selection.now))) c.selection_of-s.ensures) ∙ e in
    rw (length_right, mark_right, job_same, round_same, numbers_judged _ c.if-bad_numbers.true)

pub returns : goal.returns
unfolding selection_rows first_broken wrong_selection_length wrong_selection_mark another_job another_round
returns c =
    let length_right : right_selection_length (selection_in c.args.format c.args.selection.now) ≡ true = sym c.right_selection_length.ensures ∙ c.if-not-right_selection_length.false in
    let mark_right : right_selection_mark (selection_in c.args.format c.args.selection.now) ≡ true = sym c.right_selection_mark.ensures ∙ c.if-not-right_selection_mark.false in
    let job_same : another_job c.args.h (selection_of (selection_in c.args.format c.args.selection.now)) ≡ false = rw (← c.selection_of-s.ensures, eq-eqb c.selection_of-s.result.job c.args.h.job c.if-s-h.false) in
    let round_same : another_round c.args.h (selection_of (selection_in c.args.format c.args.selection.now)) ≡ false = rw (← c.selection_of-s.ensures, eq-eqb c.selection_of-s.result.round c.args.h.round c.if-s-h-2.false) in
    let numbers_judged : (b : Bool) → c.bad_numbers.result ≡ b →
    let a = c.args in bad_numbers a.h.records (selection_of (selection_in a.format a.selection.now)).count (named_in (selection_in a.format a.selection.now)) ≡ b = λ b e. let a = c.args in
    sym (c.bad_numbers.ensures ∙ ap (λ (s : Selection). bad_numbers a.h.records s.count (named_in (selection_in a.format a.selection.now))) c.selection_of-s.ensures) ∙ e in
    rw (length_right, mark_right, job_same, round_same, numbers_judged _ c.if-bad_numbers.false)
