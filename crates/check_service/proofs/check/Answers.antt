-- `check_service::check`: a refusal is whole, and what is accepted gets the figures of its tables.
-- Assumes nothing.
use borrow.Author.Tests.{eqb-false}
use mathlib.Core.Path.{sym, ap, ◌∙◌}
use Rattle.std.specs.Prelude.{Err}
use Rattle.check_refusals.specs.declared.Report.{Report}
use Rattle.stored.specs.Layout.{stored1}
use Rattle.mesh_tables.specs.Tables.{tables_of}
use Rattle.check_refusals.specs.Outcomes.{refusal_report, some_number, outcome_reported}
use Rattle.check_service.specs.Verdict.{VerdictIs, refused_whole, accepted_whole, accepted_fits}
use Rattle.check_service.proofs.check.Goals as goal

pub returns-in-Err : goal.returns-in-Err
returns-in-Err c =
    let is : VerdictIs (stored1 c.args.mesh.now) (refusal_report c.in-Err.refusal) = c.in-Err.ensures in
    let number = ap (λ (r : Report). r.number) is in
    c.outcome_report.ensures
    ∙ is
    ∙ refused_whole (stored1 c.args.mesh.now) (λ e. eqb-false _ _ (some_number c.in-Err.refusal) (sym (outcome_reported (Err c.in-Err.refusal)) ∙ number ∙ e))

pub accepted_with-requires : goal.accepted_with-requires
unfolding tables_of
accepted_with-requires c =
    let number = ap (λ (r : Report). r.number) c.in_default.ensures in
    rw (c.layout_of.ensures, c.header_from-header.ensures, c.kind_1-kind.ensures) (accepted_fits (stored1 c.args.mesh.now) (sym number))

pub returns : goal.returns
unfolding tables_of
returns c =
    let number = ap (λ (r : Report). r.number) c.in_default.ensures in
    rw (c.accepted_with.ensures, c.layout_of.ensures, c.header_from-header.ensures, c.kind_1-kind.ensures) (accepted_whole (stored1 c.args.mesh.now) (sym number))
