-- `takeback_service::requested`: 11 to 15 come first, then 30 and 18.
-- Assumes nothing.
use mathlib.Core.Path.{sym, ap, ◌∙◌}
use Rattle.std.proofs.lemmas.Result.{err_from_is_err_and}
use Rattle.stored.specs.declared.Selection.{Selection}
use Rattle.stored.specs.Layout.{selection_in, named_in}
use Rattle.mesh_tables.specs.Tables.{tables_read}
use Rattle.check_refusals.specs.Outcomes.{some_number}
use Rattle.takeback_service.specs.Order.{named_number, request_wrong, request_right}
use Rattle.takeback_service.proofs.requested.Goals as goal

pub returns-in_err-judged_selection : goal.returns-in_err-judged_selection
returns-in_err-judged_selection c =
    let a = c.args in
    let p = err_from_is_err_and c.from_residual.result c.from_residual.ensures.1 in
    let wrong = c.in_err-judged_selection.ensures in
    rw (p.1, p.2) (wrong ∙ request_wrong (tables_read a.mesh.now) (selection_in a.mesh.now.layout.format a.request.now) (rw (← wrong) (some_number _)))

pub returns : goal.returns
returns c =
    let a = c.args in
    let m = tables_read a.mesh.now in
    c.named.ensures
    ∙ ap (λ (s : Selection). named_number m s.count (named_in (selection_in a.mesh.now.layout.format a.request.now))) c.selection_of-s.ensures
    ∙ request_right m (selection_in a.mesh.now.layout.format a.request.now) (sym c.in_ok-judged_selection.ensures)
