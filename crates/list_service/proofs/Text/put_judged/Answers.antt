-- `list_service::Text::put_judged`: the refusal, or the heading and the leaves.
-- Assumes nothing.
use mathlib.Core.Path.{◌≡◌, sym, ◌∙◌, ap}
use mathlib.Core.List.{◌++◌}
use native.Mathlib.Omega.{arith}
use Rattle.laws.specs.Lists.{Bytes, bytes_none}
use Rattle.stored.specs.Layout.{stored1}
use Rattle.mesh_tables.specs.Tables.{tables_of}
use Rattle.list_lines.specs.Lines.{heading_line}
use Rattle.list_service.specs.Listing.{leaf_lines, text_of, judged_lines}
use Rattle.list_service.specs.Lengths.{heading_fits}
use Rattle.list_service.specs.declared.Text.{Text}
use Rattle.list_service.specs.Putting.{followed_then, judged_refused, judged_listed}
use Rattle.list_service.proofs.Text.put_judged.Goals as goal

pub returns-then-report-ne0 : goal.returns-then-report-ne0
returns-then-report-ne0 c =
    let a = c.args in
    rw (judged_refused (tables_of (stored1 a.mesh.now)) a.report c.if-report-ne0.true) c.put_refused.ensures

pub put_heading-requires : goal.put_heading-requires
unfolding tables_of
put_heading-requires c =
    let a = c.args in
    let bytes : Bytes a.mesh.now = record { byte = λ k. omega (arith, c.shared_slice_known-1.given k) } in
    record {
      fits = rw (c.header_from-h.ensures, c.version_1.ensures) (heading_fits (stored1 a.mesh.now) bytes bytes_none a.report c.requires.1 c.if-report-ne0.false);
      room = omega (arith, c.requires.0);
    }

pub put_leaves-requires : goal.put_leaves-requires
unfolding tables_of
put_leaves-requires c =
    let a = c.args in
    let bytes : Bytes a.mesh.now = record { byte = λ k. omega (arith, c.shared_slice_known-1.given k) } in
    let header = rw c.version_1.ensures at c.header_from-h.ensures in
    (omega (arith, c.requires.0, ap (λ (w : Text). w.length) c.put_heading.ensures, rw (← header) at (heading_fits (stored1 a.mesh.now) bytes bytes_none a.report c.requires.1 c.if-report-ne0.false)), header)

pub returns-else-report-ne0 : goal.returns-else-report-ne0
unfolding tables_of
returns-else-report-ne0 c =
    let a = c.args in
    let mesh = stored1 a.mesh.now in
    let h = c.header_from-h.result in
    let header = rw c.version_1.ensures at c.header_from-h.ensures in
    let text : heading_line h a.report ++ text_of (leaf_lines (tables_of mesh) h.records) ≡ text_of (judged_lines (tables_of mesh) a.report) =
    (λ i. heading_line (header i) a.report ++ text_of (leaf_lines (tables_of mesh) (header i).records)) ∙ sym (judged_listed (tables_of mesh) a.report c.if-report-ne0.false) in
    rw (← text) (followed_then _ _ _ c.put_heading.ensures c.put_leaves.ensures)
