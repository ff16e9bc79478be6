-- `list_service::put_listing`: one line for what is longer than the largest mesh, else check's judgement.
-- Assumes nothing.
use mathlib.Core.Path.{sym, ◌∙◌, ap}
use Rattle.check_refusals.specs.declared.Report.{Report}
use Rattle.list_service.specs.Putting.{longer_text, longer_number, judged_text, judged_number_lem, followed_whole}
use Rattle.list_service.proofs.put_listing.Goals.{then-mesh-gt-LARGEST, else-mesh-gt-LARGEST}
use Rattle.list_service.proofs.put_listing.Goals as goal

pub returns : goal.returns
returns c =
    let s = c.args.mesh.now in
    elim c.if-mesh-gt-LARGEST.branch [
      | then-mesh-gt-LARGEST w ↦
          let longer = w.if-mesh-gt-LARGEST.true in
          record { number = w.number-is ∙ sym (longer_number s longer); text = rw (longer_text s longer) (followed_whole _ (w.text-is ∙ w.put_refused.ensures) search) }
      | else-mesh-gt-LARGEST w ↦
          let report = w.check-report.ensures in
          let within = w.if-mesh-gt-LARGEST.false in
          record {
            number = w.number-is ∙ ap (λ (r : Report). r.number) report ∙ sym (judged_number_lem s within);
            text = rw (judged_text s within, ← report) (followed_whole _ (w.text-is ∙ w.put_judged.ensures) search);
          }
    ]
