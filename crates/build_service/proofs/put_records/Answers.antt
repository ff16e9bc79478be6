-- `build_service::put_records` has written the records before i, and no vertex.
-- Assumes nothing.
use mathlib.Core.Path.{refl, sym, ◌∙◌, ap}
use native.Mathlib.Nat.{le_antisymm}
use lib.ListN.{length}
use Rattle.stored.specs.declared.Format.{Format}
use Rattle.stored.specs.Layout.{record_bytes, working}
use Rattle.build_service.specs.Storing.{records_put, records_none, record_step, record_frame, records_length}
use Rattle.build_service.proofs.put_records.Goals as goal

pub loop-i-init : goal.loop-i-init
loop-i-init c = (refl, sym (records_none c.args.grown.now c.args.plain.now.coordinates.now c.args.plain.now.corners.now))

pub loop-i-preserved : goal.loop-i-preserved
loop-i-preserved c =
    let a = c.args in
    let w = c.working_layout-l in
    let is = w.ensures ∙ ap (λ (f : Format). working f a.vertices a.records) c.version_1.ensures in
    let turn = c.loop-i in
    let r = c.record in
    let put = c.put_record in (
      record_frame a.vertices a.records turn.i w.result is a.plain.now.coordinates.now a.base.now turn.base put.new.base (record_bytes w.result.format r.result) turn.invariant.0 put.ensures.base_after,
      record_step a.vertices a.records turn.i w.result is a.plain.now.coordinates.now c.loop-i-test.true a.plain.now.corners.now a.grown.now turn.grown put.new.grown r.result turn.invariant.1 r.ensures put.ensures.grown_after,
    )

pub shape_of-base : goal.shape_of-base
shape_of-base c = ap length c.loop-i.invariant.0

pub shape_of-grown : goal.shape_of-grown
shape_of-grown c = ap length c.loop-i.invariant.1 ∙ records_length c.args.grown.now c.args.plain.now.coordinates.now c.args.plain.now.corners.now c.loop-i.i

pub returns : goal.returns
returns c = record { base_unchanged = c.loop-i.invariant.0; grown_after = c.loop-i.invariant.1 ∙ ap (records_put c.args.grown.now c.args.plain.now.coordinates.now c.args.plain.now.corners.now) (le_antisymm c.loop-i.auto.i-end c.loop-i-test.false) }
