-- `build_service::put_vertices` has written the vertices before i, and no record.
-- Assumes nothing.
use mathlib.Core.Path.{refl, sym, ◌∙◌, ap}
use native.Mathlib.Nat.{le_antisymm}
use lib.ListN.{length}
use Rattle.stored.specs.declared.Format.{Format}
use Rattle.stored.specs.Layout.{vertex_bytes, working}
use Rattle.build_service.specs.Storing.{vertices_put, vertices_none, vertex_step, vertex_frame, vertices_length}
use Rattle.build_service.proofs.put_vertices.Goals as goal

pub loop-i-init : goal.loop-i-init
loop-i-init c = (sym (vertices_none c.args.base.now c.args.plain.now.coordinates.now), refl)

pub loop-i-preserved : goal.loop-i-preserved
loop-i-preserved c =
    let a = c.args in
    let w = c.working_layout-l in
    let is = w.ensures ∙ ap (λ (f : Format). working f a.vertices a.records) c.version_1.ensures in
    let turn = c.loop-i in
    let v = c.vertex in
    let put = c.put_vertex in (
      vertex_step a.vertices a.records turn.i w.result is a.plain.now.coordinates.now c.loop-i-test.true a.base.now turn.base put.new.base v.result turn.invariant.0 v.ensures put.ensures.base_after,
      vertex_frame a.vertices a.records turn.i w.result is a.plain.now.coordinates.now c.loop-i-test.true a.grown.now turn.grown put.new.grown (vertex_bytes w.result.format v.result) turn.invariant.1 put.ensures.grown_after,
    )

pub shape_of-base : goal.shape_of-base
shape_of-base c = ap length c.loop-i.invariant.0 ∙ vertices_length c.args.base.now c.args.plain.now.coordinates.now c.loop-i.i

pub shape_of-grown : goal.shape_of-grown
shape_of-grown c = ap length c.loop-i.invariant.1

pub returns : goal.returns
returns c = record { base_after = c.loop-i.invariant.0 ∙ ap (vertices_put c.args.base.now c.args.plain.now.coordinates.now) (le_antisymm c.loop-i.auto.i-end c.loop-i-test.false); grown_unchanged = c.loop-i.invariant.1 }
