-- `mesh_hanging::corners_hang` has passed no hanging edge before e.
-- Assumes nothing.
use Rattle.std.proofs.Common.{rules, ◌≡◌, true, false, sym}
use Rattle.laws.specs.Below.{any_none, any_next, any_is, any_end}
use Rattle.mesh_hanging.specs.Hanging.{hangs_along, corners_hang}
use Rattle.mesh_hanging.proofs.corners_hang.Invariants.{hanging}
use Rattle.mesh_hanging.proofs.corners_hang.Goals as goal

pub loop-e-init : goal.loop-e-init
loop-e-init c = any_none (hanging c.args.mesh.now c.args.links.now.heads.now c.args.links.now.nexts.now c.args.corners)

pub returns-then-any_from : goal.returns-then-any_from
unfolding corners_hang hangs_along
returns-then-any_from c =
    let a = c.args in
    let hangs : hanging a.mesh.now a.links.now.heads.now a.links.now.nexts.now a.corners c.loop-e.e ≡ true = search rules in
    sym (any_is (hanging a.mesh.now a.links.now.heads.now a.links.now.nexts.now a.corners) 6 c.loop-e.e c.loop-e-test.true hangs)

pub loop-e-preserved : goal.loop-e-preserved
unfolding hangs_along
loop-e-preserved c =
    let a = c.args in
    let free : hanging a.mesh.now a.links.now.heads.now a.links.now.nexts.now a.corners c.loop-e.e ≡ false = search rules in
    any_next (hanging a.mesh.now a.links.now.heads.now a.links.now.nexts.now a.corners) c.loop-e.e c.loop-e.invariant free

pub returns : goal.returns
unfolding corners_hang
returns c =
    let a = c.args in
    sym (any_end (hanging a.mesh.now a.links.now.heads.now a.links.now.nexts.now a.corners) 6 c.loop-e.e c.loop-e-test.false c.loop-e.auto.e-end c.loop-e.invariant)
