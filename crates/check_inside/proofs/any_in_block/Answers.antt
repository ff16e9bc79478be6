-- `check_inside::any_in_block` has found none in the layers before z.
-- Assumes nothing.
use Prim.Native.Nat.{ℕ, ◌+◌}
use mathlib.Core.Path.{sym, ◌∙◌}
use mathlib.Core.Bool.{Bool}
use native.Mathlib.Omega.{arith}
use Rattle.check_inside.specs.Cells.{hangs_below, in_layer, in_block}
use Rattle.check_inside.specs.Search.{within_is, within_none, within_next, within_end}
use Rattle.check_inside.proofs.any_in_block.Goals as goal
use Rattle.stored_entries.specs.Mesh.{vertex_read}

pub loop-z-init : goal.loop-z-init
loop-z-init c =
    let a = c.args in
    let P : ℕ → Bool = in_layer a.links.now.heads.now a.links.now.nexts.now (hangs_below (vertex_read a.mesh.now) a.count a.q a.space.low a.space.high) a.block.from a.block.to in
    (omega arith, within_none a.block.from.z a.block.to.z P)

pub returns-then-any_in_layer : goal.returns-then-any_in_layer
unfolding in_block
returns-then-any_in_layer c =
    let a = c.args in
    let P : ℕ → Bool = in_layer a.links.now.heads.now a.links.now.nexts.now (hangs_below (vertex_read a.mesh.now) a.count a.q a.space.low a.space.high) a.block.from a.block.to in
    sym (within_is a.block.from.z a.block.to.z P c.loop-z.z c.loop-z.auto.z c.loop-z-test.true (sym c.any_in_layer.ensures ∙ c.if-any_in_layer.true))

pub loop-z-preserved : goal.loop-z-preserved
loop-z-preserved c =
    let a = c.args in
    let P : ℕ → Bool = in_layer a.links.now.heads.now a.links.now.nexts.now (hangs_below (vertex_read a.mesh.now) a.count a.q a.space.low a.space.high) a.block.from a.block.to in
    (omega (arith, c.loop-z-test.true, c.loop-z.auto.z), within_next a.block.from.z a.block.to.z P c.loop-z.z c.loop-z.auto.z c.loop-z.invariant.1 (sym c.any_in_layer.ensures ∙ c.if-any_in_layer.false))

pub returns : goal.returns
unfolding in_block
returns c =
    let a = c.args in
    let P : ℕ → Bool = in_layer a.links.now.heads.now a.links.now.nexts.now (hangs_below (vertex_read a.mesh.now) a.count a.q a.space.low a.space.high) a.block.from a.block.to in
    sym (within_end a.block.from.z a.block.to.z P c.loop-z.z c.loop-z-test.false c.loop-z.auto.z c.loop-z.invariant.0 c.loop-z.invariant.1)

pub returns-else-any_in_layer : goal.returns-else-any_in_layer
unfolding in_block
returns-else-any_in_layer c =
    let a = c.args in
    let P : ℕ → Bool = in_layer a.links.now.heads.now a.links.now.nexts.now (hangs_below (vertex_read a.mesh.now) a.count a.q a.space.low a.space.high) a.block.from a.block.to in
    let none = within_next a.block.from.z a.block.to.z P c.loop-z.z c.loop-z.auto.z c.loop-z.invariant.1 (sym c.any_in_layer.ensures ∙ c.if-any_in_layer.false) in
    sym (within_end a.block.from.z a.block.to.z P (c.loop-z.z + 1) (omega arith) (omega (arith, c.loop-z.auto.z)) (omega (arith, c.loop-z-test.true, c.loop-z.auto.z)) none)
