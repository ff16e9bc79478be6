-- `check_inside::any_in_layer` has found none in the rows before y.
-- Assumes nothing.
use Prim.Native.Nat.{ℕ, ◌+◌}
use mathlib.Core.Path.{sym, ◌∙◌}
use mathlib.Core.Bool.{Bool}
use native.Mathlib.Omega.{arith}
use Rattle.check_inside.specs.Cells.{hangs_below, in_row, in_layer}
use Rattle.check_inside.specs.Search.{within_is, within_none, within_next, within_end}
use Rattle.check_inside.proofs.any_in_layer.Goals as goal
use Rattle.stored_entries.specs.Mesh.{vertex_read}

pub loop-y-init : goal.loop-y-init
loop-y-init c =
    let a = c.args in
    let P : ℕ → Bool = λ y. in_row a.links.now.heads.now a.links.now.nexts.now (hangs_below (vertex_read a.mesh.now) a.count a.q a.space.low a.space.high) a.block.from a.block.to y a.z in
    (omega arith, within_none a.block.from.y a.block.to.y P)

pub returns-then-any_in_row : goal.returns-then-any_in_row
unfolding in_layer
returns-then-any_in_row c =
    let a = c.args in
    let P : ℕ → Bool = λ y. in_row a.links.now.heads.now a.links.now.nexts.now (hangs_below (vertex_read a.mesh.now) a.count a.q a.space.low a.space.high) a.block.from a.block.to y a.z in
    sym (within_is a.block.from.y a.block.to.y P c.loop-y.y c.loop-y.auto.y c.loop-y-test.true (sym c.any_in_row.ensures ∙ c.if-any_in_row.true))

pub loop-y-preserved : goal.loop-y-preserved
loop-y-preserved c =
    let a = c.args in
    let P : ℕ → Bool = λ y. in_row a.links.now.heads.now a.links.now.nexts.now (hangs_below (vertex_read a.mesh.now) a.count a.q a.space.low a.space.high) a.block.from a.block.to y a.z in
    (omega (arith, c.loop-y-test.true, c.loop-y.auto.y), within_next a.block.from.y a.block.to.y P c.loop-y.y c.loop-y.auto.y c.loop-y.invariant.1 (sym c.any_in_row.ensures ∙ c.if-any_in_row.false))

pub returns : goal.returns
unfolding in_layer
returns c =
    let a = c.args in
    let P : ℕ → Bool = λ y. in_row a.links.now.heads.now a.links.now.nexts.now (hangs_below (vertex_read a.mesh.now) a.count a.q a.space.low a.space.high) a.block.from a.block.to y a.z in
    sym (within_end a.block.from.y a.block.to.y P c.loop-y.y c.loop-y-test.false c.loop-y.auto.y c.loop-y.invariant.0 c.loop-y.invariant.1)

pub returns-else-any_in_row : goal.returns-else-any_in_row
unfolding in_layer
returns-else-any_in_row c =
    let a = c.args in
    let P : ℕ → Bool = λ y. in_row a.links.now.heads.now a.links.now.nexts.now (hangs_below (vertex_read a.mesh.now) a.count a.q a.space.low a.space.high) a.block.from a.block.to y a.z in
    let none = within_next a.block.from.y a.block.to.y P c.loop-y.y c.loop-y.auto.y c.loop-y.invariant.1 (sym c.any_in_row.ensures ∙ c.if-any_in_row.false) in
    sym (within_end a.block.from.y a.block.to.y P (c.loop-y.y + 1) (omega arith) (omega (arith, c.loop-y.auto.y)) (omega (arith, c.loop-y-test.true, c.loop-y.auto.y)) none)
