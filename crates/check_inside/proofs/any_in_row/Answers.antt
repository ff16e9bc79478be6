-- `check_inside::any_in_row` has found none in the cells before x.
-- Assumes nothing.
use Prim.Native.Nat.{ℕ, ◌+◌}
use mathlib.Core.Path.{sym, ◌∙◌}
use mathlib.Core.Bool.{Bool}
use native.Mathlib.Omega.{arith}
use Rattle.check_inside.specs.Cells.{hangs_below, in_cell, in_row}
use Rattle.check_inside.specs.Search.{within_is, within_none, within_next, within_end}
use Rattle.check_inside.proofs.any_in_row.Goals as goal
use Rattle.stored_entries.specs.Mesh.{vertex_read}

pub loop-x-init : goal.loop-x-init
loop-x-init c =
    let a = c.args in
    let P : ℕ → Bool = λ x. in_cell a.links.now.heads.now a.links.now.nexts.now (hangs_below (vertex_read a.mesh.now) a.count a.q a.space.low a.space.high) x a.y a.z in
    (omega arith, within_none a.block.from.x a.block.to.x P)

pub returns-then-any_in_cell : goal.returns-then-any_in_cell
unfolding in_row
returns-then-any_in_cell c =
    let a = c.args in
    let P : ℕ → Bool = λ x. in_cell a.links.now.heads.now a.links.now.nexts.now (hangs_below (vertex_read a.mesh.now) a.count a.q a.space.low a.space.high) x a.y a.z in
    sym (within_is a.block.from.x a.block.to.x P c.loop-x.x c.loop-x.auto.x c.loop-x-test.true (sym c.any_in_cell.ensures ∙ c.if-any_in_cell.true))

pub loop-x-preserved : goal.loop-x-preserved
loop-x-preserved c =
    let a = c.args in
    let P : ℕ → Bool = λ x. in_cell a.links.now.heads.now a.links.now.nexts.now (hangs_below (vertex_read a.mesh.now) a.count a.q a.space.low a.space.high) x a.y a.z in
    (omega (arith, c.loop-x-test.true, c.loop-x.auto.x), within_next a.block.from.x a.block.to.x P c.loop-x.x c.loop-x.auto.x c.loop-x.invariant.1 (sym c.any_in_cell.ensures ∙ c.if-any_in_cell.false))

pub returns : goal.returns
unfolding in_row
returns c =
    let a = c.args in
    let P : ℕ → Bool = λ x. in_cell a.links.now.heads.now a.links.now.nexts.now (hangs_below (vertex_read a.mesh.now) a.count a.q a.space.low a.space.high) x a.y a.z in
    sym (within_end a.block.from.x a.block.to.x P c.loop-x.x c.loop-x-test.false c.loop-x.auto.x c.loop-x.invariant.0 c.loop-x.invariant.1)

pub returns-else-any_in_cell : goal.returns-else-any_in_cell
unfolding in_row
returns-else-any_in_cell c =
    let a = c.args in
    let P : ℕ → Bool = λ x. in_cell a.links.now.heads.now a.links.now.nexts.now (hangs_below (vertex_read a.mesh.now) a.count a.q a.space.low a.space.high) x a.y a.z in
    let none = within_next a.block.from.x a.block.to.x P c.loop-x.x c.loop-x.auto.x c.loop-x.invariant.1 (sym c.any_in_cell.ensures ∙ c.if-any_in_cell.false) in
    sym (within_end a.block.from.x a.block.to.x P (c.loop-x.x + 1) (omega arith) (omega (arith, c.loop-x.auto.x)) (omega (arith, c.loop-x-test.true, c.loop-x.auto.x)) none)
