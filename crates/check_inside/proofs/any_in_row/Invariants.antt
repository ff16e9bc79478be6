-- `check_inside::any_in_row` has found none in the cells before x.
-- Assumes nothing.
use Prim.Native.Nat.{◌+◌, ◌≤◌, ◌-◌}
use mathlib.Core.Path.{◌≡◌}
use mathlib.Core.Bool.{false}
use Rattle.laws.specs.Below.{any_below}
use Rattle.check_inside.specs.Cells.{hangs_below, in_cell}
use Rattle.check_inside.proofs.any_in_row.Given as goal
use Rattle.stored_entries.specs.Mesh.{vertex_read}

abbrev pub invariant-loop-x : goal.invariant-loop-x
invariant-loop-x l = (l.x - l.fn.block.from.x ≤ l.fn.block.to.x + 1 - l.fn.block.from.x)
    × (any_below (l.x - l.fn.block.from.x) (λ i. in_cell l.links.heads.now l.links.nexts.now (hangs_below (vertex_read l.mesh) l.count l.q l.space.low l.space.high) (l.fn.block.from.x + i) l.y l.z) ≡ false)
