-- `check_inside::any_in_layer` has found none in the rows before y.
-- Assumes nothing.
use Prim.Native.Nat.{◌+◌, ◌≤◌, ◌-◌}
use mathlib.Core.Path.{◌≡◌}
use mathlib.Core.Bool.{false}
use Rattle.laws.specs.Below.{any_below}
use Rattle.check_inside.specs.Cells.{hangs_below, in_row}
use Rattle.check_inside.proofs.any_in_layer.Given as goal
use Rattle.stored_entries.specs.Mesh.{vertex_read}

abbrev pub invariant-loop-y : goal.invariant-loop-y
invariant-loop-y l = (l.y - l.fn.block.from.y ≤ l.fn.block.to.y + 1 - l.fn.block.from.y)
    × (any_below (l.y - l.fn.block.from.y) (λ i. in_row l.links.heads.now l.links.nexts.now (hangs_below (vertex_read l.mesh) l.count l.q l.space.low l.space.high) l.fn.block.from l.fn.block.to (l.fn.block.from.y + i) l.z) ≡ false)
