-- `check_inside::any_in_block` has found none in the layers before z.
-- Assumes nothing.
use Prim.Native.Nat.{◌+◌, ◌≤◌, ◌-◌}
use mathlib.Core.Path.{◌≡◌}
use mathlib.Core.Bool.{false}
use Rattle.laws.specs.Below.{any_below}
use Rattle.check_inside.specs.Cells.{hangs_below, in_layer}
use Rattle.check_inside.proofs.any_in_block.Given as goal
use Rattle.stored_entries.specs.Mesh.{vertex_read}

abbrev pub invariant-loop-z : goal.invariant-loop-z
invariant-loop-z l = (l.z - l.fn.block.from.z ≤ l.fn.block.to.z + 1 - l.fn.block.from.z)
    × (any_below (l.z - l.fn.block.from.z) (λ i. in_layer l.links.heads.now l.links.nexts.now (hangs_below (vertex_read l.mesh) l.count l.q l.space.low l.space.high) l.fn.block.from l.fn.block.to (l.fn.block.from.z + i)) ≡ false)
