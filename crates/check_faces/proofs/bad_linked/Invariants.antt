-- `check_faces::bad_linked` has passed no bad face before face i.
-- Assumes nothing.
use Prim.Native.Nat.{◌≤◌}
use mathlib.Core.Path.{◌≡◌}
use mathlib.Core.Bool.{false}
use lib.ListN.{get_or}
use Rattle.laws.specs.Below.{any_below}
use Rattle.check_faces.specs.Linked.{bad_along}
use Rattle.check_faces.proofs.bad_linked.Given as goal
use Rattle.stored_entries.specs.Mesh.{record_read}

abbrev pub invariant-loop-i : goal.invariant-loop-i
invariant-loop-i l = (l.i ≤ 4) × (any_below l.i (λ x. bad_along (record_read l.mesh) l.links.nexts.now (get_or l.links.heads.now (get_or l.own x 0) 0) l.q x) ≡ false)
