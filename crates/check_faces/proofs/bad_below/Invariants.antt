-- `check_faces::bad_below` has found no bad record before n, and the faces of these are linked.
-- Assumes nothing.
use Prim.Native.Nat.{◌*◌, ◌≤◌}
use mathlib.Core.Path.{◌≡◌}
use mathlib.Core.Bool.{false}
use lib.ListN.{length}
use Rattle.laws.specs.Below.{any_below}
use Rattle.laws.specs.Links.{Empty}
use Rattle.chains.specs.Held.{links_in}
use Rattle.check_refusals.specs.Refusals.{bad_faces}
use Rattle.check_faces.specs.Linked.{Linked}
use Rattle.check_faces.proofs.bad_below.Given as goal
use Rattle.stored_entries.specs.Mesh.{record_read}

abbrev pub invariant-loop-n : goal.invariant-loop-n
invariant-loop-n l = (l.n ≤ l.count)
    × (Empty l.initial.links.heads.now → (any_below l.n (bad_faces (record_read l.mesh)) ≡ false) × Linked (record_read l.mesh) (length l.initial.links.heads.now) (length l.initial.links.nexts.now) (4 * l.n) (links_in l.links))
    × (length l.links.heads.now ≡ length l.initial.links.heads.now)
    × (length l.links.nexts.now ≡ length l.initial.links.nexts.now)
