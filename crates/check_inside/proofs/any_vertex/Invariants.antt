-- `check_inside::any_vertex` has found none before u that hangs on the piece.
-- Assumes nothing.
use Prim.Native.Nat.{ℕ, ◌≤◌}
use mathlib.Core.Path.{◌≡◌}
use mathlib.Core.Bool.{Bool, false}
use Rattle.laws.specs.Below.{any_below}
use Rattle.stored.specs.declared.Vertex.{Vertex}
use Rattle.check_inside.specs.declared.Asking.{Asking}
use Rattle.check_inside.specs.Cells.{hangs_among}
use Rattle.check_inside.proofs.any_vertex.Given as goal
use Rattle.stored_entries.specs.Mesh.{vertex_read}

abbrev pub hang : (ℕ → Vertex) → Asking → ℕ → Bool
hang vertex_at q u = hangs_among q u (vertex_at u).place

abbrev pub invariant-loop-u : goal.invariant-loop-u
invariant-loop-u l = (l.u ≤ l.count) × (any_below l.u (hang (vertex_read l.mesh) l.q) ≡ false)
