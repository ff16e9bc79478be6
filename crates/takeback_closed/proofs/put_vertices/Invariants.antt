-- `takeback_closed::put_vertices`: the vertices before v are put.
-- Assumes nothing.
use Prim.Native.Nat.{◌≤◌}
use mathlib.Core.Path.{◌≡◌}
use Rattle.laws.specs.Counts.{counts_below}
use Rattle.takeback_closed.specs.Closed.{vertex_put}
use Rattle.takeback_closed.proofs.put_vertices.Given as goal
use Rattle.stored_entries.specs.Mesh.{vertex_read}

abbrev pub invariant-loop-v : goal.invariant-loop-v
invariant-loop-v l = (l.v ≤ l.count) × (l.out ≡ counts_below (vertex_put l.mesh.layout.format (vertex_read l.mesh) l.numbers.vertices.now) l.initial.out l.v)
