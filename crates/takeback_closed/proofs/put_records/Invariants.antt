-- `takeback_closed::put_records`: the records before n are put.
-- Assumes nothing.
use Prim.Native.Nat.{◌≤◌}
use mathlib.Core.Path.{◌≡◌}
use Rattle.laws.specs.Counts.{counts_below}
use Rattle.takeback_closed.specs.Closed.{record_put}
use Rattle.takeback_closed.proofs.put_records.Given as goal
use Rattle.stored_entries.specs.Mesh.{record_read}

abbrev pub invariant-loop-n : goal.invariant-loop-n
invariant-loop-n l = (l.n ≤ l.count) × (l.out ≡ counts_below (record_put l.mesh.layout.format (record_read l.mesh) l.behind l.numbers.vertices.now l.numbers.records.now) l.initial.out l.n)
