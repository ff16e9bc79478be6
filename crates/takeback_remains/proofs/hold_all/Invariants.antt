-- `takeback_remains::hold_all`: the records before n have counted.
-- Assumes nothing.
use Prim.Native.Nat.{◌≤◌}
use mathlib.Core.Path.{◌≡◌}
use Rattle.laws.specs.Counts.{counts_below, marked}
use Rattle.mesh_tables.specs.Tables.{tables_read}
use Rattle.takeback_remains.specs.Held.{held_counted}
use Rattle.takeback_remains.proofs.hold_all.Given as goal

abbrev pub invariant-loop-n : goal.invariant-loop-n
invariant-loop-n l = (l.n ≤ l.linked.mesh.now.header.records) × (l.held ≡ counts_below (held_counted (tables_read l.linked.mesh.now) (marked l.named)) l.initial.held l.n)
