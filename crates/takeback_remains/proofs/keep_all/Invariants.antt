-- `takeback_remains::keep_all`: the records before n have counted.
-- Assumes nothing.
use Prim.Native.Nat.{◌≤◌}
use mathlib.Core.Path.{◌≡◌}
use Rattle.laws.specs.Counts.{counts_below}
use Rattle.mesh_tables.specs.Tables.{tables_read}
use Rattle.takeback_remains.specs.Held.{kept_counted}
use Rattle.takeback_remains.proofs.keep_all.Given as goal

abbrev pub invariant-loop-n : goal.invariant-loop-n
invariant-loop-n l = (l.n ≤ l.linked.mesh.now.header.records) × (l.kept ≡ counts_below (kept_counted (tables_read l.linked.mesh.now) l.vertices) l.initial.kept l.n)
