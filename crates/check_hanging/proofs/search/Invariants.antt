-- `check_hanging::search` has passed no hanging edge of a record before n, of an edge code before e.
-- Assumes nothing.
use mathlib.Core.Path.{◌≡◌}
use mathlib.Core.Bool.{false}
use Rattle.laws.specs.Below.{any_below}
use Rattle.mesh_tables.specs.Tables.{tables_read, hangs_at, leaf_hangs}
use Rattle.std.specs.Prelude.{None}
use Rattle.check_hanging.proofs.search.Given as goal

abbrev pub invariant-loop-e : goal.invariant-loop-e
invariant-loop-e l = (l.found ≡ None) × (any_below l.e (hangs_at (tables_read l.linked.mesh.now) l.n) ≡ false)

abbrev pub invariant-search : goal.invariant-search
invariant-search l = (l.found ≡ None) × (any_below l.n (leaf_hangs (tables_read l.linked.mesh.now)) ≡ false)
