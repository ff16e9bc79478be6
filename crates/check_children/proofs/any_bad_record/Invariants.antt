-- `check_children::any_bad_record` has passed no record before n that is refused, and these have counted.
-- Assumes nothing.
use mathlib.Core.Path.{◌≡◌}
use mathlib.Core.Bool.{false}
use Rattle.laws.specs.Below.{any_below}
use Rattle.mesh_tables.specs.Tables.{tables_read}
use Rattle.laws.specs.Counts.{counts_below}
use Rattle.check_children.specs.Children.{bad_record_by}
use Rattle.check_children.specs.Midpoints.{midpoint_counted}
use Rattle.check_children.proofs.any_bad_record.Given as goal

abbrev pub invariant-loop-n : goal.invariant-loop-n
invariant-loop-n l = (any_below l.n (bad_record_by (tables_read l.linked.mesh.now) l.children) ≡ false) × (l.midpoints ≡ counts_below (midpoint_counted (tables_read l.linked.mesh.now)) l.initial.midpoints l.n)
