-- `check_marks::bad_base_marks` has found no bad record before n.
-- Assumes nothing.
use mathlib.Core.Path.{◌≡◌}
use mathlib.Core.Bool.{false}
use Rattle.laws.specs.Below.{any_below}
use Rattle.check_refusals.specs.Refusals.{bad_marks}
use Rattle.check_marks.proofs.bad_base_marks.Given as goal
use Rattle.stored_entries.specs.Mesh.{record_read}

abbrev pub invariant-loop-n : goal.invariant-loop-n
invariant-loop-n l = any_below l.n (λ m. bad_marks (record_read l.mesh m).piece) ≡ false
