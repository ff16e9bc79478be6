-- `check_pieces::judged_pieces` has found no bad record before n, and knows whether one was left-handed.
-- Assumes nothing.
use Prim.Native.Nat.{◌≤◌, ◌-◌}
use mathlib.Core.Path.{◌≡◌}
use mathlib.Core.Bool.{false}
use Rattle.laws.specs.Below.{any_below}
use Rattle.mesh_tables.specs.Tables.{tables_read}
use Rattle.check_refusals.specs.Refusals.{bad_base_record}
use Rattle.check_refusals.specs.Outcomes.{outcome_number}
use Rattle.check_pieces.specs.Pieces.{left_below}
use Rattle.check_pieces.proofs.judged_pieces.Given as goal

abbrev pub invariant-loop-n : goal.invariant-loop-n
invariant-loop-n l = (any_below l.n (bad_base_record (tables_read l.mesh)) ≡ false) × (outcome_number l.found ≡ left_below (tables_read l.mesh) l.n)
