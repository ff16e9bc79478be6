-- `check_uses::count_records` has counted the records before n.
-- Assumes nothing.
use mathlib.Core.Path.{◌≡◌}
use Rattle.laws.specs.Counts.{counts_below}
use Rattle.check_uses.specs.Uses.{used_by}
use Rattle.check_uses.proofs.count_records.Given as goal
use Rattle.stored_entries.specs.Mesh.{record_read}

abbrev pub invariant-loop-n : goal.invariant-loop-n
invariant-loop-n l = l.uses ≡ counts_below (λ t r. used_by t (record_read l.mesh r).piece.corners) l.initial.uses l.n
