-- `build_service::put_records` has written the records before i, and no vertex.
-- Assumes nothing.
use mathlib.Core.Path.{◌≡◌}
use Rattle.build_service.specs.Storing.{records_put}
use Rattle.build_service.proofs.put_records.Given as goal

abbrev pub invariant-loop-i : goal.invariant-loop-i
invariant-loop-i l = (l.base ≡ l.initial.base) × (l.grown ≡ records_put l.initial.grown l.plain.coordinates.now l.plain.corners.now l.i)
