-- `build_service::put_vertices` has written the vertices before i, and no record.
-- Assumes nothing.
use mathlib.Core.Path.{◌≡◌}
use Rattle.build_service.specs.Storing.{vertices_put}
use Rattle.build_service.proofs.put_vertices.Given as goal

abbrev pub invariant-loop-i : goal.invariant-loop-i
invariant-loop-i l = (l.base ≡ vertices_put l.initial.base l.plain.coordinates.now l.i) × (l.grown ≡ l.initial.grown)
