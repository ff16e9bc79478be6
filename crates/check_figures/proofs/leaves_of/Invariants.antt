-- `check_figures::leaves_of` has counted the leaves before n.
-- Assumes nothing.
use Rattle.std.proofs.Common.{◌≡◌}
use Rattle.laws.specs.Below.{count_below}
use Rattle.mesh_tables.specs.Tables.{uncut}
use Rattle.check_figures.proofs.leaves_of.Given as goal
use Rattle.stored_entries.specs.Mesh.{record_read}

abbrev pub invariant-loop-n : goal.invariant-loop-n
invariant-loop-n l = l.total ≡ count_below l.n (λ m. uncut (record_read l.mesh m))
