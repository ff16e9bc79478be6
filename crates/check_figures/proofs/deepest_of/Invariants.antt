-- `check_figures::deepest_of` has the greatest of the leaves before n.
-- Assumes nothing.
use Rattle.std.proofs.Common.{◌≡◌}
use Rattle.laws.specs.Below.{greatest_below}
use Rattle.check_refusals.specs.Check.{leaf_generation}
use Rattle.check_figures.proofs.deepest_of.Given as goal
use Rattle.stored_entries.specs.Mesh.{record_read}

abbrev pub invariant-loop-n : goal.invariant-loop-n
invariant-loop-n l = l.found ≡ greatest_below l.n (λ m. leaf_generation (record_read l.mesh m))
