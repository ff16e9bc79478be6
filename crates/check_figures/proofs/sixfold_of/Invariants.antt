-- `check_figures::sixfold_of` has summed the leaves before n, modulo 2^64.
-- Assumes nothing.
use Rattle.std.proofs.Common.{◌≡◌, ℕ, ◌%◌, ◌^◌}
use Rattle.laws.specs.Below.{sum_below}
use Rattle.stored_entries.specs.declared.Mesh.{Mesh}
use Rattle.stored_entries.specs.Mesh.{vertex_read, record_read}
use Rattle.check_refusals.specs.Check.{leaf_sixfold}
use Rattle.check_figures.proofs.sixfold_of.Given as goal

abbrev pub volume_at : Mesh → ℕ → ℕ
volume_at m n = leaf_sixfold (vertex_read m) (record_read m n)

abbrev pub invariant-loop-n : goal.invariant-loop-n
invariant-loop-n l = l.total ≡ sum_below l.n (volume_at l.mesh) % 2 ^ 64
