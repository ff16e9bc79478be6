-- `mesh_hanging::corners_hang` has passed no hanging edge before e.
-- Assumes nothing.
use Rattle.std.proofs.Common.{◌≡◌, ℕ, Bool, false, List}
use Rattle.laws.specs.Below.{any_below}
use Rattle.piece.specs.Ends.{ends_at}
use Rattle.stored_entries.specs.declared.Mesh.{Mesh}
use Rattle.mesh_tables.specs.Tables.{tables_read}
use Rattle.mesh_hanging.specs.Hanging.{hangs_along}
use Rattle.mesh_hanging.proofs.corners_hang.Given as goal

-- Edge e of a piece with these corners hangs.
abbrev pub hanging : Mesh → List ℕ → List ℕ → List ℕ → ℕ → Bool
hanging m heads nexts corners e = hangs_along (tables_read m) heads nexts (ends_at corners e)

abbrev pub invariant-loop-e : goal.invariant-loop-e
invariant-loop-e l = any_below l.e (hanging l.mesh l.links.heads.now l.links.nexts.now l.corners) ≡ false
