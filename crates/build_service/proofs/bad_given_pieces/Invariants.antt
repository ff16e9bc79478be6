-- `build_service::bad_given_pieces` has found no bad piece before n.
-- Assumes nothing.
use Prim.Native.Nat.{ℕ}
use mathlib.Core.Path.{◌≡◌}
use mathlib.Core.Bool.{Bool, false}
use Rattle.laws.specs.Below.{any_below}
use Rattle.check_refusals.specs.Refusals.{bad_piece}
use Rattle.build_marks.specs.declared.PlainMesh.{PlainMesh}
use Rattle.build_marks.specs.Marking.{plain_vertex, plain_piece}
use Rattle.build_service.proofs.bad_given_pieces.Given as goal

-- Piece n is bad.
abbrev pub bad : PlainMesh → ℕ → ℕ → Bool
bad plain vertices n = bad_piece vertices (plain_vertex plain.coordinates.now) (plain_piece plain.corners.now n)

abbrev pub invariant-loop-n : goal.invariant-loop-n
invariant-loop-n l = any_below l.n (bad l.plain l.vertices) ≡ false
