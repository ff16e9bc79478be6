-- `check_marks::bad_mark_in` has found every mark before i to fit.
-- Assumes nothing.
use Prim.Native.Nat.{ℕ}
use mathlib.Core.Path.{◌≡◌}
use mathlib.Core.Bool.{Bool, false, not}
use mathlib.Core.List.{List}
use lib.ListN.{get_or}
use Rattle.laws.specs.Below.{any_below}
use Rattle.piece.specs.Shape.{mark_fits}
use Rattle.check_marks.proofs.bad_mark_in.Given as goal

-- The mark of face i does not fit.
abbrev pub unfit : ℕ → List ℕ → ℕ → Bool
unfit edge marks i = not (mark_fits edge (get_or marks i 0) i)

abbrev pub invariant-loop-i : goal.invariant-loop-i
invariant-loop-i l = any_below l.i (unfit l.edge l.marks) ≡ false
