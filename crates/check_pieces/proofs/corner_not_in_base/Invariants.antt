-- `check_pieces::corner_not_in_base` has found every corner before k in the base.
-- Assumes nothing.
use Prim.Native.Nat.{ℕ, ◌≤◌, ◌-◌}
use mathlib.Core.Path.{◌≡◌}
use mathlib.Core.Bool.{Bool, false}
use mathlib.Core.List.{List}
use lib.ListN.{get_or}
use lib.Dec.{leb}
use Rattle.laws.specs.Below.{any_below}
use Rattle.check_pieces.proofs.corner_not_in_base.Given as goal

-- Corner k is not among the first count vertices.
abbrev pub beyond : ℕ → List ℕ → ℕ → Bool
beyond count corners k = leb count (get_or corners k 0)

abbrev pub invariant-loop-k : goal.invariant-loop-k
invariant-loop-k l = (l.k ≤ 4) × (any_below l.k (beyond l.count l.corners) ≡ false)
