-- `grid_lengths::squared_difference` meets its contract, by the law for either order of the two places. Assumes nothing.
use Prim.Native.Nat.{◌*◌}
use native.Mathlib.Omega.{arith}
use Rattle.grid_lengths.specs.LengthLaws.{SquaredDifference, squared_apart}
use Rattle.grid_lengths.proofs.squared_difference.Goals as goal
use Rattle.grid_lengths.proofs.squared_difference.Goals.{After-abs_diff-d}

square : (c : After-abs_diff-d) → SquaredDifference c.args.p c.args.q (c.abs_diff-d.result * c.abs_diff-d.result)
square c = squared_apart c.args.p c.args.q c.abs_diff-d.result c.abs_diff-d.ensures (omega arith) (omega arith)

pub overflow_mul-result : goal.overflow_mul-result
overflow_mul-result c = omega (arith, (square c).small)

pub returns : goal.returns
returns c = square c
