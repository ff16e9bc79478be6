-- `check_inside::too_many`: what is not more than a count, times the cells of another side, fits.
-- Assumes nothing.
use Prim.Native.Nat.{ℕ, ◌*◌, ◌≤◌, ◌<◌}
use native.Mathlib.Nat.{mul-le-mul}
use native.Mathlib.Omega.{arith}
use Rattle.check_inside.proofs.too_many.Goals as goal

fits : (count a b : ℕ) → count < 4294967296 → a ≤ count → b ≤ 4294967296 → a * b < 18446744073709551616
fits count a b small few side =
    let l : a ≤ 4294967295 = omega arith in
    let all : a * b ≤ 4294967295 * 4294967296 = mul-le-mul l side in
    omega arith

pub overflow_mul-layer : goal.overflow_mul-layer
overflow_mul-layer c =
    let small : c.args.count < 4294967296 = omega (arith, c.ranges.count) in
    record { fits = fits c.args.count c.side-row.result c.side.result small (omega (arith, c.if-most-row.false, c.from-most.ensures)) c.side.ensures }

pub overflow_mul-result : goal.overflow_mul-result
overflow_mul-result c =
    let small : c.args.count < 4294967296 = omega (arith, c.ranges.count) in
    record {
      fits = fits c.args.count (c.side-row.result * c.side.result) c.side-else-most-layer.result small (omega (arith, c.if-most-layer.false, c.from-most.ensures)) c.side-else-most-layer.ensures;
    }
