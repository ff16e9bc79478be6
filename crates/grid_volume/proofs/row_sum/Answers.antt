-- `grid_volume::row_sum` meets its contract: three products of an entry and a minor add up to far below 2 ^ 63. Assumes nothing.
use lib.IntN.{ℤ, nat_abs, ◌*ℤ◌}
use Prim.Native.Nat.{◌*◌, ◌^◌, ◌≤◌}
use Rattle.grid_volume.specs.Exact.{Holds, read_back, passed, sum, difference, product, fits, stored}
use Rattle.grid.specs.Places.{greatest_place}
use Rattle.grid_volume.proofs.row_sum.Goals as goal

scaled : (a x : ℤ) → nat_abs a ≤ greatest_place → nat_abs x ≤ 2 * greatest_place ^ 2 → Holds (2 * greatest_place ^ 3) (a *ℤ x) (read_back a *ℤ read_back x)
scaled a x h k = product (passed greatest_place a h tt) (passed (2 * greatest_place ^ 2) x k tt)

pub overflow_mul-result : goal.overflow_mul-result
overflow_mul-result c = fits (scaled c.args.a c.args.x c.requires.a_bound.0 c.requires.x_bound.0) tt

pub overflow_mul-result-2 : goal.overflow_mul-result-2
overflow_mul-result-2 c = fits (scaled c.args.b c.args.y c.requires.a_bound.1 c.requires.x_bound.1) tt

pub overflow_sub-result : goal.overflow_sub-result
overflow_sub-result c =
    fits (difference
    (stored (scaled c.args.a c.args.x c.requires.a_bound.0 c.requires.x_bound.0) tt)
    (stored (scaled c.args.b c.args.y c.requires.a_bound.1 c.requires.x_bound.1) tt)) tt

pub overflow_mul-result-3 : goal.overflow_mul-result-3
overflow_mul-result-3 c = fits (scaled c.args.c c.args.z c.requires.a_bound.2 c.requires.x_bound.2) tt

pub overflow_add-result : goal.overflow_add-result
overflow_add-result c =
    fits (sum
    (stored (difference
    (stored (scaled c.args.a c.args.x c.requires.a_bound.0 c.requires.x_bound.0) tt)
    (stored (scaled c.args.b c.args.y c.requires.a_bound.1 c.requires.x_bound.1) tt)) tt)
    (stored (scaled c.args.c c.args.z c.requires.a_bound.2 c.requires.x_bound.2) tt)) tt

pub returns : goal.returns
returns c =
    (stored (sum
    (stored (difference
    (stored (scaled c.args.a c.args.x c.requires.a_bound.0 c.requires.x_bound.0) tt)
    (stored (scaled c.args.b c.args.y c.requires.a_bound.1 c.requires.x_bound.1) tt)) tt)
    (stored (scaled c.args.c c.args.z c.requires.a_bound.2 c.requires.x_bound.2) tt)) tt).is
