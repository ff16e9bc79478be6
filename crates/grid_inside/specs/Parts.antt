-- The four determinants add up to the piece's own, D = D0 + D1 + D2 + D3, and the point is the corners' mean with them as weights:
-- D·v = D0·c0 + D1·c1 + D2·c2 + D3·c3 in each coordinate. For all corners and points, by the ring solver.
-- Assumes nothing.
use Rattle.std.specs.Prelude.{◌≡◌, Bool, [], ℕ, T, ◌+ℤ◌, ◌*ℤ◌}
use Rattle.algebra.specs.Solver.{Expression, plus, times, agree, solve, value_of, values_in}
use Rattle.grid.specs.Places.{Point}
use Rattle.grid_volume.specs.Volume.{signed_of, minor_of, determinant_of, difference_of, differences_of}
use Rattle.grid_volume.specs.Formal.{Formal, own, formal_determinant}
use Rattle.grid_inside.specs.Inside.{part_of}
use Rattle.grid_inside.specs.Formal.{given, formal_part, values_of}

-- D = D0 + D1 + D2 + D3
pub parts_sum : (corner : ℕ → Point) (v : Point) →
    part_of corner v 0 +ℤ part_of corner v 1 +ℤ part_of corner v 2 +ℤ part_of corner v 3 ≡ signed_of corner
unfolding determinant_of minor_of differences_of difference_of
parts_sum corner v =
    solve (plus (plus (plus (formal_part given 0) (formal_part given 1)) (formal_part given 2)) (formal_part given 3)) (formal_determinant own) tt
    (values_of corner v [])

-- the test along one coordinate, over expressions
abbrev mean_of : (Formal → Expression) → Expression
mean_of along =
    plus (plus (plus (times (formal_part given 0) (along (own 0))) (times (formal_part given 1) (along (own 1))))
    (times (formal_part given 2) (along (own 2)))) (times (formal_part given 3) (along (own 3)))

abbrev is_mean : (Formal → Expression) → Bool
is_mean along = agree (mean_of along) (times (formal_determinant own) (along given))

parts_mean : (along : Formal → Expression) → T (is_mean along) → (corner : ℕ → Point) (v : Point) →
    value_of (values_in (values_of corner v [])) (mean_of along) ≡ value_of (values_in (values_of corner v [])) (times (formal_determinant own) (along given))
parts_mean along t corner v = solve (mean_of along) (times (formal_determinant own) (along given)) t (values_of corner v [])

-- D·v = D0·c0 + D1·c1 + D2·c2 + D3·c3, coordinate by coordinate
pub parts_mean_x : (corner : ℕ → Point) (v : Point) →
    part_of corner v 0 *ℤ (corner 0).x +ℤ part_of corner v 1 *ℤ (corner 1).x +ℤ part_of corner v 2 *ℤ (corner 2).x +ℤ part_of corner v 3 *ℤ (corner 3).x
    ≡ signed_of corner *ℤ v.x
unfolding determinant_of minor_of differences_of difference_of
parts_mean_x = parts_mean (λ p. p.x) tt

pub parts_mean_y : (corner : ℕ → Point) (v : Point) →
    part_of corner v 0 *ℤ (corner 0).y +ℤ part_of corner v 1 *ℤ (corner 1).y +ℤ part_of corner v 2 *ℤ (corner 2).y +ℤ part_of corner v 3 *ℤ (corner 3).y
    ≡ signed_of corner *ℤ v.y
unfolding determinant_of minor_of differences_of difference_of
parts_mean_y = parts_mean (λ p. p.y) tt

pub parts_mean_z : (corner : ℕ → Point) (v : Point) →
    part_of corner v 0 *ℤ (corner 0).z +ℤ part_of corner v 1 *ℤ (corner 1).z +ℤ part_of corner v 2 *ℤ (corner 2).z +ℤ part_of corner v 3 *ℤ (corner 3).z
    ≡ signed_of corner *ℤ v.z
unfolding determinant_of minor_of differences_of difference_of
parts_mean_z = parts_mean (λ p. p.z) tt
