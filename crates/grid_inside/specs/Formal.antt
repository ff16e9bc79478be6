-- The piece and the point as variables, so that the ring solver can prove facts of the four determinants for all corners and points at once.
-- Assumes nothing.
use Rattle.std.specs.Prelude.{◌≡◌, refl, List, ◌∷◌, ℕ, zero, suc, ◌<◌, ℤ}
use Rattle.algebra.specs.Solver.{Expression, variable, value_of, values_in}
use Rattle.grid.specs.Places.{Point}
use Rattle.grid_volume.specs.Volume.{minor_of, determinant_of, difference_of, differences_of}
use Rattle.grid_volume.specs.Formal.{Formal, point_at, own, put, no_slot, formal_determinant}
use Rattle.grid_inside.specs.Inside.{part_of}

-- the point
abbrev pub given : Formal
given = record { x = variable 0; y = variable 1; z = variable 2 }

-- `part_of` over expressions
abbrev pub formal_part : Formal → ℕ → Expression
formal_part p k = formal_determinant (put k p own)

-- what the variables stand for; `rest` is for those that a proof has besides
abbrev pub values_of : (ℕ → Point) → Point → List ℤ → List ℤ
values_of corner v rest =
    v.x ∷ v.y ∷ v.z ∷ (corner 0).x ∷ (corner 0).y ∷ (corner 0).z ∷ (corner 1).x ∷ (corner 1).y ∷ (corner 1).z
    ∷ (corner 2).x ∷ (corner 2).y ∷ (corner 2).z ∷ (corner 3).x ∷ (corner 3).y ∷ (corner 3).z ∷ rest

-- It is the determinant that the definition has.
pub part_is : (corner : ℕ → Point) (v : Point) (rest : List ℤ) (p : Formal) (k : ℕ) → k < 4 →
    value_of (values_in (values_of corner v rest)) (formal_part p k) ≡ part_of corner (point_at (values_of corner v rest) p) k
unfolding determinant_of minor_of differences_of difference_of
part_is corner v rest p zero h = refl
part_is corner v rest p (suc zero) h = refl
part_is corner v rest p (suc (suc zero)) h = refl
part_is corner v rest p (suc (suc (suc zero))) h = refl
part_is corner v rest p (suc (suc (suc (suc k)))) h = absurd (no_slot k h)
