-- The determinant over expressions, so that the ring solver can prove facts of it for all corners at once.
-- Assumes nothing.
use Rattle.std.specs.Prelude.{◌≡◌, refl, List, cond, ℕ, suc, ◌+◌, ◌*◌, ◌<◌, eqb, ℤ}
use Rattle.std.proofs.Common.{arith, lit<}
use Rattle.algebra.specs.Solver.{Expression, variable, plus, minus, times, value_of, values_in}
use Rattle.grid.specs.Places.{Point}
use Rattle.grid_volume.specs.Volume.{minor_of, determinant_of, difference_of, differences_of, corners_of}

pub record Formal : Type 0 where
  pub x : Expression
  pub y : Expression
  pub z : Expression

abbrev pub point_at : List ℤ → Formal → Point
point_at zs p = record { x = value_of (values_in zs) p.x; y = value_of (values_in zs) p.y; z = value_of (values_in zs) p.z }

-- The corner in slot k as variables, after those of one other point; and a point put into slot i.
abbrev pub own : ℕ → Formal
own k = record { x = variable (3 * k + 3); y = variable (3 * k + 4); z = variable (3 * k + 5) }

abbrev pub put : ℕ → Formal → (ℕ → Formal) → ℕ → Formal
put i p corner k = cond (eqb k i) p (corner k)

-- There are four slots.
pub no_slot : (k : ℕ) → suc (suc (suc (suc k))) < 4 → ⊥
no_slot k h = omega arith

-- `minor_of` and `determinant_of` of the differences to p, over expressions
abbrev formal_minor : Expression → Expression → Expression → Expression → Expression
formal_minor a b c d = minus (times a d) (times b c)

abbrev pub formal_determinant : (ℕ → Formal) → Expression
formal_determinant corner =
    let p = corner 0 in
    let q = corner 1 in
    let r = corner 2 in
    let s = corner 3 in
    plus (minus
    (times (minus q.x p.x) (formal_minor (minus r.y p.y) (minus r.z p.z) (minus s.y p.y) (minus s.z p.z)))
    (times (minus q.y p.y) (formal_minor (minus r.x p.x) (minus r.z p.z) (minus s.x p.x) (minus s.z p.z))))
    (times (minus q.z p.z) (formal_minor (minus r.x p.x) (minus r.y p.y) (minus s.x p.x) (minus s.y p.y)))

-- it is the determinant that the definition has
pub formal_is : (zs : List ℤ) (corner : ℕ → Formal) →
    value_of (values_in zs) (formal_determinant corner) ≡ determinant_of (differences_of (λ (k : ℕ). point_at zs (corner k)))
unfolding determinant_of minor_of differences_of difference_of
formal_is zs corner = refl

-- a determinant reads slots 0 to 3 and no other
pub same_corners_lem : (f g : ℕ → Point) → ((k : ℕ) → k < 4 → f k ≡ g k) → determinant_of (differences_of f) ≡ determinant_of (differences_of g)
unfolding differences_of
same_corners_lem f g e = λ t. determinant_of (differences_of (corners_of (e 0 (lit< tt) t) (e 1 (lit< tt) t) (e 2 (lit< tt) t) (e 3 (lit< tt) t)))
