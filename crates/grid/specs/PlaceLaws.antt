-- What code that works on places needs of the coordinates that they hold.
-- Assumes nothing.
use Rattle.std.specs.Prelude.{◌≡◌, refl, [], ◌∷◌, Bool, true, false, ◌&&◌, ℕ, suc, ◌-◌, ◌%◌, ◌≤◌, ◌<◌, T, leb, eqb, ℤ, pos, nat_abs, ◌-ℤ◌}
use Rattle.std.proofs.Common.{sym, ◌∙◌, ap, subst, arith, leb→le, le→leb, eq-eqb, ne_eqb, le-leb}
use Rattle.std.proofs.Math.Path.{subst⁻¹}
use Rattle.std.proofs.Math.Bool.{and-false}
use Rattle.std.proofs.lemmas.Bool.{lt-leb}
use Rattle.std.proofs.Math.IntN.{sub_ℕ}
use Rattle.algebra.specs.Solver.{variable, number, minus, solve}
use Rattle.algebra.specs.Absolute.{difference_cases, difference_is, abs_difference, abs_difference_is}
use Rattle.grid.specs.declared.Place.{Place}
use Rattle.grid.specs.Places.{greatest_place, coordinate, coordinate_on_grid, shift}

-- coordinates differ as their places do
pub coordinates_differ : (p q : ℕ) → coordinate p -ℤ coordinate q ≡ sub_ℕ p q
unfolding coordinate
coordinates_differ p q =
    solve (minus (minus (variable 0) (number (pos shift))) (minus (variable 1) (number (pos shift)))) (minus (variable 0) (variable 1))
    tt (pos p ∷ pos q ∷ [])
    ∙ difference_is p q

-- of two places the greater less the smaller is how far apart their coordinates are
pub apart_is : (p q : ℕ) → q ≤ p → nat_abs (coordinate p -ℤ coordinate q) ≡ p - q
apart_is p q h = ap nat_abs (coordinates_differ p q) ∙ abs_difference_is p q h

-- coordinates of places up to k are at most k apart
pub apart_within : (k p q : ℕ) → p ≤ k → q ≤ k → nat_abs (coordinate p -ℤ coordinate q) ≤ k
apart_within k p q h l = subst⁻¹ (λ (z : ℤ). nat_abs z ≤ k) (coordinates_differ p q) (abs_difference p q k h l)

-- a place that three u16 hold
pub record Held (p : Place) : Type 0 where
  pub x : p.x ≤ greatest_place
  pub y : p.y ≤ greatest_place
  pub z : p.z ≤ greatest_place

-- the absolute value of the coordinate at p, by the side of 32,768 on which p lies
coordinate_cases : (p : ℕ) (P : ℕ → Type 0) → (p < shift → P (shift - p)) → (shift ≤ p → P (p - shift)) → P (nat_abs (coordinate p))
unfolding coordinate
coordinate_cases p P f g =
    difference_cases p shift (λ (z : ℤ). P (nat_abs z)) (λ h. subst P (less p h) (f h)) g
  where
    less : (p : ℕ) → p < shift → shift - p ≡ suc (shift - suc p)
    less p h = omega arith

-- two tests each of which passes where the other does are one
both_ways : (a b : Bool) → (T a → T b) → (T b → T a) → a ≡ b
both_ways true true f g = refl
both_ways true false f g = absurd (f tt)
both_ways false true f g = absurd (g tt)
both_ways false false f g = refl

-- 32,768 is a multiple of 32, so a coordinate is one exactly if its place is
pub off_multiple : (p : ℕ) → (p % 32 ≡ 0 → ⊥) → false ≡ coordinate_on_grid (coordinate p)
unfolding coordinate_on_grid
off_multiple p h =
    coordinate_cases p (λ (n : ℕ). false ≡ eqb (n % 32) 0 && leb n 32736)
    (λ l. simp (ne_eqb ((shift - p) % 32) 0 (λ e. h (omega arith))))
    (λ l. simp (ne_eqb ((p - shift) % 32) 0 (λ e. h (omega arith))))

pub off_below : (p : ℕ) → p < 32 → false ≡ coordinate_on_grid (coordinate p)
unfolding coordinate_on_grid
off_below p l =
    coordinate_cases p (λ (n : ℕ). false ≡ eqb (n % 32) 0 && leb n 32736)
    (λ s. rw (lt-leb (shift - p) 32736 (omega arith)) (sym (and-false (eqb ((shift - p) % 32) 0))))
    (λ s. absurd (apart p l s))
  where
    apart : (p : ℕ) → p < 32 → shift ≤ p → ⊥
    apart p l s = omega arith

pub on_grid_is : (p : ℕ) → p % 32 ≡ 0 → 32 ≤ p → leb p 65504 ≡ coordinate_on_grid (coordinate p)
unfolding coordinate_on_grid
on_grid_is p h l =
    coordinate_cases p (λ (n : ℕ). leb p 65504 ≡ eqb (n % 32) 0 && leb n 32736)
    (λ s. simp (eq-eqb ((shift - p) % 32) 0 (omega arith), le-leb (shift - p) 32736 (omega arith), le-leb p 65504 (omega arith)))
    (λ s. simp (eq-eqb ((p - shift) % 32) 0 (omega arith)) (shifted p s))
  where
    shifted : (p : ℕ) → shift ≤ p → leb p 65504 ≡ leb (p - shift) 32736
    shifted p s = both_ways (leb p 65504) (leb (p - shift) 32736) (λ t. le→leb (p - shift) 32736 (omega (arith, leb→le p 65504 t))) (λ t. le→leb p 65504 (omega (arith, leb→le (p - shift) 32736 t)))
