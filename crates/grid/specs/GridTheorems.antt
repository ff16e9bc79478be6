-- What holds of places on the grid and of places halfway between two, each in one sentence.
-- Assumes nothing.
use Rattle.std.specs.Prelude.{◌≡◌, ◌↔◌, Bool, true, ◌&&◌, [], ◌∷◌, ℕ, ◌+◌, ◌/◌, ◌%◌, ◌≤◌, eqb, leb, ℤ, pos, nat_abs, ◌+ℤ◌, ◌-ℤ◌}
use Rattle.std.proofs.Common.{sym, ◌∙◌, ap, arith, eqb-true, eq-eqb, leb-true, le-leb}
use Rattle.std.proofs.Math.Bool.{and-eq-true_iff}
use Rattle.std.proofs.Math.IntN.{ -ℤ-+ℤ_cancel}
use Rattle.algebra.specs.Solver.{variable, number, plus, minus, solve}
use Rattle.algebra.specs.Multiple.{Multiple, multiple_of_remainder, remainder_of_multiple}
use Rattle.grid.specs.declared.Place.{Place}
use Rattle.grid.specs.Places.{Point, coordinate, point_of, coordinate_on_grid, same_place, is_halfway, halfway_of, shift}
use Rattle.grid.specs.Corners.{Midpoint}

-- three tests that pass together, each by itself
three : (a b c : Bool) → (a && b && c ≡ true) ↔ ((a ≡ true) × (b ≡ true) × (c ≡ true))
three a b c = (
  λ e. let (ab, r) = (and-eq-true_iff (a && b) c).0 e in let (p, q) = (and-eq-true_iff a b).0 ab in (p, q, r),
  λ h. (and-eq-true_iff (a && b) c).1 ((and-eq-true_iff a b).1 (h.0, h.1), h.2),
)

-- A coordinate is on the grid exactly if it is a multiple of 32 from -32,736 to 32,736.
pub on_grid_exactly : (c : ℤ) → (coordinate_on_grid c ≡ true) ↔ (Multiple 32 c × (nat_abs c ≤ 32736))
unfolding coordinate_on_grid
on_grid_exactly c = (
  λ e. let (p, q) = (and-eq-true_iff (eqb (nat_abs c % 32) 0) (leb (nat_abs c) 32736)).0 e in
      (multiple_of_remainder 32 c (eqb-true (nat_abs c % 32) 0 p), leb-true (nat_abs c) 32736 q),
  λ h. (and-eq-true_iff (eqb (nat_abs c % 32) 0) (leb (nat_abs c) 32736)).1
      (eq-eqb (nat_abs c % 32) 0 (remainder_of_multiple h.0), le-leb (nat_abs c) 32736 h.1),
)

-- Two places are the same exactly if they are equal.
pub same_place_exactly : (a b : Place) → (same_place a b ≡ true) ↔ (a ≡ b)
unfolding same_place
same_place_exactly a b = (
  λ e. let (p, q, r) = (three (eqb a.x b.x) (eqb a.y b.y) (eqb a.z b.z)).0 e in
      λ i. record { x = eqb-true a.x b.x p i; y = eqb-true a.y b.y q i; z = eqb-true a.z b.z r i },
  λ e. (three (eqb a.x b.x) (eqb a.y b.y) (eqb a.z b.z)).1
      (eq-eqb a.x b.x (ap (λ (p : Place). p.x) e), eq-eqb a.y b.y (ap (λ (p : Place). p.y) e), eq-eqb a.z b.z (ap (λ (p : Place). p.z) e)),
)

coordinate_once : (p q : ℕ) → coordinate p ≡ coordinate q → p ≡ q
unfolding coordinate
coordinate_once p q e =
    ap nat_abs (sym (-ℤ-+ℤ_cancel (pos p) (pos shift)) ∙ ap (λ (z : ℤ). z +ℤ pos shift) e ∙ -ℤ-+ℤ_cancel (pos q) (pos shift))

-- Two places with the same coordinates are one.
pub place_once : (a b : Place) → point_of a ≡ point_of b → a ≡ b
place_once a b e =
    λ i. record {
      x = coordinate_once a.x b.x (ap (λ (p : Point). p.x) e) i;
      y = coordinate_once a.y b.y (ap (λ (p : Point). p.y) e) i;
      z = coordinate_once a.z b.z (ap (λ (p : Point). p.z) e) i;
    }

-- two coordinates' sum is their places' sum less twice 32,768
coordinates_add : (p q : ℕ) → coordinate p +ℤ coordinate q ≡ pos (p + q) -ℤ pos 65536
unfolding coordinate
coordinates_add p q =
    solve (plus (minus (variable 0) (number (pos shift))) (minus (variable 1) (number (pos shift))))
    (minus (plus (variable 0) (variable 1)) (number (pos 65536)))
    tt (pos p ∷ pos q ∷ [])

half_coordinate : (w p q : ℕ) → w + w ≡ p + q → coordinate w +ℤ coordinate w ≡ coordinate p +ℤ coordinate q
half_coordinate w p q e = coordinates_add w w ∙ ap (λ (n : ℕ). pos n -ℤ pos 65536) e ∙ sym (coordinates_add p q)

half_place : (w p q : ℕ) → coordinate w +ℤ coordinate w ≡ coordinate p +ℤ coordinate q → w + w ≡ p + q
half_place w p q e =
    ap nat_abs (sym (-ℤ-+ℤ_cancel (pos (w + w)) (pos 65536))
    ∙ ap (λ (z : ℤ). z +ℤ pos 65536) (sym (coordinates_add w w) ∙ e ∙ coordinates_add p q)
    ∙ -ℤ-+ℤ_cancel (pos (p + q)) (pos 65536))

-- The test for standing halfway passes exactly if twice w is the sum of a and b, in each coordinate.
pub halfway_exactly : (w a b : Place) → (is_halfway w a b ≡ true) ↔ Midpoint (point_of w) (point_of a) (point_of b)
unfolding is_halfway
halfway_exactly w a b = (
  λ e. let (p, q, r) = tests.0 e in
      record {
        x = half_coordinate w.x a.x b.x (eqb-true (w.x + w.x) (a.x + b.x) p);
        y = half_coordinate w.y a.y b.y (eqb-true (w.y + w.y) (a.y + b.y) q);
        z = half_coordinate w.z a.z b.z (eqb-true (w.z + w.z) (a.z + b.z) r);
      },
  λ m. tests.1 (
    eq-eqb (w.x + w.x) (a.x + b.x) (half_place w.x a.x b.x m.x),
    eq-eqb (w.y + w.y) (a.y + b.y) (half_place w.y a.y b.y m.y),
    eq-eqb (w.z + w.z) (a.z + b.z) (half_place w.z a.z b.z m.z),
  ),
)
  where
    tests : (eqb (w.x + w.x) (a.x + b.x) && eqb (w.y + w.y) (a.y + b.y) && eqb (w.z + w.z) (a.z + b.z) ≡ true)
        ↔ ((eqb (w.x + w.x) (a.x + b.x) ≡ true) × (eqb (w.y + w.y) (a.y + b.y) ≡ true) × (eqb (w.z + w.z) (a.z + b.z) ≡ true))
    tests = three (eqb (w.x + w.x) (a.x + b.x)) (eqb (w.y + w.y) (a.y + b.y)) (eqb (w.z + w.z) (a.z + b.z))

-- No other place than half the sum stands halfway.
pub halfway_only : (w a b : Place) → is_halfway w a b ≡ true → w ≡ halfway_of a b
unfolding halfway_of
halfway_only w a b e =
    let m = (halfway_exactly w a b).0 e in
    λ i. record { x = half (half_place w.x a.x b.x m.x) i; y = half (half_place w.y a.y b.y m.y) i; z = half (half_place w.z a.z b.z m.z) i }
  where
    half : {w s : ℕ} → w + w ≡ s → w ≡ s / 2
    half e = omega arith
