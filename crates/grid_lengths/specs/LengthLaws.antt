-- What code that computes squared lengths on places needs, and how long they can be.
-- Assumes nothing.
use Rattle.std.specs.Prelude.{◌≡◌, ℕ, ◌+◌, ◌*◌, ◌-◌, ◌≤◌, ◌<◌, ℤ, pos, nat_abs, ◌+ℤ◌, ◌-ℤ◌}
use Rattle.std.proofs.Common.{sym, ◌∙◌, ap, subst, mul-le-mul, arith}
use Rattle.std.proofs.Math.Decide.{dec_lt}
use Rattle.algebra.specs.Absolute.{abs_times, abs_difference_swap, square_is}
use Rattle.grid.specs.Places.{greatest_place, Point, coordinate}
use Rattle.grid_lengths.specs.Lengths.{square, squared_length}
use Rattle.grid.specs.PlaceLaws.{apart_is}

-- r is the square of how far apart the coordinates of two places are
pub record SquaredDifference (p q r : ℕ) : Type 0 where
  pub is : r ≡ nat_abs (square (coordinate p -ℤ coordinate q))
  pub small : r ≤ greatest_place * greatest_place

square_swap : (a b : ℤ) → nat_abs (square (a -ℤ b)) ≡ nat_abs (square (b -ℤ a))
square_swap a b = abs_times (a -ℤ b) (a -ℤ b) ∙ ap (λ (n : ℕ). n * n) (abs_difference_swap a b) ∙ sym (abs_times (b -ℤ a) (b -ℤ a))

-- the greater of two places less the smaller, squared, for either order of the two
pub squared_down : (p q : ℕ) → q ≤ p → p ≤ greatest_place → SquaredDifference p q ((p - q) * (p - q))
squared_down p q h l =
    let d = coordinate p -ℤ coordinate q in
    record {
      is = sym (abs_times d d ∙ ap (λ (n : ℕ). n * n) (apart_is p q h));
      small = mul-le-mul (below p q l) (below p q l);
    }
  where
    below : (p q : ℕ) → p ≤ greatest_place → p - q ≤ greatest_place
    below p q l = omega arith

pub squared_up : (p q : ℕ) → p < q → q ≤ greatest_place → SquaredDifference p q ((q - p) * (q - p))
squared_up p q h l =
    let d = squared_down q p (omega arith) l in
    record { is = d.is ∙ square_swap (coordinate q) (coordinate p); small = d.small }

-- for either order of the two at once: one of the two remainders is 0
pub squared_apart : (p q d : ℕ) → d ≡ (p - q) + (q - p) → p ≤ greatest_place → q ≤ greatest_place → SquaredDifference p q (d * d)
squared_apart p q d e h k =
    elim (dec_lt p q) [
      | yes l ↦ subst (λ (n : ℕ). SquaredDifference p q (n * n)) (up p q d e l) (squared_up p q l k)
      | no l ↦ subst (λ (n : ℕ). SquaredDifference p q (n * n)) (down p q d e l) (squared_down p q (omega arith) h)
    ]
  where
    up : (p q d : ℕ) → d ≡ (p - q) + (q - p) → p < q → q - p ≡ d
    up p q d e l = omega arith

    down : (p q d : ℕ) → d ≡ (p - q) + (q - p) → (p < q → ⊥) → p - q ≡ d
    down p q d e l = omega arith

-- a squared length is the sum of three squares
pub squared_length_is : (p q : Point) →
    squared_length p q ≡ nat_abs (square (p.x -ℤ q.x)) + nat_abs (square (p.y -ℤ q.y)) + nat_abs (square (p.z -ℤ q.z))
unfolding squared_length
squared_length_is p q =
    let a = p.x -ℤ q.x in
    let b = p.y -ℤ q.y in
    let c = p.z -ℤ q.z in
    ap nat_abs (ap (λ (z : ℤ). z +ℤ square b +ℤ square c) (square_is a)
    ∙ ap (λ (z : ℤ). pos (nat_abs (square a)) +ℤ z +ℤ square c) (square_is b)
    ∙ ap (λ (z : ℤ). pos (nat_abs (square a)) +ℤ pos (nat_abs (square b)) +ℤ z) (square_is c))

-- and the same from either end
pub squared_length_swap : (p q : Point) → squared_length p q ≡ squared_length q p
squared_length_swap p q =
    squared_length_is p q
    ∙ (λ i. square_swap p.x q.x i + square_swap p.y q.y i + square_swap p.z q.z i)
    ∙ sym (squared_length_is q p)
