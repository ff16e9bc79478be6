-- What lies in a piece lies in its box: each of its places is at least what all corners' are at least, and at most what they are at most.
-- Assumes nothing.
use Rattle.std.specs.Prelude.{◌≡◌, true, ℕ, ◌+◌, ◌*◌, ◌≤◌, ◌<◌, ℤ, ◌+ℤ◌, ◌*ℤ◌, ◌<ℤ◌}
use Rattle.std.proofs.Math.Path.{sym, ap}
use Rattle.std.proofs.Common.{◌∙◌, mul-le-mul_left, add-mul, arith, lit<}
use Rattle.std.proofs.Math.Nat.{le_of_mul-le-mul_left}
use Rattle.std.proofs.Math.IntN.{pos, nat_abs, -ℤ-+ℤ_cancel}
use Rattle.grid.specs.declared.Place.{Place}
use Rattle.grid.specs.Places.{coordinate, point_of, shift}
use Rattle.grid_volume.specs.Volume.{signed_of}
use Rattle.grid_inside.specs.Inside.{lies_in}
use Rattle.grid_inside.specs.Weights.{WeightedMean, mean_moved}
use Rattle.grid_inside.proofs.Weights.{closed_exactly}

-- ---- along one axis: q is the mean of the places p with the weights w

module _ (w p : ℕ → ℕ) (q : ℕ) where
  -- a mean of coordinates is one of places, moved by what a place is more than its coordinate
  place_mean :
      pos (w 0) *ℤ coordinate (p 0) +ℤ pos (w 1) *ℤ coordinate (p 1) +ℤ pos (w 2) *ℤ coordinate (p 2) +ℤ pos (w 3) *ℤ coordinate (p 3)
      ≡ pos (w 0 + w 1 + w 2 + w 3) *ℤ coordinate q →
      w 0 * p 0 + w 1 * p 1 + w 2 * p 2 + w 3 * p 3 ≡ (w 0 + w 1 + w 2 + w 3) * q
  unfolding coordinate
  place_mean e =
      ap nat_abs ((λ i. pos (w 0) *ℤ place (p 0) i +ℤ pos (w 1) *ℤ place (p 1) i +ℤ pos (w 2) *ℤ place (p 2) i +ℤ pos (w 3) *ℤ place (p 3) i)
      ∙ mean_moved (pos (w 0)) (pos (w 1)) (pos (w 2)) (pos (w 3)) (coordinate (p 0)) (coordinate (p 1)) (coordinate (p 2)) (coordinate (p 3)) (coordinate q) (pos shift) e
      ∙ ap (λ (z : ℤ). pos (w 0 + w 1 + w 2 + w 3) *ℤ z) (sym (place q)))
    where
      place : (n : ℕ) → pos n ≡ coordinate n +ℤ pos shift
      place n = sym (-ℤ-+ℤ_cancel (pos n) (pos shift))

  -- a bound, times each weight
  spread : (bound : ℕ) → (w 0 + w 1 + w 2 + w 3) * bound ≡ w 0 * bound + w 1 * bound + w 2 * bound + w 3 * bound
  spread bound = rw (add-mul, add-mul, add-mul)

  in_box : 1 ≤ w 0 + w 1 + w 2 + w 3 →
      pos (w 0) *ℤ coordinate (p 0) +ℤ pos (w 1) *ℤ coordinate (p 1) +ℤ pos (w 2) *ℤ coordinate (p 2) +ℤ pos (w 3) *ℤ coordinate (p 3)
      ≡ pos (w 0 + w 1 + w 2 + w 3) *ℤ coordinate q →
      (least most : ℕ) → ((k : ℕ) → k < 4 → least ≤ p k) → ((k : ℕ) → k < 4 → p k ≤ most) → (least ≤ q) × (q ≤ most)
  in_box some e least most low high = (
    le_of_mul-le-mul_left (omega (arith, mean, spread least, above 0 (lit< tt), above 1 (lit< tt), above 2 (lit< tt), above 3 (lit< tt))) some,
    le_of_mul-le-mul_left (omega (arith, mean, spread most, below 0 (lit< tt), below 1 (lit< tt), below 2 (lit< tt), below 3 (lit< tt))) some,
  )
    where
      mean : w 0 * p 0 + w 1 * p 1 + w 2 * p 2 + w 3 * p 3 ≡ (w 0 + w 1 + w 2 + w 3) * q
      mean = place_mean e

      above : (k : ℕ) → k < 4 → w k * least ≤ w k * p k
      above k h = mul-le-mul_left (w k) (low k h)

      below : (k : ℕ) → k < 4 → w k * p k ≤ w k * most
      below k h = mul-le-mul_left (w k) (high k h)

-- ---- along the three

module _ (corner : ℕ → Place) (v : Place) (solid : pos 0 <ℤ signed_of (λ k. point_of (corner k))) (inside : lies_in (λ k. point_of (corner k)) (point_of v) ≡ true) where
  mean : WeightedMean (λ k. point_of (corner k)) (point_of v)
  mean = (closed_exactly (λ k. point_of (corner k)) (point_of v) solid).0 inside

  pub box_x : (least most : ℕ) → ((k : ℕ) → k < 4 → least ≤ (corner k).x) → ((k : ℕ) → k < 4 → (corner k).x ≤ most) → (least ≤ v.x) × (v.x ≤ most)
  box_x = in_box mean.weight (λ k. (corner k).x) v.x mean.some mean.x

  pub box_y : (least most : ℕ) → ((k : ℕ) → k < 4 → least ≤ (corner k).y) → ((k : ℕ) → k < 4 → (corner k).y ≤ most) → (least ≤ v.y) × (v.y ≤ most)
  box_y = in_box mean.weight (λ k. (corner k).y) v.y mean.some mean.y

  pub box_z : (least most : ℕ) → ((k : ℕ) → k < 4 → least ≤ (corner k).z) → ((k : ℕ) → k < 4 → (corner k).z ≤ most) → (least ≤ v.z) × (v.z ≤ most)
  box_z = in_box mean.weight (λ k. (corner k).z) v.z mean.some mean.z
