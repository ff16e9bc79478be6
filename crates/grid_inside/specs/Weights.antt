-- The geometer's sense of lying in a closed piece: a point lies in a right-handed piece exactly if it is a weighted mean of its corners.
-- Assumes nothing.
use Rattle.std.specs.Prelude.{◌≡◌, Bool, List, [], ◌∷◌, T, ℤ, ◌+ℤ◌, ◌-ℤ◌, ◌*ℤ◌}
use Rattle.std.proofs.Math.Path.{sym, ap}
use Rattle.std.proofs.Common.{◌∙◌, lit<}
use Prim.Native.Nat.{ℕ, zero, suc, ◌+◌, ◌*◌, ◌≤◌, ◌<◌}
use Rattle.std.proofs.Math.IntN.{pos, neg_ℤ}
use Rattle.algebra.specs.Solver.{Expression, variable, plus, minus, times, agree, solve, value_of, values_in}
use Rattle.grid.specs.Places.{Point}
use Rattle.grid_volume.specs.Volume.{signed_of, determinant_of, minor_of, differences_of, difference_of}
use Rattle.grid_volume.specs.Formal.{Formal, point_at, own, no_slot, formal_determinant}
use Rattle.grid_inside.specs.Inside.{part_of}
use Rattle.grid_inside.specs.Formal.{given, formal_part, values_of, part_is}
use Rattle.grid_inside.specs.Parts.{parts_sum}

-- v is a weighted mean of the corners, with weights that are not negative and not all 0
pub record WeightedMean (corner : ℕ → Point) (v : Point) : Type 0 where
  pub weight : ℕ → ℕ
  pub some : 1 ≤ weight 0 + weight 1 + weight 2 + weight 3
  pub x : pos (weight 0) *ℤ (corner 0).x +ℤ pos (weight 1) *ℤ (corner 1).x +ℤ pos (weight 2) *ℤ (corner 2).x +ℤ pos (weight 3) *ℤ (corner 3).x
      ≡ pos (weight 0 + weight 1 + weight 2 + weight 3) *ℤ v.x
  pub y : pos (weight 0) *ℤ (corner 0).y +ℤ pos (weight 1) *ℤ (corner 1).y +ℤ pos (weight 2) *ℤ (corner 2).y +ℤ pos (weight 3) *ℤ (corner 3).y
      ≡ pos (weight 0 + weight 1 + weight 2 + weight 3) *ℤ v.y
  pub z : pos (weight 0) *ℤ (corner 0).z +ℤ pos (weight 1) *ℤ (corner 1).z +ℤ pos (weight 2) *ℤ (corner 2).z +ℤ pos (weight 3) *ℤ (corner 3).z
      ≡ pos (weight 0 + weight 1 + weight 2 + weight 3) *ℤ v.z

-- ---- two facts of four weights: variables 0 to 3 are the weights, 4 to 7 what they are weights of

abbrev whole : Expression
whole = plus (plus (plus (variable 0) (variable 1)) (variable 2)) (variable 3)

abbrev summed_by : (Expression → Expression) → Expression
summed_by f =
    plus (plus (plus (times (variable 0) (f (variable 4))) (times (variable 1) (f (variable 5)))) (times (variable 2) (f (variable 6))))
    (times (variable 3) (f (variable 7)))

-- A mean moves with what it is the mean of.
pub mean_moved : (w0 w1 w2 w3 c0 c1 c2 c3 c step : ℤ) →
    w0 *ℤ c0 +ℤ w1 *ℤ c1 +ℤ w2 *ℤ c2 +ℤ w3 *ℤ c3 ≡ (w0 +ℤ w1 +ℤ w2 +ℤ w3) *ℤ c →
    w0 *ℤ (c0 +ℤ step) +ℤ w1 *ℤ (c1 +ℤ step) +ℤ w2 *ℤ (c2 +ℤ step) +ℤ w3 *ℤ (c3 +ℤ step) ≡ (w0 +ℤ w1 +ℤ w2 +ℤ w3) *ℤ (c +ℤ step)
mean_moved w0 w1 w2 w3 c0 c1 c2 c3 c step e =
    let numbers : List ℤ = w0 ∷ w1 ∷ w2 ∷ w3 ∷ c0 ∷ c1 ∷ c2 ∷ c3 ∷ c ∷ step ∷ [] in
    solve (summed_by (λ p. plus p (variable 9))) (plus (summed_by (λ p. p)) (times whole (variable 9))) tt numbers
    ∙ ap (λ (z : ℤ). z +ℤ (w0 +ℤ w1 +ℤ w2 +ℤ w3) *ℤ step) e
    ∙ solve (plus (times whole (variable 8)) (times whole (variable 9))) (times whole (plus (variable 8) (variable 9))) tt numbers

-- Where three of four numbers have the shares of d that their weights say, the first has what they leave.
share_left : (w0 w1 w2 w3 p0 p1 p2 p3 d : ℤ) → p0 +ℤ p1 +ℤ p2 +ℤ p3 ≡ d →
    (w0 +ℤ w1 +ℤ w2 +ℤ w3) *ℤ p1 ≡ w1 *ℤ d → (w0 +ℤ w1 +ℤ w2 +ℤ w3) *ℤ p2 ≡ w2 *ℤ d → (w0 +ℤ w1 +ℤ w2 +ℤ w3) *ℤ p3 ≡ w3 *ℤ d →
    (w0 +ℤ w1 +ℤ w2 +ℤ w3) *ℤ p0 ≡ w0 *ℤ d
share_left w0 w1 w2 w3 p0 p1 p2 p3 d e e1 e2 e3 =
    let numbers : List ℤ = w0 ∷ w1 ∷ w2 ∷ w3 ∷ p0 ∷ p1 ∷ p2 ∷ p3 ∷ d ∷ [] in
    let sum : Expression = plus (plus (plus (variable 4) (variable 5)) (variable 6)) (variable 7) in
    let part : ℕ → Expression = λ k. times whole (variable (4 + k)) in
    let share : ℕ → Expression = λ k. times (variable k) (variable 8) in
    solve (part 0) (minus (minus (minus (times whole sum) (part 1)) (part 2)) (part 3)) tt numbers
    ∙ (λ i. (w0 +ℤ w1 +ℤ w2 +ℤ w3) *ℤ e i -ℤ e1 i -ℤ e2 i -ℤ e3 i)
    ∙ solve (minus (minus (minus (times whole (variable 8)) (share 1)) (share 2)) (share 3)) (share 0) tt numbers

-- ---- a determinant's share of the piece's own is its corner's weight

-- the weights and their sum as variables, after those of `values_of`
abbrev weight_at : ℕ → Expression
weight_at k = variable (15 + k)

abbrev total : Expression
total = variable 19

-- From corner 0: as far as the point, times the sum of the weights, and the weighted sum of how far the corners are. By `WeightedMean` the two are one point.
abbrev far : (Formal → Expression) → Formal → Expression
far along p = minus (along p) (along (own 0))

abbrev scaled_along : (Formal → Expression) → Expression
scaled_along along = plus (along (own 0)) (times total (far along given))

abbrev summed_along : (Formal → Expression) → Expression
summed_along along =
    plus (along (own 0))
    (plus (plus (plus (times (weight_at 0) (far along (own 0))) (times (weight_at 1) (far along (own 1)))) (times (weight_at 2) (far along (own 2))))
    (times (weight_at 3) (far along (own 3))))

abbrev scaled : Formal
scaled = record { x = scaled_along (λ p. p.x); y = scaled_along (λ p. p.y); z = scaled_along (λ p. p.z) }

abbrev summed : Formal
summed = record { x = summed_along (λ p. p.x); y = summed_along (λ p. p.y); z = summed_along (λ p. p.z) }

-- In slots 1 to 3 a determinant is linear in how far its corner is from corner 0.
abbrev scales : ℕ → Bool
scales k = agree (times total (formal_part given k)) (formal_part scaled k)

abbrev sums : ℕ → Bool
sums k = agree (formal_part summed k) (times (weight_at k) (formal_determinant own))

module _ (corner : ℕ → Point) (v : Point) (mean : WeightedMean corner v) where
  abbrev pub sum : ℤ
  sum = pos (mean.weight 0 + mean.weight 1 + mean.weight 2 + mean.weight 3)

  abbrev rest : List ℤ
  rest = pos (mean.weight 0) ∷ pos (mean.weight 1) ∷ pos (mean.weight 2) ∷ pos (mean.weight 3) ∷ sum ∷ []

  abbrev values : List ℤ
  values = values_of corner v rest

  one_point : point_at values scaled ≡ point_at values summed
  one_point =
      let from = mean_moved (pos (mean.weight 0)) (pos (mean.weight 1)) (pos (mean.weight 2)) (pos (mean.weight 3)) in
      λ i. record {
        x = (corner 0).x +ℤ sym (from (corner 0).x (corner 1).x (corner 2).x (corner 3).x v.x (neg_ℤ (corner 0).x) mean.x) i;
        y = (corner 0).y +ℤ sym (from (corner 0).y (corner 1).y (corner 2).y (corner 3).y v.y (neg_ℤ (corner 0).y) mean.y) i;
        z = (corner 0).z +ℤ sym (from (corner 0).z (corner 1).z (corner 2).z (corner 3).z v.z (neg_ℤ (corner 0).z) mean.z) i;
      }

  share_at : (k : ℕ) → k < 4 → T (scales k) → T (sums k) → sum *ℤ part_of corner v k ≡ value_of (values_in values) (weight_at k) *ℤ signed_of corner
  unfolding determinant_of minor_of differences_of difference_of
  share_at k h s t =
      ap (λ (z : ℤ). sum *ℤ z) (sym (part_is corner v rest given k h))
      ∙ solve (times total (formal_part given k)) (formal_part scaled k) s values
      ∙ part_is corner v rest scaled k h
      ∙ ap (λ (p : Point). part_of corner p k) one_point
      ∙ sym (part_is corner v rest summed k h)
      ∙ solve (formal_part summed k) (times (weight_at k) (formal_determinant own)) t values

  -- each by itself, so that its two tests are computed once
  share_1 : sum *ℤ part_of corner v 1 ≡ pos (mean.weight 1) *ℤ signed_of corner
  share_1 = share_at 1 (lit< tt) tt tt

  share_2 : sum *ℤ part_of corner v 2 ≡ pos (mean.weight 2) *ℤ signed_of corner
  share_2 = share_at 2 (lit< tt) tt tt

  share_3 : sum *ℤ part_of corner v 3 ≡ pos (mean.weight 3) *ℤ signed_of corner
  share_3 = share_at 3 (lit< tt) tt tt

  pub share : (k : ℕ) → k < 4 → sum *ℤ part_of corner v k ≡ pos (mean.weight k) *ℤ signed_of corner
  share zero h =
      share_left (pos (mean.weight 0)) (pos (mean.weight 1)) (pos (mean.weight 2)) (pos (mean.weight 3))
      (part_of corner v 0) (part_of corner v 1) (part_of corner v 2) (part_of corner v 3) (signed_of corner) (parts_sum corner v) share_1 share_2 share_3
  share (suc zero) h = share_1
  share (suc (suc zero)) h = share_2
  share (suc (suc (suc zero))) h = share_3
  share (suc (suc (suc (suc k)))) h = absurd (no_slot k h)
