-- A weighted mean goes by the four corners alone, and not by their order. Assumes nothing.
use Rattle.std.specs.Prelude.{◌≡◌, refl, List, [], ◌∷◌, ℕ, zero, suc, ◌+◌, ◌<◌, ℤ, pos, ◌+ℤ◌, ◌*ℤ◌}
use Rattle.std.proofs.Common.{sym, ◌∙◌, ap, arith, lit<}
use Rattle.laws.specs.Below.{put_at}
use Rattle.algebra.specs.Solver.{Expression, variable, plus, times, solve}
use Rattle.grid.specs.Places.{Point}
use Rattle.grid.specs.Corners.{exchanged}
use Rattle.grid_inside.specs.Weights.{WeightedMean}

pub mean_four : (f g : ℕ → Point) → ((k : ℕ) → k < 4 → f k ≡ g k) → (v : Point) → WeightedMean f v → WeightedMean g v
mean_four f g same v mean =
    let w = mean.weight in
    let at0 = same 0 (lit< tt) in
    let at1 = same 1 (lit< tt) in
    let at2 = same 2 (lit< tt) in
    let at3 = same 3 (lit< tt) in
    record {
      weight = w;
      some = mean.some;
      x = sym (λ i. pos (w 0) *ℤ (at0 i).x +ℤ pos (w 1) *ℤ (at1 i).x +ℤ pos (w 2) *ℤ (at2 i).x +ℤ pos (w 3) *ℤ (at3 i).x) ∙ mean.x;
      y = sym (λ i. pos (w 0) *ℤ (at0 i).y +ℤ pos (w 1) *ℤ (at1 i).y +ℤ pos (w 2) *ℤ (at2 i).y +ℤ pos (w 3) *ℤ (at3 i).y) ∙ mean.y;
      z = sym (λ i. pos (w 0) *ℤ (at0 i).z +ℤ pos (w 1) *ℤ (at1 i).z +ℤ pos (w 2) *ℤ (at2 i).z +ℤ pos (w 3) *ℤ (at3 i).z) ∙ mean.z;
    }

-- The last two parts of a weighted sum exchanged.
abbrev last_two : Expression → Expression → Expression
last_two c d = plus (plus (plus (times (variable 0) (variable 4)) (times (variable 1) (variable 5))) c) d

-- The last two corners exchanged, as build does it.
pub mean_exchanged : (corner : ℕ → Point) (v : Point) → WeightedMean corner v → WeightedMean (exchanged 2 3 corner) v
mean_exchanged corner v mean =
    record {
      weight = put_at 2 (w 3) (put_at 3 (w 2) w);
      some = omega (arith, mean.some);
      x = other (corner 0).x (corner 1).x (corner 2).x (corner 3).x v.x mean.x;
      y = other (corner 0).y (corner 1).y (corner 2).y (corner 3).y v.y mean.y;
      z = other (corner 0).z (corner 1).z (corner 2).z (corner 3).z v.z mean.z;
    }
  where
    w : ℕ → ℕ
    w = mean.weight

    other : (c0 c1 c2 c3 c : ℤ) →
        pos (w 0) *ℤ c0 +ℤ pos (w 1) *ℤ c1 +ℤ pos (w 2) *ℤ c2 +ℤ pos (w 3) *ℤ c3 ≡ pos (w 0 + w 1 + w 2 + w 3) *ℤ c →
        pos (w 0) *ℤ c0 +ℤ pos (w 1) *ℤ c1 +ℤ pos (w 3) *ℤ c3 +ℤ pos (w 2) *ℤ c2 ≡ pos (w 0 + w 1 + w 3 + w 2) *ℤ c
    other c0 c1 c2 c3 c e =
        let numbers : List ℤ = pos (w 0) ∷ pos (w 1) ∷ pos (w 2) ∷ pos (w 3) ∷ c0 ∷ c1 ∷ c2 ∷ c3 ∷ [] in
        let sum : w 0 + w 1 + w 2 + w 3 ≡ w 0 + w 1 + w 3 + w 2 = omega arith in
        solve (last_two (times (variable 3) (variable 7)) (times (variable 2) (variable 6))) (last_two (times (variable 2) (variable 6)) (times (variable 3) (variable 7))) tt numbers
        ∙ e
        ∙ ap (λ (n : ℕ). pos n *ℤ c) sum

-- And back.
pub exchanged_mean : (corner : ℕ → Point) (v : Point) → WeightedMean (exchanged 2 3 corner) v → WeightedMean corner v
exchanged_mean corner v mean = mean_four (exchanged 2 3 (exchanged 2 3 corner)) corner twice v (mean_exchanged (exchanged 2 3 corner) v mean)
  where
    twice : (k : ℕ) → k < 4 → exchanged 2 3 (exchanged 2 3 corner) k ≡ corner k
    twice zero l = refl
    twice (suc zero) l = refl
    twice (suc (suc zero)) l = refl
    twice (suc (suc (suc zero))) l = refl
    twice (suc (suc (suc (suc k)))) l = absurd (omega arith)
