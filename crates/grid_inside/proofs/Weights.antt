-- Of specs/Weights.antt, the theorems that an edit of a definition breaks, and what only they need.
use Rattle.std.specs.Prelude.{◌≡◌, true, ◌↔◌, ℤ, negsuc, nat_abs, ◌+ℤ◌, ◌*ℤ◌, ◌<ℤ◌}
use Rattle.std.proofs.Math.Path.{refl, sym, ap, subst⁻¹}
use Rattle.std.proofs.Common.{◌∙◌, true≢false, mul-pos, arith, lit<, ltb→lt, le-ltb}
use Rattle.std.proofs.Math.Bool.{false, not}
use Prim.Native.Nat.{ℕ, zero, suc, ◌+◌, ◌*◌, ◌≤◌, ◌<◌, zero-le}
use Rattle.std.proofs.Math.Nat.{not-suc-le-zero}
use Rattle.std.proofs.Math.IntN.{pos, neg_ℤ, pos-ne-negsuc}
use Rattle.std.proofs.lemmas.Bool.{not-true}
use Rattle.laws.specs.Below.{put_at, all_at, all_of}
use Rattle.grid.specs.Places.{Point}
use Rattle.grid_volume.specs.Volume.{signed_of, is_negative, left_handed}
use Rattle.grid_volume.specs.Formal.{own}
use Rattle.grid_inside.specs.Inside.{part_of, lies_in}
use Rattle.grid_inside.specs.Parts.{parts_sum, parts_mean_x, parts_mean_y, parts_mean_z}
use Rattle.grid_inside.specs.Weights.{WeightedMean}
use Rattle.grid_inside.specs.Weights as Specs

-- ---- the four determinants are weights

module _ (corner : ℕ → Point) (v : Point) (inside : lies_in corner v ≡ true) where
  abbrev absolute : ℕ → ℕ
  absolute k = nat_abs (part_of corner v k)

  -- none of the four is negative
  part_kept : (k : ℕ) → k < 4 → pos (absolute k) ≡ part_of corner v k
  unfolding lies_in left_handed
  part_kept k h =
      kept (part_of corner v k)
      (not-true (is_negative (part_of corner v k)) (all_at (λ j. not (left_handed (put_at j v corner))) 4 k inside h))
    where
      kept : (z : ℤ) → is_negative z ≡ false → pos (nat_abs z) ≡ z
      kept (pos n) e = refl
      kept (negsuc n) e = absurd (true≢false e)

  absolute_sum : pos (absolute 0 + absolute 1 + absolute 2 + absolute 3) ≡ signed_of corner
  absolute_sum =
      (λ i. part_kept 0 (lit< tt) i +ℤ part_kept 1 (lit< tt) i +ℤ part_kept 2 (lit< tt) i +ℤ part_kept 3 (lit< tt) i) ∙ parts_sum corner v

  -- one coordinate of the mean, from what `Parts` says of it
  absolute_mean : (c0 c1 c2 c3 c : ℤ) →
      part_of corner v 0 *ℤ c0 +ℤ part_of corner v 1 *ℤ c1 +ℤ part_of corner v 2 *ℤ c2 +ℤ part_of corner v 3 *ℤ c3 ≡ signed_of corner *ℤ c →
      pos (absolute 0) *ℤ c0 +ℤ pos (absolute 1) *ℤ c1 +ℤ pos (absolute 2) *ℤ c2 +ℤ pos (absolute 3) *ℤ c3
      ≡ pos (absolute 0 + absolute 1 + absolute 2 + absolute 3) *ℤ c
  absolute_mean c0 c1 c2 c3 c e =
      (λ i. part_kept 0 (lit< tt) i *ℤ c0 +ℤ part_kept 1 (lit< tt) i *ℤ c1 +ℤ part_kept 2 (lit< tt) i *ℤ c2 +ℤ part_kept 3 (lit< tt) i *ℤ c3)
      ∙ e ∙ ap (λ (z : ℤ). z *ℤ c) (sym absolute_sum)

  weights_of : pos 0 <ℤ signed_of corner → WeightedMean corner v
  weights_of solid =
      record {
        weight = absolute;
        some = above (absolute 0 + absolute 1 + absolute 2 + absolute 3) (subst⁻¹ (λ (z : ℤ). pos 0 <ℤ z) absolute_sum solid);
        x = absolute_mean (corner 0).x (corner 1).x (corner 2).x (corner 3).x v.x (parts_mean_x corner v);
        y = absolute_mean (corner 0).y (corner 1).y (corner 2).y (corner 3).y v.y (parts_mean_y corner v);
        z = absolute_mean (corner 0).z (corner 1).z (corner 2).z (corner 3).z v.z (parts_mean_z corner v);
      }
    where
      above : (n : ℕ) → pos 0 <ℤ pos n → 1 ≤ n
      above n h = ltb→lt 0 n h.lt

module _ (corner : ℕ → Point) (v : Point) (mean : WeightedMean corner v) where
  -- As specs/ has them.
  abbrev sum : ℤ
  sum = Specs.sum corner v mean

  abbrev share : (k : ℕ) → k < 4 → sum *ℤ part_of corner v k ≡ pos (mean.weight k) *ℤ signed_of corner
  share = Specs.share corner v mean

  inside_of : pos 0 <ℤ signed_of corner → lies_in corner v ≡ true
  unfolding lies_in left_handed
  inside_of solid =
      all_of (λ k. not (left_handed (put_at k v corner))) 4
      (λ k h. ap not (not_below (mean.weight 0 + mean.weight 1 + mean.weight 2 + mean.weight 3) (mean.weight k) (part_of corner v k) (signed_of corner) mean.some solid (share k h)))
    where
      never : (n m : ℕ) → 0 < n → neg_ℤ (pos n) ≡ pos m → ⊥
      never zero m h e = not-suc-le-zero h
      never (suc n) m h e = pos-ne-negsuc m n (sym e)

      not_below : (n m : ℕ) (part own : ℤ) → 1 ≤ n → pos 0 <ℤ own → pos n *ℤ part ≡ pos m *ℤ own → is_negative part ≡ false
      not_below n m (pos a) own h l e = le-ltb a 0 zero-le
      not_below n m (negsuc a) (pos b) h l e = absurd (never (n * suc a) (m * b) (mul-pos h (omega arith)) e)
      not_below n m (negsuc a) (negsuc b) h l e = absurd l.lt

-- A point lies in a right-handed piece exactly if it is a weighted mean of its corners.
pub closed_exactly : (corner : ℕ → Point) (v : Point) → pos 0 <ℤ signed_of corner → (lies_in corner v ≡ true) ↔ WeightedMean corner v
closed_exactly corner v solid = (λ inside. weights_of corner v inside solid, λ mean. inside_of corner v mean solid)
