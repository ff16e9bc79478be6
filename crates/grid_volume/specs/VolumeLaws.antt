-- What code that computes sixfold volumes needs, and how large they can be.
-- Assumes nothing.
use Rattle.std.specs.Prelude.{◌≡◌, List, [], ◌∷◌, ℕ, zero, suc, ◌*◌, ◌^◌, ◌≤◌, get_or, ℤ, pos, nat_abs, ◌+ℤ◌, ◌-ℤ◌, ◌*ℤ◌}
use Rattle.std.proofs.Common.{sym, ◌∙◌, zero-le}
use Rattle.std.proofs.Math.Path.{subst⁻¹}
use Rattle.algebra.specs.Absolute.{difference_is}
use Rattle.grid.specs.declared.Place.{Place}
use Rattle.grid.specs.Places.{greatest_place, coordinate, point_of}
use Rattle.grid.specs.PlaceLaws.{Held, coordinates_differ, apart_within}
use Rattle.grid_volume.specs.Volume.{entry, minor_of, determinant_of, difference_of, differences_of, sixfold_of, corners_of}
use Rattle.grid_volume.specs.Exact.{Holds, read_back, itself, passed, stored, returned, sum, difference, product}

-- every entry is at most k in absolute value
pub record Within (k : ℕ) (m : List (List ℤ)) : Type 0 where
  pub at : (i j : ℕ) → nat_abs (entry m i j) ≤ k

-- r is the difference of two places, which is small
pub record Difference (p q : Place) (r : List ℤ) : Type 0 where
  pub is : r ≡ difference_of (point_of p) (point_of q)
  pub small : (j : ℕ) → nat_abs (get_or r j (pos 0)) ≤ greatest_place

-- the determinant of entries up to 65,535
pub determinant_within : (m : List (List ℤ)) → Within greatest_place m → nat_abs (determinant_of m) ≤ 6 * greatest_place ^ 3
unfolding determinant_of minor_of
determinant_within m h =
    let e : (i j : ℕ) → Holds greatest_place (entry m i j) (entry m i j) = λ i j. itself greatest_place (entry m i j) (h.at i j) in
    (sum (difference
    (product (e 0 0) (difference (product (e 1 1) (e 2 2)) (product (e 1 2) (e 2 1))))
    (product (e 0 1) (difference (product (e 1 0) (e 2 2)) (product (e 1 2) (e 2 0)))))
    (product (e 0 2) (difference (product (e 1 0) (e 2 1)) (product (e 1 1) (e 2 0))))).small

-- an entry as it is passed to a call
pub entry_passed : (m : List (List ℤ)) → Within greatest_place m → (i j : ℕ) → Holds greatest_place (entry m i j) (read_back (entry m i j))
entry_passed m h i j = passed greatest_place (entry m i j) (h.at i j) tt

-- a minor as it is returned by a call
pub minor_returned : (m : List (List ℤ)) → Within greatest_place m → (j k : ℕ) {x : ℤ} →
    x ≡ read_back (entry m 1 j) *ℤ read_back (entry m 2 k) -ℤ read_back (entry m 1 k) *ℤ read_back (entry m 2 j) →
    Holds (2 * greatest_place ^ 2) (minor_of m j k) (read_back x)
unfolding minor_of
minor_returned m h j k e =
    let at = entry_passed m h in
    stored (returned e (difference (product (at 1 j) (at 2 k)) (product (at 1 k) (at 2 j)))) tt

-- the row's sum with the three minors, as it is returned
pub determinant_returned : (m : List (List ℤ)) (h : Within greatest_place m) {x y z r : ℤ} →
    Holds (2 * greatest_place ^ 2) (minor_of m 1 2) x → Holds (2 * greatest_place ^ 2) (minor_of m 0 2) y → Holds (2 * greatest_place ^ 2) (minor_of m 0 1) z →
    r ≡ read_back (entry m 0 0) *ℤ x -ℤ read_back (entry m 0 1) *ℤ y +ℤ read_back (entry m 0 2) *ℤ z → read_back r ≡ determinant_of m
unfolding determinant_of
determinant_returned m h hx hy hz e =
    let at = entry_passed m h in
    (stored (returned e (sum (difference (product (at 0 0) hx) (product (at 0 1) hy)) (product (at 0 2) hz))) tt).is

-- three numbers each up to k, and 0 past them
pub three_within : (k : ℕ) (x y z : ℤ) → nat_abs x ≤ k → nat_abs y ≤ k → nat_abs z ≤ k → (j : ℕ) → nat_abs (get_or (x ∷ y ∷ z ∷ []) j (pos 0)) ≤ k
three_within k x y z f g h zero = f
three_within k x y z f g h (suc zero) = g
three_within k x y z f g h (suc (suc zero)) = h
three_within k x y z f g h (suc (suc (suc j))) = zero-le

pub rows_within : (k : ℕ) (r s t : List ℤ) → ((j : ℕ) → nat_abs (get_or r j (pos 0)) ≤ k) → ((j : ℕ) → nat_abs (get_or s j (pos 0)) ≤ k) → ((j : ℕ) → nat_abs (get_or t j (pos 0)) ≤ k) → Within k (r ∷ s ∷ t ∷ [])
rows_within k r s t f g h = record { at = rows }
  where
    rows : (i j : ℕ) → nat_abs (entry (r ∷ s ∷ t ∷ []) i j) ≤ k
    rows zero j = f j
    rows (suc zero) j = g j
    rows (suc (suc zero)) j = h j
    rows (suc (suc (suc i))) j = zero-le

-- a list of three numbers that are the places' own differences
pub difference_of_places : (p q : Place) {x y z : ℤ} → Held p → Held q →
    x ≡ pos p.x -ℤ pos q.x → y ≡ pos p.y -ℤ pos q.y → z ≡ pos p.z -ℤ pos q.z → Difference p q (x ∷ y ∷ z ∷ [])
unfolding difference_of
difference_of_places p q {x} {y} {z} h k ex ey ez =
    record {
      is = λ i. same p.x q.x ex i ∷ same p.y q.y ey i ∷ same p.z q.z ez i ∷ [];
      small = three_within greatest_place x y z (near p.x q.x ex h.x k.x) (near p.y q.y ey h.y k.y) (near p.z q.z ez h.z k.z);
    }
  where
    same : (m n : ℕ) {x : ℤ} → x ≡ pos m -ℤ pos n → x ≡ coordinate m -ℤ coordinate n
    same m n e = e ∙ difference_is m n ∙ sym (coordinates_differ m n)

    near : (m n : ℕ) {x : ℤ} → x ≡ pos m -ℤ pos n → m ≤ greatest_place → n ≤ greatest_place → nat_abs x ≤ greatest_place
    near m n e h k = subst⁻¹ (λ (z : ℤ). nat_abs z ≤ greatest_place) (same m n e) (apart_within greatest_place m n h k)

-- the sixfold volume of a piece at four places is at most six times the third power of 65,535
pub sixfold_within : (a b c d : Place) → Held a → Held b → Held c → Held d →
    sixfold_of (corners_of (point_of a) (point_of b) (point_of c) (point_of d)) ≤ 6 * greatest_place ^ 3
unfolding sixfold_of differences_of difference_of
sixfold_within a b c d ha hb hc hd =
    determinant_within _ (rows_within greatest_place _ _ _ (row b a hb ha) (row c a hc ha) (row d a hd ha))
  where
    row : (p q : Place) → Held p → Held q → (j : ℕ) → nat_abs (get_or (difference_of (point_of p) (point_of q)) j (pos 0)) ≤ greatest_place
    row p q h k =
        three_within greatest_place (coordinate p.x -ℤ coordinate q.x) (coordinate p.y -ℤ coordinate q.y) (coordinate p.z -ℤ coordinate q.z)
        (apart_within greatest_place p.x q.x h.x k.x) (apart_within greatest_place p.y q.y h.y k.y) (apart_within greatest_place p.z q.z h.z k.z)
