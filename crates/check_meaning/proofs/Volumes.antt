-- Of specs/Volumes.antt, the theorems that an edit of a definition breaks, and what only they need.
use Rattle.std.specs.Prelude.{◌≡◌, Bool, true, false, ◌||◌, ◌≢◌, ◌*ℤ◌, ◌<ℤ◌}
use Rattle.std.proofs.Math.Path.{refl, sym, ap, ap₂, fun_ext}
use Rattle.std.proofs.Common.{◌∙◌}
use Rattle.std.proofs.Math.Bool.{cond}
use Rattle.std.proofs.Math.Logic.{⊎_elim}
use Prim.Native.Nat.{ℕ, ◌+◌, ◌*◌, ◌<◌}
use Rattle.std.proofs.Math.Nat.{mul_comm}
use native.Mathlib.Omega.{arith}
use Rattle.std.proofs.Math.IntN.{ℤ, pos, nat_abs}
use Rattle.std.proofs.Math.Dec.{eqb, ltb}
use borrow.Author.Tests.{ltb-true, ltb-false, eqb-true, eqb-false, ne_eqb}
use Rattle.algebra.specs.Absolute.{abs_times}
use Rattle.laws.specs.Below.{put_at, sum_below, sum_same, either}
use Rattle.piece.specs.declared.Piece.{Piece}
use Rattle.piece.specs.Shape.{shape_of}
use Rattle.piece.specs.Ends.{corner_at, lower_end, higher_end, ends_of}
use Rattle.piece_cut.specs.Cut.{child_of, cut_of}
use Rattle.grid_volume.specs.Volume.{signed_of, sixfold_of}
use Rattle.grid.specs.Corners.{Midpoint}
use Rattle.grid_volume.specs.VolumeTheorems.{half_signed, midpoint_turned}
use Rattle.grid_volume.specs.Handed.{half_positive}
use Rattle.stored.specs.Layout.{none}
use Rattle.mesh_tables.specs.Tables.{Tables, base_records, all_records, piece_at, is_leaf, corner_point, signed_at, sixfold_at}
use Rattle.check_refusals.specs.Refusals.{is_child_of}
use Rattle.check_refusals.specs.Check.{leaf_sixfold, sixfold}
use Rattle.check_meaning.specs.Tests.{fails_unless}
use Rattle.check_meaning.specs.Accepted.{RightMesh, RightCut, first_child, point_at}
use Rattle.check_meaning.specs.Bases.{slots_apart, valid_is, base_right_handed}
use Rattle.check_meaning.specs.Cuts.{Four, child_of_lem}
use Rattle.check_meaning.specs.Descent.{ends_are, lower_is_end, higher_is_end, child_corner}
use Rattle.check_meaning.proofs.Descent.{by_descent, every_sound, base_no_child}
use Rattle.check_meaning.specs.Sums.{sum_plus, sum_of_none, sum_swap, sum_of_one, sum_of_part, sum_at_lem, sum_parts}
use Rattle.check_meaning.specs.Volumes.{signed, volume}

-- The child's corners are the parent's with w's place in slot k.
child_corners_lem : (m : Tables) (p : Piece) (w k : ℕ) → Four p → k < 4 → corner_point m.vertex_at (child_of p w k) ≡ put_at k (point_at m w) (corner_point m.vertex_at p)
child_corners_lem m p w k f l = fun_ext λ j. ap (point_at m) (child_corner p w k f l j) ∙ picked (eqb j k) w (corner_at p j)
  where
    picked : (b : Bool) (x y : ℕ) → point_at m (cond b x y) ≡ cond b (point_at m x) (point_at m y)
    picked true x y = refl
    picked false x y = refl

ends_apart : (p : Piece) (e : ℕ) → e < 6 → lower_end p e ≢ higher_end p e
ends_apart p e l q =
    slots_apart e l (⊎_elim (λ h. h.0 ∙ q ∙ sym h.1) (λ h. h.1 ∙ sym q ∙ sym h.0) (ends_are p e))

-- The volume of c, at each record of which it is a child.
abbrev share : Tables → ℕ → ℕ → ℕ
share m c n = cond (is_child_of (m.record_at n) c) (volume m c) 0

module _ (m : Tables) (a : RightMesh m) (four : (n : ℕ) → Four (piece_at m n)) where
  -- "a child's signed value is exactly half of its parent's"
  pub children_halve_signed : (n : ℕ) → n < all_records m → RightCut m n → (pos 2 *ℤ signed m (first_child m n) ≡ signed m n) × (pos 2 *ℤ signed m (first_child m n + 1) ≡ signed m n)
  unfolding cut_of ends_of signed_at
  children_halve_signed n l r =
      let p = piece_at m n in
      let u = lower_end p p.edge in
      let v = higher_end p p.edge in
      let corner = corner_point m.vertex_at p in
      let w = point_at m r.w in
      let sound = every_sound m a four n l in
      let lu = (lower_is_end p p.edge).0 in
      let lv = (higher_is_end p p.edge).0 in
      let apart = ends_apart p p.edge ((valid_is (shape_of p)).0 sound.valid.valid).0 in
      let middle : Midpoint w (corner u) (corner v) = rw (r.parents.p, r.parents.q) at (a.vertices.made r.w r.made).halfway in
      let first = ap (signed_at m.vertex_at) r.first ∙ ap signed_of (child_corners_lem m p r.w v sound.four lv) in
      let second = ap (signed_at m.vertex_at) r.second ∙ ap signed_of (child_corners_lem m p r.w u sound.four lu) in (
        ap (λ (z : ℤ). pos 2 *ℤ z) first ∙ half_signed corner w v u lv lu (λ e. apart (sym e)) (midpoint_turned w (corner u) (corner v) middle),
        ap (λ (z : ℤ). pos 2 *ℤ z) second ∙ half_signed corner w u v lu lv apart middle,
      )

  -- So every record is right-handed: the base is by rules 5 and 22.
  pub every_right_handed : (n : ℕ) → n < all_records m → pos 0 <ℤ signed m n
  unfolding signed_at sixfold_at sixfold_of
  every_right_handed =
      by_descent m a.cuts (λ n. pos 0 <ℤ signed m n)
      (base_right_handed m a.base_records_lem a.handed)
      (λ c l d h.
      let (first, second) = children_halve_signed d.parent (omega (arith, d.before)) d.cut in
      let twofold : ℕ → ℤ = λ n. pos 2 *ℤ signed m n in
      half_positive (signed m d.parent) (signed m c) (⊎_elim (λ e. ap twofold (sym e) ∙ first) (λ e. ap twofold (sym e) ∙ second) d.child.is) h)

  -- So each child of a cut record has half its volume.
  pub children_halve : (n : ℕ) → n < all_records m → RightCut m n → (volume m (first_child m n) * 2 ≡ volume m n) × (volume m (first_child m n + 1) * 2 ≡ volume m n)
  unfolding signed_at sixfold_at sixfold_of
  children_halve n l r = let (first, second) = children_halve_signed n l r in (half (signed m (first_child m n)) (signed m n) first, half (signed m (first_child m n + 1)) (signed m n) second)
    where
      half : (x y : ℤ) → pos 2 *ℤ x ≡ y → nat_abs x * 2 ≡ nat_abs y
      half x y e = mul_comm (nat_abs x) 2 ∙ sym (abs_times (pos 2) x) ∙ ap nat_abs e

  -- A record of the base is no child; any other is the child of exactly one.
  by_parents : (c : ℕ) → c < all_records m → sum_below (all_records m) (share m c) ≡ cond (ltb c (base_records m)) 0 (volume m c)
  by_parents c l =
      ⊎_elim
      (λ t. rw t (sum_of_none (all_records m) (share m c) (λ n b. rw ((fails_unless (child_of_lem m c n)).1 (base_no_child m a four c n (ltb-true c (base_records m) t) b)))))
      (λ f.
      let o = a.cuts.one_parent_lem c (ltb-false c (base_records m) f) l in
      rw f
      (sum_of_one (all_records m) o.it (share m c) o.there (λ n b other. rw ((fails_unless (child_of_lem m c n)).1 (λ h. other (o.only n b h))))
      ∙ rw ((child_of_lem m c o.it).1 o.holds)))
      (either (ltb c (base_records m)))

  -- A leaf has no child; a cut record's two have its volume together.
  by_children : (n : ℕ) → n < all_records m → sum_below (all_records m) (λ c. share m c n) ≡ cond (is_leaf m n) 0 (volume m n)
  unfolding is_child_of
  by_children n l =
      ⊎_elim
      (λ t. sum_of_none (all_records m) (λ c. share m c n) (λ c b. rw t) ∙ rw t)
      (λ f.
      let k = first_child m n in
      let r = a.cuts.cuts n l (eqb-false k none f) in
      let both : volume m k + volume m (k + 1) ≡ volume m n = omega (arith, (children_halve n l r).0, (children_halve n l r).1) in
      sum_same (all_records m) (λ c. share m c n) (λ c. cond (eqb k c) (volume m c) 0 + cond (eqb (k + 1) c) (volume m c) 0) (λ c b. rw f (either_child k c (volume m c)))
      ∙ sum_plus (all_records m) (λ c. cond (eqb k c) (volume m c) 0) (λ c. cond (eqb (k + 1) c) (volume m c) 0)
      ∙ ap₂ ◌+◌ (sum_at_lem (all_records m) k (volume m) (omega (arith, r.there))) (sum_at_lem (all_records m) (k + 1) (volume m) r.there)
      ∙ both
      ∙ rw f)
      (either (is_leaf m n))
    where
      either_child : (k c v : ℕ) → cond (eqb k c || eqb (k + 1) c) v 0 ≡ cond (eqb k c) v 0 + cond (eqb (k + 1) c) v 0
      either_child k c v =
          ⊎_elim
          (λ t. let same : k ≡ c = eqb-true k c t in rw (t, ne_eqb (k + 1) c (omega arith)) (omega arith))
          (λ f. rw f (omega arith))
          (either (eqb k c))

  -- The summed sixfold volume of the leaves, which check returns, is that of the base records.
  pub volume_kept : sixfold m ≡ sum_below (base_records m) (volume m)
  unfolding sixfold leaf_sixfold
  volume_kept =
      let leaves : sixfold m ≡ sum_below (all_records m) (λ n. cond (is_leaf m n) (volume m n) 0) = refl in
      let by_leaf = sum_parts (all_records m) (is_leaf m) (volume m) in
      let by_base = sum_parts (all_records m) (λ c. ltb c (base_records m)) (volume m) in
      let base = sum_of_part (all_records m) (base_records m) (volume m) a.counts.records_within in
      let made : sum_below (all_records m) (λ c. cond (ltb c (base_records m)) 0 (volume m c)) ≡ sum_below (all_records m) (λ n. cond (is_leaf m n) 0 (volume m n)) =
      sym (sum_same (all_records m) (λ c. sum_below (all_records m) (share m c)) (λ c. cond (ltb c (base_records m)) 0 (volume m c)) by_parents)
      ∙ sum_swap (all_records m) (all_records m) (share m)
      ∙ sum_same (all_records m) (λ n. sum_below (all_records m) (λ c. share m c n)) (λ n. cond (is_leaf m n) 0 (volume m n)) by_children in
      omega arith
