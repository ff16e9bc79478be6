-- Of specs/Descent.antt, the theorems that an edit of a definition breaks, and what only they need.
use Rattle.std.specs.Prelude.{◌≡◌, ◌⊎◌, ℕ, zero, suc, ◌+◌, ◌≤◌, ◌<◌, ltb}
use Rattle.std.proofs.Common.{sym, ◌∙◌, subst, le_refl, not-suc-le-zero, arith, ltb-true, ltb-false}
use Rattle.std.proofs.Math.Path.{ap}
use Rattle.std.proofs.Math.Logic.{⊎_elim}
use Rattle.laws.specs.Below.{either}
use Rattle.piece.specs.Ends.{lower_end, higher_end}
use Rattle.piece_cut.specs.Cut.{cut_of}
use Rattle.mesh_tables.specs.Tables.{Tables, base_records, all_records, piece_at}
use Rattle.check_meaning.specs.Accepted.{RightMesh, RightCut, ChildOf, RightCuts}
use Rattle.check_meaning.proofs.Bases.{marks_valid}
use Rattle.check_meaning.specs.Cuts.{Four}
use Rattle.check_meaning.specs.Descent.{lower_is_end, higher_is_end, Descends, Sound, child_sound}
use Rattle.check_meaning.specs.Descent as Specs

module _ (m : Tables) where
  -- A cut record's first child has the new vertex in place of the higher end, its second in place of the lower.
  pub child_descends : (c n : ℕ) → ChildOf m c n → RightCut m n → Descends m c
  unfolding cut_of
  child_descends c n h r =
      let p = piece_at m n in
      ⊎_elim
      (λ e.
      let (l, t) = higher_is_end p p.edge in
      record { parent = n; child = h; cut = r; before = omega (arith, r.above); slot = higher_end p p.edge; small = l; end = t; is = ap (piece_at m) (sym e) ∙ r.first })
      (λ e.
      let (l, t) = lower_is_end p p.edge in
      record { parent = n; child = h; cut = r; before = omega (arith, r.above); slot = lower_end p p.edge; small = l; end = t; is = ap (piece_at m) (sym e) ∙ r.second })
      h.is

  -- Every record beyond the base descends from one before it.
  pub descends : RightCuts m → (c : ℕ) → base_records m ≤ c → c < all_records m → Descends m c
  descends r c b l = let o = r.one_parent_lem c b l in child_descends c o.it o.holds (r.cuts o.it o.there o.holds.cut)

  -- What holds of the base, and of each record that descends from one of which it holds, holds of every record.
  pub by_descent : RightCuts m → (P : ℕ → Type 0) → ((n : ℕ) → n < base_records m → P n) →
      ((c : ℕ) → c < all_records m → (d : Descends m c) → P d.parent → P c) → (n : ℕ) → n < all_records m → P n
  by_descent r P base step n l = reach (suc n) n (le_refl (suc n)) l
    where
      reach : (b n : ℕ) → n < b → n < all_records m → P n
      reach zero n h l = absurd (not-suc-le-zero h)
      reach (suc b) n h l =
          ⊎_elim
          (λ t. base n (ltb-true n (base_records m) t))
          (λ f. let d = descends r n (ltb-false n (base_records m) f) l in step n l d (reach b d.parent (omega (arith, d.before)) (omega (arith, d.before))))
          (either (ltb n (base_records m)))

module _ (m : Tables) (a : RightMesh m) (four : (n : ℕ) → Four (piece_at m n)) where
  -- As specs/ has it.
  abbrev child_generation : (c : ℕ) → c < all_records m → (d : Descends m c) → (piece_at m c).generation ≡ (piece_at m d.parent).generation + 1
  child_generation = Specs.child_generation m a four

  -- Every record is sound: in the base the rules say so.
  pub every_sound : (n : ℕ) → n < all_records m → Sound m (piece_at m n)
  every_sound =
      by_descent m a.cuts (λ n. Sound m (piece_at m n))
      (λ n l.
      record {
        four = four n;
        there = λ k small. omega (arith, (a.base_records_lem n l).in_base_lem k small, a.counts.vertices_within);
        valid = marks_valid (piece_at m n) (a.base_records_lem n l).flag (four n).marks (a.base_marks n l);
      })
      (λ c l d h. subst (Sound m) (sym d.is) (child_sound m (piece_at m d.parent) d.cut.w d.slot h d.cut.made.there d.small d.end))

  -- So no record of the base is a child.
  pub base_no_child : (c n : ℕ) → c < base_records m → n < all_records m → ChildOf m c n → ⊥
  base_no_child c n b l h =
      omega (
        arith,
        (a.base_records_lem c b).generation,
        child_generation c (omega (arith, a.counts.records_within)) (child_descends m c n h (a.cuts.cuts n l h.cut)),
      )
