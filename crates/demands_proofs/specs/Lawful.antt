-- The tables that check accepts are lawful tables of the mathematics: of rules 3 to 7 and 9 each law, without the limits.
-- Assumes nothing.
use Rattle.std.specs.Prelude.{◌≡◌, refl, ◌⊎◌, eqb}
use Rattle.std.proofs.Common.{sym, ◌∙◌, subst, inl, inr, ⊎_elim, eq-or-lt_of_le, eqb-true}
use Rattle.std.proofs.Math.Path.{ap}
use Prim.Native.Nat.{ℕ, suc, ◌+◌, ◌<◌}
use native.Mathlib.Omega.{arith}
use Rattle.std.proofs.lemmas.Bool.{eqb-false}
use Rattle.laws.specs.Below.{either}
use Rattle.laws.specs.Pairs.{SamePair, pair_through, pair_turned}
use Rattle.piece.specs.declared.Piece.{Piece}
use Rattle.piece_edges.specs.Edges.{low_slot, high_slot}
use Rattle.piece.specs.Shape.{shape_of, mark}
use Rattle.piece.specs.Ends as Ends
use Rattle.piece.specs.Ends.{corner_at, ends_of}
use Rattle.piece_cut.specs.Cut.{child_of, cut_of}
use Rattle.mesh_tables.specs.Tables as Check
use Rattle.mesh_tables.specs.Tables.{base_records, all_records, piece_at, refinement_ends}
use Rattle.check_meaning.specs.Accepted as Accepted
use Rattle.check_meaning.specs.Accepted.{RightMesh, RightCut, HasParents, SameRecordFace, first_child}
use Rattle.check_meaning.proofs.Bases.{marks_valid}
use Rattle.check_meaning.specs.Cuts.{Four, is_cut_lem}
use Rattle.check_meaning.specs.Descent.{lower_is_end, higher_is_end, child_corner}
use Rattle.build_meaning.specs.Edges.{Different, ends_are}
use Rattle.cuts.specs.Tables.{lower_end, higher_end, Midpoint, ChildOf, ProperlyCut, IsChild, SameEdge, Lawful}
use Rattle.cuts.specs.LinkNames.{base_or_beyond}
use Rattle.demands_proofs.specs.Link.{link}

-- ---- two numbers

-- One is before the other, or they are one.
which_first : (r s : ℕ) → (r < s) ⊎ ((s ≡ r) ⊎ (s < r))
which_first r s = ⊎_elim inl (λ l. inr (eq-or-lt_of_le l)) (base_or_beyond r s)

-- ---- pairs of ends

-- Edges with the same lower and the same higher end have the same two corners.
pub ends_pair : (p q : Piece) (e f : ℕ) → ends_of p e ≡ ends_of q f → SamePair (corner_at p (low_slot e)) (corner_at p (high_slot e)) (corner_at q (low_slot f)) (corner_at q (high_slot f))
ends_pair p q e f h = pair_through (ends_are p e).0 (rw h (ends_are q f).0)

-- A piece with different corners has no face twice.
face_once : (p : Piece) → Different p → (i j : ℕ) → i < 4 → SameRecordFace p i p j → i ≡ j
face_once p different i j l same =
    ⊎_elim (eqb-true i j)
    (λ f. let (k, b, o, e) = (same (corner_at p i)).1 (i, l, eqb-false i j f, refl) in absurd (o (different k i b l e)))
    (either (eqb i j))

-- ---- one cut

module _ (m : Check.Tables) where
  -- A vertex that has the ends of a record's refinement edge as parents is its midpoint.
  midpoint : (w n : ℕ) → Accepted.Made m w → HasParents m (refinement_ends (piece_at m n)) w → Midpoint (link m) w n
  unfolding ends_of Ends.lower_end Ends.higher_end lower_end higher_end
  midpoint w n d h = record { made = (d.beyond, d.there); lower = h.p; higher = h.q }

  -- A piece that is what cutting another gives, with w in slot k, is so in the tables.
  child : (n w k c : ℕ) → Four (piece_at m n) → k < 4 → (piece_at m n).generation < 255 → piece_at m c ≡ child_of (piece_at m n) w k → ChildOf (link m) n w k (link m) c
  unfolding child_of
  child n w k c four small l e =
      record {
        shape = ap shape_of e;
        corner = λ j b. ap (λ (p : Piece). corner_at p j) e ∙ child_corner (piece_at m n) w k four small j;
        generation = ap (λ (p : Piece). p.generation) e ∙ omega arith;
      }

  properly_cut_lem : (n : ℕ) → Four (piece_at m n) → (piece_at m n).generation < 255 → RightCut m n → ProperlyCut (link m) n
  unfolding cut_of Ends.lower_end Ends.higher_end lower_end higher_end
  properly_cut_lem n four l r =
      let p = piece_at m n in
      let next : suc (first_child m n) ≡ first_child m n + 1 = omega arith in
      record {
        w = r.w;
        midpoint = midpoint r.w n r.made r.parents;
        greater = r.above;
        inside = omega (arith, r.there);
        first_child = child n r.w (Ends.higher_end p p.edge) (first_child m n) four (higher_is_end p p.edge).0 l r.first;
        second_child = child n r.w (Ends.lower_end p p.edge) (suc (first_child m n)) four (lower_is_end p p.edge).0 l (ap (piece_at m) next ∙ r.second);
      }

  -- A child of a cut record, as the two say it.
  is_child : (c n : ℕ) → n < all_records m → Accepted.ChildOf m c n → IsChild (link m) n c
  is_child c n l h =
      record {
        inside = l;
        cut = (is_cut_lem m n).1 h.cut;
        which = ⊎_elim (λ e. inl (sym e)) (λ e. inr (omega arith)) h.is;
      }

  child_of_lem : (c n : ℕ) → IsChild (link m) n c → Accepted.ChildOf m c n
  child_of_lem c n h = record { cut = (is_cut_lem m n).0 h.cut; is = ⊎_elim (λ e. inl (sym e)) (λ e. inr (omega arith)) h.which }

-- ---- all laws

pub accepted_lawful : (m : Check.Tables) → RightMesh m → ((n : ℕ) → Four (piece_at m n)) → Lawful (link m)
accepted_lawful m a four =
    record {
      vertex_counts = a.counts.vertices_within;
      record_counts = a.counts.records_within;
      parents = λ v d. let x = a.vertices.made v (record { beyond = d.0; there = d.1 }) in (x.p<q, x.q<v);
      pair_once = λ v w dv dw. a.vertices.one_pair v w (record { beyond = dv.0; there = dv.1 }) (record { beyond = dw.0; there = dw.1 });
      base_corners = λ r h. (a.base_records_lem r h).in_base_lem;
      base_different = λ r h. (a.base_records_lem r h).different;
      base_valid = λ r h. marks_valid (piece_at m r) (a.base_records_lem r h).flag (four r).marks (a.base_marks r h);
      base_unset = λ r h. (a.base_records_lem r h).flag;
      base_generation = λ r h. (a.base_records_lem r h).generation;
      base_alone =
          λ r s hr hs same.
          ⊎_elim (λ l. absurd (a.faces.different r s l hs same))
          (⊎_elim sym (λ l. absurd (a.faces.different s r l hr (λ x. ((same x).1, (same x).0)))))
          (which_first r s);
      base_shared = shared;
      properly_cut = λ r h c. properly_cut_lem m r (four r) (omega (arith, a.cuts.generations r h)) (a.cuts.cuts r h ((is_cut_lem m r).0 c));
      has_parent = λ c b h. let o = a.cuts.one_parent_lem c b h in (o.it, is_child m c o.it o.there o.holds);
      one_parent =
          λ c b h r s x y.
          let o = a.cuts.one_parent_lem c b h in
          o.only r x.inside (child_of_lem m c r x) ∙ sym (o.only s y.inside (child_of_lem m c s y));
      midpoint_of =
          λ v d.
          let it : Accepted.Made m v = record { beyond = d.0; there = d.1 } in
          let (n, l, c, h) = a.cuts.midpoints v it in
          (n, l, (is_cut_lem m n).1 c, midpoint m v n it h);
    }
  where
    ordered : (r s : ℕ) → r < s → s < base_records m → (i j : ℕ) → i < 4 → j < 4 → SameRecordFace (piece_at m r) i (piece_at m s) j → SameEdge (link m) r (mark (shape_of (piece_at m r)) i) s (mark (shape_of (piece_at m s)) j)
    ordered r s l hs i j hi hj same =
        ends_pair (piece_at m r) (piece_at m s) (mark (shape_of (piece_at m r)) i) (mark (shape_of (piece_at m s)) j) (a.faces.one_mark r s i j l hs hi hj same)

    alone : (r : ℕ) → r < base_records m → (i j : ℕ) → i < 4 → SameRecordFace (piece_at m r) i (piece_at m r) j → SameEdge (link m) r (mark (shape_of (piece_at m r)) i) r (mark (shape_of (piece_at m r)) j)
    alone r h i j hi same =
        let e : i ≡ j = face_once (piece_at m r) (a.base_records_lem r h).different i j hi same in
        subst (λ (k : ℕ). SameEdge (link m) r (mark (shape_of (piece_at m r)) i) r (mark (shape_of (piece_at m r)) k)) e (inl (refl, refl))

    shared : (r s : ℕ) → r < base_records m → s < base_records m → (i j : ℕ) → i < 4 → j < 4 → SameRecordFace (piece_at m r) i (piece_at m s) j → SameEdge (link m) r (mark (shape_of (piece_at m r)) i) s (mark (shape_of (piece_at m s)) j)
    shared r s hr hs i j hi hj same =
        ⊎_elim (λ l. ordered r s l hs i j hi hj same)
        (⊎_elim
        (λ e.
        subst (λ (n : ℕ). SameRecordFace (piece_at m n) i (piece_at m s) j → SameEdge (link m) n (mark (shape_of (piece_at m n)) i) s (mark (shape_of (piece_at m s)) j)) e (alone s hs i j hi) same)
        (λ l. pair_turned (ordered s r l hr j i hj hi (λ x. ((same x).1, (same x).0)))))
        (which_first r s)
