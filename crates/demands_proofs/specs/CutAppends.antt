-- One cut of the tables is one cut appended, as the mathematics of sets of cuts has it; every record keeps four corners and four marks; a vertex that it
-- makes stands halfway between its parents. Assumes nothing.
use Rattle.std.specs.Prelude.{◌≡◌, refl, Bool, true, false, not, cond, ◌⊎◌, ◌≢◌, eqb}
use Rattle.std.proofs.Math.Path.{sym, ap, ap₂}
use Rattle.std.proofs.Common.{◌∙◌, subst, inl, inr, ⊎_elim, eqb-true, eq-eqb, ne_eqb}
use Prim.Native.Nat.{ℕ, suc, ◌+◌, ◌≤◌, ◌<◌}
use native.Mathlib.Omega.{arith}
use Rattle.std.proofs.lemmas.Bool.{eqb-false}
use Rattle.laws.specs.Below.{either, put_at, any_below, any_fails_at, first_where, first_no, put_same, put_other}
use Rattle.cuts_names.specs.Lists.{both_ways}
use Rattle.piece.specs.declared.Piece.{Piece}
use Rattle.piece.specs.declared.Ends.{Ends}
use Rattle.piece.specs.Shape.{shape_of}
use Rattle.piece.specs.Ends as Ends
use Rattle.piece_cut.specs.Cut.{child_of, cut_of}
use Rattle.grid.specs.Places.{halfway_of}
use Rattle.stored.specs.declared.Vertex.{Vertex}
use Rattle.stored.specs.declared.Record.{Record}
use Rattle.stored.specs.Layout.{none}
use Rattle.mesh_tables.specs.Tables as Check
use Rattle.mesh_tables.specs.Tables.{base_vertices, all_vertices, base_records, all_records, piece_at, is_cut, has_parents, vertex_with, refinement_ends}
use Rattle.check_meaning.specs.Vertices.{parents_are}
use Rattle.check_meaning.specs.Cuts.{Four, cut_four}
use Rattle.check_meaning.specs.Descent.{child_corner, lower_is_end, higher_is_end}
use Rattle.refine_cut.specs.Cut.{midpoint_of, one_vertex_more, with_midpoint, cut_record, leaf_record, with_children, cut_at}
use Rattle.refine_pass.specs.Law.{midpoint_keeps, cut_record_count, cut_vertices_stay, cut_records_stay}
use Rattle.cuts.specs.Tables.{Lawful, Midpoint, ChildOf, OldVertex, NewVertex, Appended, lower_end, higher_end}
use Rattle.cuts.specs.LinkNames.{base_or_beyond}
use Rattle.cuts.specs.LinkNodes.{linked}
use Rattle.demands_proofs.specs.Link.{link}

-- Vertex v stands at half the sum of its parents' places, rounded down.
abbrev pub Halfway : Check.Tables → ℕ → Type 0
Halfway m v = (m.vertex_at v).place ≡ halfway_of (m.vertex_at (m.vertex_at v).p).place (m.vertex_at (m.vertex_at v).q).place

-- ---- the tables after a cut, number by number

module _ (m : Check.Tables) (n : ℕ) where
  -- The ends of record n's refinement edge, and the vertex at which it is cut.
  abbrev pub cut_ends : Ends
  cut_ends = refinement_ends (piece_at m n)

  abbrev pub cut_vertex : ℕ
  cut_vertex = vertex_with m cut_ends

  -- The base stays.
  pub bases_stay : (base_vertices (cut_at m n) ≡ base_vertices m) × (base_records (cut_at m n) ≡ base_records m)
  unfolding cut_at with_children with_midpoint
  bases_stay = go (eqb (vertex_with m cut_ends) (all_vertices m))
    where
      more : Check.Tables
      more = record { header = one_vertex_more m.header; vertex_at = put_at (all_vertices m) (midpoint_of m.vertex_at cut_ends) m.vertex_at; record_at = m.record_at }

      go : (b : Bool) → (base_vertices (cond b more m) ≡ base_vertices m) × (base_records (cond b more m) ≡ base_records m)
      go true = (refl, refl)
      go false = (refl, refl)

  -- Where no vertex has that parent pair, it is appended.
  pub vertex_appended : cut_vertex ≡ all_vertices m → (all_vertices (cut_at m n) ≡ suc (all_vertices m)) × ((cut_at m n).vertex_at (all_vertices m) ≡ midpoint_of m.vertex_at cut_ends)
  unfolding cut_at with_children with_midpoint
  vertex_appended e =
      rw (eq-eqb cut_vertex (all_vertices m) e) (omega arith, put_same (all_vertices m) (midpoint_of m.vertex_at cut_ends) m.vertex_at)

  -- Where one has it, none is appended.
  pub vertex_used : cut_vertex ≢ all_vertices m → all_vertices (cut_at m n) ≡ all_vertices m
  unfolding cut_at with_children with_midpoint
  vertex_used e = rw (ne_eqb cut_vertex (all_vertices m) e)

  -- The tables with the midpoint, and their records one change after the other: record n cut, its first child behind the others.
  abbrev half : Check.Tables
  half = with_midpoint m cut_ends

  abbrev marked_cut : ℕ → Record
  marked_cut = put_at n (cut_record (piece_at half n) (all_records half)) half.record_at

  abbrev with_first : ℕ → Record
  with_first = put_at (all_records half) (leaf_record (cut_of (piece_at half n) cut_vertex).first) marked_cut

  -- The children are leaves behind the other records.
  pub first_record : (cut_at m n).record_at (all_records m) ≡ leaf_record (cut_of (piece_at m n) cut_vertex).first
  unfolding cut_at with_children
  first_record =
      let count : all_records half ≡ all_records m = (midpoint_keeps m n).1 in
      ap (cut_at m n).record_at (sym count)
      ∙ put_other (all_records half + 1) (all_records half) (leaf_record (cut_of (piece_at half n) cut_vertex).second) with_first (λ e. omega arith)
      ∙ put_same (all_records half) (leaf_record (cut_of (piece_at half n) cut_vertex).first) marked_cut
      ∙ ap (λ (f : ℕ → Record). leaf_record (cut_of (f n).piece cut_vertex).first) (midpoint_keeps m n).0

  pub second_record : (cut_at m n).record_at (suc (all_records m)) ≡ leaf_record (cut_of (piece_at m n) cut_vertex).second
  unfolding cut_at with_children
  second_record =
      let number : suc (all_records m) ≡ all_records half + 1 = omega (arith, (midpoint_keeps m n).1) in
      ap (cut_at m n).record_at number
      ∙ put_same (all_records half + 1) (leaf_record (cut_of (piece_at half n) cut_vertex).second) with_first
      ∙ ap (λ (f : ℕ → Record). leaf_record (cut_of (f n).piece cut_vertex).second) (midpoint_keeps m n).0

  module _ (there : n < all_records m) where
    -- Record n has the first child's number and keeps its piece.
    pub cut_record_lem : (cut_at m n).record_at n ≡ cut_record (piece_at m n) (all_records m)
    unfolding cut_at with_children
    cut_record_lem =
        let count : all_records half ≡ all_records m = (midpoint_keeps m n).1 in
        put_other (all_records half + 1) n (leaf_record (cut_of (piece_at half n) cut_vertex).second) with_first (λ e. omega arith)
        ∙ put_other (all_records half) n (leaf_record (cut_of (piece_at half n) cut_vertex).first) marked_cut (λ e. omega arith)
        ∙ put_same n (cut_record (piece_at half n) (all_records half)) half.record_at
        ∙ ap₂ (λ (f : ℕ → Record) (k : ℕ). cut_record (f n).piece k) (midpoint_keeps m n).0 count

    -- So it is cut: the first child's number is not the one for none.
    pub now_cut_lem : all_records m < none → is_cut (cut_at m n) n ≡ true
    now_cut_lem few = ap (λ (x : Record). not (Check.uncut x)) cut_record_lem ∙ ap not (ne_eqb (all_records m) none (λ e. omega arith))

    -- Every record that was cut is cut still.
    pub cut_after : all_records m < none → (k : ℕ) → k < all_records m → (k ≢ n → is_cut m k ≡ true) → is_cut (cut_at m n) k ≡ true
    cut_after few k l was =
        ⊎_elim
        (λ t. ap (is_cut (cut_at m n)) (eqb-true k n t) ∙ now_cut_lem few)
        (λ f. let ne : k ≢ n = eqb-false k n f in ap (λ (x : Record). not (Check.uncut x)) (cut_records_stay m n k l ne) ∙ was ne)
        (either (eqb k n))

    -- Every old record keeps its piece.
    pub piece_stays : (k : ℕ) → k < all_records m → piece_at (cut_at m n) k ≡ piece_at m k
    piece_stays k l =
        ⊎_elim
        (λ t. let e = eqb-true k n t in ap (piece_at (cut_at m n)) e ∙ ap (λ (r : Record). r.piece) cut_record_lem ∙ ap (piece_at m) (sym e))
        (λ f. ap (λ (r : Record). r.piece) (cut_records_stay m n k l (eqb-false k n f)))
        (either (eqb k n))

-- ---- the midpoint, judged by parent pairs

module _ (m : Check.Tables) (n : ℕ) where
  -- The vertex with the parent pair of record n's refinement edge is its midpoint.
  midpoint_is : (v : ℕ) → v < all_vertices m → has_parents m (cut_ends m n) v ≡ true → Midpoint (link m) v n
  unfolding lower_end higher_end Ends.lower_end Ends.higher_end Ends.ends_of
  midpoint_is v l t = let (b, h) = (parents_are m (cut_ends m n) v).0 t in record { made = (b, l); lower = h.p; higher = h.q }

  is_midpoint : (v : ℕ) → Midpoint (link m) v n → has_parents m (cut_ends m n) v ≡ true
  unfolding lower_end higher_end Ends.lower_end Ends.higher_end Ends.ends_of
  is_midpoint v h = (parents_are m (cut_ends m n) v).1 (h.made.0, record { p = h.lower; q = h.higher })

  -- The vertex at which record n is cut is an old one, or the next.
  vertex_old : any_below (all_vertices m) (has_parents m (cut_ends m n)) ≡ true → OldVertex (link m) n (cut_vertex m n) (link (cut_at m n))
  unfolding vertex_with
  vertex_old t =
      let (l, h, before) = first_where (has_parents m (cut_ends m n)) (all_vertices m) t in
      record { count = vertex_used m n (λ e. omega arith); midpoint = midpoint_is (cut_vertex m n) l h }

  vertex_new : any_below (all_vertices m) (has_parents m (cut_ends m n)) ≡ false → NewVertex (link m) n (cut_vertex m n) (link (cut_at m n))
  unfolding vertex_with midpoint_of lower_end higher_end Ends.lower_end Ends.higher_end Ends.ends_of
  vertex_new f =
      let next : cut_vertex m n ≡ all_vertices m = first_no (has_parents m (cut_ends m n)) (all_vertices m) f in
      let appended = vertex_appended m n next in
      let here : (cut_at m n).vertex_at (cut_vertex m n) ≡ midpoint_of m.vertex_at (cut_ends m n) = ap (cut_at m n).vertex_at next ∙ appended.1 in
      record {
        none = λ v h. both_ways (is_midpoint v h) (any_fails_at (has_parents m (cut_ends m n)) (all_vertices m) v f h.made.1);
        count = appended.0;
        number = next;
        lower = ap (λ (x : Vertex). x.p) here;
        higher = ap (λ (x : Vertex). x.q) here;
      }

  vertex_either : OldVertex (link m) n (cut_vertex m n) (link (cut_at m n)) ⊎ NewVertex (link m) n (cut_vertex m n) (link (cut_at m n))
  vertex_either = ⊎_elim (λ t. inl (vertex_old t)) (λ f. inr (vertex_new f)) (either (any_below (all_vertices m) (has_parents m (cut_ends m n))))

-- ---- the children

-- What a cut appends is a child.
child_is : (m m' : Check.Tables) (n w k c : ℕ) → Four (piece_at m n) → k < 4 → (piece_at m n).generation < 255 → piece_at m' c ≡ child_of (piece_at m n) w k → ChildOf (link m) n w k (link m') c
unfolding child_of
child_is m m' n w k c four small young is =
    record {
      shape = ap shape_of is;
      corner = λ j l. ap (λ (p : Piece). Ends.corner_at p j) is ∙ child_corner (piece_at m n) w k four small j;
      generation = ap (λ (p : Piece). p.generation) is ∙ omega arith;
    }

module _ (m : Check.Tables) (n : ℕ) (there : n < all_records m) (four : Four (piece_at m n)) (young : (piece_at m n).generation < 255) where
  first_child_lem : ChildOf (link m) n (cut_vertex m n) (higher_end (link m) n) (link (cut_at m n)) (all_records m)
  unfolding cut_of higher_end Ends.higher_end
  first_child_lem =
      child_is m (cut_at m n) n (cut_vertex m n) (Ends.higher_end (piece_at m n) (piece_at m n).edge) (all_records m) four (higher_is_end (piece_at m n) (piece_at m n).edge).0 young
      (ap (λ (r : Record). r.piece) (first_record m n))

  second_child_lem : ChildOf (link m) n (cut_vertex m n) (lower_end (link m) n) (link (cut_at m n)) (suc (all_records m))
  unfolding cut_of lower_end Ends.lower_end
  second_child_lem =
      child_is m (cut_at m n) n (cut_vertex m n) (Ends.lower_end (piece_at m n) (piece_at m n).edge) (suc (all_records m)) four (lower_is_end (piece_at m n) (piece_at m n).edge).0 young
      (ap (λ (r : Record). r.piece) (second_record m n))

  -- ---- one cut appended

  pub cut_appends : all_records m < none → Appended (link m) n (cut_vertex m n) (link (cut_at m n))
  cut_appends few =
      record {
        base_vertices = (bases_stay m n).0;
        base_records = (bases_stay m n).1;
        p = λ v l. ap (λ (x : Vertex). x.p) (cut_vertices_stay m n v l);
        q = λ v l. ap (λ (x : Vertex). x.q) (cut_vertices_stay m n v l);
        shape = λ r l. ap shape_of (piece_stays m n there r l);
        corner = λ r l j b. ap (λ (p : Piece). Ends.corner_at p j) (piece_stays m n there r l);
        generation = λ r l. ap (λ (p : Piece). p.generation) (piece_stays m n there r l);
        cut = λ r l ne. ap (λ (x : Record). not (Check.uncut x)) (cut_records_stay m n r l ne);
        first = λ r l ne. ap (λ (x : Record). x.first_child) (cut_records_stay m n r l ne);
        now_cut = now_cut_lem m n there few;
        now_first = ap (λ (x : Record). x.first_child) (cut_record_lem m n there);
        records = cut_record_count m n ∙ omega arith;
        first_child = first_child_lem;
        second_child = second_child_lem;
        first_uncut = ap (λ (x : Record). not (Check.uncut x)) (first_record m n);
        second_uncut = ap (λ (x : Record). not (Check.uncut x)) (second_record m n);
        vertex = vertex_either m n;
      }

-- Every record has four corners and four marks still.
pub cut_all_four : (m : Check.Tables) (n : ℕ) → n < all_records m → ((k : ℕ) → k < all_records m → Four (piece_at m k)) → (k : ℕ) → k < all_records (cut_at m n) → Four (piece_at (cut_at m n) k)
cut_all_four m n there all k l =
    ⊎_elim
    (λ b. subst Four (sym (piece_stays m n there k b)) (all k b))
    (λ b. ⊎_elim (λ t. rw (eqb-true k (all_records m) t) first_four) (λ f. rw (second b (eqb-false k (all_records m) f)) second_four) (either (eqb k (all_records m))))
    (base_or_beyond k (all_records m))
  where
    children : Four (cut_of (piece_at m n) (cut_vertex m n)).first × Four (cut_of (piece_at m n) (cut_vertex m n)).second
    children = cut_four (piece_at m n) (cut_vertex m n) (all n there)

    first_four : Four (piece_at (cut_at m n) (all_records m))
    first_four = subst Four (sym (ap (λ (r : Record). r.piece) (first_record m n))) children.0

    second_four : Four (piece_at (cut_at m n) (suc (all_records m)))
    second_four = subst Four (sym (ap (λ (r : Record). r.piece) (second_record m n))) children.1

    second : all_records m ≤ k → k ≢ all_records m → k ≡ suc (all_records m)
    second b ne = omega (arith, cut_record_count m n)

-- ---- where the vertices stand

module _ (m : Check.Tables) (lawful : Lawful (link m)) (n : ℕ) where
  -- A made vertex that stood halfway between its parents still does.
  pub halfway_stays : (v : ℕ) → base_vertices m ≤ v → v < all_vertices m → Halfway m v → Halfway (cut_at m n) v
  halfway_stays v b l h =
      let x = lawful.parents v (b, l) in
      rw (cut_vertices_stay m n v l, cut_vertices_stay m n (m.vertex_at v).p (omega arith), cut_vertices_stay m n (m.vertex_at v).q (omega arith)) h

  -- A vertex that the cut makes stands halfway between its parents.
  halfway_next : n < all_records m → cut_vertex m n ≡ all_vertices m → Halfway (cut_at m n) (all_vertices m)
  unfolding midpoint_of Ends.ends_of
  halfway_next there e =
      let here : (cut_at m n).vertex_at (all_vertices m) ≡ midpoint_of m.vertex_at (cut_ends m n) = (vertex_appended m n e).1 in
      let edge : ℕ = (piece_at m n).edge in
      let inside = (linked (link m) lawful n there).corners in
      let low : (cut_at m n).vertex_at ((cut_at m n).vertex_at (all_vertices m)).p ≡ m.vertex_at (cut_ends m n).lower =
      ap (λ (x : Vertex). (cut_at m n).vertex_at x.p) here ∙ cut_vertices_stay m n (cut_ends m n).lower (inside (Ends.lower_end (piece_at m n) edge) (lower_is_end (piece_at m n) edge).0) in
      let high : (cut_at m n).vertex_at ((cut_at m n).vertex_at (all_vertices m)).q ≡ m.vertex_at (cut_ends m n).higher =
      ap (λ (x : Vertex). (cut_at m n).vertex_at x.q) here ∙ cut_vertices_stay m n (cut_ends m n).higher (inside (Ends.higher_end (piece_at m n) edge) (higher_is_end (piece_at m n) edge).0) in
      ap (λ (x : Vertex). x.place) here ∙ sym (ap₂ (λ (x y : Vertex). halfway_of x.place y.place) low high)

  pub halfway_made : n < all_records m → (v : ℕ) → all_vertices m ≤ v → v < all_vertices (cut_at m n) → Halfway (cut_at m n) v
  halfway_made there v b l =
      ⊎_elim
      (λ t.
      let e : cut_vertex m n ≡ all_vertices m = eqb-true (cut_vertex m n) (all_vertices m) t in
      let q : all_vertices m ≡ v = omega (arith, (vertex_appended m n e).0) in
      subst (Halfway (cut_at m n)) q (halfway_next there e))
      (λ f. absurd (omega (arith, vertex_used m n (eqb-false (cut_vertex m n) (all_vertices m) f))))
      (either (eqb (cut_vertex m n) (all_vertices m)))
