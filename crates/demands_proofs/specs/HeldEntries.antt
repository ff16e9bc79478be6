-- Tables that hold a numbered set of cuts of a properly marked base mesh, entry by entry, and what rules 3 to 8, 22 and 23 ask of them. Assumes nothing.
use Rattle.std.specs.Prelude.{◌≡◌, refl, ◌↔◌, [], ◌∷◌, ℕ, zero, suc, ◌≤◌, ◌<◌, length, ℤ, pos, ◌≤ℤ◌}
use Rattle.std.proofs.Common.{sym, ap₂, ◌∙◌, subst, arith, lt-ltb, le-ltb}
use Rattle.std.proofs.Math.Path.{ap}
use Rattle.std.proofs.Math.IntN.{nat_abs}
use Rattle.laws.specs.Lists.{four_of}
use Rattle.laws.specs.Pairs.{SamePair}
use Rattle.piece_edges.specs.Edges.{low_slot, high_slot, slots_small}
use Rattle.piece.specs.Shape.{Shape, shape_of, mark}
use Rattle.piece.specs.Ends.{corner_at, ends_of}
use Rattle.grid.specs.Places.{Point, point_of}
use Rattle.grid_volume.specs.Volume.{signed_of, sixfold_of}
use Rattle.grid_volume.specs.Formal.{same_corners_lem as signed_four}
use Rattle.grid_volume.specs.Handed.{not_negative, positive_solid, positive_not_negative}
use Rattle.grid_inside.specs.Weights.{WeightedMean}
use Rattle.grid_inside.specs.Corners.{mean_four}
use Rattle.stored.specs.declared.Vertex.{Vertex}
use Rattle.stored.specs.declared.Record.{Record}
use Rattle.stored.specs.Layout.{none}
use Rattle.mesh_tables.specs.Tables as Check
use Rattle.mesh_tables.specs.Tables.{Tables, base_vertices, base_records, signed_at, sixfold_at}
use Rattle.check_meaning.specs.Accepted as Accepted
use Rattle.check_meaning.specs.Accepted.{RightCounts, RightVertices, RightBaseRecords, RightHanded, RightBaseMarks, RightFaces, RightUses, NoVertexHangs, Made, point_at, parent_p, parent_q, first_child, marked_ends}
use Rattle.build_meaning.specs.Edges.{ends_same}
use Rattle.cuts_names.specs.Names as Names
use Rattle.cuts_names.specs.Names.{mid}
use Rattle.cuts_names.specs.Pieces.{Piece, Node, generation, piece_at, piece_root_lem}
use Rattle.cuts.specs.Sets.{Cuts}
use Rattle.demands_words.specs.Words as Base
use Rattle.demands_words.specs.Words.{BaseMesh, named, ProperlyMarked, Numbering, VerticesNumbered, RecordsNumbered, record_of}
use Rattle.demands_proofs.specs.Holds.{Holds}
use Rattle.demands_proofs.specs.Read.{record_valid}

-- The four marks of a validly marked shape are all its marks.
four_marks_lem : (s : Shape) → length s.marks ≡ 4 → record { edge = s.edge; marks = mark s 0 ∷ mark s 1 ∷ mark s 2 ∷ mark s 3 ∷ []; flag = s.flag } ≡ s
four_marks_lem s four = λ i. record { edge = s.edge; marks = four_of s.marks 0 four i; flag = s.flag }

module _ (t : Tables) (b : BaseMesh) (C : Cuts b.pieces) (N : Numbering) (h : Holds t b N) where
  -- ---- vertices

  pub point_at_lem : (v : ℕ) → v < N.vertices → point_at t v ≡ point_of (N.place_at v)
  point_at_lem v l = ap (λ (x : Vertex). point_of x.place) (h.vertex_at v l)

  pub parents_at : (v : ℕ) → b.vertices ≤ v → v < N.vertices → (parent_p t v ≡ N.p_at v) × (parent_q t v ≡ N.q_at v)
  parents_at v o l = (
    ap (λ (x : Vertex). x.p) (h.vertex_at v l) ∙ rw (le-ltb v b.vertices o),
    ap (λ (x : Vertex). x.q) (h.vertex_at v l) ∙ rw (le-ltb v b.vertices o),
  )

  no_parents_at : (v : ℕ) → v < b.vertices → v < N.vertices → (parent_p t v ≡ none) × (parent_q t v ≡ none)
  no_parents_at v o l = (
    ap (λ (x : Vertex). x.p) (h.vertex_at v l) ∙ rw (lt-ltb v b.vertices o),
    ap (λ (x : Vertex). x.q) (h.vertex_at v l) ∙ rw (lt-ltb v b.vertices o),
  )

  -- A made vertex is one from the base count on.
  pub made_beyond : (v : ℕ) → Made t v → (b.vertices ≤ v) × (v < N.vertices)
  made_beyond v d = (omega (arith, h.base_vertices_lem, d.beyond), omega (arith, h.vertices, d.there))

  pub beyond_made : (v : ℕ) → b.vertices ≤ v → v < N.vertices → Made t v
  beyond_made v o l = record { beyond = omega (arith, h.base_vertices_lem); there = omega (arith, h.vertices) }

  -- ---- records

  pub corner_at_lem : (r : ℕ) → r < N.records → (k : ℕ) → k < 4 → corner_at (Check.piece_at t r) k ≡ N.corner_at r k
  corner_at_lem r l k m = ap (λ (x : Record). corner_at x.piece k) (h.record_at r l) ∙ slot k m
    where
      slot : (k : ℕ) → k < 4 → corner_at (record_of b N r).piece k ≡ N.corner_at r k
      slot zero m = refl
      slot (suc zero) m = refl
      slot (suc (suc zero)) m = refl
      slot (suc (suc (suc zero))) m = refl
      slot (suc (suc (suc (suc k)))) m = absurd (omega arith)

  pub generation_at : (r : ℕ) → r < N.records → (Check.piece_at t r).generation ≡ generation (N.node_at r)
  generation_at r l = ap (λ (x : Record). x.piece.generation) (h.record_at r l)

  pub material_at_lem : (r : ℕ) → r < N.records → (Check.piece_at t r).material ≡ b.material_at (N.node_at r).root
  material_at_lem r l = ap (λ (x : Record). x.piece.material) (h.record_at r l)

  -- A base record's is that of the base piece.
  pub base_material : RecordsNumbered b C N → (r : ℕ) → r < b.pieces → (Check.piece_at t r).material ≡ b.material_at r
  base_material nr r l = material_at_lem r (omega (arith, nr.base_first)) ∙ ap (λ (n : Node). b.material_at n.root) (nr.base_node r l)

  pub first_at_lem : (r : ℕ) → r < N.records → first_child t r ≡ N.first_at r
  first_at_lem r l = ap (λ (x : Record). x.first_child) (h.record_at r l)

  module _ (marked : ProperlyMarked b) (nv : VerticesNumbered b C N) (nr : RecordsNumbered b C N) where
    pub shape_at_lem : (r : ℕ) → r < N.records → shape_of (Check.piece_at t r) ≡ (piece_at (named b) (N.node_at r)).shape
    shape_at_lem r l =
        ap (λ (x : Record). shape_of x.piece) (h.record_at r l)
        ∙ four_marks_lem (piece_at (named b) (N.node_at r)).shape (record_valid b C N marked nr r l).four

    -- ---- base records

    base_there : (r : ℕ) → r < b.pieces → r < N.records
    base_there r l = omega (arith, nr.base_first)

    base_piece_lem : (r : ℕ) → r < b.pieces → piece_at (named b) (N.node_at r) ≡ named b r
    base_piece_lem r l = ap (piece_at (named b)) (nr.base_node r l) ∙ piece_root_lem (named b) r

    -- A base record's corners are those of the base piece.
    pub base_corner : (r : ℕ) → r < b.pieces → (k : ℕ) → k < 4 → corner_at (Check.piece_at t r) k ≡ b.corner_at r k
    base_corner r l k m =
        let there = base_there r l in
        let small = (marked.pieces r l).corners k m in
        corner_at_lem r there k m
        ∙ nv.once (N.corner_at r k) (b.corner_at r k) (nr.corner_there r there k m) (omega (arith, nv.base_first))
        (nr.corner r there k m ∙ ap (λ (p : Piece Names.Name). p.corner k) (base_piece_lem r l) ∙ sym (nv.base_name (b.corner_at r k) small))

    pub base_shape : (r : ℕ) → r < b.pieces → shape_of (Check.piece_at t r) ≡ b.shape_at r
    base_shape r l = shape_at_lem r (base_there r l) ∙ ap (λ (p : Piece Names.Name). p.shape) (base_piece_lem r l)

    base_point : (v : ℕ) → v < b.vertices → point_at t v ≡ Base.point_at b v
    base_point v l = point_at_lem v (omega (arith, nv.base_first)) ∙ ap point_of (nv.base_place v l)

    -- ---- 3

    pub held_counts : RightCounts t
    held_counts =
        record {
          base_vertices_lem = omega (arith, h.base_vertices_lem, marked.some_vertices);
          base_records_lem = omega (arith, h.base_records_lem, marked.some_pieces);
          vertices_within = omega (arith, h.base_vertices_lem, h.vertices, nv.base_first);
          records_within = omega (arith, h.base_records_lem, h.records, nr.base_first);
        }

    in_base_lem : (v : ℕ) → v < base_vertices t → v < b.vertices
    in_base_lem v l = omega (arith, h.base_vertices_lem)

    base_record_in : (r : ℕ) → r < base_records t → r < b.pieces
    base_record_in r l = omega (arith, h.base_records_lem)

    -- ---- 4

    -- Made vertices with one parent pair have one name.
    one_pair : (u v : ℕ) → Made t u → Made t v → parent_p t u ≡ parent_p t v → parent_q t u ≡ parent_q t v → u ≡ v
    one_pair u v du dv p q =
        let (ou, lu) = made_beyond u du in
        let (ov, lv) = made_beyond v dv in
        let (pu, qu) = parents_at u ou lu in
        let (pv, qv) = parents_at v ov lv in
        nv.once u v lu lv
        ((nv.made u ou lu).name
        ∙ ap₂ (λ (x y : ℕ). mid (N.name_at x) (N.name_at y)) (sym pu ∙ p ∙ pv) (sym qu ∙ q ∙ qv)
        ∙ sym (nv.made v ov lv).name)

    made_vertex : (v : ℕ) → Made t v → Accepted.MadeVertex t v
    made_vertex v d =
        let (o, l) = made_beyond v d in
        let (p, q) = parents_at v o l in
        let m = nv.made v o l in
        record {
          p<q = rw (p, q) m.p<q;
          q<v = rw q m.q<v;
          halfway = rw (p, q, point_at_lem v l, point_at_lem (N.p_at v) (omega (arith, m.p<q, m.q<v)), point_at_lem (N.q_at v) (omega (arith, m.q<v))) m.halfway;
        }

    base_vertex : (v : ℕ) → v < b.vertices → Accepted.BaseVertex t v
    base_vertex v l =
        let (x, y, z) = marked.on_grid_lem v l in
        let (p, q) = no_parents_at v l (omega (arith, nv.base_first)) in
        let e = base_point v l in
        record {
          x = subst (λ (c : Point). Accepted.OnGrid c.x) (sym e) x;
          y = subst (λ (c : Point). Accepted.OnGrid c.y) (sym e) y;
          z = subst (λ (c : Point). Accepted.OnGrid c.z) (sym e) z;
          p = p;
          q = q;
        }

    pub held_vertices : RightVertices t
    held_vertices =
        record {
          base = λ v l. base_vertex v (in_base_lem v l);
          one_place =
              λ u v lu lv e.
              marked.one_place u v (in_base_lem u lu) (in_base_lem v lv) (sym (base_point u (in_base_lem u lu)) ∙ e ∙ base_point v (in_base_lem v lv));
          made = made_vertex;
          one_pair = one_pair;
        }

    -- ---- 5

    -- A base record's corners stand where its piece's do.
    base_points : (r : ℕ) → r < b.pieces → (k : ℕ) → k < 4 → Check.corner_point t.vertex_at (Check.piece_at t r) k ≡ Base.point_at b (b.corner_at r k)
    base_points r l k m = ap (point_at t) (base_corner r l k m) ∙ base_point (b.corner_at r k) ((marked.pieces r l).corners k m)

    -- It has its piece's signed value.
    base_signed : (r : ℕ) → r < b.pieces → signed_at t.vertex_at (Check.piece_at t r) ≡ signed_of (λ k. Base.point_at b (b.corner_at r k))
    unfolding signed_at
    base_signed r l =
        signed_four (Check.corner_point t.vertex_at (Check.piece_at t r)) (λ k. Base.point_at b (b.corner_at r k)) (base_points r l)

    base_record : (r : ℕ) → r < b.pieces → Accepted.BaseRecord t r
    unfolding sixfold_at signed_at sixfold_of
    base_record r l =
        let p = marked.pieces r l in
        let there = base_there r l in
        record {
          different = λ j k lj lk e. p.different j k lj lk (sym (base_corner r l j lj) ∙ e ∙ base_corner r l k lk);
          in_base_lem = λ k m. omega (arith, base_corner r l k m, p.corners k m, h.base_vertices_lem);
          volume = λ e. positive_solid _ p.right_handed (ap nat_abs (sym (base_signed r l)) ∙ e);
          generation = generation_at r there ∙ ap generation (nr.base_node r l);
          flag = ap (λ (s : Shape). s.flag) (base_shape r l) ∙ p.flag;
        }

    pub held_base_records : RightBaseRecords t
    held_base_records r l = base_record r (base_record_in r l)

    -- ---- 22

    pub held_handed : RightHanded t
    held_handed r l =
        let k = base_record_in r l in
        let z = signed_of (λ k. Base.point_at b (b.corner_at r k)) in
        subst (λ (x : ℤ). pos 0 ≤ℤ x) (sym (base_signed r k)) ((not_negative z).0 (positive_not_negative z (marked.pieces r k).right_handed))

    -- ---- 6

    pub held_base_marks : RightBaseMarks t
    held_base_marks r l =
        let k = base_record_in r l in
        let e = base_shape r k in
        let p = (marked.pieces r k).marked in
        record {
          edge = subst (λ (s : Shape). s.edge < 6) (sym e) p.edge;
          marks = subst (λ (s : Shape). (i : ℕ) → i < 4 → Accepted.EdgeOf i (mark s i)) (sym e) p.marks;
          refinement_faces = subst (λ (s : Shape). (i : ℕ) → i < 4 → Accepted.EdgeOf i s.edge → mark s i ≡ s.edge) (sym e) p.refinement_faces;
        }

    -- ---- 7 and 8

    -- Corners and faces of base records are those of the base pieces.
    corner_of_lem : (r : ℕ) → r < b.pieces → (x : ℕ) → Accepted.CornerOf (Check.piece_at t r) x ↔ Base.BaseCornerOf b r x
    corner_of_lem r l x = (
      λ c. let (k, m, e) = c in (k, m, sym (base_corner r l k m) ∙ e),
      λ c. let (k, m, e) = c in (k, m, base_corner r l k m ∙ e),
    )

    on_face_lem : (r : ℕ) → r < b.pieces → (i x : ℕ) → Accepted.OnRecordFace (Check.piece_at t r) i x ↔ Base.OnBaseFace b r i x
    on_face_lem r l i x = (
      λ c. let (k, m, o, e) = c in (k, m, o, sym (base_corner r l k m) ∙ e),
      λ c. let (k, m, o, e) = c in (k, m, o, base_corner r l k m ∙ e),
    )

    same_face_lem : (r i s j : ℕ) → r < b.pieces → s < b.pieces → Accepted.SameRecordFace (Check.piece_at t r) i (Check.piece_at t s) j → Base.SameBaseFace b r i s j
    same_face_lem r i s j lr ls f x = (
      λ o. (on_face_lem s ls j x).0 ((f x).0 ((on_face_lem r lr i x).1 o)),
      λ o. (on_face_lem r lr i x).0 ((f x).1 ((on_face_lem s ls j x).1 o)),
    )

    same_corners_lem : (r s : ℕ) → r < b.pieces → s < b.pieces → Accepted.SameRecordCorners (Check.piece_at t r) (Check.piece_at t s) → Base.SameBaseCorners b r s
    same_corners_lem r s lr ls f x = (
      λ o. (corner_of_lem s ls x).0 ((f x).0 ((corner_of_lem r lr x).1 o)),
      λ o. (corner_of_lem r lr x).0 ((f x).1 ((corner_of_lem s ls x).1 o)),
    )

    same_mark_lem : (r i s j : ℕ) → r < b.pieces → s < b.pieces → Base.SameBaseMark b r i s j → marked_ends (Check.piece_at t r) i ≡ marked_ends (Check.piece_at t s) j
    same_mark_lem r i s j lr ls f =
        let corner : (r : ℕ) → r < b.pieces → (e : ℕ) → (corner_at (Check.piece_at t r) (low_slot e) ≡ b.corner_at r (low_slot e)) × (corner_at (Check.piece_at t r) (high_slot e) ≡ b.corner_at r (high_slot e)) =
        λ r l e. (base_corner r l (low_slot e) (slots_small e).0, base_corner r l (high_slot e) (slots_small e).1) in
        let e = mark (b.shape_at r) i in
        let g = mark (b.shape_at s) j in
        let (a, c) = corner r lr e in
        let (a', c') = corner s ls g in
        let pair : SamePair (corner_at (Check.piece_at t r) (low_slot e)) (corner_at (Check.piece_at t r) (high_slot e)) (corner_at (Check.piece_at t s) (low_slot g)) (corner_at (Check.piece_at t s) (high_slot g)) =
        rw (a, c, a', c') f in
        ap (λ (x : Shape). ends_of (Check.piece_at t r) (mark x i)) (base_shape r lr)
        ∙ ends_same (Check.piece_at t r) (Check.piece_at t s) e g pair
        ∙ sym (ap (λ (x : Shape). ends_of (Check.piece_at t s) (mark x j)) (base_shape s ls))

    pub held_faces : RightFaces t
    held_faces =
        record {
          in_two =
              λ r s n i j k lr ls ln li lj lk f g.
              let hn = base_record_in n ln in
              marked.in_two r s n i j k lr ls hn li lj lk (same_face_lem r i n k (omega arith) hn f) (same_face_lem s j n k (omega arith) hn g);
          different = λ r n lr ln f. let hn = base_record_in n ln in marked.alone r n lr hn (same_corners_lem r n (omega arith) hn f);
          one_mark =
              λ r n i j lr ln li lj f.
              let hn = base_record_in n ln in
              same_mark_lem r i n j (omega arith) hn (marked.one_mark r n i j lr hn li lj (same_face_lem r i n j (omega arith) hn f));
        }

    pub held_uses : RightUses t
    held_uses v l =
        let (r, m, c) = marked.used v (in_base_lem v l) in
        (r, omega (arith, h.base_records_lem), (corner_of_lem r m v).1 c)

    -- ---- 23

    pub held_inside : NoVertexHangs t
    held_inside r l v m x =
        let k = base_record_in r l in
        let o = in_base_lem v m in
        let corners : ℕ → Point = λ k. Base.point_at b (b.corner_at r k) in
        marked.no_vertex_hangs v r o k
        (record {
          lies_in = subst (WeightedMean corners) (base_point v o) (mean_four (Check.corner_point t.vertex_at (Check.piece_at t r)) corners (base_points r k) (point_at t v) x.lies_in);
          no_corner = λ c. x.no_corner ((corner_of_lem r k v).1 c);
        })
