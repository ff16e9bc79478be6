-- Each rule that build tries is broken exactly where what it asks of the base mesh of its lists does not hold.
-- Assumes nothing.
use Rattle.std.specs.Prelude.{◌≡◌, refl, ◌↔◌, List, ℕ, zero, suc, ◌+◌, ◌*◌, ◌/◌, ◌%◌, ◌<◌, get_or, ℤ, ltb}
use Rattle.std.proofs.Math.Path.{sym, ap, subst}
use Rattle.std.proofs.Common.{◌∙◌}
use native.Mathlib.Omega.{arith}
use Rattle.std.proofs.Math.ListN.{length}
use Rattle.piece.specs.declared.Piece.{Piece}
use Rattle.piece.specs.Ends.{corner_at}
use Rattle.grid.specs.Places.{Point, point_of}
use Rattle.grid_volume.specs.Volume.{sixfold_of}
use Rattle.grid_inside.specs.Weights.{WeightedMean}
use Rattle.grid_inside.specs.Corners.{mean_four}
use Rattle.stored.specs.declared.Header.{Header}
use Rattle.stored.specs.declared.Vertex.{Vertex}
use Rattle.stored.specs.Layout.{limits}
use Rattle.mesh_tables.specs.Tables as Check
use Rattle.mesh_tables.specs.Tables.{base_vertices, all_vertices, base_records, piece_at, corner_point, sixfold_at}
use Rattle.check_refusals.specs.Refusals.{wrong_counts, bad_vertices, bad_base_faces, unused_vertices, hanging_vertices}
use Rattle.check_meaning.specs.Tests.{Passes, Fails, reads, equal, not_below, not_fails, fails_unless, or_fails}
use Rattle.check_meaning.specs.Accepted as Accepted
use Rattle.check_meaning.specs.Accepted.{OnGrid, marked_ends}
use Rattle.check_meaning.specs.Vertices.{rule4_holds}
use Rattle.check_meaning.specs.Faces.{rule7_holds, rule8_holds}
use Rattle.check_meaning.specs.Inside.{some_hangs}
use Rattle.build_marks.specs.Marking.{plain_place, plain_vertex, plain_piece, plain_point, righted_piece, marked_piece}
use Rattle.build_service.specs.Build.{not_whole, plain_header, plain_bytes, bad_given_pieces}
use Rattle.build_meaning.specs.Righted.{sixfold_four, slot_given, slot_small, slot_twice, given_corner, righted_sixfold, righted_closed}
use Rattle.build_meaning.specs.Written.{Given, CountsFit, written, plain_length, header_read, vertex_read}
use Rattle.build_meaning.specs.Records.{RightGiven, given_holds, stored_piece, stored_point, right_record, right_hand}
use Rattle.build_meaning.specs.Shared.{shared_face_one_mark}
use Rattle.demands_words.specs.Words.{BaseMesh, point_at, BaseCornerOf, OnBaseFace, SameBaseCorners, SameBaseFace, plain_base, built_base, Whole, CountsWithin, RightPlaces, RightPieces, RightTogether, AllUsed, NoVertexHangs, SomeVertexHangs, Roomy}
use Rattle.demands_proofs.specs.Turned.{Turned, turned_back, pieces_turned, together_turned, used_turned, some_turned}

-- ---- 21 and 3: the lists' lengths

module _ (coordinates : List ℤ) (corners : List ℕ) where
  pub whole_exactly : Fails (not_whole coordinates corners) (Whole coordinates corners)
  unfolding not_whole
  whole_exactly =
      reads (or_fails (not_fails (equal (length coordinates % 3) 0)) (not_fails (equal (length corners % 4) 0)))
      (λ h. let (x, y) = h in record { three_a_vertex = omega arith; four_a_piece = omega arith })
      (λ w. let x = w.three_a_vertex in let y = w.four_a_piece in (omega arith, omega arith))

  pub counts_exactly : (job : ℕ) → Fails (wrong_counts limits (plain_header job coordinates corners)) (CountsWithin (plain_base coordinates corners))
  unfolding wrong_counts plain_header
  counts_exactly job =
      let vertices = length coordinates / 3 in
      let pieces = length corners / 4 in
      reads
      (or_fails
      (or_fails
      (or_fails
      (or_fails
      (or_fails (or_fails (not_below limits.vertices vertices) (not_below limits.records pieces)) (not_below limits.base_records pieces))
      (not_below vertices 4))
      (not_below pieces 1))
      (not_below vertices vertices))
      (not_below pieces pieces))
      (λ h. record { some_vertices = h.0.0.0.1; most_vertices = h.0.0.0.0.0.0; some_pieces = h.0.0.1; most_pieces = h.0.0.0.0.0.1 })
      (λ c. ((((((c.most_vertices, c.most_pieces), c.most_pieces), c.some_vertices), c.some_pieces), omega arith), omega arith))

-- ---- what check reads

-- A piece's corners in its list are those that are listed.
pub listed_corner : (corners : List ℕ) (r k : ℕ) → k < 4 → corner_at (plain_piece corners r) k ≡ get_or corners (4 * r + k) 0
unfolding plain_piece
listed_corner corners r zero l = ap (λ (n : ℕ). get_or corners n 0) (omega arith)
listed_corner corners r (suc zero) l = refl
listed_corner corners r (suc (suc zero)) l = refl
listed_corner corners r (suc (suc (suc zero))) l = refl
listed_corner corners r (suc (suc (suc (suc k)))) l = absurd (omega arith)

-- What is built has the corners that are listed, in other slots.
pub built_turned : (coordinates : List ℤ) (corners : List ℕ) → Turned (plain_base coordinates corners) (built_base coordinates corners)
built_turned coordinates corners =
    record {
      vertices = refl;
      pieces = refl;
      place = λ v. refl;
      slot = λ r. slot_given coordinates (plain_piece corners r);
      small = λ r. slot_small coordinates (plain_piece corners r);
      twice = λ r. slot_twice coordinates (plain_piece corners r);
      corner = λ r k l. sym (listed_corner corners r k l) ∙ given_corner coordinates (plain_piece corners r) k l;
      sixfold = λ r. listed_sixfold coordinates corners r ∙ sym (righted_sixfold coordinates (plain_piece corners r));
      closed = λ r p.
          let (there, back) = righted_closed coordinates (plain_piece corners r) p in
          (λ mean. back (mean_four _ _ (λ k l. sym (listed_point coordinates corners r k l)) p mean), λ mean. mean_four _ _ (listed_point coordinates corners r) p (there mean));
    }
  where
    listed_point : (coordinates : List ℤ) (corners : List ℕ) (r k : ℕ) → k < 4 →
        plain_point coordinates (plain_piece corners r) k ≡ point_at (plain_base coordinates corners) ((plain_base coordinates corners).corner_at r k)
    listed_point coordinates corners r k l = ap (λ (v : ℕ). point_of (plain_place coordinates v)) (listed_corner corners r k l)

    listed_sixfold : (coordinates : List ℤ) (corners : List ℕ) (r : ℕ) →
        sixfold_of (λ k. point_at (plain_base coordinates corners) ((plain_base coordinates corners).corner_at r k)) ≡ sixfold_of (plain_point coordinates (plain_piece corners r))
    listed_sixfold coordinates corners r = sixfold_four _ _ (λ k l. sym (listed_point coordinates corners r k l))

-- A piece with the corners of piece r has its corners and its faces.
module _ (b : BaseMesh) where
  abbrev Agrees : Piece → ℕ → Type 0
  Agrees p r = (k : ℕ) → k < 4 → corner_at p k ≡ b.corner_at r k

  corner_of_lem : (p : Piece) (r : ℕ) → Agrees p r → (x : ℕ) → Accepted.CornerOf p x ↔ BaseCornerOf b r x
  corner_of_lem p r a x = (λ c. let (k, l, e) = c in (k, l, sym (a k l) ∙ e), λ c. let (k, l, e) = c in (k, l, a k l ∙ e))

  on_face_lem : (p : Piece) (r i : ℕ) → Agrees p r → (x : ℕ) → Accepted.OnRecordFace p i x ↔ OnBaseFace b r i x
  on_face_lem p r i a x = (λ c. let (k, l, n, e) = c in (k, l, n, sym (a k l) ∙ e), λ c. let (k, l, n, e) = c in (k, l, n, a k l ∙ e))

  pub same_corners_lem : (p q : Piece) (r s : ℕ) → Agrees p r → Agrees q s → Accepted.SameRecordCorners p q ↔ SameBaseCorners b r s
  same_corners_lem p q r s a c = (
    λ h x. (λ t. (corner_of_lem q s c x).0 ((h x).0 ((corner_of_lem p r a x).1 t)), λ t. (corner_of_lem p r a x).0 ((h x).1 ((corner_of_lem q s c x).1 t))),
    λ h x. (λ t. (corner_of_lem q s c x).1 ((h x).0 ((corner_of_lem p r a x).0 t)), λ t. (corner_of_lem p r a x).1 ((h x).1 ((corner_of_lem q s c x).0 t))),
  )

  pub same_face_lem : (p q : Piece) (r i s j : ℕ) → Agrees p r → Agrees q s → Accepted.SameRecordFace p i q j ↔ SameBaseFace b r i s j
  same_face_lem p q r i s j a c = (
    λ h x. (λ t. (on_face_lem q s j c x).0 ((h x).0 ((on_face_lem p r i a x).1 t)), λ t. (on_face_lem p r i a x).0 ((h x).1 ((on_face_lem q s j c x).1 t))),
    λ h x. (λ t. (on_face_lem q s j c x).1 ((h x).0 ((on_face_lem p r i a x).0 t)), λ t. (on_face_lem p r i a x).1 ((h x).1 ((on_face_lem q s j c x).0 t))),
  )

module _ (job : ℕ) (coordinates : List ℤ) (corners : List ℕ) (g : Given job coordinates corners) (c : CountsWithin (plain_base coordinates corners)) where
  abbrev m : Check.Tables
  m = written job coordinates corners

  -- As it is listed, and as it is built.
  abbrev b : BaseMesh
  b = plain_base coordinates corners

  abbrev built : BaseMesh
  built = built_base coordinates corners

  fit : CountsFit coordinates corners
  fit = record { vertices = omega (arith, c.most_vertices); records = omega (arith, c.most_pieces) }

  header : m.header ≡ plain_header job coordinates corners
  header = header_read job coordinates corners g fit

  base_vertices_lem : base_vertices m ≡ b.vertices
  unfolding plain_header
  base_vertices_lem = ap (λ (h : Header). h.base_vertices) header

  all_vertices_lem : all_vertices m ≡ b.vertices
  unfolding plain_header
  all_vertices_lem = ap (λ (h : Header). h.vertices) header

  base_records_lem : base_records m ≡ b.pieces
  unfolding plain_header
  base_records_lem = ap (λ (h : Header). h.base_records) header

  -- ---- 4

  vertex : (v : ℕ) → v < b.vertices → m.vertex_at v ≡ plain_vertex coordinates v
  vertex = vertex_read job coordinates corners g fit

  point : (v : ℕ) → v < b.vertices → Accepted.point_at m v ≡ point_at b v
  unfolding plain_vertex
  point v l = ap (λ (x : Vertex). point_of x.place) (vertex v l)

  pub places_exactly : Fails (bad_vertices m) (RightPlaces b)
  unfolding plain_vertex
  places_exactly =
      reads (rule4_holds m (omega (arith, base_vertices_lem, all_vertices_lem)))
      (λ a.
      record {
        on_grid_lem = λ v l.
            let x = a.base v (omega (arith, base_vertices_lem)) in
            subst (λ (p : Point). OnGrid p.x × OnGrid p.y × OnGrid p.z) (point v l) (x.x, x.y, x.z);
        one_place = λ u v hu hv e. a.one_place u v (omega (arith, base_vertices_lem)) (omega (arith, base_vertices_lem)) (point u hu ∙ e ∙ sym (point v hv));
      })
      (λ a.
      record {
        base = λ v l.
            let h : v < b.vertices = omega (arith, base_vertices_lem) in
            let (x, y, z) = subst (λ (p : Point). OnGrid p.x × OnGrid p.y × OnGrid p.z) (sym (point v h)) (a.on_grid_lem v h) in
            record { x = x; y = y; z = z; p = ap (λ (d : Vertex). d.p) (vertex v h); q = ap (λ (d : Vertex). d.q) (vertex v h) };
        one_place = λ u v hu hv e.
            let ku : u < b.vertices = omega (arith, base_vertices_lem) in
            let kv : v < b.vertices = omega (arith, base_vertices_lem) in
            a.one_place u v ku kv (sym (point u ku) ∙ e ∙ point v kv);
        made = λ v d. absurd (omega (arith, base_vertices_lem, all_vertices_lem, d.beyond, d.there));
        one_pair = λ u v d e p q. absurd (omega (arith, base_vertices_lem, all_vertices_lem, d.beyond, d.there));
      })

  -- ---- 5

  pub pieces_exactly : Fails (bad_given_pieces coordinates corners) (RightPieces b)
  unfolding sixfold_at plain_vertex plain_piece
  pieces_exactly =
      reads (given_holds coordinates corners)
      (λ a r l.
      let x = a r l in
      let at = listed_corner corners r in
      record {
        different = λ j k hj hk e. x.different j k hj hk (at j hj ∙ e ∙ sym (at k hk));
        in_base_lem = λ k s. omega (arith, at k s, x.in_base_lem k s);
        volume = λ e. x.volume (volume r ∙ e);
      })
      (λ a n l.
      let x = a n l in
      let at = listed_corner corners n in
      record {
        different = λ j k hj hk e. x.different j k hj hk (sym (at j hj) ∙ e ∙ at k hk);
        in_base_lem = λ k s. omega (arith, at k s, x.in_base_lem k s);
        volume = λ e. x.volume (sym (volume n) ∙ e);
        generation = refl;
        flag = refl;
      })
    where
      volume : (r : ℕ) → sixfold_of (plain_point coordinates (plain_piece corners r)) ≡ sixfold_of (λ k. point_at b (b.corner_at r k))
      volume r = sixfold_four _ _ (λ k l. ap (λ (v : ℕ). point_of (plain_place coordinates v)) (listed_corner corners r k l))

  -- ---- 7, 8 and 23

  module _ (a : RightPieces b) where
    right_built : RightPieces built
    right_built = pieces_turned (built_turned coordinates corners) a

    right_given : RightGiven coordinates corners
    right_given = (given_holds coordinates corners).0 (pieces_exactly.1 a)

    -- Check reads the built pieces.
    piece_read : (r : ℕ) → r < b.pieces → piece_at m r ≡ marked_piece coordinates (righted_piece coordinates (plain_piece corners r))
    piece_read r l = stored_piece job coordinates corners g fit right_given r (omega (arith, base_records_lem))

    agrees : (r : ℕ) → r < b.pieces → Agrees built (piece_at m r) r
    unfolding marked_piece
    agrees r l k s = ap (λ (p : Piece). corner_at p k) (piece_read r l)

    -- "The last clause of 7 can't be broken."
    marks_agree : (r n i j : ℕ) → r < b.pieces → n < b.pieces → i < 4 → j < 4 → SameBaseFace built r i n j → marked_ends (piece_at m r) i ≡ marked_ends (piece_at m n) j
    marks_agree r n i j lr ln hi hj same =
        let p = righted_piece coordinates (plain_piece corners r) in
        let q = righted_piece coordinates (plain_piece corners n) in
        ap (λ (x : Piece). marked_ends x i) (piece_read r lr)
        ∙ shared_face_one_mark coordinates p q (right_built r lr).different (right_built n ln).different i j hi hj same
        ∙ sym (ap (λ (x : Piece). marked_ends x j) (piece_read n ln))

    built_together : Fails (bad_base_faces m) (RightTogether built)
    built_together =
        reads (rule7_holds m)
        (λ f.
        record {
          in_two = λ r s n i j k hr hs hn hi hj hk x y.
              let at = agrees r (omega arith) in
              let on = agrees s (omega arith) in
              let to = agrees n hn in
              f.in_two r s n i j k hr hs (omega (arith, base_records_lem)) hi hj hk
              ((same_face_lem built (piece_at m r) (piece_at m n) r i n k at to).1 x)
              ((same_face_lem built (piece_at m s) (piece_at m n) s j n k on to).1 y);
          alone = λ r s h hs x.
              f.different r s h (omega (arith, base_records_lem)) ((same_corners_lem built (piece_at m r) (piece_at m s) r s (agrees r (omega arith)) (agrees s hs)).1 x);
        })
        (λ f.
        record {
          in_two = λ r s n i j k hr hs h hi hj hk x y.
              let hn : n < b.pieces = omega (arith, base_records_lem) in
              let at = agrees r (omega arith) in
              let on = agrees s (omega arith) in
              let to = agrees n hn in
              f.in_two r s n i j k hr hs hn hi hj hk
              ((same_face_lem built (piece_at m r) (piece_at m n) r i n k at to).0 x)
              ((same_face_lem built (piece_at m s) (piece_at m n) s j n k on to).0 y);
          different = λ r n h l x.
              let hn : n < b.pieces = omega (arith, base_records_lem) in
              f.alone r n h hn ((same_corners_lem built (piece_at m r) (piece_at m n) r n (agrees r (omega arith)) (agrees n hn)).0 x);
          one_mark = λ r n i j h l hi hj x.
              let hn : n < b.pieces = omega (arith, base_records_lem) in
              let hr : r < b.pieces = omega arith in
              marks_agree r n i j hr hn hi hj ((same_face_lem built (piece_at m r) (piece_at m n) r i n j (agrees r hr) (agrees n hn)).0 x);
        })

    built_used : Fails (unused_vertices m) (AllUsed built)
    built_used =
        reads (rule8_holds m)
        (λ u v l.
        let (r, h, x) = u v (omega (arith, base_vertices_lem)) in
        let k : r < b.pieces = omega (arith, base_records_lem) in
        (r, k, (corner_of_lem built (piece_at m r) r (agrees r k) v).0 x))
        (λ u v l.
        let (r, h, x) = u v (omega (arith, base_vertices_lem)) in
        (r, omega (arith, base_records_lem), (corner_of_lem built (piece_at m r) r (agrees r h) v).1 x))

    built_hangs : Passes (hanging_vertices m) (SomeVertexHangs built)
    built_hangs =
        reads (some_hangs m (right_record job coordinates corners g fit right_given) (right_hand job coordinates corners g fit right_given))
        (λ (r, hr, v, hv, x).
        let lr : r < b.pieces = omega (arith, base_records_lem) in
        let lv : v < b.vertices = omega (arith, base_vertices_lem) in (
          v,
          r,
          lv,
          lr,
          record {
            lies_in = mean_four _ _ (stored_point job coordinates corners g fit right_given r hr) (point_at b v) (subst (WeightedMean (corner_point m.vertex_at (piece_at m r))) (point v lv) x.lies_in);
            no_corner = λ y. x.no_corner ((corner_of_lem built (piece_at m r) r (agrees r lr) v).1 y);
          },
        ))
        (λ (v, r, lv, lr, x).
        let hr : r < base_records m = omega (arith, base_records_lem) in (
          r,
          hr,
          v,
          omega (arith, base_vertices_lem),
          record {
            lies_in = subst (WeightedMean (corner_point m.vertex_at (piece_at m r))) (sym (point v lv)) (mean_four _ _ (λ k s. sym (stored_point job coordinates corners g fit right_given r hr k s)) (point_at b v) x.lies_in);
            no_corner = λ y. x.no_corner ((corner_of_lem built (piece_at m r) r (agrees r lr) v).0 y);
          },
        ))

    -- "7, 8 and 23 don't see the exchange."
    pub together_exactly : Fails (bad_base_faces m) (RightTogether b)
    together_exactly = let t = built_turned coordinates corners in reads built_together (together_turned (turned_back t)) (together_turned t)

    pub used_exactly : Fails (unused_vertices m) (AllUsed b)
    used_exactly = let t = built_turned coordinates corners in reads built_used (used_turned (turned_back t)) (used_turned t)

    pub hangs_exactly : Passes (hanging_vertices m) (SomeVertexHangs b)
    hangs_exactly = let t = built_turned coordinates corners in reads built_hangs (some_turned (turned_back t)) (some_turned t)

    pub none_exactly : Fails (hanging_vertices m) (NoVertexHangs b)
    none_exactly = reads (fails_unless hangs_exactly) (λ none v r lv lr x. none (v, r, lv, lr, x)) (λ none (v, r, lv, lr, x). none v r lv lr x)

  -- ---- 20

  pub room_exactly : (room : ℕ) → Fails (ltb room (length (plain_bytes job coordinates corners))) (Roomy b room)
  room_exactly room =
      let e = plain_length job coordinates corners g fit in
      reads (not_below room (length (plain_bytes job coordinates corners))) (λ h. omega (arith, e)) (λ h. omega (arith, e))
