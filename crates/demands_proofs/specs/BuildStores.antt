-- What build accepts it stores: the base mesh of the caller's lists, made right-handed, is properly marked, nothing of it is cut, and the buffer holds its bytes.
-- Assumes nothing.
use Rattle.std.specs.Prelude.{◌≡◌, List, [], ◌∷◌, ℕ, ◌<◌, length, ℤ}
use Rattle.std.proofs.Math.Path.{refl, sym, ap}
use Rattle.std.proofs.Common.{◌∙◌, le_refl, arith, lt-ltb}
use Rattle.std.proofs.lemmas.Bool.{false≢true}
use Rattle.stored.specs.Fitting.{U32}
use Rattle.laws.specs.Below.{list_same}
use Rattle.laws.specs.Lists.{four_of}
use Rattle.piece.specs.declared.Piece as Declared
use Rattle.piece.specs.Shape.{shape_of, mark}
use Rattle.piece.specs.Ends.{corner_at}
use Rattle.stored.specs.Layout.{none, limits, kind1, right1, stored1, stored_as}
use Rattle.stored.specs.Meshes.{Counted, one_buffer}
use Rattle.check_meaning.specs.Accepted.{RightMarks}
use Rattle.check_meaning.proofs.Bases.{valid_marks}
use Rattle.build_marks.specs.Marking.{plain_vertex, plain_piece, righted_piece, marked_piece, plain_record}
use Rattle.build_service.specs.Build.{plain_header, plain_mesh, plain_bytes, build_number, build_bytes}
use Rattle.build_meaning.specs.Righted.{righted_four, righted_sixfold, righted_positive}
use Rattle.build_meaning.specs.Marks.{marked_valid}
use Rattle.build_meaning.specs.Shared.{shared_face_one_mark}
use Rattle.build_meaning.specs.Written.{Given, plain_material}
use Rattle.build_meaning.specs.Accepts.{passed, build_fits}
use Rattle.build_meaning.specs.Output.{accepted_bytes}
use Rattle.cuts_names.specs.Names as Names
use Rattle.cuts_names.specs.Pieces.{Node, Side, Piece, generation, piece_at, piece_root_lem}
use Rattle.cuts.specs.Sets.{There, NoneHangs}
use Rattle.demands_words.specs.Words.{BaseMesh, named, SameBaseFace, SameBaseMark, RightPiece, ProperlyMarked, Fits, Shallow, Numbering, VerticesNumbered, RecordsNumbered, vertex_of, record_of, written, Stores, RightSet, no_cuts, BuiltMesh, built_base, CountsWithin, RightPlaces, RightPieces, RightTogether, AllUsed, NoVertexHangs}
use Rattle.demands_proofs.specs.Lawful.{ends_pair}
use Rattle.demands_proofs.specs.Turned.{pieces_turned, together_turned, used_turned, none_turned}
use Rattle.demands_proofs.specs.PlainRules.{built_turned}
use Rattle.demands_proofs.specs.BuildNumbers.{build_exactly}

-- ---- no cuts

-- Only base pieces are there.
there_root : (count r : ℕ) (path : List Side) → There (no_cuts count) (record { root = r; path = path }) → (r < count) × (path ≡ [])
there_root count r [] t = (t, refl)
there_root count r (side ∷ path) t = absurd (false≢true t)

module _ (b : BaseMesh) where
  none_hangs : NoneHangs (named b) (no_cuts b.pieces)
  none_hangs n l (e, h) = false≢true h.is_cut

  fits : CountsWithin b → Fits limits b (no_cuts b.pieces)
  fits c =
      record {
        cuts = [];
        cuts_listed_lem = record { distinct = tt; exact = λ n. refl };
        made = [];
        made_listed_lem = record { distinct = tt; made = λ x t. absurd (false≢true t); all = λ n t. absurd (false≢true t) };
        vertices = omega (arith, c.most_vertices);
        records = omega (arith, c.most_pieces);
        base_records_lem = c.most_pieces;
      }

  shallow : Shallow b (no_cuts b.pieces)
  shallow n t = let (l, e) = there_root b.pieces n.root n.path t in rw e (omega arith)

-- ---- the marks

module _ (coordinates : List ℤ) (corners : List ℕ) where
  abbrev b : BaseMesh
  b = built_base coordinates corners

  module _ (pieces : RightPieces b) where
    -- The piece before it is marked.
    abbrev before : ℕ → Declared.Piece
    before r = righted_piece coordinates (plain_piece corners r)

    right_piece : (r : ℕ) → r < b.pieces → RightPiece b r
    unfolding marked_piece
    right_piece r l =
        let x = pieces r l in
        let y : RightMarks (marked_piece coordinates (before r)) = valid_marks (marked_piece coordinates (before r)) (marked_valid coordinates (before r) x.different) in
        record {
          corners = x.in_base_lem;
          different = x.different;
          right_handed = righted_positive coordinates (plain_piece corners r) (λ e. x.volume (righted_sixfold coordinates (plain_piece corners r) ∙ e));
          marked = record { edge = y.edge; four = refl; marks = y.marks; refinement_faces = y.refinement_faces };
          flag = refl;
        }

    one_mark : (r s i j : ℕ) → r < b.pieces → s < b.pieces → i < 4 → j < 4 → SameBaseFace b r i s j → SameBaseMark b r i s j
    unfolding marked_piece
    one_mark r s i j lr ls hi hj same =
        let p = before r in
        let q = before s in
        ends_pair (marked_piece coordinates p) (marked_piece coordinates q) (mark (shape_of (marked_piece coordinates p)) i) (mark (shape_of (marked_piece coordinates q)) j)
        (shared_face_one_mark coordinates p q (pieces r lr).different (pieces s ls).different i j hi hj same)

    pub plain_marked : CountsWithin b → RightPlaces b → RightTogether b → AllUsed b → NoVertexHangs b → ProperlyMarked b
    plain_marked counts places together used inside =
        record {
          some_vertices = counts.some_vertices;
          some_pieces = counts.some_pieces;
          on_grid_lem = places.on_grid_lem;
          one_place = places.one_place;
          pieces = right_piece;
          used = used;
          no_vertex_hangs = inside;
          in_two = together.in_two;
          alone = together.alone;
          one_mark = λ r s i j h l hi hj. one_mark r s i j (omega arith) l hi hj;
        }

  -- ---- the bytes

  -- Vertices and records are numbered as they are listed.
  abbrev plain_numbers : Numbering
  plain_numbers =
      record {
        vertices = b.vertices;
        records = b.pieces;
        name_at = Names.base;
        place_at = b.place_at;
        p_at = λ v. none;
        q_at = λ v. none;
        node_at = λ r. record { root = r; path = [] };
        corner_at = b.corner_at;
        first_at = λ r. none;
      }

  vertices_numbered : VerticesNumbered b (no_cuts b.pieces) plain_numbers
  vertices_numbered =
      record {
        base_first = le_refl b.vertices;
        base_name = λ v l. refl;
        base_place = λ v l. refl;
        made = λ v h l. absurd (omega arith);
        every = λ n t. absurd (false≢true t);
        once = λ u v hu hv e. cc;
      }

  records_numbered : RightPieces b → RecordsNumbered b (no_cuts b.pieces) plain_numbers
  records_numbered pieces =
      record {
        base_first = le_refl b.pieces;
        base_node = λ r l. refl;
        there = λ r l. l;
        every = λ n t. let (l, e) = there_root b.pieces n.root n.path t in (n.root, l, λ i. record { root = n.root; path = sym e i });
        once = λ r s hr hs e. ap (λ (n : Node). n.root) e;
        corner_there = λ r l. (pieces r l).in_base_lem;
        corner = λ r l k s. ap (λ (p : Piece Names.Name). p.corner k) (sym (piece_root_lem (named b) r));
        uncut = λ r l u. refl;
        cut = λ r l t. absurd (false≢true t);
      }

  vertex_same : (v : ℕ) → v < b.vertices → plain_vertex coordinates v ≡ vertex_of b plain_numbers v
  unfolding plain_vertex
  vertex_same v l = rw (lt-ltb v b.vertices l) refl

  four : (r : ℕ) → length (plain_piece corners r).corners ≡ 4
  unfolding plain_piece
  four r = refl

  record_same : (r : ℕ) → plain_record coordinates corners r ≡ record_of b plain_numbers r
  unfolding plain_record marked_piece piece_at
  record_same r =
      let p = marked_piece coordinates (righted_piece coordinates (plain_piece corners r)) in
      λ i.
      record {
        piece = record {
          corners = sym (four_of p.corners 0 (righted_four coordinates (plain_piece corners r) (four r))) i;
          edge = p.edge;
          marks = p.marks;
          flag = 0;
          generation = 0;
          material = plain_material coordinates corners r i;
        };
        first_child = none;
      }

  mesh_same : (job : ℕ) → plain_mesh job coordinates corners ≡ written job 0 b plain_numbers
  unfolding plain_mesh plain_header
  mesh_same job =
      λ i.
      record {
        header = plain_header job coordinates corners;
        vertices = list_same b.vertices (plain_vertex coordinates) (vertex_of b plain_numbers) vertex_same i;
        records = list_same b.pieces (plain_record coordinates corners) (record_of b plain_numbers) (λ r l. record_same r) i;
      }

  pub plain_stores : (job : ℕ) → U32 job → RightPieces b → Counted kind1 (plain_mesh job coordinates corners) → Stores (stored1 (plain_bytes job coordinates corners)) job 0 b (no_cuts b.pieces)
  unfolding plain_bytes
  plain_stores job small pieces counted =
      record {
        job_fits = small;
        round_fits = omega arith;
        materials = λ r l. record { byte = omega arith; none = λ _. refl };
        numbers = plain_numbers;
        vertices_numbered = vertices_numbered;
        records_numbered = records_numbered pieces;
        bytes = sym (one_buffer kind1 right1 refl (plain_mesh job coordinates corners) counted) ∙ ap (stored_as kind1 right1) (mesh_same job);
      }

-- ---- what build accepts

module _ (job : ℕ) (coordinates : List ℤ) (corners : List ℕ) (room : ℕ) (g : Given job coordinates corners) (accepted : build_number job coordinates corners room ≡ 0) where
  pub build_stores : RightSet limits (built_base coordinates corners) (no_cuts (built_base coordinates corners).pieces)
      × Stores (stored1 (plain_bytes job coordinates corners)) job 0 (built_base coordinates corners) (no_cuts (built_base coordinates corners).pieces)
  build_stores =
      let asked = (build_exactly job coordinates corners room g).gives_0.0 accepted in
      let t = built_turned coordinates corners in
      let b = built_base coordinates corners in
      let pieces : RightPieces b = pieces_turned t asked.pieces in
      let counts : CountsWithin b = record { some_vertices = asked.counts.some_vertices; most_vertices = asked.counts.most_vertices; some_pieces = asked.counts.some_pieces; most_pieces = asked.counts.most_pieces } in
      let places : RightPlaces b = record { on_grid_lem = asked.places.on_grid_lem; one_place = asked.places.one_place } in (
        record { marked = plain_marked coordinates corners pieces counts places (together_turned t asked.together) (used_turned t asked.used) (none_turned t asked.no_vertex_hangs); none_hangs = none_hangs b; fits = fits b counts; shallow = shallow b },
        plain_stores coordinates corners job g.fits_job pieces (build_fits job coordinates corners room g accepted).counts,
      )

  pub built : BuiltMesh job coordinates corners (build_bytes job coordinates corners room) room
  built =
      record {
        right = build_stores.0;
        result = plain_bytes job coordinates corners;
        stores = build_stores.1;
        fits_room = (passed job coordinates corners room accepted).fits;
        buffer = accepted_bytes job coordinates corners room accepted;
      }
