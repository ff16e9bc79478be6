-- The base records that check reads from what build writes: where 5 holds of the pieces as they are given, it holds of these, and they are right-handed.
use Rattle.std.specs.Prelude.{◌≡◌, List, ℕ, ◌/◌, ◌<◌, length, get_or, ℤ, ◌≤ℤ◌}
use Rattle.std.proofs.Math.Path.{sym, ap, subst}
use Rattle.std.proofs.Common.{◌∙◌, arith}
use Rattle.std.proofs.Math.IntN.{pos}
use Rattle.piece.specs.declared.Piece.{Piece}
use Rattle.piece.specs.Ends.{corner_at}
use Rattle.grid.specs.Places.{point_of}
use Rattle.grid_volume.specs.Volume.{signed_of}
use Rattle.grid_volume.specs.Formal.{same_corners_lem}
use Rattle.grid_volume.specs.Handed.{not_negative, positive_not_negative}
use Rattle.stored.specs.declared.Vertex.{Vertex}
use Rattle.stored.specs.declared.Header.{Header}
use Rattle.stored.specs.declared.Record.{Record}
use Rattle.stored.specs.Layout.{version1, stored_none}
use Rattle.mesh_tables.specs.Tables.{Tables, base_vertices, all_vertices, base_records, all_records, piece_at, corner_point, signed_at, sixfold_at}
use Rattle.check_meaning.specs.Tests.{Fails, none_passes}
use Rattle.check_meaning.specs.Accepted.{BasePiece}
use Rattle.check_meaning.specs.Bases.{base_piece_lem}
use Rattle.build_marks.specs.Marking.{plain_vertex, plain_piece, plain_point, righted_piece, marked_piece, plain_record}
use Rattle.build_service.specs.Build.{plain_header, bad_given_pieces}
use Rattle.build_meaning.specs.Righted.{sixfold_four, slot_given, slot_small, righted_corner, righted_different, righted_sixfold, righted_positive}
use Rattle.build_meaning.specs.Written.{Given, CountsFit, written, stored_corner, header_read, vertex_read, record_read}

abbrev pub RightGiven : List ℤ → List ℕ → Type 0
RightGiven coordinates corners = (n : ℕ) → n < length corners / 4 → BasePiece (length coordinates / 3) (plain_vertex coordinates) (plain_piece corners n)

-- Rule 5, of the pieces as they are given.
pub given_holds : (coordinates : List ℤ) (corners : List ℕ) →
    Fails (bad_given_pieces coordinates corners) (RightGiven coordinates corners)
unfolding bad_given_pieces
given_holds coordinates corners =
    none_passes (length corners / 4) (λ n l. base_piece_lem (length coordinates / 3) (plain_vertex coordinates) (plain_piece corners n))

module _ (job : ℕ) (coordinates : List ℤ) (corners : List ℕ) (g : Given job coordinates corners) (fit : CountsFit coordinates corners) (right_given : RightGiven coordinates corners) where
  abbrev m : Tables
  m = written job coordinates corners

  header : m.header ≡ plain_header job coordinates corners
  header = header_read job coordinates corners g fit

  -- All vertices and all records are base ones.
  pub all_base : (all_vertices m ≡ base_vertices m) × (all_records m ≡ base_records m)
  unfolding plain_header
  all_base = (ap (λ (h : Header). h.vertices) header ∙ sym (ap (λ (h : Header). h.base_vertices) header), ap (λ (h : Header). h.records) header ∙ sym (ap (λ (h : Header). h.base_records) header))

  all_plain : all_records m ≡ length corners / 4
  unfolding plain_header
  all_plain = ap (λ (h : Header). h.records) header

  -- 5 leaves no corner of 65,535, which would be read as none.
  pub named : (n : ℕ) → n < length corners / 4 → (k : ℕ) → get_or (plain_record coordinates corners n).piece.corners k 0 < stored_none version1
  named n l = stored_corner coordinates corners n (λ c. c < stored_none version1) (omega arith) (λ k s. omega (arith, (right_given n l).in_base_lem k s, fit.vertices))

  -- The records that check reads are the plain ones.
  pub records_read : (n : ℕ) → n < length corners / 4 → m.record_at n ≡ plain_record coordinates corners n
  records_read = record_read job coordinates corners g fit named

  -- So are its pieces, in the base that check reads.
  pub stored_piece : (n : ℕ) → n < base_records m → piece_at m n ≡ marked_piece coordinates (righted_piece coordinates (plain_piece corners n))
  unfolding plain_record
  stored_piece n l = ap (λ (r : Record). r.piece) (records_read n (omega (arith, all_base.1, all_plain)))

  stored_vertex_lem : (v : ℕ) → v < length coordinates / 3 → m.vertex_at v ≡ plain_vertex coordinates v
  stored_vertex_lem = vertex_read job coordinates corners g fit

  all_listed : base_vertices m ≡ length coordinates / 3
  unfolding plain_header
  all_listed = ap (λ (h : Header). h.base_vertices) header

  module _ (n : ℕ) (l : n < base_records m) where
    abbrev given : Piece
    given = plain_piece corners n

    it : BasePiece (length coordinates / 3) (plain_vertex coordinates) given
    it = right_given n (omega (arith, all_base.1, all_plain))

    stored_corner_at : (k : ℕ) → k < 4 → corner_at (piece_at m n) k ≡ corner_at (righted_piece coordinates given) k
    unfolding marked_piece
    stored_corner_at k s = ap (λ (p : Piece). corner_at p k) (stored_piece n l)

    corner_in_base : (k : ℕ) → k < 4 → corner_at (righted_piece coordinates given) k < length coordinates / 3
    corner_in_base k s =
        let j = slot_given coordinates given k in
        omega (arith, righted_corner coordinates given k s, it.in_base_lem j (slot_small coordinates given k s))

    -- Its corners stand where the lists say.
    pub stored_point : (k : ℕ) → k < 4 → corner_point m.vertex_at (piece_at m n) k ≡ plain_point coordinates (righted_piece coordinates given) k
    unfolding plain_vertex
    stored_point k s =
        ap (λ (v : ℕ). point_of (m.vertex_at v).place) (stored_corner_at k s)
        ∙ ap (λ (v : Vertex). point_of v.place) (stored_vertex_lem (corner_at (righted_piece coordinates given) k) (corner_in_base k s))

    pub right_record : BasePiece (base_vertices m) m.vertex_at (piece_at m n)
    unfolding sixfold_at plain_vertex marked_piece
    right_record =
        record {
          different = λ j k lj lk e. righted_different coordinates given it.different j k lj lk (sym (stored_corner_at j lj) ∙ e ∙ stored_corner_at k lk);
          in_base_lem = λ k s. omega (arith, stored_corner_at k s, corner_in_base k s, all_listed);
          volume = λ e. it.volume (sym (sixfold_four (corner_point m.vertex_at (piece_at m n)) (plain_point coordinates (righted_piece coordinates given)) stored_point ∙ righted_sixfold coordinates given) ∙ e);
          generation = ap (λ (p : Piece). p.generation) (stored_piece n l);
          flag = ap (λ (p : Piece). p.flag) (stored_piece n l);
        }

    -- And it is right-handed.
    pub right_hand : pos 0 ≤ℤ signed_at m.vertex_at (piece_at m n)
    unfolding signed_at sixfold_at plain_vertex
    right_hand =
        let z = signed_of (plain_point coordinates (righted_piece coordinates given)) in
        subst (λ (x : ℤ). pos 0 ≤ℤ x) (sym (same_corners_lem (corner_point m.vertex_at (piece_at m n)) (plain_point coordinates (righted_piece coordinates given)) stored_point))
        ((not_negative z).0 (positive_not_negative z (righted_positive coordinates given it.volume)))
