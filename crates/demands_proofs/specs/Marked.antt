-- The base mesh of tables that check accepts is properly marked.
-- Assumes nothing.
use Rattle.std.specs.Prelude.{ℕ, ◌<◌}
use Rattle.piece.specs.Shape.{shape_of, mark}
use Rattle.mesh_tables.specs.Tables as Check
use Rattle.mesh_tables.specs.Tables.{base_records, piece_at, signed_at}
use Rattle.check_meaning.specs.Accepted.{RightMesh}
use Rattle.check_meaning.specs.Bases.{base_right_handed}
use Rattle.check_meaning.specs.Cuts.{Four}
use Rattle.demands_words.specs.Words.{RightPiece, ProperlyMarked}
use Rattle.demands_proofs.specs.Lawful.{ends_pair}
use Rattle.demands_proofs.specs.BaseOf.{base_of}

module _ (m : Check.Tables) (a : RightMesh m) (four : (n : ℕ) → Four (piece_at m n)) where
  right_piece : (r : ℕ) → r < base_records m → RightPiece (base_of m) r
  unfolding signed_at
  right_piece r h =
      let x = a.base_records_lem r h in
      let y = a.base_marks r h in
      record {
        corners = x.in_base_lem;
        different = x.different;
        right_handed = base_right_handed m a.base_records_lem a.handed r h;
        marked = record { edge = y.edge; four = (four r).marks; marks = y.marks; refinement_faces = y.refinement_faces };
        flag = x.flag;
      }

  pub base_marked_lem : ProperlyMarked (base_of m)
  base_marked_lem =
      record {
        some_vertices = a.counts.base_vertices_lem;
        some_pieces = a.counts.base_records_lem;
        on_grid_lem = λ v h. let x = a.vertices.base v h in (x.x, x.y, x.z);
        one_place = a.vertices.one_place;
        pieces = right_piece;
        used = a.uses;
        no_vertex_hangs = λ v r l h x. a.no_vertex_hangs r h v l (record { lies_in = x.lies_in; no_corner = x.no_corner });
        in_two = a.faces.in_two;
        alone = a.faces.different;
        one_mark =
            λ r s i j l h hi hj same.
            ends_pair (piece_at m r) (piece_at m s) (mark (shape_of (piece_at m r)) i) (mark (shape_of (piece_at m s)) j) (a.faces.one_mark r s i j l h hi hj same);
      }
