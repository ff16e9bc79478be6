-- The tables that a mesh's bytes hold, as the mathematics of sets of cuts has them: functions of the numbers, without places.
use Rattle.piece.specs.Shape.{shape_of}
use Rattle.piece.specs.Ends.{corner_at}
use Rattle.mesh_tables.specs.Tables as Check
use Rattle.mesh_tables.specs.Tables.{base_vertices, all_vertices, base_records, all_records, piece_at, is_cut}
use Rattle.cuts.specs.Tables.{Tables}

abbrev pub link : Check.Tables → Tables
link m =
    record {
      base_vertices = base_vertices m;
      vertices = all_vertices m;
      base_records = base_records m;
      records = all_records m;
      p = λ v. (m.vertex_at v).p;
      q = λ v. (m.vertex_at v).q;
      shape = λ r. shape_of (piece_at m r);
      corner = λ r k. corner_at (piece_at m r) k;
      generation = λ r. (piece_at m r).generation;
      cut = λ r. is_cut m r;
      first = λ r. (m.record_at r).first_child;
    }
