-- Document 01, "Build and refine": "A cut uses the vertex with that parent pair if there is one, else appends it; then appends its two
-- children and enters the first one's number in the cut record." Said of tables as functions of the number.
use Rattle.std.specs.Prelude.{cond, ℕ, ◌+◌, eqb}
use Rattle.laws.specs.Below.{put_at}
use Rattle.piece.specs.declared.Piece.{Piece}
use Rattle.piece.specs.declared.Ends.{Ends}
use Rattle.piece_cut.specs.Cut.{cut_of}
use Rattle.grid.specs.Places.{halfway_of}
use Rattle.stored.specs.declared.Header.{Header}
use Rattle.stored.specs.declared.Vertex.{Vertex}
use Rattle.stored.specs.declared.Record.{Record}
use Rattle.stored.specs.Layout.{none}
use Rattle.mesh_tables.specs.Tables.{Tables, all_vertices, all_records, piece_at, vertex_with, refinement_ends}

-- "A made vertex records its two parents and stands exactly halfway between them.": where a sum is odd, the half is rounded down.
unfoldable pub midpoint_of : (ℕ → Vertex) → Ends → Vertex
midpoint_of vertex_at ends =
    record { place = halfway_of (vertex_at ends.lower).place (vertex_at ends.higher).place; p = ends.lower; q = ends.higher }

-- The header with one vertex more, and with two records more; "all else in the header stays".
abbrev pub one_vertex_more : Header → Header
one_vertex_more h =
    record {
      job = h.job;
      round = h.round;
      base_vertices = h.base_vertices;
      vertices = h.vertices + 1;
      base_records = h.base_records;
      records = h.records;
    }

abbrev pub two_records_more : Header → Header
two_records_more h =
    record {
      job = h.job;
      round = h.round;
      base_vertices = h.base_vertices;
      vertices = h.vertices;
      base_records = h.base_records;
      records = h.records + 2;
    }

-- "uses the vertex with that parent pair if there is one, else appends it": none has it where the count is found for its number.
unfoldable pub with_midpoint : Tables → Ends → Tables
with_midpoint m ends =
    let appended : Tables =
    record {
      header = one_vertex_more m.header;
      vertex_at = put_at (all_vertices m) (midpoint_of m.vertex_at ends) m.vertex_at;
      record_at = m.record_at;
    } in
    cond (eqb (vertex_with m ends) (all_vertices m)) appended m

-- A cut record, and a leaf.
abbrev pub cut_record : Piece → ℕ → Record
cut_record p first = record { piece = p; first_child = first }

abbrev pub leaf_record : Piece → Record
leaf_record p = record { piece = p; first_child = none }

-- "then appends its two children and enters the first one's number in the cut record": record n is cut at vertex w.
unfoldable pub with_children : Tables → ℕ → ℕ → Tables
with_children m n w =
    let first = all_records m in
    let p = piece_at m n in
    record {
      header = two_records_more m.header;
      vertex_at = m.vertex_at;
      record_at =
          put_at (first + 1) (leaf_record (cut_of p w).second)
          (put_at first (leaf_record (cut_of p w).first)
          (put_at n (cut_record p first) m.record_at));
    }

-- Record n is cut.
unfoldable pub cut_at : Tables → ℕ → Tables
cut_at m n =
    let ends = refinement_ends (piece_at m n) in
    with_children (with_midpoint m ends) n (vertex_with m ends)
