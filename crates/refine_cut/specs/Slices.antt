-- The cut in two slices, byte for byte: where the layout has no room for one vertex and two records more, nothing is cut.
use Rattle.std.specs.Prelude.{Bool, cond, ◌&&◌, List, ℕ, ◌+◌, eqb, ltb}
use Rattle.piece.specs.declared.Ends.{Ends}
use Rattle.piece_cut.specs.Cut.{cut_of}
use Rattle.stored.specs.declared.Layout.{Layout}
use Rattle.stored.specs.declared.Header.{Header}
use Rattle.stored.specs.declared.Vertex.{Vertex}
use Rattle.stored.specs.declared.Record.{Record}
use Rattle.stored.specs.Layout.{base_into, grown_into, vertex_bytes, record_bytes, vertex_in, record_in}
use Rattle.mesh_tables.specs.Tables.{Tables, tables, vertex_with, refinement_ends}
use Rattle.refine_cut.specs.Cut.{midpoint_of, one_vertex_more, two_records_more, cut_record, leaf_record}

-- A header, a base slice and a growth slice.
pub record Slices : Type 0 where
  pub header : Header
  pub base : List ℕ
  pub grown : List ℕ

abbrev pub slices : Header → List ℕ → List ℕ → Slices
slices h base grown = record { header = h; base = base; grown = grown }

-- The tables that a layout finds in them.
abbrev pub tables_in : Layout → Slices → Tables
tables_in l s = tables s.header l s.base s.grown

-- With vertex i written, and with record i written.
unfoldable pub vertex_put : Layout → Slices → ℕ → Vertex → Slices
vertex_put l s i v =
    record {
      header = s.header;
      base = base_into l.vertices s.base i (vertex_bytes l.format v);
      grown = grown_into l.vertices s.grown i (vertex_bytes l.format v);
    }

unfoldable pub record_put : Layout → Slices → ℕ → Record → Slices
record_put l s i r =
    record {
      header = s.header;
      base = base_into l.records s.base i (record_bytes l.format r);
      grown = grown_into l.records s.grown i (record_bytes l.format r);
    }

-- With another header.
abbrev pub headed : Header → Slices → Slices
headed h s = record { header = h; base = s.base; grown = s.grown }

-- The midpoint of the edge with these ends, w where there is one, else appended.
unfoldable pub midpoint_put : Layout → Slices → Ends → ℕ → Slices
midpoint_put l s ends w =
    let appended = headed (one_vertex_more s.header) (vertex_put l s s.header.vertices (midpoint_of (vertex_in l s.base s.grown) ends)) in
    cond (eqb w s.header.vertices) appended s

-- The two children of record n, whose record is r, and their first one's number in it.
unfoldable pub children_put : Layout → Slices → ℕ → Record → ℕ → Slices
children_put l s n r w =
    let first = s.header.records in
    let cut = record_put l s n (cut_record r.piece first) in
    let one = record_put l cut first (leaf_record (cut_of r.piece w).first) in
    let two = record_put l one (first + 1) (leaf_record (cut_of r.piece w).second) in
    headed (two_records_more s.header) two

-- One vertex and two records more have room.
unfoldable pub has_room : Layout → Header → Bool
has_room l h = ltb h.vertices l.vertices.end && ltb (h.records + 1) l.records.end

-- Record n cut at vertex w, which is appended where w is the count of vertices.
unfoldable pub cut_with : Layout → Slices → ℕ → ℕ → Slices
cut_with l s n w =
    let r = record_in l s.base s.grown n in
    let cut = children_put l (midpoint_put l s (refinement_ends r.piece) w) n r w in
    cond (has_room l s.header) cut s

-- Record n cut at the vertex whose parents are its refinement edge's ends, and at the count of vertices where there is none.
unfoldable pub cut_put : Layout → Slices → ℕ → Slices
cut_put l s n = cut_with l s n (vertex_with (tables_in l s) (refinement_ends (record_in l s.base s.grown n).piece))
