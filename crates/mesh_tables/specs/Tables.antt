-- A decoded mesh as tables: its header, and a vertex and a record for each number.
use Rattle.std.specs.Prelude.{Bool, not, ◌&&◌, List, ℕ, ℤ, eqb, leb}
use Rattle.laws.specs.Below.{any_below, first_below}
use Rattle.piece.specs.declared.Piece.{Piece}
use Rattle.piece.specs.declared.Ends.{Ends}
use Rattle.piece.specs.Ends.{corner_at, ends_of}
use Rattle.grid.specs.Places.{Point, point_of}
use Rattle.grid_volume.specs.Volume.{signed_of, sixfold_of}
use Rattle.stored.specs.declared.Layout.{Layout}
use Rattle.stored.specs.declared.Header.{Header}
use Rattle.stored.specs.declared.Vertex.{Vertex}
use Rattle.stored.specs.declared.Record.{Record}
use Rattle.stored.specs.Layout.{none, Stored, header_of, layout_in, vertex_in, record_in}
use Rattle.stored_entries.specs.declared.Mesh.{Mesh}

pub record Tables : Type 0 where
  pub header : Header
  pub vertex_at : ℕ → Vertex
  pub record_at : ℕ → Record

-- The tables with this header, as a layout finds them in two slices.
abbrev pub tables : Header → Layout → List ℕ → List ℕ → Tables
tables h l base grown = record { header = h; vertex_at = vertex_in l base grown; record_at = record_in l base grown }

-- The tables of a mesh as it is read.
abbrev pub tables_read : Mesh → Tables
tables_read m = tables m.header m.layout m.base.now m.grown.now

-- The tables that a stored mesh holds.
unfoldable pub tables_of : Stored → Tables
tables_of s = tables (header_of s) (layout_in s) s.base s.grown

-- The four counts.
abbrev pub base_vertices : Tables → ℕ
base_vertices m = m.header.base_vertices

abbrev pub all_vertices : Tables → ℕ
all_vertices m = m.header.vertices

abbrev pub base_records : Tables → ℕ
base_records m = m.header.base_records

abbrev pub all_records : Tables → ℕ
all_records m = m.header.records

-- The piece that record n holds.
abbrev pub piece_at : Tables → ℕ → Piece
piece_at m n = (m.record_at n).piece

-- "A leaf is a record that is not cut": its first child is none.
abbrev pub uncut : Record → Bool
uncut r = eqb r.first_child none

abbrev pub is_leaf : Tables → ℕ → Bool
is_leaf m n = uncut (m.record_at n)

abbrev pub is_cut : Tables → ℕ → Bool
is_cut m n = not (is_leaf m n)

-- Vertex v is made, and its parents are these two.
unfoldable pub has_parents : Tables → Ends → ℕ → Bool
has_parents m ends v = leb (base_vertices m) v && (eqb (m.vertex_at v).p ends.lower && eqb (m.vertex_at v).q ends.higher)

-- The vertex with these parents, and the count of vertices where there is none.
unfoldable pub vertex_with : Tables → Ends → ℕ
vertex_with m ends = first_below (all_vertices m) (has_parents m ends)

-- "An edge hangs if it is an edge of a leaf and some made vertex has its two ends as parents": the edge with these ends.
unfoldable pub hangs : Tables → Ends → Bool
hangs m ends = any_below (all_vertices m) (has_parents m ends)

-- Edge e of record n hangs; some edge of record n does; some edge of some record does.
unfoldable pub hangs_at : Tables → ℕ → ℕ → Bool
hangs_at m n e = is_leaf m n && hangs m (ends_of (piece_at m n) e)

unfoldable pub leaf_hangs : Tables → ℕ → Bool
leaf_hangs m n = any_below 6 (hangs_at m n)

unfoldable pub hanging_edge : Tables → Bool
hanging_edge m = any_below (all_records m) (leaf_hangs m)

-- The ends of a piece's refinement edge.
abbrev pub refinement_ends : Piece → Ends
refinement_ends p = ends_of p p.edge

-- Where the corner in slot k of a piece stands.
abbrev pub corner_point : (ℕ → Vertex) → Piece → ℕ → Point
corner_point vertex_at p k = point_of (vertex_at (corner_at p k)).place

-- "the signed determinant" of a piece (document 02), and its "sixfold volume".
unfoldable pub signed_at : (ℕ → Vertex) → Piece → ℤ
signed_at vertex_at p = signed_of (corner_point vertex_at p)

unfoldable pub sixfold_at : (ℕ → Vertex) → Piece → ℕ
sixfold_at vertex_at p = sixfold_of (corner_point vertex_at p)
