-- Document 02, "Taking cuts back", sentence by sentence: what is taken away from a mesh's tables, what remains, and the tables that are left.
-- "The request names cut records": `named` says which.
use Rattle.std.specs.Prelude.{Bool, not, cond, ◌&&◌, ◌||◌, [], ◌∷◌, ℕ, ◌+◌, eqb, ltb, leb}
use Rattle.laws.specs.Below.{any_below, count_below}
use Rattle.laws_remaining.specs.Remaining.{old_below}
use Rattle.piece.specs.declared.Piece.{Piece}
use Rattle.piece.specs.Ends.{corner_at}
use Rattle.stored.specs.declared.Header.{Header}
use Rattle.stored.specs.declared.Vertex.{Vertex}
use Rattle.stored.specs.declared.Record.{Record}
use Rattle.stored.specs.Layout.{none}
use Rattle.mesh_tables.specs.Tables.{Tables, base_vertices, all_vertices, base_records, all_records, piece_at, uncut, is_cut, vertex_with, refinement_ends}
use Rattle.check_refusals.specs.Refusals.{is_child_of}

-- ---- what is taken away

-- The vertex that record n is cut at: the one with the ends of its refinement edge as parents.
unfoldable pub cut_vertex : Tables → ℕ → ℕ
cut_vertex m n = vertex_with m (refinement_ends (piece_at m n))

-- "has two leaves as children"
unfoldable pub leaf_children : (ℕ → Record) → ℕ → Bool
leaf_children record_at n = uncut (record_at (record_at n).first_child) && uncut (record_at ((record_at n).first_child + 1))

-- A record that is asked to give up its cut, and can: it is named, and has two leaves as children.
unfoldable pub freed : (ℕ → Record) → (ℕ → Bool) → ℕ → Bool
freed record_at named n = named n && leaf_children record_at n

-- Record n is cut at vertex v, and is not freed: it holds v.
unfoldable pub holds_vertex : Tables → (ℕ → Bool) → ℕ → ℕ → Bool
holds_vertex m named v n = is_cut m n && not (freed m.record_at named n) && eqb (cut_vertex m n) v

-- "A made vertex is taken away exactly when every record cut at it has two leaves as children and all those records are named"
unfoldable pub taken_away : Tables → (ℕ → Bool) → ℕ → Bool
taken_away m named v = leb (base_vertices m) v && not (any_below (all_records m) (holds_vertex m named v))

-- ---- what remains

unfoldable pub vertex_remains : Tables → (ℕ → Bool) → ℕ → Bool
vertex_remains m named v = ltb v (all_vertices m) && not (taken_away m named v)

-- "named records that don't meet this stay cut", and so do those that are not named: the vertex that record n is cut at remains.
unfoldable pub stays_cut : Tables → (ℕ → Bool) → ℕ → Bool
stays_cut m named n = is_cut m n && vertex_remains m named (cut_vertex m n)

-- A record of the base remains, and so does a child of a record that stays cut: with the vertex go both children of every record cut at it.
unfoldable pub record_remains : Tables → (ℕ → Bool) → ℕ → Bool
record_remains m named c = ltb c (all_records m) && (ltb c (base_records m) || any_below (all_records m) (λ n. is_child_of (m.record_at n) c && stays_cut m named n))

-- ---- "Records and vertices that remain close up in their order"

-- What remains gets as its number how many before it remain; what does not becomes none, and none stays none.
unfoldable pub renumbered : (ℕ → Bool) → ℕ → ℕ
renumbered remains x = let next = count_below x remains in cond (remains x) next none

-- A vertex with its parents' new numbers.
unfoldable pub vertex_again : (ℕ → ℕ) → Vertex → Vertex
vertex_again new v = record { place = v.place; p = new v.p; q = new v.q }

-- A piece with its corners' new numbers.
unfoldable pub piece_again : (ℕ → ℕ) → Piece → Piece
piece_again new p =
    record {
      corners = new (corner_at p 0) ∷ new (corner_at p 1) ∷ new (corner_at p 2) ∷ new (corner_at p 3) ∷ [];
      edge = p.edge;
      marks = p.marks;
      flag = p.flag;
      generation = p.generation;
      material = p.material;
    }

-- A record with the new numbers of its corners and of its first child. One whose children have gone is a leaf again.
unfoldable pub record_again : (ℕ → ℕ) → (ℕ → ℕ) → Record → Record
record_again new_vertex new_record r = record { piece = piece_again new_vertex r.piece; first_child = new_record r.first_child }

-- The header with as many vertices and records as remain.
abbrev pub header_again : Header → ℕ → ℕ → Header
header_again h vertices records =
    record {
      job = h.job;
      round = h.round;
      base_vertices = h.base_vertices;
      vertices = vertices;
      base_records = h.base_records;
      records = records;
    }

-- The tables that are left: number k of the result is the one that remains and before which k remain.
unfoldable pub closed_up : Tables → (ℕ → Bool) → Tables
closed_up m named =
    let vertices = vertex_remains m named in
    let records = record_remains m named in
    record {
      header = header_again m.header (count_below (all_vertices m) vertices) (count_below (all_records m) records);
      vertex_at = λ k. vertex_again (renumbered vertices) (m.vertex_at (old_below (all_vertices m) vertices k));
      record_at = λ k. record_again (renumbered vertices) (renumbered records) (m.record_at (old_below (all_records m) records k));
    }
