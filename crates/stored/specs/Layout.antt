-- The stored mesh and the selection of document 01, sentence by sentence, and what document 02 makes of them in later versions: what each byte says, and the bytes that say
-- it. Past the end every byte reads as 0, so that nothing here is left undefined.
use Rattle.std.specs.Prelude.{Bool, false, cond, ◌&&◌, ℕ, ◌+◌, ◌-◌, ◌*◌, ◌%◌, ◌^◌, ◌≤◌, ◌<◌, List, [], ◌∷◌, ◌++◌, length, get_or, take, drop, leb, ltb, eqb}
use Rattle.std.proofs.Common.{arith}
use Rattle.std.proofs.lemmas.List.Edits.{sets}
use Rattle.laws.specs.Below.{list_below, bit}
use Rattle.laws.specs.Lists.{joined}
use Rattle.laws.specs.Numbers.{number, number_bytes}
use Rattle.piece.specs.declared.Ends.{Ends}
use Rattle.grid.specs.Places.{shift}
use Rattle.stored.specs.declared.Limits.{Limits}
use Rattle.stored.specs.declared.Format.{Format}
use Rattle.stored.specs.declared.Kind.{Kind}
use Rattle.stored.specs.declared.Table.{Table}
use Rattle.stored.specs.declared.Layout.{Layout}
use Rattle.stored.specs.declared.Header.{Header}
use Rattle.stored.specs.declared.Vertex.{Vertex}
use Rattle.stored.specs.declared.Record.{Record}
use Rattle.stored.specs.declared.Selection.{Selection}

-- ---- the kinds

-- "Stored mesh, version 1": a vertex or record number has two bytes, and a record no material.
abbrev pub version1 : Format
version1 = record { wide = false; material = false }

-- "At most 1,024 vertices and 3,072 records"
abbrev pub limits : Limits
limits = record { vertices = 1024; records = 3072; base_records = 3072 }

-- Version 1 stands in one buffer.
abbrev pub kind1 : Kind
kind1 = record { format = version1; limits = limits; two = false }

-- Version 2 has "one byte more after the first-child number", version 3 "u32 for counts, parents, corners and first child [..] and the material byte" (document 02).
abbrev pub version_of : Format → ℕ
version_of f = cond f.wide 3 (cond f.material 2 1)

-- ---- "Numbers are little-endian, coordinates in two's complement."

abbrev pub byte_at : List ℕ → ℕ → ℕ
byte_at s at = get_or s at 0

abbrev pub u16_at : List ℕ → ℕ → ℕ
u16_at s at = number 2 (drop at s)

abbrev pub u32_at : List ℕ → ℕ → ℕ
u32_at s at = number 4 (drop at s)

abbrev pub u16_bytes : ℕ → List ℕ
u16_bytes n = number_bytes 2 n

abbrev pub u32_bytes : ℕ → List ℕ
u32_bytes n = number_bytes 4 n

-- How many bytes a vertex or record number has, and that number.
abbrev pub number_width : Format → ℕ
number_width f = cond f.wide 4 2

abbrev pub number_at : Format → List ℕ → ℕ → ℕ
number_at f s at = number (number_width f) (drop at s)

abbrev pub bytes_of : Format → ℕ → List ℕ
bytes_of f n = number_bytes (number_width f) n

-- The place of a coordinate that is stored as the number n, and the number that a place's coordinate is stored as. In two's complement
-- of 16 bits the two are the same sum (`Coordinate` says what it means).
abbrev pub place_of : ℕ → ℕ
place_of n = (n + shift) % 65536

abbrev pub stored_of : ℕ → ℕ
stored_of place = (place + shift) % 65536

-- In memory, for no parent and for no child.
abbrev pub none : ℕ
none = 4294967295

-- "65,535 for both parents", "65,535 if uncut", and "4,294,967,295 for none" in version 3: how none is stored. Any other vertex or record number is stored as it is.
abbrev pub stored_none : Format → ℕ
stored_none f = 256 ^ number_width f - 1

unfoldable pub or_none : Format → ℕ → ℕ
or_none f n = cond (eqb n (stored_none f)) none n

unfoldable pub stored_or_none : Format → ℕ → ℕ
stored_or_none f n = cond (eqb n none) (stored_none f) n

-- "the round is 65,535": the last that a u16 holds
abbrev pub last_round : ℕ
last_round = 65535

-- "Header, 20 bytes", "Vertex, 10 bytes", "Record, 17 bytes"; 18 with a material; in version 3 "header 28 bytes, vertex 14, record 28".
abbrev pub header_width : Format → ℕ
header_width f = 12 + number_width f * 4

abbrev pub vertex_width : Format → ℕ
vertex_width f = 6 + number_width f * 2

abbrev pub record_width : Format → ℕ
record_width f = number_width f * 5 + 7 + bit f.material

-- ---- "Header, 20 bytes: `TMB` at 0; version 1 (u16) at 3; job (u32) at 5; round (u16) at 9; base vertices (u16) at 11; all vertices
-- at 13; base records at 15; all records at 17; a zero byte at 19."

-- The first bytes of a mesh and of a selection: `T` (84), `M` (77) and a letter of its own, `B` (66) or `S` (83), then the version.
unfoldable pub marked : ℕ → ℕ → List ℕ → Bool
marked letter version s = eqb (byte_at s 0) 84 && eqb (byte_at s 1) 77 && eqb (byte_at s 2) letter && eqb (u16_at s 3) version

unfoldable pub mark_bytes : ℕ → ℕ → List ℕ
mark_bytes letter version = 84 ∷ 77 ∷ letter ∷ u16_bytes version

-- 2: "wrong mark or version, or byte 19 not 0"
unfoldable pub right_mark : Format → List ℕ → Bool
right_mark f s = marked 66 (version_of f) s && eqb (byte_at s (11 + number_width f * 4)) 0

unfoldable pub header_from : Format → List ℕ → Header
header_from f s =
    record {
      job = u32_at s 5;
      round = u16_at s 9;
      base_vertices = number_at f s 11;
      vertices = number_at f s (11 + number_width f * 1);
      base_records = number_at f s (11 + number_width f * 2);
      records = number_at f s (11 + number_width f * 3);
    }

unfoldable pub header_bytes : Format → Header → List ℕ
header_bytes f h =
    mark_bytes 66 (version_of f)
    ++ u32_bytes h.job
    ++ u16_bytes h.round
    ++ (bytes_of f h.base_vertices ++ (bytes_of f h.vertices ++ (bytes_of f h.base_records ++ (bytes_of f h.records ++ 0 ∷ []))))

-- "The round rises by 1": the one after the last, which 18 keeps from being met, is 0. All else in the header stays.
abbrev pub round_after : ℕ → ℕ
round_after round = cond (ltb round last_round) (round + 1) 0

abbrev pub next_round : Header → Header
next_round h =
    record {
      job = h.job;
      round = round_after h.round;
      base_vertices = h.base_vertices;
      vertices = h.vertices;
      base_records = h.base_records;
      records = h.records;
    }

-- "20 + 10·vertices + 17·records"
abbrev pub mesh_length : Format → ℕ → ℕ → ℕ
mesh_length f vertices records = header_width f + vertex_width f * vertices + record_width f * records

-- ---- one buffer or two

-- "Input and output are each two buffers, base (header, vertices, records) and grown (vertices, records)" (document 02): of so many in all, how many stand in the base buffer
-- and how many in the grown one. In one buffer all stand in it.
abbrev pub in_base : Bool → ℕ → ℕ → ℕ
in_base two base all = cond two base all

abbrev pub in_growth : Bool → ℕ → ℕ → ℕ
in_growth two base all = cond two (all - base) 0

abbrev pub vertices_in_base : Kind → Header → ℕ
vertices_in_base k h = in_base k.two h.base_vertices h.vertices

abbrev pub records_in_base : Kind → Header → ℕ
records_in_base k h = in_base k.two h.base_records h.records

abbrev pub vertices_grown : Kind → Header → ℕ
vertices_grown k h = in_growth k.two h.base_vertices h.vertices

abbrev pub records_grown : Kind → Header → ℕ
records_grown k h = in_growth k.two h.base_records h.records

abbrev pub base_length : Kind → Header → ℕ
base_length k h = mesh_length k.format (vertices_in_base k h) (records_in_base k h)

abbrev pub grown_length : Kind → Header → ℕ
grown_length k h = vertex_width k.format * vertices_grown k h + record_width k.format * records_grown k h

-- 1: "under 20 bytes, or length is not 20 + 10·vertices + 17·records", and in version 3 "for either input part of a wrong length"
unfoldable pub right_length : Kind → List ℕ → List ℕ → Bool
right_length k base grown =
    let h = header_from k.format base in
    leb (header_width k.format) (length base) && (eqb (length grown) (grown_length k h) && eqb (length base) (base_length k h))

-- ---- "Vertex, 10 bytes: x, y, z (i16), parents p, q (u16)."

-- The vertex that the first bytes say.
unfoldable pub vertex_from : Format → List ℕ → Vertex
vertex_from f s =
    record {
      place = record { x = place_of (u16_at s 0); y = place_of (u16_at s 2); z = place_of (u16_at s 4) };
      p = or_none f (number_at f s 6);
      q = or_none f (number_at f s (6 + number_width f));
    }

unfoldable pub vertex_bytes : Format → Vertex → List ℕ
vertex_bytes f v =
    u16_bytes (stored_of v.place.x)
    ++ u16_bytes (stored_of v.place.y)
    ++ u16_bytes (stored_of v.place.z)
    ++ bytes_of f (stored_or_none f v.p)
    ++ bytes_of f (stored_or_none f v.q)

-- A vertex's parents, as the ends of an edge.
abbrev pub parents_of : Vertex → Ends
parents_of v = record { lower = v.p; higher = v.q }

-- ---- "Record, 17 bytes: four corners (u16), refinement edge (u8), marks of faces 0 to 3 (u8 each), flag, generation, number of the
-- first child (u16; 65,535 if uncut)", and in version 2 "a material from 0 to 255, one byte more after the first-child number" (document 02).

-- Where the refinement edge stands, and after it the other fields.
abbrev pub edge_at : Format → ℕ
edge_at f = number_width f * 4

abbrev pub corners_from : Format → List ℕ → List ℕ
corners_from f s =
    or_none f (number_at f s (number_width f * 0))
    ∷ or_none f (number_at f s (number_width f * 1))
    ∷ or_none f (number_at f s (number_width f * 2))
    ∷ or_none f (number_at f s (number_width f * 3))
    ∷ []

abbrev pub marks_from : Format → List ℕ → List ℕ
marks_from f s = byte_at s (edge_at f + 1) ∷ byte_at s (edge_at f + 2) ∷ byte_at s (edge_at f + 3) ∷ byte_at s (edge_at f + 4) ∷ []

-- 0 where none is stored.
abbrev pub material_from : Format → List ℕ → ℕ
material_from f s = cond f.material (byte_at s (edge_at f + (7 + number_width f))) 0

-- The record that the first bytes say.
unfoldable pub record_from : Format → List ℕ → Record
record_from f s =
    record {
      piece = record {
        corners = corners_from f s;
        edge = byte_at s (edge_at f + 0);
        marks = marks_from f s;
        flag = byte_at s (edge_at f + 5);
        generation = byte_at s (edge_at f + 6);
        material = material_from f s;
      };
      first_child = or_none f (number_at f s (edge_at f + 7));
    }

unfoldable pub record_bytes : Format → Record → List ℕ
record_bytes f r =
    bytes_of f (stored_or_none f (get_or r.piece.corners 0 0))
    ++ (bytes_of f (stored_or_none f (get_or r.piece.corners 1 0))
    ++ (bytes_of f (stored_or_none f (get_or r.piece.corners 2 0))
    ++ (bytes_of f (stored_or_none f (get_or r.piece.corners 3 0))
    ++ (r.piece.edge
    ∷ get_or r.piece.marks 0 0
    ∷ get_or r.piece.marks 1 0
    ∷ get_or r.piece.marks 2 0
    ∷ get_or r.piece.marks 3 0
    ∷ r.piece.flag
    ∷ r.piece.generation
    ∷ (bytes_of f (stored_or_none f r.first_child) ++ cond f.material (r.piece.material ∷ []) [])))))

-- ---- tables in two slices

-- The bytes of entry i of a table: in the base slice for the first `count`, in the growth slice for the others; past the end there are none. "a returned part of the base
-- slice or of the growth slice, chosen by the number against the base count"
unfoldable pub held_in : Table → List ℕ → List ℕ → ℕ → List ℕ
held_in t base grown i =
    let in_base_slice = take t.width (drop (t.width * i) (drop t.base base)) in
    let in_growth_slice = take t.width (drop (t.width * (i - t.count)) (drop t.grown grown)) in
    let there = cond (ltb i t.count) in_base_slice in_growth_slice in
    cond (ltb i t.end) there []

-- The base slice and the growth slice with an entry's bytes written.
unfoldable pub base_into : Table → List ℕ → ℕ → List ℕ → List ℕ
base_into t base i bytes =
    let put = sets base (t.base + t.width * i) bytes in
    cond (ltb i t.end && ltb i t.count) put base

unfoldable pub grown_into : Table → List ℕ → ℕ → List ℕ → List ℕ
grown_into t grown i bytes =
    let put = sets grown (t.grown + t.width * (i - t.count)) bytes in
    cond (ltb i t.end && leb t.count i) put grown

-- Vertex i and record i of a mesh.
unfoldable pub vertex_in : Layout → List ℕ → List ℕ → ℕ → Vertex
vertex_in l base grown i = vertex_from l.format (held_in l.vertices base grown i)

unfoldable pub record_in : Layout → List ℕ → List ℕ → ℕ → Record
record_in l base grown i = record_from l.format (held_in l.records base grown i)

-- Where the tables of a stored mesh with this header stand: after the header the vertices, and the records after them; what has grown in the same order in a buffer of its own.
abbrev pub layout_of : Kind → Header → Layout
layout_of k h =
    let wide = vertex_width k.format in
    record {
      format = k.format;
      vertices = record { width = wide; count = vertices_in_base k h; end = h.vertices; base = header_width k.format; grown = 0 };
      records =
          record {
            width = record_width k.format;
            count = records_in_base k h;
            end = h.records;
            base = header_width k.format + wide * vertices_in_base k h;
            grown = wide * vertices_grown k h;
          };
    }

-- Tables to work on: so many vertices, alone in the base slice, and so many records, alone in the growth slice.
abbrev pub working : Format → ℕ → ℕ → Layout
working f vertices records =
    record {
      format = f;
      vertices = record { width = vertex_width f; count = vertices; end = vertices; base = 0; grown = 0 };
      records = record { width = record_width f; count = 0; end = records; base = vertex_width f * vertices; grown = 0 };
    }

-- ---- the whole mesh

-- A kind whose numbers can say what its limits allow: each vertex and record is below none, and so are the one vertex and the two records more that a cut can
-- make; and it has no more base records than version 1.
pub record RightKind (k : Kind) : Type 0 where
  pub vertices : k.limits.vertices + 1 < stored_none k.format
  pub records : k.limits.records + 2 < stored_none k.format
  pub base_records_lem : k.limits.base_records ≤ limits.base_records

-- The first two as a test.
unfoldable pub numbers_reach : Kind → Bool
numbers_reach k = ltb (k.limits.vertices + 1) (stored_none k.format) && ltb (k.limits.records + 2) (stored_none k.format)

abbrev pub right1 : RightKind kind1
right1 = record { vertices = omega arith; records = omega arith; base_records_lem = omega arith }

-- A stored mesh: its kind, and its bytes in one buffer, which is the base buffer and holds all, or in two.
pub record Stored : Type 0 where
  pub kind : Kind
  pub right : RightKind kind
  pub base : List ℕ
  pub grown : List ℕ

-- "Stored mesh, version 1"
abbrev pub stored1 : List ℕ → Stored
stored1 s = record { kind = kind1; right = right1; base = s; grown = [] }

-- A mesh of the same kind with these bytes.
abbrev pub of_kind : Stored → List ℕ → List ℕ → Stored
of_kind s base grown = record { kind = s.kind; right = s.right; base = base; grown = grown }

abbrev pub header_of : Stored → Header
header_of s = header_from s.kind.format s.base

abbrev pub layout_in : Stored → Layout
layout_in s = layout_of s.kind (header_of s)

-- Vertex i and record i of it.
abbrev pub stored_vertex : Stored → ℕ → Vertex
stored_vertex s = vertex_in (layout_in s) s.base s.grown

abbrev pub stored_record : Stored → ℕ → Record
stored_record s = record_in (layout_in s) s.base s.grown

-- A mesh as numbers, in which no byte is left.
pub record Mesh : Type 0 where
  pub header : Header
  pub vertices : List Vertex
  pub records : List Record

unfoldable pub mesh_of : Stored → Mesh
mesh_of s =
    record {
      header = header_of s;
      vertices = list_below (header_of s).vertices (stored_vertex s);
      records = list_below (header_of s).records (stored_record s);
    }

-- The bytes of a header, of vertices and of records, one after the other.
unfoldable pub laid_out : Format → Header → List Vertex → List Record → List ℕ
laid_out f h vertices records = header_bytes f h ++ joined (vertex_bytes f) vertices ++ joined (record_bytes f) records

-- All of a mesh in one buffer.
abbrev pub mesh_bytes : Format → Mesh → List ℕ
mesh_bytes f m = laid_out f m.header m.vertices m.records

-- The mesh in as many buffers as its kind has: the header and the first vertices and records in the base buffer, the others in the grown one.
unfoldable pub stored_as : (k : Kind) → RightKind k → Mesh → Stored
stored_as k right m =
    let f = k.format in
    let v = vertices_in_base k m.header in
    let r = records_in_base k m.header in
    record {
      kind = k;
      right = right;
      base = laid_out f m.header (take v m.vertices) (take r m.records);
      grown = joined (vertex_bytes f) (drop v m.vertices) ++ joined (record_bytes f) (drop r m.records);
    }

-- The bytes of all vertices and of all records of a mesh with this header in one buffer.
unfoldable pub vertex_part : Format → Header → List ℕ → List ℕ
vertex_part f h s = take (vertex_width f * h.vertices) (drop (header_width f) s)

unfoldable pub record_part : Format → Header → List ℕ → List ℕ
record_part f h s = take (record_width f * h.records) (drop (header_width f + vertex_width f * h.vertices) s)

-- The mesh with this header and the first of these vertices' and records' bytes, in one buffer.
unfoldable pub assembled : Format → Header → List ℕ → List ℕ → List ℕ
assembled f h vertices records = header_bytes f h ++ take (vertex_width f * h.vertices) vertices ++ take (record_width f * h.records) records

-- ---- "Selection: `TMS` at 0, version 1 at 3, job at 5, round at 9, count n (u16) at 11, then n record numbers (u16)."

-- "Selection version 2 has a u32 count and u32 numbers, 15 bytes and 4n" (document 02): it belongs to a mesh with such numbers.
abbrev pub selection_version : Format → ℕ
selection_version f = cond f.wide 2 1

abbrev pub selection_width : Format → ℕ
selection_width f = 11 + number_width f

-- A stored selection: the format of the mesh that it belongs to, and its bytes.
pub record StoredSelection : Type 0 where
  pub format : Format
  pub bytes : List ℕ

abbrev pub selection_in : Format → List ℕ → StoredSelection
selection_in f s = record { format = f; bytes = s }

-- "Selection: `TMS` at 0, version 1 at 3"
abbrev pub selection1 : List ℕ → StoredSelection
selection1 s = selection_in version1 s

-- 12: "selection's mark or version wrong"
unfoldable pub right_selection_mark : StoredSelection → Bool
right_selection_mark s = marked 83 (selection_version s.format) s.bytes

-- 11: "selection under 13 bytes, or length not 13 + 2n"
unfoldable pub right_selection_length : StoredSelection → Bool
right_selection_length s =
    let heading = selection_width s.format in
    leb heading (length s.bytes) && eqb (length s.bytes) (heading + number_width s.format * number_at s.format s.bytes 11)

unfoldable pub selection_of : StoredSelection → Selection
selection_of s = record { job = u32_at s.bytes 5; round = u16_at s.bytes 9; count = number_at s.format s.bytes 11 }

-- The selection's i-th record number.
unfoldable pub named_in : StoredSelection → ℕ → ℕ
named_in s i = number_at s.format (drop (selection_width s.format) s.bytes) (number_width s.format * i)

-- A selection's bytes, of its heading and its record numbers.
unfoldable pub selection_bytes : Format → Selection → List ℕ → List ℕ
selection_bytes f h named = mark_bytes 83 (selection_version f) ++ u32_bytes h.job ++ u16_bytes h.round ++ bytes_of f h.count ++ joined (bytes_of f) named
