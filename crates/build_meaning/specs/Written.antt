-- What build writes keeps every number of the plain mesh: each fits its stored width, and check reads it again.
use Rattle.std.specs.Prelude.{◌≡◌, Bool, true, List, get_or, ℤ, pos, ltb}
use Rattle.std.proofs.Math.Path.{refl, ap, subst}
use Rattle.std.proofs.Common.{sym, ◌∙◌, ⊎_elim, ltb-true, ltb-false}
use Rattle.std.proofs.Math.Logic.{inl, inr}
use Prim.Native.Nat.{ℕ, zero, suc, ◌+◌, ◌*◌, ◌/◌, ◌≤◌, ◌<◌}
use native.Mathlib.Omega.{arith}
use Rattle.std.proofs.Math.ListN.{length, get_or-eq_default}
use Rattle.laws.specs.Below.{either, first_at_most, list_length, list_at}
use Rattle.laws.specs.Lists.{bytes_none, bytes_cons}
use Rattle.piece_edges.specs.Edges.{on_face}
use Rattle.piece.specs.declared.Piece.{Piece}
use Rattle.piece.specs.Ends.{corner_at}
use Rattle.stored.specs.declared.Vertex.{Vertex}
use Rattle.stored.specs.declared.Record.{Record}
use Rattle.stored.specs.Layout.{version1, kind1, right1, stored_none, or_none, mesh_length, header_from, vertex_from, vertex_bytes, record_from, record_bytes, Stored, stored1, stored_vertex, stored_record, stored_as}
use Rattle.stored.specs.Fitting.{U16, U32, VertexFits, RecordFits}
use Rattle.stored.specs.Entries.{vertex_again_lem, record_again_lem, corner_read}
use Rattle.stored.specs.Meshes.{Counted, MeshFits, one_within, one_buffer, mesh_header, mesh_vertex_bytes, mesh_record_bytes, mesh_length_lem}
use Rattle.mesh_tables.specs.Tables.{Tables, tables_of}
use Rattle.build_marks.specs.Marking.{place_for, plain_place, plain_vertex, plain_piece, righted_piece, first_ranked, marked_piece, plain_record}
use Rattle.build_service.specs.Build.{plain_header, plain_mesh, plain_bytes}
use Rattle.build_meaning.specs.Righted.{slot_given, slot_small, righted_corner, righted_four, righted_material}

-- The job is a u32, every coordinate's place is a u16, as that of an i16 is, and the corners are u16.
pub record Given (job : ℕ) (coordinates : List ℤ) (corners : List ℕ) : Type 0 where
  pub fits_job : U32 job
  pub each_coordinate : (k : ℕ) → k < length coordinates → U16 (place_for (get_or coordinates k (pos 0)))
  pub each_corner : (k : ℕ) → k < length corners → U16 (get_or corners k 0)

-- The counts fit their u16 of the header.
pub record CountsFit (coordinates : List ℤ) (corners : List ℕ) : Type 0 where
  pub vertices : U16 (length coordinates / 3)
  pub records : U16 (length corners / 4)

-- The tables that check reads from what build writes.
abbrev pub written : ℕ → List ℤ → List ℕ → Tables
written job coordinates corners = tables_of (stored1 (plain_bytes job coordinates corners))

-- A first-ranked edge is stored in a byte.
ranked_byte : (coordinates : List ℤ) (p : Piece) (among : ℕ → Bool) → first_ranked coordinates p among < 256
unfolding first_ranked
ranked_byte coordinates p among = let l : first_ranked coordinates p among ≤ 6 = first_at_most _ 6 in omega arith

-- The corners that are stored are those that are given, in other slots; past the fourth a list has 0.
plain_four : (coordinates : List ℤ) (corners : List ℕ) (n : ℕ) → length (plain_record coordinates corners n).piece.corners ≡ 4
unfolding plain_record marked_piece plain_piece
plain_four coordinates corners n = righted_four coordinates (plain_piece corners n) refl

-- Build is given no material.
pub plain_material : (coordinates : List ℤ) (corners : List ℕ) (n : ℕ) → (plain_record coordinates corners n).piece.material ≡ 0
unfolding plain_record marked_piece plain_piece
plain_material coordinates corners n = righted_material coordinates (plain_piece corners n)

-- The corner in slot k.
pub record_corner : (coordinates : List ℤ) (corners : List ℕ) (n k : ℕ) → k < 4 →
    get_or (plain_record coordinates corners n).piece.corners k 0 ≡ corner_at (plain_piece corners n) (slot_given coordinates (plain_piece corners n) k)
unfolding plain_record marked_piece
record_corner coordinates corners n k s = righted_corner coordinates (plain_piece corners n) k s

pub stored_corner : (coordinates : List ℤ) (corners : List ℕ) (n : ℕ) (P : ℕ → Type 0) → P 0 → ((k : ℕ) → k < 4 → P (corner_at (plain_piece corners n) k)) →
    (k : ℕ) → P (get_or (plain_record coordinates corners n).piece.corners k 0)
stored_corner coordinates corners n P none each k =
    let p = plain_piece corners n in
    ⊎_elim
    (λ t. let s = ltb-true k 4 t in subst P (sym (record_corner coordinates corners n k s)) (each (slot_given coordinates p k) (slot_small coordinates p k s)))
    (λ f. subst P (sym (get_or-eq_default (plain_record coordinates corners n).piece.corners 0 (omega (arith, plain_four coordinates corners n, ltb-false k 4 f)))) none)
    (either (ltb k 4))

module _ (job : ℕ) (coordinates : List ℤ) (corners : List ℕ) (g : Given job coordinates corners) (c : CountsFit coordinates corners) where
  vertex_fits : (v : ℕ) → v < length coordinates / 3 → VertexFits version1 (plain_vertex coordinates v)
  unfolding plain_vertex plain_place
  vertex_fits v l =
      record {
        x = g.each_coordinate (3 * v) (omega arith);
        y = g.each_coordinate (3 * v + 1) (omega arith);
        z = g.each_coordinate (3 * v + 2) (omega arith);
        p = inl refl;
        q = inl refl;
      }

  -- A corner is a u16.
  given_small : (n : ℕ) → n < length corners / 4 → (k : ℕ) → k < 4 → U16 (corner_at (plain_piece corners n) k)
  unfolding plain_piece
  given_small n l zero s = g.each_corner (4 * n) (omega arith)
  given_small n l (suc zero) s = g.each_corner (4 * n + 1) (omega arith)
  given_small n l (suc (suc zero)) s = g.each_corner (4 * n + 2) (omega arith)
  given_small n l (suc (suc (suc zero))) s = g.each_corner (4 * n + 3) (omega arith)
  given_small n l (suc (suc (suc (suc k)))) s = absurd (omega arith)

  pub corner_small : (n : ℕ) → n < length corners / 4 → (k : ℕ) → U16 (get_or (plain_record coordinates corners n).piece.corners k 0)
  corner_small n l k =
      stored_corner coordinates corners n U16 (omega arith) (λ j s. given_small n l j s) k

  plain_counted : Counted kind1 (plain_mesh job coordinates corners)
  unfolding plain_mesh plain_header
  plain_counted =
      record {
        header = record {
          job = g.fits_job;
          round = omega arith;
          base_vertices = c.vertices;
          vertices = c.vertices;
          base_records = c.records;
          records = c.records;
        };
        vertex_count = list_length (plain_vertex coordinates) (length coordinates / 3);
        record_count = list_length (plain_record coordinates corners) (length corners / 4);
        within = one_within kind1 (plain_header job coordinates corners) refl;
      }

  -- Build's bytes are all of the mesh, stored in one buffer.
  pub plain_stored : stored_as kind1 right1 (plain_mesh job coordinates corners) ≡ stored1 (plain_bytes job coordinates corners)
  unfolding plain_bytes
  plain_stored = one_buffer kind1 right1 refl (plain_mesh job coordinates corners) plain_counted

  -- The bytes are "20 + 10·vertices + 17·records".
  pub plain_length : length (plain_bytes job coordinates corners) ≡ mesh_length version1 (length coordinates / 3) (length corners / 4)
  unfolding plain_mesh plain_header
  plain_length = ap (λ (t : Stored). length t.base) (sym plain_stored) ∙ mesh_length_lem kind1 right1 (plain_mesh job coordinates corners) plain_counted

  -- Check reads the plain header.
  pub header_read : (written job coordinates corners).header ≡ plain_header job coordinates corners
  unfolding tables_of plain_mesh
  header_read = ap (λ (t : Stored). header_from version1 t.base) (sym plain_stored) ∙ mesh_header kind1 right1 (plain_mesh job coordinates corners) plain_counted

  -- Check reads the plain vertices.
  pub vertex_read : (v : ℕ) → v < length coordinates / 3 → (written job coordinates corners).vertex_at v ≡ plain_vertex coordinates v
  unfolding tables_of plain_mesh
  vertex_read v l =
      let d = plain_vertex coordinates v in
      ap (λ (t : Stored). stored_vertex t v) (sym plain_stored)
      ∙ mesh_vertex_bytes kind1 right1 (plain_mesh job coordinates corners) plain_counted v d (rw list_length l)
      ∙ ap (λ (x : Vertex). vertex_from version1 (vertex_bytes version1 x)) (list_at (plain_vertex coordinates) (length coordinates / 3) v d l)
      ∙ vertex_again_lem version1 d (vertex_fits v l)

  -- Check reads the bytes of the plain records, and so their corners, but that 65,535 is read as none.
  record_bytes_read : (n : ℕ) → n < length corners / 4 → (written job coordinates corners).record_at n ≡ record_from version1 (record_bytes version1 (plain_record coordinates corners n))
  unfolding tables_of plain_mesh
  record_bytes_read n l =
      let d = plain_record coordinates corners n in
      ap (λ (t : Stored). stored_record t n) (sym plain_stored)
      ∙ mesh_record_bytes kind1 right1 (plain_mesh job coordinates corners) plain_counted n d (rw list_length l)
      ∙ ap (λ (x : Record). record_from version1 (record_bytes version1 x)) (list_at (plain_record coordinates corners) (length corners / 4) n d l)

  pub plain_corner_read : (n : ℕ) → n < length corners / 4 → (k : ℕ) → k < 4 → corner_at ((written job coordinates corners).record_at n).piece k ≡ or_none version1 (get_or (plain_record coordinates corners n).piece.corners k 0)
  plain_corner_read n l k s =
      ap (λ (r : Record). corner_at r.piece k) (record_bytes_read n l) ∙ corner_read version1 (plain_record coordinates corners n) k s (corner_small n l k)

  module _ (named : (n : ℕ) → n < length corners / 4 → (k : ℕ) → get_or (plain_record coordinates corners n).piece.corners k 0 < stored_none version1) where
    record_fits : (n : ℕ) → n < length corners / 4 → RecordFits version1 (plain_record coordinates corners n)
    unfolding plain_record marked_piece
    record_fits n l =
        let p = righted_piece coordinates (plain_piece corners n) in
        let byte : (among : ℕ → Bool) → first_ranked coordinates p among < 256 = ranked_byte coordinates p in
        record {
          four_corners = plain_four coordinates corners n;
          corners = λ k. inr (named n l k);
          edge = byte (λ e. true);
          four_marks = refl;
          marks = bytes_cons (byte (λ e. on_face e 0)) (bytes_cons (byte (λ e. on_face e 1)) (bytes_cons (byte (λ e. on_face e 2)) (bytes_cons (byte (λ e. on_face e 3)) bytes_none)));
          flag = omega arith;
          generation = omega arith;
          first_child = inl refl;
          material = let none = plain_material coordinates corners n in record { byte = omega arith; none = λ _. none };
        }

    -- Every number of the plain mesh fits its stored width.
    pub plain_fits : MeshFits kind1 (plain_mesh job coordinates corners)
    unfolding plain_mesh
    plain_fits =
        let vertices = list_length (plain_vertex coordinates) (length coordinates / 3) in
        let records = list_length (plain_record coordinates corners) (length corners / 4) in
        record {
          counts = plain_counted;
          vertices = λ k d l. let b : k < length coordinates / 3 = omega arith in
              subst (VertexFits version1) (sym (list_at (plain_vertex coordinates) (length coordinates / 3) k d b)) (vertex_fits k b);
          records = λ k d l. let b : k < length corners / 4 = omega arith in
              subst (RecordFits version1) (sym (list_at (plain_record coordinates corners) (length corners / 4) k d b)) (record_fits k b);
        }

    -- Check reads the plain records.
    pub record_read : (n : ℕ) → n < length corners / 4 → (written job coordinates corners).record_at n ≡ plain_record coordinates corners n
    record_read n l = record_bytes_read n l ∙ record_again_lem version1 (plain_record coordinates corners n) (record_fits n l)
