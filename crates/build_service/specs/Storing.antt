-- How the plain mesh is written, part after part, and what is judged of what was written.
use Rattle.std.specs.Prelude.{◌≡◌, ◌≢◌, Bool, true, false, cond, ◌||◌, ℕ, ◌+◌, ◌-◌, ◌*◌, ◌/◌, ◌≤◌, ◌<◌, length, drop, replicate, ℤ, eqb, ltb}
use Rattle.std.proofs.Math.Path.{refl, ap}
use Rattle.std.proofs.Common.{sym, ◌∙◌, add-one, take_at}
use native.Mathlib.Omega.{arith}
use mathlib.Core.List.{List, [], ◌∷◌, ◌++◌, append-nil}
use Rattle.std.proofs.Math.ListN.{take}
use Rattle.std.proofs.Math.Seq.{sets, length-sets}
use Rattle.std.proofs.lemmas.List.Edits.{sets-eq}
use borrow.Author.Tests.{ne_eqb, lt-ltb, le-ltb}
use Rattle.laws.specs.Below.{any_below, list_below, list_none, list_suc, list_length}
use Rattle.laws.specs.Order.{Row, row, first_broken}
use Rattle.laws.proofs.Order.{one_after_other}
use Rattle.laws.specs.Lists.{joined, joined_append, joined_length, sets_append, clear_with, output_of}
use Rattle.stored.specs.declared.Layout.{Layout}
use Rattle.stored.specs.declared.Header.{Header}
use Rattle.stored.specs.declared.Vertex.{Vertex}
use Rattle.stored.specs.declared.Record.{Record}
use Rattle.stored.specs.Layout.{version1, vertex_width, record_width, limits, header_bytes, vertex_bytes, record_bytes, base_into, grown_into, working, assembled, laid_out, stored1}
use Rattle.stored.specs.Held.{into_base, not_into_base, into_growth, not_into_growth}
use Rattle.stored.specs.Fitting.{U32, HeaderFits}
use Rattle.stored.specs.Entries.{vertex_wide_lem, record_wide_lem}
use Rattle.check_refusals.specs.Bounded.{Bounded}
use Rattle.mesh_tables.specs.Tables.{Tables, tables_of}
use Rattle.check_refusals.specs.Refusals.{wrong_counts, bad_vertices, bad_piece, bad_base_faces, unused_vertices, hanging_vertices}
use Rattle.check_refusals.specs.Bounded.{Bounded, bounded}
use Rattle.build_marks.specs.Marking.{plain_vertex, plain_piece, plain_record}
use Rattle.build_service.specs.Build.{not_whole, plain_header, plain_mesh, plain_bytes, bad_given_pieces, build_rows, build_number, build_bytes}

-- ---- the parts

-- s, with the first n vertices written, and s with the first n records written.
unfoldable pub vertices_put : List ℕ → List ℤ → ℕ → List ℕ
vertices_put s coordinates n = sets s 0 (joined (vertex_bytes version1) (list_below n (plain_vertex coordinates)))

unfoldable pub records_put : List ℕ → List ℤ → List ℕ → ℕ → List ℕ
records_put s coordinates corners n = sets s 0 (joined (record_bytes version1) (list_below n (plain_record coordinates corners)))

-- one entry more, and the front that so many entries make up
module _ {ℓ} {A : Type ℓ} (bytes : A → List ℕ) (w : ℕ) (wide : (x : A) → length (bytes x) ≡ w) (f : ℕ → A) (s : List ℕ) where
  entries_long : (n : ℕ) → length (joined bytes (list_below n f)) ≡ w * n
  entries_long n = joined_length bytes w wide (list_below n f) ∙ ap (λ (k : ℕ). w * k) (list_length f n)

  entries_more : (i : ℕ) → joined bytes (list_below (i + 1) f) ≡ joined bytes (list_below i f) ++ bytes (f i)
  unfolding joined
  entries_more i =
      rw (add-one i, list_suc f i, joined_append bytes (list_below i f) (f i ∷ []), append-nil (bytes (f i)))

  entries_next : (i : ℕ) → sets (sets s 0 (joined bytes (list_below i f))) (0 + w * i) (bytes (f i)) ≡ sets s 0 (joined bytes (list_below (i + 1) f))
  entries_next i =
      ap (λ (k : ℕ). sets (sets s 0 (joined bytes (list_below i f))) (0 + k) (bytes (f i))) (sym (entries_long i))
      ∙ sym (sets_append s 0 (joined bytes (list_below i f)) (bytes (f i)))
      ∙ ap (sets s 0) (sym (entries_more i))

  entries_front : (n : ℕ) → w * n ≤ length s → take (w * n) (sets s 0 (joined bytes (list_below n f))) ≡ joined bytes (list_below n f)
  entries_front n l =
      let all : List ℕ = joined bytes (list_below n f) in
      let long : length all ≡ w * n = entries_long n in
      ap (take (w * n)) (sets-eq all s 0 (omega arith)) ∙ take_at all (drop (0 + length all) s) (w * n) long

module _ (s : List ℕ) (coordinates : List ℤ) where
  pub vertices_none : vertices_put s coordinates 0 ≡ s
  unfolding vertices_put joined
  vertices_none = rw (list_none (plain_vertex coordinates))

  pub vertices_next : (i : ℕ) → sets (vertices_put s coordinates i) (0 + vertex_width version1 * i) (vertex_bytes version1 (plain_vertex coordinates i)) ≡ vertices_put s coordinates (i + 1)
  unfolding vertices_put
  vertices_next i = entries_next (vertex_bytes version1) (vertex_width version1) (vertex_wide_lem version1) (plain_vertex coordinates) s i

  pub vertices_length : (i : ℕ) → length (vertices_put s coordinates i) ≡ length s
  unfolding vertices_put
  vertices_length i = length-sets s 0 (joined (vertex_bytes version1) (list_below i (plain_vertex coordinates)))

module _ (s : List ℕ) (coordinates : List ℤ) (corners : List ℕ) where
  pub records_none : records_put s coordinates corners 0 ≡ s
  unfolding records_put joined
  records_none = rw (list_none (plain_record coordinates corners))

  pub records_next : (i : ℕ) → sets (records_put s coordinates corners i) (0 + record_width version1 * (i - 0)) (record_bytes version1 (plain_record coordinates corners i)) ≡ records_put s coordinates corners (i + 1)
  unfolding records_put
  records_next i =
      let all : i - 0 ≡ i = omega arith in
      ap (λ (k : ℕ). sets (records_put s coordinates corners i) (0 + record_width version1 * k) (record_bytes version1 (plain_record coordinates corners i))) all
      ∙ entries_next (record_bytes version1) (record_width version1) (record_wide_lem version1) (plain_record coordinates corners) s i

  pub records_length : (i : ℕ) → length (records_put s coordinates corners i) ≡ length s
  unfolding records_put
  records_length i = length-sets s 0 (joined (record_bytes version1) (list_below i (plain_record coordinates corners)))

-- one turn: an entry is written into the slice of its table, and the other slice is as it was
module _ (vertices records i : ℕ) (l : Layout) (is : l ≡ working version1 vertices records) (coordinates : List ℤ) where
  pub vertex_step : i < vertices → (s base base' : List ℕ) (v : Vertex) → base ≡ vertices_put s coordinates i → v ≡ plain_vertex coordinates i →
      base' ≡ base_into l.vertices base i (vertex_bytes l.format v) → base' ≡ vertices_put s coordinates (i + 1)
  vertex_step lt s base base' v b e put =
      put
      ∙ (λ k. base_into (is k).vertices (b k) i (vertex_bytes (is k).format (e k)))
      ∙ sym (into_base (working version1 vertices records).vertices (vertices_put s coordinates i) i (vertex_bytes version1 (plain_vertex coordinates i)) lt lt)
      ∙ vertices_next s coordinates i

  pub vertex_frame : i < vertices → (s grown grown' bytes : List ℕ) → grown ≡ s →
      grown' ≡ grown_into l.vertices grown i bytes → grown' ≡ s
  vertex_frame lt s grown grown' bytes b put =
      put
      ∙ (λ k. grown_into (is k).vertices (b k) i bytes)
      ∙ sym (not_into_growth (working version1 vertices records).vertices s i bytes lt)

  pub record_step : i < records → (corners s grown grown' : List ℕ) (r : Record) → grown ≡ records_put s coordinates corners i → r ≡ plain_record coordinates corners i →
      grown' ≡ grown_into l.records grown i (record_bytes l.format r) → grown' ≡ records_put s coordinates corners (i + 1)
  record_step lt corners s grown grown' r b e put =
      put
      ∙ (λ k. grown_into (is k).records (b k) i (record_bytes (is k).format (e k)))
      ∙ sym (into_growth (working version1 vertices records).records (records_put s coordinates corners i) i (record_bytes version1 (plain_record coordinates corners i)) lt (omega arith))
      ∙ records_next s coordinates corners i

  pub record_frame : (s base base' bytes : List ℕ) → base ≡ s →
      base' ≡ base_into l.records base i bytes → base' ≡ s
  record_frame s base base' bytes b put =
      put
      ∙ (λ k. base_into (is k).records (b k) i bytes)
      ∙ sym (not_into_base (working version1 vertices records).records s i bytes (omega arith))

-- ---- the whole

module _ (job : ℕ) (coordinates : List ℤ) (corners : List ℕ) (right : wrong_counts limits (plain_header job coordinates corners) ≡ false) where
  few : Bounded limits (plain_header job coordinates corners)
  few = bounded limits (plain_header job coordinates corners) right

  pub few_vertices : length coordinates / 3 ≤ limits.vertices
  unfolding plain_header
  few_vertices = few.vertices

  pub few_records : length corners / 4 ≤ limits.records
  unfolding plain_header
  few_records = few.records

  pub header_fits : U32 job → HeaderFits version1 (plain_header job coordinates corners)
  unfolding plain_header
  header_fits j =
      record {
        job = j;
        round = omega arith;
        base_vertices = omega (arith, few_vertices);
        vertices = omega (arith, few_vertices);
        base_records = omega (arith, few_records);
        records = omega (arith, few_records);
      }

-- The work areas, which hold as many vertices and records as there may be: what is written to them, and what is assembled from it.
module _ (job : ℕ) (coordinates : List ℤ) (corners : List ℕ) (right : wrong_counts limits (plain_header job coordinates corners) ≡ false)
    (h : Header) (is : h ≡ plain_header job coordinates corners)
    (s t vertices records : List ℕ) (room : length s ≡ vertex_width version1 * limits.vertices) (deep : length t ≡ record_width version1 * limits.records)
    (first : vertices ≡ vertices_put s coordinates h.vertices) (then : records ≡ records_put t coordinates corners h.records) where
  counted : h.vertices ≡ length coordinates / 3
  unfolding plain_header
  counted = ap (λ (g : Header). g.vertices) is

  numbered : h.records ≡ length corners / 4
  unfolding plain_header
  numbered = ap (λ (g : Header). g.records) is

  pub vertices_held : vertex_width version1 * h.vertices ≤ length vertices
  vertices_held = omega (arith, ap length first ∙ vertices_length s coordinates h.vertices, counted, room, few_vertices job coordinates corners right)

  pub records_held : record_width version1 * h.records ≤ length records
  records_held = omega (arith, ap length then ∙ records_length t coordinates corners h.records, numbered, deep, few_records job coordinates corners right)

  pub plain_assembled : assembled version1 h vertices records ≡ plain_bytes job coordinates corners
  unfolding assembled plain_bytes plain_mesh laid_out vertices_put records_put
  plain_assembled =
      let v = entries_front (vertex_bytes version1) (vertex_width version1) (vertex_wide_lem version1) (plain_vertex coordinates) s h.vertices (omega (arith, counted, room, few_vertices job coordinates corners right)) in
      let r = entries_front (record_bytes version1) (record_width version1) (record_wide_lem version1) (plain_record coordinates corners) t h.records (omega (arith, numbered, deep, few_records job coordinates corners right)) in
      let vs : take (vertex_width version1 * h.vertices) vertices ≡ joined (vertex_bytes version1) (list_below (length coordinates / 3) (plain_vertex coordinates)) =
      ap (take (vertex_width version1 * h.vertices)) first ∙ v ∙ ap (λ (n : ℕ). joined (vertex_bytes version1) (list_below n (plain_vertex coordinates))) counted in
      let rs : take (record_width version1 * h.records) records ≡ joined (record_bytes version1) (list_below (length corners / 4) (plain_record coordinates corners)) =
      ap (take (record_width version1 * h.records)) then ∙ r ∙ ap (λ (n : ℕ). joined (record_bytes version1) (list_below n (plain_record coordinates corners))) numbered in
      λ i. header_bytes version1 (is i) ++ vs i ++ rs i

-- What is judged and stored: the header's counts are within the limits and its numbers fit, the tables are held by their work areas, and the output buffer is clear.
pub record Ready (h : Header) (vertices records out : List ℕ) : Type 0 where
  pub bounded : Bounded limits h
  pub fits : HeaderFits version1 h
  pub vertices_there : vertex_width version1 * h.vertices ≤ length vertices
  pub records_there : record_width version1 * h.records ≤ length records
  pub clear : out ≡ replicate (length out) 0

-- So many pieces, of so many vertices, as the header says: those that are given.
pub given_pieces : (job : ℕ) (coordinates : List ℤ) (corners : List ℕ) (h : Header) → h ≡ plain_header job coordinates corners →
    any_below h.records (λ n. bad_piece h.vertices (plain_vertex coordinates) (plain_piece corners n)) ≡ bad_given_pieces coordinates corners
unfolding bad_given_pieces plain_header
given_pieces job coordinates corners h is =
    ap (λ (g : Header). any_below g.records (λ n. bad_piece g.vertices (plain_vertex coordinates) (plain_piece corners n))) is

-- The counts are wrong, or not, whatever the job.
pub counts_alone : (job : ℕ) (coordinates : List ℤ) (corners : List ℕ) → wrong_counts limits (plain_header 0 coordinates corners) ≡ wrong_counts limits (plain_header job coordinates corners)
unfolding wrong_counts plain_header
counts_alone job coordinates corners = refl

-- A count that is not beyond itself changes nothing.
pub or_none_lem : (b : Bool) → b ≡ (b || false || false)
or_none_lem true = refl
or_none_lem false = refl

-- ---- what is judged of a stored mesh

-- 4, 7, 8 and 23, of the tables, and between them whether 5 is broken by the pieces as they are given.
abbrev judged_rows : Bool → Tables → List Row
judged_rows given m = row 4 (bad_vertices m) ∷ row 5 given ∷ row 7 (bad_base_faces m) ∷ row 8 (unused_vertices m) ∷ row 23 (hanging_vertices m) ∷ []

unfoldable pub judged_number : Bool → Tables → ℕ
judged_number given m = first_broken (judged_rows given m)

module _ (given : Bool) (m : Tables) where
  pub judged_4 : bad_vertices m ≡ true → 4 ≡ judged_number given m
  unfolding judged_number first_broken
  judged_4 a = rw a

  pub judged_5 : bad_vertices m ≡ false → given ≡ true → 5 ≡ judged_number given m
  unfolding judged_number first_broken
  judged_5 a b = rw (a, b)

  pub judged_7 : bad_vertices m ≡ false → given ≡ false → bad_base_faces m ≡ true → 7 ≡ judged_number given m
  unfolding judged_number first_broken
  judged_7 a b c = rw (a, b, c)

  pub judged_8 : bad_vertices m ≡ false → given ≡ false → bad_base_faces m ≡ false → unused_vertices m ≡ true → 8 ≡ judged_number given m
  unfolding judged_number first_broken
  judged_8 a b c d = rw (a, b, c, d)

  pub judged_23 : bad_vertices m ≡ false → given ≡ false → bad_base_faces m ≡ false → unused_vertices m ≡ false → hanging_vertices m ≡ true → 23 ≡ judged_number given m
  unfolding judged_number first_broken
  judged_23 a b c d e = rw (a, b, c, d, e)

  pub judged_0 : bad_vertices m ≡ false → given ≡ false → bad_base_faces m ≡ false → unused_vertices m ≡ false → hanging_vertices m ≡ false → 0 ≡ judged_number given m
  unfolding judged_number first_broken
  judged_0 a b c d e = rw (a, b, c, d, e)

-- And 20, of the mesh's bytes s and the room for them.
unfoldable pub later_number : Bool → List ℕ → ℕ → ℕ
later_number given s room = first_broken (judged_rows given (tables_of (stored1 s)) ++ (row 20 (ltb room (length s)) ∷ []))

unfoldable pub later_bytes : Bool → List ℕ → ℕ → List ℕ
later_bytes given s room = output_of (later_number given s room) room s

module _ (given : Bool) (s : List ℕ) (room : ℕ) where
  later_is : later_number given s room ≡ cond (eqb (judged_number given (tables_of (stored1 s))) 0) (cond (ltb room (length s)) 20 0) (judged_number given (tables_of (stored1 s)))
  unfolding later_number judged_number first_broken
  later_is = one_after_other (judged_rows given (tables_of (stored1 s))) (row 20 (ltb room (length s)) ∷ []) refl

  -- refused by a rule on the tables
  module _ (found : ℕ) (judged : found ≡ judged_number given (tables_of (stored1 s))) (ne : found ≢ 0) where
    pub refused_number : found ≡ later_number given s room
    refused_number = sym (later_is ∙ rw (← judged, ne_eqb found 0 ne))

    pub refused_bytes : replicate room 0 ≡ later_bytes given s room
    unfolding later_bytes
    refused_bytes = rw (← refused_number, ne_eqb found 0 ne)

  module _ (judged : judged_number given (tables_of (stored1 s)) ≡ 0) where
    -- refused for want of room
    pub full_number : room < length s → later_number given s room ≡ 20
    full_number l = later_is ∙ rw (judged, lt-ltb room (length s) l)

    pub full_bytes : room < length s → replicate room 0 ≡ later_bytes given s room
    unfolding later_bytes
    full_bytes l = rw (full_number l)

    -- stored
    pub stored_number_lem : length s ≤ room → later_number given s room ≡ 0
    stored_number_lem l = later_is ∙ rw (judged, le-ltb room (length s) l)

    pub stored_bytes : length s ≤ room → sets (replicate room 0) 0 s ≡ later_bytes given s room
    unfolding later_bytes
    stored_bytes l = rw (stored_number_lem l) (clear_with room s l)

-- ---- what build answers, row by row

module _ (job : ℕ) (coordinates : List ℤ) (corners : List ℕ) (room : ℕ) where
  module _ (broken : not_whole coordinates corners ≡ true) where
    pub build_21 : build_number job coordinates corners room ≡ 21
    unfolding build_number build_rows first_broken
    build_21 = rw broken

    pub build_21_bytes : replicate room 0 ≡ build_bytes job coordinates corners room
    unfolding build_bytes
    build_21_bytes = rw build_21

  module _ (whole : not_whole coordinates corners ≡ false) where
    module _ (broken : wrong_counts limits (plain_header job coordinates corners) ≡ true) where
      pub build_3 : build_number job coordinates corners room ≡ 3
      unfolding build_number build_rows first_broken
      build_3 = rw (whole, broken)

      pub build_3_bytes : replicate room 0 ≡ build_bytes job coordinates corners room
      unfolding build_bytes
      build_3_bytes = rw build_3

    module _ (right : wrong_counts limits (plain_header job coordinates corners) ≡ false) where
      pub build_later : build_number job coordinates corners room ≡ later_number (bad_given_pieces coordinates corners) (plain_bytes job coordinates corners) room
      unfolding build_number build_rows first_broken later_number
      build_later = rw (whole, right)

      pub build_later_bytes : later_bytes (bad_given_pieces coordinates corners) (plain_bytes job coordinates corners) room ≡ build_bytes job coordinates corners room
      unfolding build_bytes later_bytes
      build_later_bytes = rw build_later
