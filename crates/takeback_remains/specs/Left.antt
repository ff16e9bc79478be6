-- What is left, as the code finds it: the header, and the new numbers in their tables.
use Rattle.std.specs.Prelude.{◌≡◌, Bool, true, false, cond, ◌||◌, List, length}
use Rattle.std.proofs.Math.Path.{ap}
use Rattle.std.proofs.Common.{◌∙◌, arith}
use Prim.Native.Nat.{ℕ, ◌≤◌}
use Rattle.std.proofs.Math.Dec.{ltb}
use borrow.Author.Tests.{ltb-false, le-ltb}
use Rattle.laws.specs.Below.{count_below, or_left_false, or_right_false}
use Rattle.laws.specs.Links.{short, Roomy, roomy, not_short}
use Rattle.stored.specs.declared.Header.{Header}
use Rattle.stored.specs.Layout.{none}
use Rattle.mesh_tables.specs.Tables.{Tables, base_vertices, all_vertices, base_records, all_records}
use Rattle.takeback_remains.specs.Remains.{vertex_remains, record_remains, renumbered, header_again, closed_up}
use Rattle.takeback_remains.specs.Numbers.{count_all, numbers_of, new_in, numbers_say}
use Rattle.takeback_remains.specs.Held.{remains_by, remains_below, held_in, held_remains, vertex_below, kept_in, kept_remains}

-- A header, and the new numbers of all vertices and records.
pub record Left : Type 0 where
  pub header : Header
  pub vertices : List ℕ
  pub records : List ℕ

abbrev pub left_of : Header → List ℕ → List ℕ → Left
left_of h vertices records = record { header = h; vertices = vertices; records = records }

-- What is left of m, in tables as long as these.
unfoldable pub left_in : Tables → (ℕ → Bool) → Left → Left
left_in m named start =
    left_of (closed_up m named).header (numbers_of (vertex_remains m named) (length start.vertices)) (numbers_of (record_remains m named) (length start.records))

-- What is lent has no room for the links of all vertices, or no place for some vertex or record.
unfoldable pub cramped : Header → List ℕ → List ℕ → List ℕ → List ℕ → List ℕ → Bool
cramped h heads nexts counts vertices records =
    short heads nexts h.vertices
    || ltb (length counts) h.vertices
    || ltb (length counts) h.records
    || ltb (length vertices) h.vertices
    || ltb (length records) h.records

-- There is room.
pub record Room (h : Header) (heads nexts counts new_vertices new_records : List ℕ) : Type 0 where
  pub links : Roomy heads nexts h.vertices
  pub counts_vertices : h.vertices ≤ length counts
  pub counts_records : h.records ≤ length counts
  pub vertices : h.vertices ≤ length new_vertices
  pub records : h.records ≤ length new_records

module _ (h : Header) (heads nexts counts vertices records : List ℕ) where
  pub room : cramped h heads nexts counts vertices records ≡ false → Room h heads nexts counts vertices records
  unfolding cramped
  room e =
      let a = short heads nexts h.vertices in
      let b = ltb (length counts) h.vertices in
      let c = ltb (length counts) h.records in
      let d = ltb (length vertices) h.vertices in
      let f = ltb (length records) h.records in
      let abcd = or_left_false (a || b || c || d) f e in
      let abc = or_left_false (a || b || c) d abcd in
      let ab = or_left_false (a || b) c abc in
      record {
        links = roomy heads nexts h.vertices (or_left_false a b ab);
        counts_vertices = ltb-false (length counts) h.vertices (or_right_false a b ab);
        counts_records = ltb-false (length counts) h.records (or_right_false (a || b) c abc);
        vertices = ltb-false (length vertices) h.vertices (or_right_false (a || b || c) d abcd);
        records = ltb-false (length records) h.records (or_right_false (a || b || c || d) f e);
      }

  pub not_cramped : Room h heads nexts counts vertices records → cramped h heads nexts counts vertices records ≡ false
  unfolding cramped
  not_cramped r =
      rw (
        not_short heads nexts h.vertices r.links,
        le-ltb (length counts) h.vertices r.counts_vertices,
        le-ltb (length counts) h.records r.counts_records,
        le-ltb (length vertices) h.vertices r.vertices,
        le-ltb (length records) h.records r.records,
      )

-- Where what is lent is too short, nothing is done.
unfoldable pub left_within : Bool → Tables → (ℕ → Bool) → Left → Left
left_within short m named start = let done = left_in m named start in cond short start done

module _ (short : Bool) (m : Tables) (named : ℕ → Bool) (start : Left) where
  pub left_short : short ≡ true → start ≡ left_within short m named start
  unfolding left_within
  left_short e = rw e

  pub left_whole : short ≡ false → left_in m named start ≡ left_within short m named start
  unfolding left_within
  left_whole e = rw e

-- What the counts in the tables give: the vertices' new numbers and how many there are; by these the records'.
module _ (m : Tables) (named : ℕ → Bool) where
  pub vertices_numbered : (held numbers : List ℕ) (places size count : ℕ) → all_vertices m ≤ places → all_vertices m ≤ size → held ≡ held_in m named places →
      numbers ≡ numbers_of (remains_by (all_vertices m) (base_vertices m) held) size → count ≡ count_below size (remains_by (all_vertices m) (base_vertices m) held) →
      (numbers ≡ numbers_of (vertex_remains m named) size) × (count ≡ count_below (all_vertices m) (vertex_remains m named))
  vertices_numbered held numbers places size count fits room is these many =
      let P : ℕ → Bool = vertex_remains m named in
      let by : remains_by (all_vertices m) (base_vertices m) held ≡ P = ap (remains_by (all_vertices m) (base_vertices m)) is ∙ held_remains m named places fits in (
        these ∙ ap (λ (Q : ℕ → Bool). numbers_of Q size) by,
        many ∙ ap (count_below size) by ∙ count_all P (all_vertices m) size room (vertex_below m named),
      )

  pub all_numbered : (start : Left) (vertices records : List ℕ) (places of_vertices of_records : ℕ) → all_vertices m ≤ none → all_records m ≤ places → all_vertices m ≤ length start.vertices →
      vertices ≡ numbers_of (vertex_remains m named) (length start.vertices) → of_vertices ≡ count_below (all_vertices m) (vertex_remains m named) →
      records ≡ numbers_of (remains_by (all_records m) (base_records m) (kept_in m vertices places)) (length start.records) →
      of_records ≡ count_below (all_records m) (remains_by (all_records m) (base_records m) (kept_in m vertices places)) →
      left_of (header_again m.header of_vertices of_records) vertices records ≡ left_in m named start
  unfolding left_in closed_up
  all_numbered start vertices records places of_vertices of_records few fits room these many those more =
      let say : new_in vertices ≡ renumbered (vertex_remains m named) =
      ap new_in these ∙ numbers_say (vertex_remains m named) (length start.vertices) (λ v h. omega (arith, vertex_below m named v h)) in
      let by : remains_by (all_records m) (base_records m) (kept_in m vertices places) ≡ record_remains m named = kept_remains m named vertices places few fits say in
      let count = more ∙ ap (count_below (all_records m)) by in
      let numbers = those ∙ ap (λ (Q : ℕ → Bool). numbers_of Q (length start.records)) by in
      λ i. left_of (header_again m.header (many i) (count i)) (these i) (numbers i)

-- The records' count, whatever the tables.
pub records_counted : (count base size : ℕ) (kept : List ℕ) → count ≤ size → count_below size (remains_by count base kept) ≡ count_below count (remains_by count base kept)
records_counted count base size kept fits = count_all (remains_by count base kept) count size fits (remains_below count base kept)
