-- A mesh and its bytes, in every kind: each is made from the other without loss, for every mesh that fits and for all bytes that refusals 1
-- and 2 let pass.
use Rattle.std.specs.Prelude.{◌≡◌, Bool, true, false, cond, ◌&&◌, ℕ, zero, suc, ◌+◌, ◌-◌, ◌*◌, ◌≤◌, ◌<◌, get_or, drop, leb, ltb, eqb}
use Rattle.std.proofs.Math.Path.{refl, sym, ap, ap₂, subst}
use Rattle.std.proofs.Common.{◌∙◌, ⊎_elim, mul-suc, mul-le-mul_left, length-append, drop_of_length-le, take_at, drop_at, take-add, length-take-le, get_or-take, get_or-drop}
use native.Mathlib.Omega.{arith}
use mathlib.Core.List.{List, [], ◌∷◌, ◌++◌, append_assoc, append-nil}
use Rattle.std.proofs.Math.ListN.{length, take, length-drop, length-take}
use Rattle.std.proofs.Math.Seq.{take_all}
use borrow.Author.Tests.{le-leb, eq-eqb, leb-true, eqb-true, ltb-true, ltb-false}
use Rattle.laws.specs.Below.{either, list_below, list_none, list_suc, list_length, list_of, and_left, and_right}
use Rattle.laws.specs.Lists.{Bytes, bytes_append, bytes_take, bytes_drop, bytes_joined, joined, joined_length, joined_at, joined_below}
use Rattle.stored.specs.declared.Format.{Format}
use Rattle.stored.specs.declared.Kind.{Kind}
use Rattle.stored.specs.declared.Header.{Header}
use Rattle.stored.specs.declared.Vertex.{Vertex}
use Rattle.stored.specs.declared.Record.{Record}
use Rattle.stored.specs.Layout.{header_width, vertex_width, record_width, right_mark, right_length, mesh_length, vertices_in_base, records_in_base, vertices_grown, records_grown, base_length, grown_length, header_from, header_bytes, vertex_from, vertex_bytes, record_from, record_bytes, held_in, vertex_in, record_in, layout_of, RightKind, Stored, header_of, layout_in, stored_vertex, stored_record, Mesh, mesh_of, laid_out, mesh_bytes, stored_as}
use Rattle.stored.specs.Held.{held_base, held_growth}
use Rattle.stored.specs.Fitting.{HeaderFits, VertexFits, RecordFits}
use Rattle.stored.specs.Entries.{header_is_bytes, vertex_is_bytes, record_is_bytes, header_wide, header_again_lem, header_right, header_written_again, vertex_wide_lem, vertex_again_lem, vertex_written_again, record_wide_lem, record_again_lem, record_written_again}

-- ---- how much stands in the base buffer

-- No more stand in the base buffer than there are: of one buffer always, of two where rule 3 holds.
pub record InBaseWithin (k : Kind) (h : Header) : Type 0 where
  pub vertices : vertices_in_base k h ≤ h.vertices
  pub records : records_in_base k h ≤ h.records

pub base_within : (k : Kind) (h : Header) → h.base_vertices ≤ h.vertices → h.base_records ≤ h.records → InBaseWithin k h
base_within k h v r = record { vertices = go k.two h.base_vertices h.vertices v; records = go k.two h.base_records h.records r }
  where
    go : (two : Bool) (b a : ℕ) → b ≤ a → cond two b a ≤ a
    go true b a l = l
    go false b a l = omega arith

pub one_within : (k : Kind) (h : Header) → k.two ≡ false → InBaseWithin k h
one_within k h one = record { vertices = go h.base_vertices h.vertices; records = go h.base_records h.records }
  where
    go : (b a : ℕ) → cond k.two b a ≤ a
    go b a = rw one (omega arith)

-- The others have grown.
and_grown : (two : Bool) (b a : ℕ) → cond two b a ≤ a → cond two (a - b) 0 ≡ a - cond two b a
and_grown true b a l = refl
and_grown false b a l = omega arith

-- A mesh's tables are as long as its header says, and the header's numbers fit.
pub record Counted (k : Kind) (m : Mesh) : Type 0 where
  pub header : HeaderFits k.format m.header
  pub vertex_count : length m.vertices ≡ m.header.vertices
  pub record_count : length m.records ≡ m.header.records
  pub within : InBaseWithin k m.header

pub record MeshFits (k : Kind) (m : Mesh) : Type 0 where
  pub counts : Counted k m
  pub vertices : (i : ℕ) (d : Vertex) → i < length m.vertices → VertexFits k.format (get_or m.vertices i d)
  pub records : (i : ℕ) (d : Record) → i < length m.records → RecordFits k.format (get_or m.records i d)

-- ---- lists in two parts

list_parts : {A : Type 0} (g : ℕ → A) (a b : ℕ) → list_below (a + b) g ≡ list_below a g ++ list_below b (λ i. g (a + i))
list_parts g a zero =
    let same : a + 0 ≡ a = omega arith in
    ap (λ (n : ℕ). list_below n g) same ∙ sym (append-nil (list_below a g)) ∙ ap (λ (t : List _). list_below a g ++ t) (sym (list_none (λ i. g (a + i))))
list_parts g a (suc b) =
    let next : a + suc b ≡ suc (a + b) = omega arith in
    ap (λ (n : ℕ). list_below n g) next
    ∙ list_suc g (a + b)
    ∙ ap (λ (t : List _). t ++ g (a + b) ∷ []) (list_parts g a b)
    ∙ append_assoc (list_below a g) (list_below b (λ i. g (a + i))) (g (a + b) ∷ [])
    ∙ ap (λ (t : List _). list_below a g ++ t) (sym (list_suc (λ i. g (a + i)) b))

module _ {A : Type 0} (g : ℕ → A) (a n : ℕ) (l : a ≤ n) where
  parts : list_below n g ≡ list_below a g ++ list_below (n - a) (λ i. g (a + i))
  parts = let all : n ≡ a + (n - a) = omega arith in ap (λ (k : ℕ). list_below k g) all ∙ list_parts g a (n - a)

  pub take_list : take a (list_below n g) ≡ list_below a g
  take_list = ap (take a) parts ∙ take_at (list_below a g) (list_below (n - a) (λ i. g (a + i))) a (list_length g a)

  pub drop_list : drop a (list_below n g) ≡ list_below (n - a) (λ i. g (a + i))
  drop_list = ap (drop a) parts ∙ drop_at (list_below a g) (list_below (n - a) (λ i. g (a + i))) a (list_length g a)

-- ---- from a mesh to its bytes and back

-- The i-th of entries of one width that stand one after the other.
joined_entry : {A : Type 0} (bytes : A → List ℕ) (w : ℕ) → ((x : A) → length (bytes x) ≡ w) → (xs : List A) (rest : List ℕ) (i : ℕ) (d : A) → i < length xs → take w (drop (w * i) (joined bytes xs ++ rest)) ≡ bytes (get_or xs i d)
joined_entry bytes w wide xs rest i d l = ap (take w) (joined_at bytes w wide xs rest i d l) ∙ take_at (bytes (get_or xs i d)) _ w (wide (get_or xs i d))

-- Entries of one width in two parts, the first a of them in one slice and the others in another.
module _ {A : Type 0} (bytes : A → List ℕ) (w : ℕ) (wide : (x : A) → length (bytes x) ≡ w) (xs : List A) (a : ℕ) (few : a ≤ length xs) where
  pub front_length : length (joined bytes (take a xs)) ≡ w * a
  front_length = joined_length bytes w wide (take a xs) ∙ ap (λ (n : ℕ). w * n) (length-take-le a xs few)

  pub back_length : length (joined bytes (drop a xs)) ≡ w * (length xs - a)
  back_length = joined_length bytes w wide (drop a xs) ∙ ap (λ (n : ℕ). w * n) (length-drop a xs)

  front_entry_is : (rest : List ℕ) (i : ℕ) (d : A) → i < a → take w (drop (w * i) (joined bytes (take a xs) ++ rest)) ≡ bytes (get_or xs i d)
  front_entry_is rest i d l =
      joined_entry bytes w wide (take a xs) rest i d (omega (arith, length-take-le a xs few)) ∙ ap bytes (get_or-take a xs i d l)

  back_entry_is : (rest : List ℕ) (i : ℕ) (d : A) → a ≤ i → i < length xs → take w (drop (w * (i - a)) (joined bytes (drop a xs) ++ rest)) ≡ bytes (get_or xs i d)
  back_entry_is rest i d l h =
      let back : a + (i - a) ≡ i = omega arith in
      joined_entry bytes w wide (drop a xs) rest (i - a) d (omega (arith, length-drop a xs))
      ∙ ap bytes (get_or-drop a xs (i - a) d ∙ ap (λ (n : ℕ). get_or xs n d) back)

module _ (k : Kind) (k_right : RightKind k) (m : Mesh) (c : Counted k m) where
  abbrev f : Format
  f = k.format

  abbrev h : Header
  h = m.header

  abbrev v : ℕ
  v = vertices_in_base k m.header

  abbrev r : ℕ
  r = records_in_base k m.header

  few_vertices : v ≤ length m.vertices
  few_vertices = omega (arith, c.vertex_count, c.within.vertices)

  few_records : r ≤ length m.records
  few_records = omega (arith, c.record_count, c.within.records)

  abbrev first_vertices : List ℕ
  first_vertices = joined (vertex_bytes f) (take v m.vertices)

  abbrev first_records : List ℕ
  first_records = joined (record_bytes f) (take r m.records)

  abbrev grown_vertices : List ℕ
  grown_vertices = joined (vertex_bytes f) (drop v m.vertices)

  abbrev grown_records : List ℕ
  grown_records = joined (record_bytes f) (drop r m.records)

  base_is : (stored_as k k_right m).base ≡ header_bytes f h ++ first_vertices ++ first_records
  unfolding stored_as laid_out
  base_is = refl

  grown_is : (stored_as k k_right m).grown ≡ grown_vertices ++ grown_records
  unfolding stored_as
  grown_is = refl

  kind_is : (stored_as k k_right m).kind ≡ k
  unfolding stored_as
  kind_is = refl

  from_header : (stored_as k k_right m).base ≡ header_bytes f h ++ (first_vertices ++ first_records)
  from_header = base_is ∙ append_assoc (header_bytes f h) first_vertices first_records

  pub mesh_header : header_from f (stored_as k k_right m).base ≡ h
  mesh_header = ap (header_from f) from_header ∙ header_again_lem f h (first_vertices ++ first_records) c.header

  pub mesh_right_mark : right_mark f (stored_as k k_right m).base ≡ true
  mesh_right_mark = ap (right_mark f) from_header ∙ header_right f h (first_vertices ++ first_records)

  front_long : length (header_bytes f h ++ first_vertices) ≡ header_width f + vertex_width f * v
  front_long =
      length-append (header_bytes f h) first_vertices
      ∙ ap₂ ◌+◌ (header_wide f h) (front_length (vertex_bytes f) (vertex_width f) (vertex_wide_lem f) m.vertices v few_vertices)

  pub mesh_length_lem : length (stored_as k k_right m).base ≡ base_length k h
  mesh_length_lem =
      ap length base_is
      ∙ length-append (header_bytes f h ++ first_vertices) first_records
      ∙ ap₂ ◌+◌ front_long (front_length (record_bytes f) (record_width f) (record_wide_lem f) m.records r few_records)

  grown_vertices_long : length grown_vertices ≡ vertex_width f * vertices_grown k h
  grown_vertices_long =
      back_length (vertex_bytes f) (vertex_width f) (vertex_wide_lem f) m.vertices v few_vertices
      ∙ ap (λ (n : ℕ). vertex_width f * n) (ap (λ (n : ℕ). n - v) c.vertex_count ∙ sym (and_grown k.two h.base_vertices h.vertices c.within.vertices))

  grown_records_long : length grown_records ≡ record_width f * records_grown k h
  grown_records_long =
      back_length (record_bytes f) (record_width f) (record_wide_lem f) m.records r few_records
      ∙ ap (λ (n : ℕ). record_width f * n) (ap (λ (n : ℕ). n - r) c.record_count ∙ sym (and_grown k.two h.base_records h.records c.within.records))

  pub mesh_grown_length : length (stored_as k k_right m).grown ≡ grown_length k h
  mesh_grown_length = ap length grown_is ∙ length-append grown_vertices grown_records ∙ ap₂ ◌+◌ grown_vertices_long grown_records_long

  pub mesh_right_length : right_length k (stored_as k k_right m).base (stored_as k k_right m).grown ≡ true
  unfolding right_length
  mesh_right_length =
      let long : length (stored_as k k_right m).base ≡ base_length k (header_from f (stored_as k k_right m).base) = mesh_length_lem ∙ ap (base_length k) (sym mesh_header) in
      let grown : length (stored_as k k_right m).grown ≡ grown_length k (header_from f (stored_as k k_right m).base) = mesh_grown_length ∙ ap (grown_length k) (sym mesh_header) in
      rw (
        le-leb (header_width f) (length (stored_as k k_right m).base) (omega (arith, mesh_length_lem)),
        eq-eqb (length (stored_as k k_right m).grown) (grown_length k (header_from f (stored_as k k_right m).base)) grown,
        eq-eqb (length (stored_as k k_right m).base) (base_length k (header_from f (stored_as k k_right m).base)) long,
      )

  after_header : drop (header_width f) (stored_as k k_right m).base ≡ first_vertices ++ first_records
  after_header = ap (drop (header_width f)) from_header ∙ drop_at (header_bytes f h) (first_vertices ++ first_records) (header_width f) (header_wide f h)

  after_vertices : drop (header_width f + vertex_width f * v) (stored_as k k_right m).base ≡ first_records ++ []
  after_vertices =
      ap (drop (header_width f + vertex_width f * v)) base_is
      ∙ drop_at (header_bytes f h ++ first_vertices) first_records (header_width f + vertex_width f * v) front_long
      ∙ sym (append-nil first_records)

  after_grown_vertices : drop (vertex_width f * vertices_grown k h) (stored_as k k_right m).grown ≡ grown_records ++ []
  after_grown_vertices =
      ap (drop (vertex_width f * vertices_grown k h)) grown_is
      ∙ drop_at grown_vertices grown_records (vertex_width f * vertices_grown k h) grown_vertices_long
      ∙ sym (append-nil grown_records)

  -- The bytes of each entry are those that were written.
  vertex_held : (i : ℕ) (d : Vertex) → i < length m.vertices → held_in (layout_of k h).vertices (stored_as k k_right m).base (stored_as k k_right m).grown i ≡ vertex_bytes f (get_or m.vertices i d)
  vertex_held i d l =
      let there : i < h.vertices = omega (arith, c.vertex_count) in
      ⊎_elim
      (λ t. let inside = ltb-true i v t in
      held_base (layout_of k h).vertices (stored_as k k_right m).base (stored_as k k_right m).grown i there inside
      ∙ ap (λ (s : List ℕ). take (vertex_width f) (drop (vertex_width f * i) s)) after_header
      ∙ front_entry_is (vertex_bytes f) (vertex_width f) (vertex_wide_lem f) m.vertices v few_vertices first_records i d inside)
      (λ g. let outside = ltb-false i v g in
      held_growth (layout_of k h).vertices (stored_as k k_right m).base (stored_as k k_right m).grown i there outside
      ∙ ap (λ (s : List ℕ). take (vertex_width f) (drop (vertex_width f * (i - v)) s)) grown_is
      ∙ back_entry_is (vertex_bytes f) (vertex_width f) (vertex_wide_lem f) m.vertices v few_vertices grown_records i d outside l)
      (either (ltb i v))

  record_held : (i : ℕ) (d : Record) → i < length m.records → held_in (layout_of k h).records (stored_as k k_right m).base (stored_as k k_right m).grown i ≡ record_bytes f (get_or m.records i d)
  record_held i d l =
      let there : i < h.records = omega (arith, c.record_count) in
      ⊎_elim
      (λ t. let inside = ltb-true i r t in
      held_base (layout_of k h).records (stored_as k k_right m).base (stored_as k k_right m).grown i there inside
      ∙ ap (λ (s : List ℕ). take (record_width f) (drop (record_width f * i) s)) after_vertices
      ∙ front_entry_is (record_bytes f) (record_width f) (record_wide_lem f) m.records r few_records [] i d inside)
      (λ g. let outside = ltb-false i r g in
      held_growth (layout_of k h).records (stored_as k k_right m).base (stored_as k k_right m).grown i there outside
      ∙ ap (λ (s : List ℕ). take (record_width f) (drop (record_width f * (i - r)) s)) after_grown_vertices
      ∙ back_entry_is (record_bytes f) (record_width f) (record_wide_lem f) m.records r few_records [] i d outside l)
      (either (ltb i r))

  pub mesh_vertex_bytes : (i : ℕ) (d : Vertex) → i < length m.vertices → stored_vertex (stored_as k k_right m) i ≡ vertex_from f (vertex_bytes f (get_or m.vertices i d))
  unfolding vertex_in stored_as
  mesh_vertex_bytes i d l =
      ap (λ (g : Header). vertex_in (layout_of k g) (stored_as k k_right m).base (stored_as k k_right m).grown i) mesh_header
      ∙ ap (vertex_from f) (vertex_held i d l)

  pub mesh_record_bytes : (i : ℕ) (d : Record) → i < length m.records → stored_record (stored_as k k_right m) i ≡ record_from f (record_bytes f (get_or m.records i d))
  unfolding record_in stored_as
  mesh_record_bytes i d l =
      ap (λ (g : Header). record_in (layout_of k g) (stored_as k k_right m).base (stored_as k k_right m).grown i) mesh_header
      ∙ ap (record_from f) (record_held i d l)

module _ (k : Kind) (k_right : RightKind k) (m : Mesh) (u : MeshFits k m) where
  pub mesh_is_bytes : Bytes (stored_as k k_right m).base
  unfolding stored_as laid_out
  mesh_is_bytes =
      let f = k.format in
      let v = vertices_in_base k m.header in
      let r = records_in_base k m.header in
      bytes_append (header_bytes f m.header ++ joined (vertex_bytes f) (take v m.vertices)) (joined (record_bytes f) (take r m.records))
      (bytes_append (header_bytes f m.header) (joined (vertex_bytes f) (take v m.vertices)) (header_is_bytes f m.header) (bytes_joined (vertex_bytes f) (take v m.vertices) (λ i d l. vertex_is_bytes f (get_or (take v m.vertices) i d))))
      (bytes_joined (record_bytes f) (take r m.records) (λ i d l. record_is_bytes f (get_or (take r m.records) i d) (taken r i d l)))
    where
      taken : (r i : ℕ) (d : Record) → i < length (take r m.records) → RecordFits k.format (get_or (take r m.records) i d)
      taken r i d l =
          let short = length-take r m.records in
          subst (RecordFits k.format) (sym (get_or-take r m.records i d (omega (arith, short)))) (u.records i d (omega (arith, short)))

  pub mesh_grown_is_bytes : Bytes (stored_as k k_right m).grown
  unfolding stored_as
  mesh_grown_is_bytes =
      let f = k.format in
      let v = vertices_in_base k m.header in
      let r = records_in_base k m.header in
      bytes_append (joined (vertex_bytes f) (drop v m.vertices)) (joined (record_bytes f) (drop r m.records))
      (bytes_joined (vertex_bytes f) (drop v m.vertices) (λ i d l. vertex_is_bytes f (get_or (drop v m.vertices) i d)))
      (bytes_joined (record_bytes f) (drop r m.records) (λ i d l. record_is_bytes f (get_or (drop r m.records) i d) (dropped r i d l)))
    where
      dropped : (r i : ℕ) (d : Record) → i < length (drop r m.records) → RecordFits k.format (get_or (drop r m.records) i d)
      dropped r i d l = subst (RecordFits k.format) (sym (get_or-drop r m.records i d)) (u.records (r + i) d (omega (arith, length-drop r m.records)))

  pub mesh_vertex : (i : ℕ) (d : Vertex) → i < length m.vertices → stored_vertex (stored_as k k_right m) i ≡ get_or m.vertices i d
  mesh_vertex i d l = mesh_vertex_bytes k k_right m u.counts i d l ∙ vertex_again_lem k.format (get_or m.vertices i d) (u.vertices i d l)

  pub mesh_record : (i : ℕ) (d : Record) → i < length m.records → stored_record (stored_as k k_right m) i ≡ get_or m.records i d
  mesh_record i d l = mesh_record_bytes k k_right m u.counts i d l ∙ record_again_lem k.format (get_or m.records i d) (u.records i d l)

  pub mesh_again : mesh_of (stored_as k k_right m) ≡ m
  unfolding mesh_of stored_as
  mesh_again =
      let s = stored_as k k_right m in
      let d : Vertex = vertex_from k.format [] in
      let e : Record = record_from k.format [] in
      let header = mesh_header k k_right m u.counts in
      let vertices : list_below (header_of s).vertices (stored_vertex s) ≡ m.vertices =
      ap (λ (n : ℕ). list_below n (stored_vertex s)) ((λ i. (header i).vertices) ∙ sym u.counts.vertex_count)
      ∙ list_of (stored_vertex s) d m.vertices (λ i l. sym (mesh_vertex i d l)) in
      let records : list_below (header_of s).records (stored_record s) ≡ m.records =
      ap (λ (n : ℕ). list_below n (stored_record s)) ((λ i. (header i).records) ∙ sym u.counts.record_count)
      ∙ list_of (stored_record s) e m.records (λ i l. sym (mesh_record i e l)) in
      λ i. record { header = header i; vertices = vertices i; records = records i }

-- ---- from bytes to their mesh and back

-- what a right length says
pub length_says : (k : Kind) (base grown : List ℕ) → right_length k base grown ≡ true →
    (header_width k.format ≤ length base) × (length grown ≡ grown_length k (header_from k.format base)) × (length base ≡ base_length k (header_from k.format base))
unfolding right_length
length_says k base grown right =
    let h = header_from k.format base in
    let under : Bool = leb (header_width k.format) (length base) in
    let first : Bool = eqb (length grown) (grown_length k h) in
    let second : Bool = eqb (length base) (base_length k h) in
    let both = and_right under (first && second) right in (
      leb-true (header_width k.format) (length base) (and_left under (first && second) right),
      eqb-true (length grown) (grown_length k h) (and_left first second both),
      eqb-true (length base) (base_length k h) (and_right first second both),
    )

-- entry i of a table, where it lies within the bytes
module _ {A : Type 0} (w : ℕ) (from : List ℕ → A) (bytes : A → List ℕ) (written_again : (t : List ℕ) → Bytes t → w ≤ length t → bytes (from t) ≡ take w t) where
  pub entry_at : (s : List ℕ) → Bytes s → (at i : ℕ) → at + w * i + w ≤ length s → bytes (from (take w (drop (w * i) (drop at s)))) ≡ take w (drop (w * i) (drop at s))
  entry_at s b at i l =
      let t : List ℕ = drop (w * i) (drop at s) in
      let long : w ≤ length t = rw (length-drop (w * i) (drop at s), length-drop at s) (omega arith) in
      let taken : length (take w t) ≡ w = length-take-le w t long in
      written_again (take w t) (bytes_take w t (bytes_drop (w * i) (drop at s) (bytes_drop at s b))) (omega arith) ∙ take_all w (take w t) (omega arith)

pub vertex_at_lem : (f : Format) (s : List ℕ) → Bytes s → (at i : ℕ) → at + vertex_width f * i + vertex_width f ≤ length s → vertex_bytes f (vertex_from f (take (vertex_width f) (drop (vertex_width f * i) (drop at s)))) ≡ take (vertex_width f) (drop (vertex_width f * i) (drop at s))
vertex_at_lem f = entry_at (vertex_width f) (vertex_from f) (vertex_bytes f) (λ t b. vertex_written_again t b f)

pub record_at_lem : (f : Format) (s : List ℕ) → Bytes s → (at i : ℕ) → at + record_width f * i + record_width f ≤ length s → record_bytes f (record_from f (take (record_width f) (drop (record_width f * i) (drop at s)))) ≡ take (record_width f) (drop (record_width f * i) (drop at s))
record_at_lem f = entry_at (record_width f) (record_from f) (record_bytes f) (λ t b. record_written_again t b f)

next : (w i n : ℕ) → i < n → w * i + w ≤ w * n
next w i n l = rw (← mul-suc w i) (mul-le-mul_left w l)

module _ (s : Stored) (b : Bytes s.base) (g : Bytes s.grown) (right : right_length s.kind s.base s.grown ≡ true) (marked : right_mark s.kind.format s.base ≡ true) (within : InBaseWithin s.kind (header_of s)) where
  abbrev kind : Kind
  kind = s.kind

  abbrev form : Format
  form = s.kind.format

  abbrev header : Header
  header = header_of s

  abbrev vertex_count : ℕ
  vertex_count = vertices_in_base s.kind (header_of s)

  abbrev record_count : ℕ
  record_count = records_in_base s.kind (header_of s)

  abbrev records_at : ℕ
  records_at = header_width form + vertex_width form * vertex_count

  grown_vertices_lem : vertices_grown kind header ≡ header.vertices - vertex_count
  grown_vertices_lem = and_grown kind.two header.base_vertices header.vertices within.vertices

  grown_records_lem : records_grown kind header ≡ header.records - record_count
  grown_records_lem = and_grown kind.two header.base_records header.records within.records

  first_vertices_lem : joined (vertex_bytes form) (list_below vertex_count (stored_vertex s)) ≡ take (vertex_width form * vertex_count) (drop (header_width form) s.base)
  unfolding vertex_in
  first_vertices_lem =
      joined_below (vertex_bytes form) (vertex_width form) vertex_count (stored_vertex s) (drop (header_width form) s.base)
      (λ i l.
      let (least, grown, long) = length_says kind s.base s.grown right in
      let n = next (vertex_width form) i vertex_count l in
      ap (λ (t : List ℕ). vertex_bytes form (vertex_from form t)) (held_base (layout_in s).vertices s.base s.grown i (omega (arith, within.vertices)) l)
      ∙ vertex_at_lem form s.base b (header_width form) i (omega arith))

  first_records_lem : joined (record_bytes form) (list_below record_count (stored_record s)) ≡ take (record_width form * record_count) (drop records_at s.base)
  unfolding record_in
  first_records_lem =
      joined_below (record_bytes form) (record_width form) record_count (stored_record s) (drop records_at s.base)
      (λ i l.
      let (least, grown, long) = length_says kind s.base s.grown right in
      let n = next (record_width form) i record_count l in
      ap (λ (t : List ℕ). record_bytes form (record_from form t)) (held_base (layout_in s).records s.base s.grown i (omega (arith, within.records)) l)
      ∙ record_at_lem form s.base b records_at i (omega arith))

  later_vertices : joined (vertex_bytes form) (list_below (header.vertices - vertex_count) (λ i. stored_vertex s (vertex_count + i))) ≡ take (vertex_width form * (header.vertices - vertex_count)) s.grown
  unfolding vertex_in
  later_vertices =
      joined_below (vertex_bytes form) (vertex_width form) (header.vertices - vertex_count) (λ i. stored_vertex s (vertex_count + i)) s.grown
      (λ i l.
      let (least, grown, long) = length_says kind s.base s.grown right in
      let n = next (vertex_width form) i (header.vertices - vertex_count) l in
      let back : vertex_count + i - vertex_count ≡ i = omega arith in
      let all : vertex_width form * vertices_grown kind header ≡ vertex_width form * (header.vertices - vertex_count) = ap (λ (j : ℕ). vertex_width form * j) grown_vertices_lem in
      ap (λ (t : List ℕ). vertex_bytes form (vertex_from form t))
      (held_growth (layout_in s).vertices s.base s.grown (vertex_count + i) (omega arith) (omega arith) ∙ ap (λ (j : ℕ). take (vertex_width form) (drop (vertex_width form * j) s.grown)) back)
      ∙ vertex_at_lem form s.grown g 0 i (omega arith))

  later_records : joined (record_bytes form) (list_below (header.records - record_count) (λ i. stored_record s (record_count + i))) ≡ take (record_width form * (header.records - record_count)) (drop (vertex_width form * vertices_grown kind header) s.grown)
  unfolding record_in
  later_records =
      joined_below (record_bytes form) (record_width form) (header.records - record_count) (λ i. stored_record s (record_count + i)) (drop (vertex_width form * vertices_grown kind header) s.grown)
      (λ i l.
      let (least, grown, long) = length_says kind s.base s.grown right in
      let n = next (record_width form) i (header.records - record_count) l in
      let back : record_count + i - record_count ≡ i = omega arith in
      let all : record_width form * records_grown kind header ≡ record_width form * (header.records - record_count) = ap (λ (j : ℕ). record_width form * j) grown_records_lem in
      ap (λ (t : List ℕ). record_bytes form (record_from form t))
      (held_growth (layout_in s).records s.base s.grown (record_count + i) (omega arith) (omega arith) ∙ ap (λ (j : ℕ). take (record_width form) (drop (record_width form * j) (drop (vertex_width form * vertices_grown kind header) s.grown))) back)
      ∙ record_at_lem form s.grown g (vertex_width form * vertices_grown kind header) i (omega arith))

  pub mesh_written_again : stored_as s.kind s.right (mesh_of s) ≡ s
  unfolding stored_as laid_out mesh_of
  mesh_written_again =
      let (least, grown, long) = length_says kind s.base s.grown right in
      let front = ap (joined (vertex_bytes form)) (take_list (stored_vertex s) vertex_count header.vertices within.vertices) ∙ first_vertices_lem in
      let middle = ap (joined (record_bytes form)) (take_list (stored_record s) record_count header.records within.records) ∙ first_records_lem in
      let base_same =
      ap₂ ◌++◌ (ap₂ ◌++◌ (header_written_again s.base b form least marked) front ∙ sym (take-add (header_width form) (vertex_width form * vertex_count) s.base)) middle
      ∙ sym (take-add records_at (record_width form * record_count) s.base)
      ∙ take_all (records_at + record_width form * record_count) s.base (omega arith) in
      let vertex_end : vertex_width form * (header.vertices - vertex_count) ≡ vertex_width form * vertices_grown kind header = ap (λ (j : ℕ). vertex_width form * j) (sym grown_vertices_lem) in
      let record_end : record_width form * (header.records - record_count) ≡ record_width form * records_grown kind header = ap (λ (j : ℕ). record_width form * j) (sym grown_records_lem) in
      let back = ap (joined (vertex_bytes form)) (drop_list (stored_vertex s) vertex_count header.vertices within.vertices) ∙ later_vertices ∙ ap (λ (j : ℕ). take j s.grown) vertex_end in
      let last = ap (joined (record_bytes form)) (drop_list (stored_record s) record_count header.records within.records) ∙ later_records ∙ ap (λ (j : ℕ). take j (drop (vertex_width form * vertices_grown kind header) s.grown)) record_end in
      let grown_same =
      ap₂ ◌++◌ back last
      ∙ sym (take-add (vertex_width form * vertices_grown kind header) (record_width form * records_grown kind header) s.grown)
      ∙ take_all (vertex_width form * vertices_grown kind header + record_width form * records_grown kind header) s.grown (omega arith) in
      λ i. record { kind = s.kind; right = s.right; base = base_same i; grown = grown_same i }

-- ---- one buffer

-- In one buffer all of the mesh stands one after the other.
pub one_buffer : (k : Kind) (k_right : RightKind k) → k.two ≡ false → (m : Mesh) → Counted k m → stored_as k k_right m ≡ record { kind = k; right = k_right; base = mesh_bytes k.format m; grown = [] }
unfolding stored_as laid_out joined
one_buffer k k_right one m c =
    let f = k.format in
    let all_vertices_lem : take (vertices_in_base k m.header) m.vertices ≡ m.vertices = rw one (take_all m.header.vertices m.vertices (omega (arith, c.vertex_count))) in
    let all_records_lem : take (records_in_base k m.header) m.records ≡ m.records = rw one (take_all m.header.records m.records (omega (arith, c.record_count))) in
    let no_vertices : drop (vertices_in_base k m.header) m.vertices ≡ [] = rw one (drop_of_length-le m.vertices {i = m.header.vertices} (omega (arith, c.vertex_count))) in
    let no_records : drop (records_in_base k m.header) m.records ≡ [] = rw one (drop_of_length-le m.records {i = m.header.records} (omega (arith, c.record_count))) in
    λ i.
    record {
      kind = k;
      right = k_right;
      base = laid_out f m.header (all_vertices_lem i) (all_records_lem i);
      grown = joined (vertex_bytes f) (no_vertices i) ++ joined (record_bytes f) (no_records i);
    }

-- Its length is the whole mesh's.
pub one_length : (k : Kind) → k.two ≡ false → (h : Header) → base_length k h ≡ mesh_length k.format h.vertices h.records
one_length k one h = rw one
