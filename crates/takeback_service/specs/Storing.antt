-- How the tables that are left are stored.
use Rattle.std.specs.Prelude.{◌≡◌, refl, Bool, ℕ, ◌*◌, ◌≤◌, ◌<◌, replicate}
use Rattle.std.proofs.Math.Path.{sym, ap, subst}
use Rattle.std.proofs.Common.{◌∙◌, arith, length-append, lt-ltb, le-ltb}
use mathlib.Core.List.{List, ◌++◌}
use Rattle.std.proofs.Math.ListN.{length}
use Rattle.std.proofs.lemmas.List.{length-replicate}
use Rattle.std.proofs.Math.Seq.{sets}
use Rattle.laws.specs.Below.{count_below, list_below, list_length}
use Rattle.laws.specs.Lists.{joined, joined_length, clear_with}
use Rattle.laws.specs.Counts.{marked}
use Rattle.laws.specs.Order.{first_broken}
use Rattle.laws.proofs.Order.{none_broken_lem}
use Rattle.stored.specs.declared.Format.{Format}
use Rattle.stored.specs.declared.Header.{Header}
use Rattle.stored.specs.Layout.{none, limits, next_round, layout_of, vertex_width, record_width, mesh_length, header_bytes, vertex_bytes, record_bytes, Stored, header_of, laid_out, mesh_bytes, StoredSelection, selection_of, named_in}
use Rattle.stored.specs.Fitting.{stored_none_small}
use Rattle.stored.specs.Entries.{header_wide, vertex_wide_lem, record_wide_lem}
use Rattle.mesh_tables.specs.Tables.{Tables, tables, tables_of, all_vertices, all_records}
use Rattle.check_refusals.specs.Check.{rows, table_rows, check_number}
use Rattle.check_refusals.specs.Bounded.{Bounded, bounded}
use Rattle.refine_selection.specs.Selected.{is_named}
use Rattle.refine_pass.specs.Chosen.{table_of, named_is}
use Rattle.refine_service.specs.Refine.{result_of}
use Rattle.takeback_remains.specs.Remains.{vertex_remains, record_remains, renumbered, header_again, closed_up}
use Rattle.takeback_remains.specs.Numbers.{new_in, numbers_say}
use Rattle.takeback_remains.specs.Held.{vertex_below, record_below}
use Rattle.takeback_remains.specs.Left.{Left, left_of, cramped, Room, not_cramped, left_in, left_within, left_whole}
use Rattle.takeback_remains.specs.Same.{vertices_same, records_same}
use Rattle.takeback_closed.specs.Closed.{closed_put}
use Rattle.takeback_closed.specs.Law.{closed_put_lem}
use Rattle.takeback_service.specs.TakeBack.{left}
use Rattle.takeback_service.specs.Order.{room_number, later_bytes}

-- How long a result is.
result_long : (f : Format) (t : Tables) → length (mesh_bytes f (result_of t)) ≡ mesh_length f (all_vertices t) (all_records t)
unfolding laid_out result_of
result_long f t =
    let vertices = list_below (all_vertices t) t.vertex_at in
    let records = list_below (all_records t) t.record_at in
    let front = length-append (header_bytes f (next_round t.header)) (joined (vertex_bytes f) vertices) in
    let whole = length-append (header_bytes f (next_round t.header) ++ joined (vertex_bytes f) vertices) (joined (record_bytes f) records) in
    let many = joined_length (vertex_bytes f) (vertex_width f) (vertex_wide_lem f) vertices ∙ ap (λ (n : ℕ). vertex_width f * n) (list_length t.vertex_at (all_vertices t)) in
    let more = joined_length (record_bytes f) (record_width f) (record_wide_lem f) records ∙ ap (λ (n : ℕ). record_width f * n) (list_length t.record_at (all_records t)) in
    omega (arith, front, whole, header_wide f (next_round t.header), many, more)

-- What is stored: the mesh is within the limits, and the output buffer is clear.
pub record Ready (h : Header) (mesh : Stored) (out : List ℕ) : Type 0 where
  pub header : h ≡ header_of mesh
  pub within : Bounded mesh.kind.limits h
  pub clear : out ≡ replicate (length out) 0

-- What acceptance by check says of the mesh.
pub ready : (mesh : Stored) (out : List ℕ) → check_number mesh ≡ 0 → out ≡ replicate (length out) 0 → Ready (header_of mesh) mesh out
unfolding check_number rows table_rows
ready mesh out e clear =
    record { header = refl; within = bounded mesh.kind.limits (header_of mesh) (none_broken_lem (rows mesh) refl e 3); clear = clear }

-- What the service lends has room for every mesh of version 1.
pub lent_whole : (h : Header) → Bounded limits h → Room h (replicate 8192 0) (replicate limits.vertices 0) (replicate limits.records 0) (replicate limits.vertices 0) (replicate limits.records 0)
lent_whole h b =
    let keys = length-replicate {A = ℕ} 8192 0 in
    let vertices = length-replicate {A = ℕ} limits.vertices 0 in
    let records = length-replicate {A = ℕ} limits.records 0 in
    record {
      links = record { keys = omega (arith, keys); places = omega (arith, vertices, b.vertices); fits = omega (arith, b.vertices) };
      counts_vertices = omega (arith, records, b.vertices);
      counts_records = omega (arith, records, b.records);
      vertices = omega (arith, vertices, b.vertices);
      records = omega (arith, records, b.records);
    }

module _ (mesh : Stored) (request : StoredSelection) (out : List ℕ) (h : Header) (r : Ready h mesh out) where
  abbrev m : Tables
  m = tables_of mesh

  abbrev count : ℕ
  count = (selection_of request).count

  abbrev P : ℕ → Bool
  P = is_named count (named_in request)

  abbrev Q : ℕ → Bool
  Q = marked (table_of mesh.kind.limits.records request count)

  -- What is lent has room, and what was found in it.
  module _ (heads nexts counts vertices₀ records₀ : List ℕ) (lent : Room h heads nexts counts vertices₀ records₀) (found : Left)
      (is : found ≡ left_within (cramped h heads nexts counts vertices₀ records₀) (tables h (layout_of mesh.kind h) mesh.base mesh.grown) Q (left_of h vertices₀ records₀))
    where
      abbrev start : Left
      start = left_of h vertices₀ records₀

      few : Bounded mesh.kind.limits m.header
      unfolding tables_of
      few = subst (Bounded mesh.kind.limits) r.header r.within

      few_vertices : all_vertices m ≤ none
      few_vertices = omega (arith, few.vertices, mesh.right.vertices, stored_none_small mesh.kind.format)

      few_records : all_records m ≤ none
      few_records = omega (arith, few.records, mesh.right.records, stored_none_small mesh.kind.format)

      -- The tables for the new numbers are long enough.
      long : all_vertices m ≤ length vertices₀
      unfolding tables_of
      long = subst (λ (g : Header). g.vertices ≤ length vertices₀) r.header lent.vertices

      deep : all_records m ≤ length records₀
      unfolding tables_of
      deep = subst (λ (g : Header). g.records ≤ length records₀) r.header lent.records

      agree : (n : ℕ) → n < all_records m → Q n ≡ P n
      agree n l = named_is mesh.kind.limits.records request count _ refl n (omega (arith, few.records))

      is_left : found ≡ left_in m Q start
      unfolding tables_of
      is_left =
          is
          ∙ sym (left_whole _ _ _ _ (not_cramped h heads nexts counts vertices₀ records₀ lent))
          ∙ ap (λ (g : Header). left_in (tables g (layout_of mesh.kind g) mesh.base mesh.grown) Q start) r.header

      -- The header, and the new numbers.
      pub header_is : found.header ≡ (left mesh request).header
      unfolding left_in left closed_up
      header_is =
          ap (λ (f : Left). f.header) is_left
          ∙ (λ i. header_again m.header (count_below (all_vertices m) (vertices_same m Q P agree i)) (count_below (all_records m) (records_same m Q P agree i)))

      vertices_say : new_in found.vertices ≡ renumbered (vertex_remains m P)
      unfolding left_in
      vertices_say =
          ap (λ (f : Left). new_in f.vertices) is_left
          ∙ numbers_say (vertex_remains m Q) (length start.vertices) (λ v s. omega (arith, vertex_below m Q v s, long))
          ∙ ap renumbered (vertices_same m Q P agree)

      records_say : new_in found.records ≡ renumbered (record_remains m P)
      unfolding left_in
      records_say =
          ap (λ (f : Left). new_in f.records) is_left
          ∙ numbers_say (record_remains m Q) (length start.records) (λ c s. omega (arith, record_below m Q c s, deep))
          ∙ ap renumbered (records_same m Q P agree)

      abbrev f : Format
      f = mesh.kind.format

      abbrev size : ℕ
      size = mesh_length f found.header.vertices found.header.records

      -- It is the result that is put.
      put : closed_put f (tables h (layout_of mesh.kind h) mesh.base mesh.grown) found.vertices found.records (next_round found.header) out ≡ sets out 0 (mesh_bytes f (result_of (left mesh request)))
      unfolding tables_of left closed_up result_of
      put =
          ap (λ (g : Header). closed_put f (tables g (layout_of mesh.kind g) mesh.base mesh.grown) found.vertices found.records (next_round found.header) out) r.header
          ∙ closed_put_lem f m P found.vertices found.records (next_round found.header) out vertices_say records_say (ap (λ (g : Header). g.vertices) header_is) few_vertices few_records
          ∙ ap (λ (g : Header). sets out 0 (mesh_bytes f (record { header = next_round g; vertices = (result_of (left mesh request)).vertices; records = (result_of (left mesh request)).records }))) header_is

      size_is : size ≡ mesh_length f (left mesh request).header.vertices (left mesh request).header.records
      size_is = ap (λ (g : Header). mesh_length f g.vertices g.records) header_is

      -- 20, or the mesh.
      pub left_20 : length out < size → (20 ≡ room_number mesh.kind (left mesh request).header (length out)) × (out ≡ later_bytes mesh request (length out))
      unfolding room_number first_broken later_bytes
      left_20 l =
          let g : Header = (left mesh request).header in
          let n : 20 ≡ room_number mesh.kind g (length out) = rw (lt-ltb (length out) (mesh_length f g.vertices g.records) (omega (arith, size_is))) in
          (n, rw (← n) r.clear)

      pub left_0 : size ≤ length out → (0 ≡ room_number mesh.kind (left mesh request).header (length out)) × (closed_put f (tables h (layout_of mesh.kind h) mesh.base mesh.grown) found.vertices found.records (next_round found.header) out ≡ later_bytes mesh request (length out))
      unfolding room_number first_broken later_bytes
      left_0 l =
          let g : Header = (left mesh request).header in
          let n : 0 ≡ room_number mesh.kind g (length out) = rw (le-ltb (length out) (mesh_length f g.vertices g.records) (omega (arith, size_is))) in (
            n,
            rw (← n)
                (put
                ∙ ap (λ (t : List ℕ). sets t 0 (mesh_bytes f (result_of (left mesh request)))) r.clear
                ∙ clear_with (length out) (mesh_bytes f (result_of (left mesh request))) (omega (arith, size_is, result_long f (left mesh request)))),
          )
