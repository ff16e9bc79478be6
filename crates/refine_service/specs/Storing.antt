-- How the tables are copied, worked on and stored.
use Rattle.std.specs.Prelude.{◌≡◌, Bool, true, false, cond, ◌↔◌, ℕ, zero, suc, ◌+◌, ◌*◌, ◌≤◌, ◌<◌, length, drop, replicate, eqb}
use Rattle.std.proofs.Math.Path.{refl, ap}
use Rattle.std.proofs.Common.{sym, ◌∙◌, subst, mul-le-mul_left, arith, lit<}
use mathlib.Core.List.{List, ◌++◌}
use Rattle.std.proofs.lemmas.List.{length-replicate}
use Rattle.std.proofs.Math.Seq.{sets, length-sets}
use borrow.Author.Tests.{eqb-true, lt-ltb, le-ltb, not-false}
use Rattle.laws.specs.Lists.{zero_past, Bytes, bytes_none, bytes_cons, bytes_take, bytes_drop, bytes_sets, clear_with, output_of}
use Rattle.laws.specs.Order.{first_broken}
use Rattle.laws.proofs.Order.{one_after_other, both_hold, none_broken_lem}
use Rattle.stored.specs.declared.Format.{Format}
use Rattle.stored.specs.declared.Kind.{Kind}
use Rattle.stored.specs.declared.Header.{Header}
use Rattle.stored.specs.Layout.{header_width, vertex_width, record_width, next_round, Stored, header_of, right_length, mesh_length, layout_of, vertex_part, record_part, assembled, mesh_bytes, StoredSelection, selection_of, named_in}
use Rattle.stored.specs.Fitting.{right_reaches}
use Rattle.stored.specs.Meshes.{length_says, one_length}
use Rattle.stored.specs.Worked.{assembled_length, copied_vertices_lem, copied_records_lem, assembled_mesh}
use Rattle.mesh_tables.specs.Tables.{Tables, tables, tables_of}
use Rattle.check_refusals.specs.Refusals.{wrong_length}
use Rattle.check_refusals.specs.Check.{rows, table_rows, check_number}
use Rattle.check_refusals.specs.Bounded.{bounded}
use Rattle.refine_selection.specs.Selected.{selection_rows, round_row, is_named}
use Rattle.refine_cut.specs.Slices.{slices, tables_in}
use Rattle.refine_pass.specs.Passes.{exceeds, refined}
use Rattle.refine_pass.specs.Puts.{refined_put, work, refined_within}
use Rattle.refine_pass.specs.Steps.{refined_within_lem}
use Rattle.refine_pass.specs.Law.{within, not_exceeds, Working, can_begin}
use Rattle.refine_pass.proofs.Law.{refined_tables, refined_working}
use Rattle.refine_service.specs.Refine.{closed, result_of, refine_selection_rows, result_rows, refine_number, refine_bytes}
use Rattle.refine_service.specs.Order.{selection_number}

-- ---- 19 and 20, of what the passes leave

unfoldable pub stored_number : Kind → Header → ℕ → ℕ
stored_number k h room = first_broken (result_rows k h room)

unfoldable pub stored_bytes : Kind → Header → List ℕ → List ℕ → ℕ → List ℕ
stored_bytes k h vertices records room = output_of (stored_number k h room) room (assembled k.format (next_round h) vertices records)

-- What is assembled: the slices are those to work on, and the output buffer is clear.
pub record Assembled (k : Kind) (h : Header) (vertices records out : List ℕ) : Type 0 where
  pub vertices_there : length vertices ≡ vertex_width k.format * (k.limits.vertices + 1)
  pub records_there : length records ≡ record_width k.format * (k.limits.records + 2)
  pub clear : out ≡ replicate (length out) 0

room_of : (w n most long : ℕ) → n ≤ most → long ≡ w * most → w * n ≤ long
room_of w n most long l e = let m = mul-le-mul_left w l in omega arith

module _ (k : Kind) (h : Header) (vertices records out : List ℕ) (a : Assembled k h vertices records out) where
  refused_bytes : eqb (stored_number k h (length out)) 0 ≡ false → out ≡ stored_bytes k h vertices records (length out)
  unfolding stored_bytes
  refused_bytes e = rw e a.clear

  pub stored_19 : exceeds k.limits h ≡ true → (19 ≡ stored_number k h (length out)) × (out ≡ stored_bytes k h vertices records (length out))
  unfolding stored_number result_rows first_broken
  stored_19 e = let n : 19 ≡ stored_number k h (length out) = rw e in (n, refused_bytes (rw (← n)))

  module _ (few : exceeds k.limits h ≡ false) where
    pub stored_20 : length out < mesh_length k.format h.vertices h.records → (20 ≡ stored_number k h (length out)) × (out ≡ stored_bytes k h vertices records (length out))
    unfolding stored_number result_rows first_broken
    stored_20 l = let n : 20 ≡ stored_number k h (length out) = rw (few, lt-ltb (length out) (mesh_length k.format h.vertices h.records) l) in (n, refused_bytes (rw (← n)))

    pub stored_0 : mesh_length k.format h.vertices h.records ≤ length out → (0 ≡ stored_number k h (length out)) × (sets out 0 (assembled k.format (next_round h) vertices records) ≡ stored_bytes k h vertices records (length out))
    unfolding stored_number result_rows first_broken stored_bytes
    stored_0 l =
        let n : 0 ≡ stored_number k h (length out) = rw (few, le-ltb (length out) (mesh_length k.format h.vertices h.records) l) in
        let (v, r) = within k.limits h few in
        let long = assembled_length k.format (next_round h) vertices records (room_of (vertex_width k.format) h.vertices (k.limits.vertices + 1) (length vertices) (omega arith) a.vertices_there) (room_of (record_width k.format) h.records (k.limits.records + 2) (length records) (omega arith) a.records_there) in
        (n, rw (← n) (ap (λ (t : List ℕ). sets t 0 (assembled k.format (next_round h) vertices records)) a.clear ∙ clear_with (length out) (assembled k.format (next_round h) vertices records) (omega arith)))

-- ---- the tables, copied and worked on

-- What refine answers after 18.
unfoldable pub later_number : Stored → StoredSelection → ℕ → ℕ
later_number mesh selection room = stored_number mesh.kind (closed mesh selection).header room

unfoldable pub later_bytes : Stored → StoredSelection → ℕ → List ℕ
later_bytes mesh selection room = output_of (later_number mesh selection room) room (mesh_bytes mesh.kind.format (result_of (closed mesh selection)))

-- What is copied: a mesh in one buffer, of the right length and within the limits; the output buffer is clear.
pub record Copied (h : Header) (mesh : Stored) (out : List ℕ) : Type 0 where
  pub one : mesh.kind.two ≡ false
  pub header : h ≡ header_of mesh
  pub long : length mesh.base ≡ mesh_length mesh.kind.format h.vertices h.records
  pub vertices : h.vertices ≤ mesh.kind.limits.vertices
  pub records : h.records ≤ mesh.kind.limits.records
  pub clear : out ≡ replicate (length out) 0

-- Only what is stored is written.
same_output : (number room : ℕ) (a b : List ℕ) → (number ≡ 0 → a ≡ b) → output_of number room a ≡ output_of number room b
same_output number room a b same = go (eqb number 0) (λ e. same (eqb-true number 0 e))
  where
    go : (e : Bool) → (e ≡ true → a ≡ b) → cond e (zero_past room a) (replicate room 0) ≡ cond e (zero_past room b) (replicate room 0)
    go true q = ap (λ (t : List ℕ). zero_past room t) (q refl)
    go false q = refl

stored_few : (k : Kind) (h : Header) (room : ℕ) → stored_number k h room ≡ 0 → exceeds k.limits h ≡ false
unfolding stored_number result_rows
stored_few k h room e = none_broken_lem (result_rows k h room) refl e 19

bytes_zeros : (n : ℕ) → Bytes (replicate n 0)
bytes_zeros zero = bytes_none
bytes_zeros (suc n) = bytes_cons (lit< tt) (bytes_zeros n)

module _ (mesh : Stored) (selection : StoredSelection) (out : List ℕ) (h : Header) (c : Copied h mesh out) where
  abbrev f : Format
  f = mesh.kind.format

  abbrev pub copied_vertices : List ℕ
  copied_vertices = sets (replicate (vertex_width mesh.kind.format * (mesh.kind.limits.vertices + 1)) 0) 0 (vertex_part mesh.kind.format h mesh.base)

  abbrev pub copied_records : List ℕ
  copied_records = sets (replicate (record_width mesh.kind.format * (mesh.kind.limits.records + 2)) 0) 0 (record_part mesh.kind.format h mesh.base)

  abbrev chosen : ℕ → Bool
  chosen = is_named (selection_of selection).count (named_in selection)

  copied_tables : tables h (work mesh.kind) copied_vertices copied_records ≡ tables_of mesh
  unfolding tables_of
  copied_tables =
      let v : h.vertices ≤ mesh.kind.limits.vertices + 1 = omega (arith, c.vertices) in
      let r : h.records ≤ mesh.kind.limits.records + 2 = omega (arith, c.records) in
      (λ i. record {
        header = h;
        vertex_at = copied_vertices_lem f h mesh.base c.long (mesh.kind.limits.vertices + 1) (mesh.kind.limits.records + 2) v r mesh.kind c.one refl mesh.grown i;
        record_at = copied_records_lem f h mesh.base c.long (mesh.kind.limits.vertices + 1) (mesh.kind.limits.records + 2) v r mesh.kind c.one refl mesh.grown i;
      })
      ∙ ap (λ (g : Header). tables g (layout_of mesh.kind g) mesh.base mesh.grown) c.header

  module _ (bytes : Bytes mesh.base) (with : Header) (vertices records : List ℕ) (is : slices with vertices records ≡ refined_within mesh.kind false chosen (slices h copied_vertices copied_records))
      (long : length vertices ≡ vertex_width mesh.kind.format * (mesh.kind.limits.vertices + 1)) (deep : length records ≡ record_width mesh.kind.format * (mesh.kind.limits.records + 2)) where
    vertex_bytes_lem : Bytes (vertex_part mesh.kind.format h mesh.base)
    unfolding vertex_part
    vertex_bytes_lem = bytes_take (vertex_width f * h.vertices) (drop (header_width f) mesh.base) (bytes_drop (header_width f) mesh.base bytes)

    record_bytes_lem : Bytes (record_part mesh.kind.format h mesh.base)
    unfolding record_part
    record_bytes_lem = bytes_take (record_width f * h.records) (drop (header_width f + vertex_width f * h.vertices) mesh.base) (bytes_drop (header_width f + vertex_width f * h.vertices) mesh.base bytes)

    vertex_room : vertex_width mesh.kind.format * (mesh.kind.limits.vertices + 1) ≤ length copied_vertices
    vertex_room = omega (arith, length-sets (replicate (vertex_width mesh.kind.format * (mesh.kind.limits.vertices + 1)) 0) 0 (vertex_part mesh.kind.format h mesh.base), length-replicate {A = ℕ} (vertex_width mesh.kind.format * (mesh.kind.limits.vertices + 1)) 0)

    record_room : record_width mesh.kind.format * (mesh.kind.limits.records + 2) ≤ length copied_records
    record_room = omega (arith, length-sets (replicate (record_width mesh.kind.format * (mesh.kind.limits.records + 2)) 0) 0 (record_part mesh.kind.format h mesh.base), length-replicate {A = ℕ} (record_width mesh.kind.format * (mesh.kind.limits.records + 2)) 0)

    begun : Working mesh.kind.limits (work mesh.kind) (slices h copied_vertices copied_records)
    begun =
        can_begin mesh.kind (right_reaches mesh.kind mesh.right) (slices h copied_vertices copied_records) vertex_room record_room
        (bytes_sets (replicate (vertex_width mesh.kind.format * (mesh.kind.limits.vertices + 1)) 0) 0 (vertex_part mesh.kind.format h mesh.base) (bytes_zeros (vertex_width mesh.kind.format * (mesh.kind.limits.vertices + 1))) vertex_bytes_lem, bytes_sets (replicate (record_width mesh.kind.format * (mesh.kind.limits.records + 2)) 0) 0 (record_part mesh.kind.format h mesh.base) (bytes_zeros (record_width mesh.kind.format * (mesh.kind.limits.records + 2))) record_bytes_lem)

    -- Within the limits all passes are made.
    made : slices with vertices records ≡ refined_put mesh.kind.limits (work mesh.kind) chosen (slices h copied_vertices copied_records)
    made = is ∙ refined_within_lem mesh.kind false chosen (slices h copied_vertices copied_records) (right_reaches mesh.kind mesh.right) refl (not_exceeds mesh.kind.limits h c.vertices c.records) vertex_room record_room

    ended : Working mesh.kind.limits (work mesh.kind) (slices with vertices records)
    ended = subst (Working mesh.kind.limits (work mesh.kind)) (sym made) (refined_working mesh.kind.limits (work mesh.kind) chosen (slices h copied_vertices copied_records) begun)

    worked : tables with (work mesh.kind) vertices records ≡ closed mesh selection
    unfolding closed
    worked =
        ap (tables_in (work mesh.kind)) made
        ∙ refined_tables mesh.kind.limits (work mesh.kind) chosen (slices h copied_vertices copied_records) begun
        ∙ ap (refined mesh.kind.limits chosen) copied_tables

    pub worked_assembled : Assembled mesh.kind with vertices records out
    worked_assembled = record { vertices_there = long; records_there = deep; clear = c.clear }

    pub later_number_lem : (room : ℕ) → stored_number mesh.kind with room ≡ later_number mesh selection room
    unfolding later_number
    later_number_lem room = λ i. stored_number mesh.kind (worked i).header room

    pub later_bytes_lem : (room : ℕ) → stored_bytes mesh.kind with vertices records room ≡ later_bytes mesh selection room
    unfolding stored_bytes later_bytes later_number result_of
    later_bytes_lem room =
        same_output (stored_number mesh.kind with room) room (assembled f (next_round with) vertices records) (mesh_bytes f (result_of (tables with (work mesh.kind) vertices records)))
        (λ e. let (v, r) = within mesh.kind.limits with (stored_few mesh.kind with room e) in
        assembled_mesh f (next_round with) (mesh.kind.limits.vertices + 1) (mesh.kind.limits.records + 2) (omega arith) (omega arith) vertices records ended.bytes.0 ended.bytes.1 long deep)
        ∙ ap (λ (m : Tables). output_of (stored_number mesh.kind m.header room) room (mesh_bytes f (result_of m))) worked

-- ---- what refine answers, part by part

module _ (mesh : Stored) (selection : StoredSelection) (room : ℕ) where
  refused : eqb (refine_number mesh selection room) 0 ≡ false → replicate room 0 ≡ refine_bytes mesh selection room
  unfolding refine_bytes
  refused e = rw e

  -- Check's numbers come first, then 11 to 18, then 19 and 20.
  after_check : refine_number mesh selection room ≡ cond (eqb (check_number mesh) 0) (first_broken (refine_selection_rows (tables_of mesh) selection ++ result_rows mesh.kind (closed mesh selection).header room)) (check_number mesh)
  unfolding refine_number check_number rows table_rows
  after_check = one_after_other (rows mesh) (refine_selection_rows (tables_of mesh) selection ++ result_rows mesh.kind (closed mesh selection).header room) refl

  after_selection : first_broken (refine_selection_rows (tables_of mesh) selection ++ result_rows mesh.kind (closed mesh selection).header room)
      ≡ cond (eqb (selection_number (tables_of mesh) selection) 0) (later_number mesh selection room) (selection_number (tables_of mesh) selection)
  unfolding selection_number later_number stored_number refine_selection_rows selection_rows round_row
  after_selection = one_after_other (refine_selection_rows (tables_of mesh) selection) (result_rows mesh.kind (closed mesh selection).header room) refl

  pub refine_judged : eqb (check_number mesh) 0 ≡ false → (check_number mesh ≡ refine_number mesh selection room) × (replicate room 0 ≡ refine_bytes mesh selection room)
  refine_judged e = let n : check_number mesh ≡ refine_number mesh selection room = sym (after_check ∙ rw e) in (n, refused (rw (← n) e))

  -- Where check gives 0 and no rule of the selection is broken, 19 and 20 decide.
  pub refine_none : (refine_number mesh selection room ≡ 0) ↔ ((check_number mesh ≡ 0) × ((selection_number (tables_of mesh) selection ≡ 0) × (later_number mesh selection room ≡ 0)))
  unfolding refine_number check_number rows table_rows selection_number later_number stored_number refine_selection_rows selection_rows round_row
  refine_none =
      let first = both_hold (rows mesh) (refine_selection_rows (tables_of mesh) selection ++ result_rows mesh.kind (closed mesh selection).header room) refl in
      let later = both_hold (refine_selection_rows (tables_of mesh) selection) (result_rows mesh.kind (closed mesh selection).header room) refl in
      (λ e. ((first.0 e).0, later.0 (first.0 e).1), λ z. first.1 (z.0, later.1 z.1))

  module _ (accepted : check_number mesh ≡ 0) where
    pub refine_selected : eqb (selection_number (tables_of mesh) selection) 0 ≡ false → (selection_number (tables_of mesh) selection ≡ refine_number mesh selection room) × (replicate room 0 ≡ refine_bytes mesh selection room)
    refine_selected e =
        let n : selection_number (tables_of mesh) selection ≡ refine_number mesh selection room = sym (after_check ∙ rw accepted (after_selection ∙ rw e)) in
        (n, refused (rw (← n) e))

    module _ (right : selection_number (tables_of mesh) selection ≡ 0) where
      pub refine_later : later_number mesh selection room ≡ refine_number mesh selection room
      refine_later = sym (after_check ∙ rw accepted (after_selection ∙ rw right))

      pub refine_later_bytes : later_bytes mesh selection room ≡ refine_bytes mesh selection room
      unfolding later_bytes refine_bytes
      refine_later_bytes = rw refine_later

-- What acceptance by check says of a mesh in one buffer.
pub copied_ready : (mesh : Stored) → mesh.kind.two ≡ false → (out : List ℕ) → check_number mesh ≡ 0 → out ≡ replicate (length out) 0 → Copied (header_of mesh) mesh out
unfolding check_number rows table_rows wrong_length
copied_ready mesh one out e clear =
    let k = mesh.kind in
    let holds = none_broken_lem (rows mesh) refl e in
    let few = bounded k.limits (header_of mesh) (holds 3) in
    record {
      one = one;
      header = refl;
      long = (length_says k mesh.base mesh.grown (not-false (right_length k mesh.base mesh.grown) (holds 1))).2 ∙ one_length k one (header_of mesh);
      vertices = few.vertices;
      records = few.records;
      clear = clear;
    }
