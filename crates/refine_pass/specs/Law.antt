-- The passes in two slices are the passes of their tables.
use Rattle.std.specs.Prelude.{◌≡◌, Bool, cond, ◌≢◌, length, eqb, ltb}
use Rattle.std.proofs.Math.Path.{refl, ap}
use Rattle.std.proofs.Common.{◌∙◌, arith, ltb-false, le-ltb}
use Rattle.std.proofs.Math.Bool.{true, false}
use Prim.Native.Nat.{ℕ, ◌+◌, ◌*◌, ◌≤◌, ◌<◌}
use Rattle.std.proofs.Math.Nat.{le_refl}
use Rattle.laws.specs.Below.{or_left_false, or_right_false, put_at, put_other}
use Rattle.laws.specs.Lists.{Bytes}
use Rattle.piece.specs.declared.Ends.{Ends}
use Rattle.stored.specs.declared.Limits.{Limits}
use Rattle.stored.specs.declared.Kind.{Kind}
use Rattle.stored.specs.declared.Layout.{Layout}
use Rattle.stored.specs.declared.Header.{Header}
use Rattle.stored.specs.declared.Record.{Record}
use Rattle.stored.specs.Fitting.{reached}
use Rattle.stored.specs.Layout.{numbers_reach, stored_none, vertex_width, record_width}
use Rattle.stored.specs.Tables.{Holds, working_holds}
use Rattle.mesh_tables.specs.Tables.{Tables, all_vertices, all_records, piece_at, vertex_with, refinement_ends}
use Rattle.piece_cut.specs.Cut.{cut_of}
use Rattle.refine_cut.specs.Cut.{one_vertex_more, midpoint_of, with_midpoint, cut_record, leaf_record, with_children, cut_at}
use Rattle.refine_cut.specs.Slices.{Slices, cut_put}
use Rattle.refine_cut.specs.Law.{Ready, cut_holds_on, cut_bytes}
use Rattle.refine_pass.specs.Passes.{exceeds}
use Rattle.refine_pass.specs.Puts.{work}

-- ---- what a cut leaves as it was

module _ (m : Tables) (n : ℕ) where
  abbrev ends_n : Ends
  ends_n = refinement_ends (piece_at m n)

  -- With the midpoint: old vertices and all records stay, and at most one vertex is appended.
  pub midpoint_keeps : ((with_midpoint m ends_n).record_at ≡ m.record_at) × (all_records (with_midpoint m ends_n) ≡ all_records m) × (all_vertices m ≤ all_vertices (with_midpoint m ends_n)) × ((v : ℕ) → v < all_vertices m → (with_midpoint m ends_n).vertex_at v ≡ m.vertex_at v)
  unfolding with_midpoint
  midpoint_keeps = go (eqb (vertex_with m ends_n) (all_vertices m))
    where
      more : Tables
      more = record { header = one_vertex_more m.header; vertex_at = put_at (all_vertices m) (midpoint_of m.vertex_at ends_n) m.vertex_at; record_at = m.record_at }

      go : (b : Bool) → ((cond b more m).record_at ≡ m.record_at) × (all_records (cond b more m) ≡ all_records m) × (all_vertices m ≤ all_vertices (cond b more m)) × ((v : ℕ) → v < all_vertices m → (cond b more m).vertex_at v ≡ m.vertex_at v)
      go true = (refl, refl, omega arith, λ v l. put_other (all_vertices m) v (midpoint_of m.vertex_at ends_n) m.vertex_at (λ e. omega arith))
      go false = (refl, refl, le_refl (all_vertices m), λ v l. refl)

  pub cut_record_count : all_records (cut_at m n) ≡ all_records m + 2
  unfolding cut_at with_children
  cut_record_count = ap (λ (k : ℕ). k + 2) midpoint_keeps.1

  pub cut_vertex_count : all_vertices m ≤ all_vertices (cut_at m n)
  unfolding cut_at with_children
  cut_vertex_count = midpoint_keeps.2

  pub cut_vertices_stay : (v : ℕ) → v < all_vertices m → (cut_at m n).vertex_at v ≡ m.vertex_at v
  unfolding cut_at with_children
  cut_vertices_stay = midpoint_keeps.3

  pub cut_records_stay : (k : ℕ) → k < all_records m → k ≢ n → (cut_at m n).record_at k ≡ m.record_at k
  unfolding cut_at with_children
  cut_records_stay k l ne =
      let count = midpoint_keeps.1 in
      let half : Tables = with_midpoint m ends_n in
      let w : ℕ = vertex_with m ends_n in
      let first : ℕ = all_records half in
      let cut : ℕ → Record = put_at n (cut_record (piece_at half n) first) half.record_at in
      let one : ℕ → Record = put_at first (leaf_record (cut_of (piece_at half n) w).first) cut in
      put_other (first + 1) k (leaf_record (cut_of (piece_at half n) w).second) one (λ e. omega arith)
      ∙ put_other first k (leaf_record (cut_of (piece_at half n) w).first) cut (λ e. omega arith)
      ∙ put_other n k (cut_record (piece_at half n) first) half.record_at ne
      ∙ (λ i. midpoint_keeps.0 i k)

-- ---- what the first n turns leave as it was

-- Old vertices stay, and so do the records from n on; none is lost.
pub record Kept (n : ℕ) (m t : Tables) : Type 0 where
  pub records : all_records m ≤ all_records t
  pub vertices : all_vertices m ≤ all_vertices t
  pub vertex_at : (v : ℕ) → v < all_vertices m → t.vertex_at v ≡ m.vertex_at v
  pub record_at : (k : ℕ) → n ≤ k → k < all_records m → t.record_at k ≡ m.record_at k

-- ---- tables to work on

-- The slices hold tables with room for one cut beyond the limits, whose numbers none of them reads as none.
pub record Working (most : Limits) (l : Layout) (s : Slices) : Type 0 where
  pub holds : Holds l s.base s.grown
  pub bytes : Bytes s.base × Bytes s.grown
  pub vertices : l.vertices.end ≡ most.vertices + 1
  pub records : l.records.end ≡ most.records + 2
  pub few_vertices : most.vertices < stored_none l.format
  pub few_records : most.records + 2 ≤ stored_none l.format

-- What does not exceed the limits.
pub within : (most : Limits) (h : Header) → exceeds most h ≡ false → (h.vertices ≤ most.vertices) × (h.records ≤ most.records)
unfolding exceeds
within most h e = (
  ltb-false most.vertices h.vertices (or_left_false (ltb most.vertices h.vertices) (ltb most.records h.records) e),
  ltb-false most.records h.records (or_right_false (ltb most.vertices h.vertices) (ltb most.records h.records) e),
)

-- And so the other way round.
pub not_exceeds : (most : Limits) (h : Header) → h.vertices ≤ most.vertices → h.records ≤ most.records → exceeds most h ≡ false
unfolding exceeds
not_exceeds most h v r = rw (le-ltb most.vertices h.vertices v, le-ltb most.records h.records r)

-- Slices that are long enough hold tables to work on.
pub can_begin : (k : Kind) → numbers_reach k ≡ true → (s : Slices) → vertex_width k.format * (k.limits.vertices + 1) ≤ length s.base → record_width k.format * (k.limits.records + 2) ≤ length s.grown → Bytes s.base × Bytes s.grown → Working k.limits (work k) s
can_begin k reach s long deep bytes =
    record {
      holds = working_holds k.format (k.limits.vertices + 1) (k.limits.records + 2) s.base s.grown long deep;
      bytes = bytes;
      vertices = refl;
      records = refl;
      few_vertices = omega (arith, (reached k reach).0);
      few_records = omega (arith, (reached k reach).1);
    }

module _ (most : Limits) (l : Layout) where
  pub ready : (s : Slices) (n : ℕ) → Working most l s → exceeds most s.header ≡ false → n < s.header.records → Ready l s n
  ready s n w e there =
      let (v, r) = within most s.header e in
      record {
        holds = w.holds;
        base_bytes = w.bytes.0;
        grown_bytes = w.bytes.1;
        vertex_room = omega (arith, w.vertices);
        record_room = omega (arith, w.records);
        few_vertices = omega (arith, w.vertices, w.few_vertices);
        few_records = omega (arith, w.records, w.few_records);
        there = there;
      }

  -- A cut leaves them to work on.
  pub cut_working : (s : Slices) (n : ℕ) → Working most l s → exceeds most s.header ≡ false → n < s.header.records → Working most l (cut_put l s n)
  cut_working s n w e there =
      let r = ready s n w e there in
      record {
        holds = cut_holds_on l s n r;
        bytes = cut_bytes l s n r;
        vertices = w.vertices;
        records = w.records;
        few_vertices = w.few_vertices;
        few_records = w.few_records;
      }
