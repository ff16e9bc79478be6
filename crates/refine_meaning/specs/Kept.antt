-- What refine leaves as it was: vertices and pieces that are there keep their number; a record that is cut stays cut; an empty selection changes the round alone.
use Rattle.std.specs.Prelude.{◌≡◌, Bool, cond, ◌&&◌, eqb}
use Rattle.std.proofs.Math.Path.{refl, ap}
use Rattle.std.proofs.Common.{sym, ◌∙◌, ⊎_elim, le_refl, arith, eqb-true, ne_eqb}
use Rattle.std.proofs.Math.Bool.{true, false, not}
use Rattle.std.proofs.lemmas.Bool.{false≢true, eqb-false}
use Prim.Native.Nat.{ℕ, zero, suc, ◌+◌, ◌≤◌, ◌<◌}
use Rattle.laws.specs.Below.{either, put_at, any_below, any_none, any_fails, any_fails_at, put_same, put_other}
use Rattle.laws.proofs.Order.{none_broken_lem}
use Rattle.piece_cut.specs.Cut.{cut_of}
use Rattle.stored.specs.declared.Limits.{Limits}
use Rattle.stored.specs.declared.Record.{Record}
use Rattle.stored.specs.Layout.{Stored, StoredSelection, selection_of, named_in}
use Rattle.mesh_tables.specs.Tables.{Tables, tables_of, uncut, all_vertices, all_records, piece_at, vertex_with, refinement_ends, hangs_at, leaf_hangs, hanging_edge}
use Rattle.check_refusals.specs.Check.{rows, table_rows, check_number}
use Rattle.refine_selection.specs.Selected.{names_cut, is_named}
use Rattle.refine_cut.specs.Cut.{with_midpoint, with_children, cut_record, leaf_record, cut_at}
use Rattle.refine_pass.specs.Passes.{exceeds, turn, pass_below, pass, closing, refined}
use Rattle.refine_pass.specs.Law.{midpoint_keeps, cut_record_count, cut_vertex_count, cut_vertices_stay, cut_records_stay}
use Rattle.refine_service.specs.Refine.{closed}

-- ---- vertices and pieces stay

-- t has the vertices and the pieces of m under their numbers.
pub record Keeps (m t : Tables) : Type 0 where
  pub vertices : all_vertices m ≤ all_vertices t
  pub records : all_records m ≤ all_records t
  pub vertex_at : (v : ℕ) → v < all_vertices m → t.vertex_at v ≡ m.vertex_at v
  pub piece_at : (k : ℕ) → k < all_records m → (t.record_at k).piece ≡ (m.record_at k).piece

keeps_itself : (m : Tables) → Keeps m m
keeps_itself m = record { vertices = le_refl (all_vertices m); records = le_refl (all_records m); vertex_at = λ v l. refl; piece_at = λ k l. refl }

keeps_then : (m t u : Tables) → Keeps m t → Keeps t u → Keeps m u
keeps_then m t u a b =
    record {
      vertices = omega (arith, a.vertices, b.vertices);
      records = omega (arith, a.records, b.records);
      vertex_at = λ v l. b.vertex_at v (omega (arith, a.vertices)) ∙ a.vertex_at v l;
      piece_at = λ k l. b.piece_at k (omega (arith, a.records)) ∙ a.piece_at k l;
    }

-- The record that is cut keeps its piece.
module _ (m : Tables) (n : ℕ) (there : n < all_records m) where
  abbrev half : Tables
  half = with_midpoint m (refinement_ends (piece_at m n))

  cut_piece : ((cut_at m n).record_at n).piece ≡ (m.record_at n).piece
  unfolding cut_at with_children
  cut_piece =
      let count = (midpoint_keeps m n).1 in
      let w : ℕ = vertex_with m (refinement_ends (piece_at m n)) in
      let first : ℕ = all_records half in
      let cut : ℕ → Record = put_at n (cut_record (piece_at half n) first) half.record_at in
      let one : ℕ → Record = put_at first (leaf_record (cut_of (piece_at half n) w).first) cut in
      let self : put_at n (cut_record (piece_at half n) first) half.record_at n ≡ cut_record (piece_at half n) first = put_same n (cut_record (piece_at half n) first) half.record_at in
      ap (λ (r : Record). r.piece)
      (put_other (first + 1) n (leaf_record (cut_of (piece_at half n) w).second) one (λ e. omega arith)
      ∙ put_other first n (leaf_record (cut_of (piece_at half n) w).first) cut (λ e. omega arith)
      ∙ self)
      ∙ (λ i. ((midpoint_keeps m n).0 i n).piece)

  cut_keeps : Keeps m (cut_at m n)
  cut_keeps =
      record {
        vertices = cut_vertex_count m n;
        records = omega (arith, cut_record_count m n);
        vertex_at = cut_vertices_stay m n;
        piece_at = λ k l.
            ⊎_elim
            (λ t. let e = eqb-true k n t in ap (λ (j : ℕ). ((cut_at m n).record_at j).piece) e ∙ cut_piece ∙ ap (λ (j : ℕ). (m.record_at j).piece) (sym e))
            (λ f. ap (λ (r : Record). r.piece) (cut_records_stay m n k l (eqb-false k n f)))
            (either (eqb k n));
      }

either_keeps : (b : Bool) (m t u : Tables) → Keeps m t → Keeps m u → Keeps m (cond b t u)
either_keeps true m t u p q = p
either_keeps false m t u p q = q

module _ (most : Limits) where
  below_keeps : (chosen : ℕ → Bool) (n : ℕ) (m : Tables) → n ≤ all_records m → Keeps m (pass_below most chosen n m)
  unfolding pass_below turn
  below_keeps chosen zero m l = keeps_itself m
  below_keeps chosen (suc n) m l =
      let t : Tables = pass_below most chosen n m in
      let k : Keeps m t = below_keeps chosen n m (omega arith) in
      either_keeps (chosen n && not (exceeds most t.header)) m (cut_at t n) t (keeps_then m t (cut_at t n) k (cut_keeps t n (omega (arith, k.records)))) k

  pass_keeps : (chosen : ℕ → Bool) (m : Tables) → Keeps m (pass most chosen m)
  unfolding pass
  pass_keeps chosen m = below_keeps chosen (all_records m) m (le_refl (all_records m))

  closing_keeps : (passes : ℕ) (m : Tables) → Keeps m (closing most passes m)
  unfolding closing
  closing_keeps zero m = keeps_itself m
  closing_keeps (suc passes) m =
      let t : Tables = pass most (leaf_hangs m) m in
      either_keeps (hanging_edge m && not (exceeds most m.header)) m (closing most passes t) m (keeps_then m t (closing most passes t) (pass_keeps (leaf_hangs m) m) (closing_keeps passes t)) (keeps_itself m)

  refined_keeps : (chosen : ℕ → Bool) (m : Tables) → Keeps m (refined most chosen m)
  unfolding refined
  refined_keeps chosen m = keeps_then m (pass most chosen m) (closing most most.records (pass most chosen m)) (pass_keeps chosen m) (closing_keeps most.records (pass most chosen m))

-- "Entries already there keep their number", for every mesh and every selection.
pub closed_keeps : (mesh : Stored) (selection : StoredSelection) → Keeps (tables_of mesh) (closed mesh selection)
unfolding closed
closed_keeps mesh selection = refined_keeps mesh.kind.limits (is_named (selection_of selection).count (named_in selection)) (tables_of mesh)

-- ---- a record that is cut stays cut

module _ (most : Limits) where
  -- A pass that chooses no cut record leaves each as it is.
  below_cut : (chosen : ℕ → Bool) (m : Tables) (k : ℕ) → k < all_records m → chosen k ≡ false → (n : ℕ) → n ≤ all_records m → (pass_below most chosen n m).record_at k ≡ m.record_at k
  unfolding pass_below turn
  below_cut chosen m k l none zero h = refl
  below_cut chosen m k l none (suc n) h =
      let t : Tables = pass_below most chosen n m in
      let keeps : Keeps m t = below_keeps most chosen n m (omega arith) in
      go t (exceeds most t.header) (chosen n) refl (omega (arith, keeps.records)) ∙ below_cut chosen m k l none n (omega arith)
    where
      go : (t : Tables) (e c : Bool) → chosen n ≡ c → k < all_records t → (cond (c && not e) (cut_at t n) t).record_at k ≡ t.record_at k
      go t e false is there = refl
      go t true true is there = refl
      go t false true is there = cut_records_stay t n k there (λ q. absurd (false≢true (sym none ∙ ap chosen q ∙ is)))

  pass_cut : (chosen : ℕ → Bool) (m : Tables) (k : ℕ) → k < all_records m → chosen k ≡ false → (pass most chosen m).record_at k ≡ m.record_at k
  unfolding pass
  pass_cut chosen m k l none = below_cut chosen m k l none (all_records m) (le_refl (all_records m))

  closing_cut : (passes : ℕ) (m : Tables) (k : ℕ) → k < all_records m → uncut (m.record_at k) ≡ false → (closing most passes m).record_at k ≡ m.record_at k
  unfolding closing leaf_hangs hangs_at
  closing_cut zero m k l cut = refl
  closing_cut (suc passes) m k l cut =
      let t : Tables = pass most (leaf_hangs m) m in
      let same : t.record_at k ≡ m.record_at k = pass_cut (leaf_hangs m) m k l (no_leaf m k cut) in
      go (hanging_edge m && not (exceeds most m.header)) t (closing most passes t)
      (closing_cut passes t k (omega (arith, (pass_keeps most (leaf_hangs m) m).records)) (ap uncut same ∙ cut) ∙ same)
    where
      no_leaf : (m : Tables) (k : ℕ) → uncut (m.record_at k) ≡ false → leaf_hangs m k ≡ false
      no_leaf m k c = any_fails (hangs_at m k) 6 (λ e l. rw c)

      go : (b : Bool) (t u : Tables) → u.record_at k ≡ m.record_at k → (cond b u m).record_at k ≡ m.record_at k
      go true t u e = e
      go false t u e = refl

-- "Records already there": one that is cut stays as it is, whatever is selected, unless a cut record is named, which gets 16.
pub cut_stays : (mesh : Stored) (selection : StoredSelection) (k : ℕ) → k < all_records (tables_of mesh) → uncut ((tables_of mesh).record_at k) ≡ false →
    names_cut (tables_of mesh).record_at (selection_of selection).count (named_in selection) ≡ false → (closed mesh selection).record_at k ≡ (tables_of mesh).record_at k
unfolding closed refined names_cut is_named
cut_stays mesh selection k l cut right =
    let m : Tables = tables_of mesh in
    let chosen : ℕ → Bool = is_named (selection_of selection).count (named_in selection) in
    let most : Limits = mesh.kind.limits in
    let same : (pass most chosen m).record_at k ≡ m.record_at k = pass_cut most chosen m k l not_named in
    closing_cut most most.records (pass most chosen m) k (omega (arith, (pass_keeps most chosen m).records)) (ap uncut same ∙ cut) ∙ same
  where
    not_named : any_below (selection_of selection).count (λ i. eqb (named_in selection i) k) ≡ false
    not_named =
        any_fails (λ i. eqb (named_in selection i) k) (selection_of selection).count
        (λ i there. ne_eqb (named_in selection i) k
        (λ e. let leaf : not (uncut ((tables_of mesh).record_at (named_in selection i))) ≡ false = any_fails_at (λ j. not (uncut ((tables_of mesh).record_at (named_in selection j)))) (selection_of selection).count i right there in
        absurd (false≢true (sym leaf ∙ ap not (ap (λ (j : ℕ). uncut ((tables_of mesh).record_at j)) e ∙ cut)))))

-- ---- an empty selection

-- A pass that chooses nothing cuts nothing.
nothing_cut : (most : Limits) (chosen : ℕ → Bool) → ((k : ℕ) → chosen k ≡ false) → (n : ℕ) (m : Tables) → pass_below most chosen n m ≡ m
unfolding pass_below turn
nothing_cut most chosen none zero m = refl
nothing_cut most chosen none (suc n) m = rw (none n) (nothing_cut most chosen none n m)

-- Where nothing hangs the closing is over.
closing_over : (most : Limits) (passes : ℕ) (m : Tables) → hanging_edge m ≡ false → closing most passes m ≡ m
unfolding closing
closing_over most zero m e = refl
closing_over most (suc passes) m e = rw e

-- In a mesh that check accepts nothing hangs.
nothing_hangs : (s : Stored) → check_number s ≡ 0 → hanging_edge (tables_of s) ≡ false
unfolding check_number rows table_rows
nothing_hangs s e = none_broken_lem (rows s) refl e 10

-- "an empty selection is a round": the tables are those of the mesh, so that the round alone is another.
pub empty_changes_nothing : (mesh : Stored) (selection : StoredSelection) → check_number mesh ≡ 0 → (selection_of selection).count ≡ 0 → closed mesh selection ≡ tables_of mesh
unfolding closed refined pass is_named
empty_changes_nothing mesh selection accepted empty =
    let m : Tables = tables_of mesh in
    let chosen : ℕ → Bool = is_named (selection_of selection).count (named_in selection) in
    let most : Limits = mesh.kind.limits in
    ap (closing most most.records) (nothing_cut most chosen (none_named (selection_of selection).count (named_in selection) empty) (all_records m) m)
    ∙ closing_over most most.records m (nothing_hangs mesh accepted)
  where
    named_none : (named : ℕ → ℕ) (k : ℕ) → is_named 0 named k ≡ false
    named_none named k = any_none (λ i. eqb (named i) k)

    none_named : (count : ℕ) (named : ℕ → ℕ) → count ≡ 0 → (k : ℕ) → is_named count named k ≡ false
    none_named count named e k = ap (λ (c : ℕ). is_named c named k) e ∙ named_none named k
