-- Of specs/Law.antt, the theorems that an edit of a definition breaks, and what only they need.
use Rattle.std.specs.Prelude.{◌≡◌, Bool, cond, ◌&&◌}
use Rattle.std.proofs.Math.Path.{refl, ap, subst}
use Rattle.std.proofs.Common.{◌∙◌, arith}
use Rattle.std.proofs.Math.Bool.{true, false, not}
use Prim.Native.Nat.{ℕ, zero, suc, ◌≤◌, ◌<◌}
use Rattle.std.proofs.Math.Nat.{le_refl}
use Rattle.stored.specs.declared.Limits.{Limits}
use Rattle.stored.specs.declared.Layout.{Layout}
use Rattle.mesh_tables.specs.Tables.{Tables, all_vertices, all_records, leaf_hangs, hanging_edge}
use Rattle.refine_cut.specs.Cut.{cut_at}
use Rattle.refine_cut.specs.Slices.{Slices, tables_in, cut_put}
use Rattle.refine_cut.specs.Law.{Ready}
use Rattle.refine_cut.proofs.Law.{cut_tables}
use Rattle.refine_pass.specs.Passes.{exceeds, turn, pass_below, pass, closing, refined}
use Rattle.refine_pass.specs.Puts.{turn_put, turns_put, pass_put, closing_put, refined_put}
use Rattle.refine_pass.specs.Steps.{turns_records}
use Rattle.refine_pass.specs.Law.{cut_record_count, cut_vertex_count, cut_vertices_stay, cut_records_stay, Kept, Working}
use Rattle.refine_pass.specs.Law as Specs

module _ (most : Limits) (chosen : ℕ → Bool) where
  turn_kept : (n : ℕ) (m t : Tables) → Kept n m t → Kept (suc n) m (turn most chosen n t)
  unfolding turn
  turn_kept n m t h = go (chosen n && not (exceeds most t.header))
    where
      go : (b : Bool) → Kept (suc n) m (cond b (cut_at t n) t)
      go true =
          record {
            records = omega (arith, h.records, cut_record_count t n);
            vertices = omega (arith, h.vertices, cut_vertex_count t n);
            vertex_at = λ v l. cut_vertices_stay t n v (omega (arith, h.vertices)) ∙ h.vertex_at v l;
            record_at = λ k s l. cut_records_stay t n k (omega (arith, h.records)) (λ e. omega arith) ∙ h.record_at k (omega arith) l;
          }
      go false = record { records = h.records; vertices = h.vertices; vertex_at = h.vertex_at; record_at = λ k s l. h.record_at k (omega arith) l }

  pub turns_kept : (n : ℕ) (m : Tables) → Kept n m (pass_below most chosen n m)
  unfolding pass_below
  turns_kept zero m = record { records = le_refl (all_records m); vertices = le_refl (all_vertices m); vertex_at = λ v l. refl; record_at = λ k s l. refl }
  turns_kept (suc n) m = turn_kept n m (pass_below most chosen n m) (turns_kept n m)

-- The tables of t are m, and t is still to be worked on.
record Gives (most : Limits) (l : Layout) (t : Slices) (m : Tables) : Type 0 where
  same : tables_in l t ≡ m
  working : Working most l t

module _ (most : Limits) (l : Layout) where
  -- As specs/ has them.
  abbrev ready : (s : Slices) (n : ℕ) → Working most l s → exceeds most s.header ≡ false → n < s.header.records → Ready l s n
  ready = Specs.ready most l

  abbrev cut_working : (s : Slices) (n : ℕ) → Working most l s → exceeds most s.header ≡ false → n < s.header.records → Working most l (cut_put l s n)
  cut_working = Specs.cut_working most l

  turn_gives : (chosen : ℕ → Bool) (n : ℕ) (s : Slices) → Working most l s → n < s.header.records → Gives most l (turn_put most l (chosen n) n s) (turn most chosen n (tables_in l s))
  unfolding turn_put turn
  turn_gives chosen n s w there = go (chosen n) (exceeds most s.header) refl
    where
      go : (b e : Bool) → exceeds most s.header ≡ e → Gives most l (cond (b && not e) (cut_put l s n) s) (cond (b && not e) (cut_at (tables_in l s) n) (tables_in l s))
      go true true h = record { same = refl; working = w }
      go true false h = record { same = cut_tables l s n (ready s n w h there); working = cut_working s n w h there }
      go false e h = record { same = refl; working = w }

  turns_give : (chosen : ℕ → Bool) (s : Slices) → Working most l s → (n : ℕ) → n ≤ s.header.records → Gives most l (turns_put most l chosen n s) (pass_below most chosen n (tables_in l s))
  unfolding turns_put pass_below
  turns_give chosen s w zero h = record { same = refl; working = w }
  turns_give chosen s w (suc n) h =
      let t : Slices = turns_put most l chosen n s in
      let g = turns_give chosen s w n (omega arith) in
      subst (λ (m : Tables). Gives most l (turn_put most l (chosen n) n t) (turn most chosen n m)) g.same (turn_gives chosen n t g.working (omega (arith, turns_records most l chosen s n)))

  -- A pass.
  pass_gives : (chosen : ℕ → Bool) (s : Slices) → Working most l s → Gives most l (pass_put most l chosen s) (pass most chosen (tables_in l s))
  unfolding pass_put pass
  pass_gives chosen s w = turns_give chosen s w s.header.records (le_refl s.header.records)

  pick : (b : Bool) (s t : Slices) (m : Tables) → Working most l s → Gives most l t m → Gives most l (cond b t s) (cond b m (tables_in l s))
  pick true s t m w g = g
  pick false s t m w g = record { same = refl; working = w }

  closing_gives : (passes : ℕ) (s : Slices) → Working most l s → Gives most l (closing_put most l passes s) (closing most passes (tables_in l s))
  unfolding closing_put closing
  closing_gives zero s w = record { same = refl; working = w }
  closing_gives (suc passes) s w =
      let g = pass_gives (leaf_hangs (tables_in l s)) s w in
      let after : Slices = pass_put most l (leaf_hangs (tables_in l s)) s in
      pick (hanging_edge (tables_in l s) && not (exceeds most s.header)) s (closing_put most l passes after) (closing most passes (pass most (leaf_hangs (tables_in l s)) (tables_in l s))) w
      (subst (λ (m : Tables). Gives most l (closing_put most l passes after) (closing most passes m)) g.same (closing_gives passes after g.working))

  -- All passes: the tables after them are the tables before them, refined.
  pub refined_tables : (chosen : ℕ → Bool) (s : Slices) → Working most l s → tables_in l (refined_put most l chosen s) ≡ refined most chosen (tables_in l s)
  unfolding refined_put refined
  refined_tables chosen s w =
      let g = pass_gives chosen s w in
      (closing_gives most.records (pass_put most l chosen s) g.working).same ∙ ap (closing most most.records) g.same

  pub refined_working : (chosen : ℕ → Bool) (s : Slices) → Working most l s → Working most l (refined_put most l chosen s)
  unfolding refined_put
  refined_working chosen s w =
      let g = pass_gives chosen s w in
      (closing_gives most.records (pass_put most l chosen s) g.working).working
