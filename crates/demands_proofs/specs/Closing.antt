-- What all passes make of lawful tables: a set reached by cutting selected and hanging leaves, which the tables represent; where they do not exceed their
-- limits it has the selected cuts and no leaf of it hangs. Assumes nothing.
use Rattle.std.specs.Prelude.{◌≡◌, Bool, true, false, not, cond, ◌&&◌}
use Rattle.std.proofs.Math.Path.{refl}
use Rattle.std.proofs.Common.{sym, ap, ◌∙◌, inl, inr, ⊎_elim, arith}
use Prim.Native.Nat.{ℕ, zero, suc, ◌+◌, ◌≤◌, ◌<◌}
use Rattle.piece.specs.Shape.{last_generation}
use Rattle.laws.specs.Below.{either, any_where}
use Rattle.cuts_names.specs.Lists.{both_ways}
use Rattle.stored.specs.declared.Limits.{Limits}
use Rattle.stored.specs.Layout.{none}
use Rattle.grid.specs.Places.{halfway_of}
use Rattle.mesh_tables.specs.Tables as Check
use Rattle.mesh_tables.specs.Tables.{all_vertices, all_records, piece_at, leaf_hangs, hanging_edge}
use Rattle.check_meaning.specs.Cuts.{Four}
use Rattle.refine_pass.specs.Passes.{exceeds, pass, closing, refined}
use Rattle.refine_pass.specs.Law.{within}
use Rattle.cuts.specs.Sets.{Cuts, NoneHangs}
use Rattle.cuts.specs.Depth.{CutsBelow}
use Rattle.cuts.specs.Least.{Reaches}
use Rattle.cuts.specs.Tables.{node_of}
use Rattle.cuts.specs.LinkGrown.{Grown, grown_rests_lem}
use Rattle.demands_proofs.specs.Link.{link}
use Rattle.demands_proofs.specs.Hanging.{leaf_hangs_lem, none_hangs}
use Rattle.demands_proofs.specs.Materials.{AllHandDown}
use Rattle.demands_proofs.specs.PassStages.{Start, ChosenNode, UpToLast, Selectable, Stage, stage_start, stage_below, Later, later_itself, later_then, Turned, May, pass_turned}

-- ---- the later passes

-- There is a record where an edge hangs.
some_record : (t : Check.Tables) → hanging_edge t ≡ true → (n : ℕ) × (n < all_records t) × (leaf_hangs t n ≡ true)
unfolding hanging_edge
some_record t h = any_where (leaf_hangs t) (all_records t) h

-- So many passes suffice: each appends a record at least, or the tables exceed their limits.
abbrev Enough : Limits → ℕ → Check.Tables → Type 0
Enough most passes t = hanging_edge t ≡ true → exceeds most t.header ≡ false → most.records < all_records t + passes

-- After the later passes: t' exceeds the limits or has no hanging edge. Where t exceeded them, so does t'.
record Closed (m : Check.Tables) (start : Start m) (chosen : ℕ → Bool) (most : Limits) (t : Check.Tables) (D : Cuts start.count) (t' : Check.Tables) : Type 0 where
  later : Later m start chosen t D t'
  beyond : exceeds most t.header ≡ true → exceeds most t'.header ≡ true
  rests : exceeds most t'.header ≡ false → hanging_edge t' ≡ false

-- Every hanging leaf may be cut.
hanging_may : (m : Check.Tables) (chosen : ℕ → Bool) (t : Check.Tables) → May m chosen t (leaf_hangs t)
hanging_may m chosen t n l h = let (u, x) = leaf_hangs_lem t n h in (u, inr x)

module _ (most : Limits) (room : most.records < none) (m : Check.Tables) (start : Start m) (shallow : UpToLast m) (chosen : ℕ → Bool) (leaf : Selectable m chosen) where
  -- Where there are no more passes, the tables exceed their limits or have no hanging edge.
  closed_out : (t : Check.Tables) (D : Cuts start.count) → Stage m start chosen t D → Enough most 0 t → Closed m start chosen most t D t
  closed_out t D st enough =
      record {
        later = later_itself st;
        beyond = λ e. e;
        rests = λ e. ⊎_elim (λ h. absurd (omega (arith, enough h e, (within most t.header e).1))) (λ f. f) (either (hanging_edge t));
      }

  -- One pass more.
  closed_more : (passes : ℕ) (t : Check.Tables) (D : Cuts start.count) → Stage m start chosen t D → Enough most (suc passes) t →
      ((D₁ : Cuts start.count) → Stage m start chosen (pass most (leaf_hangs t) t) D₁ → Enough most passes (pass most (leaf_hangs t) t) →
      Closed m start chosen most (pass most (leaf_hangs t) t) D₁ (closing most passes (pass most (leaf_hangs t) t))) →
      Closed m start chosen most t D (closing most (suc passes) t)
  unfolding closing
  closed_more passes t D st enough rest = go (hanging_edge t) (exceeds most t.header) refl refl
    where
      next : Check.Tables
      next = pass most (leaf_hangs t) t

      passed : Turned m start chosen most t D (leaf_hangs t) (all_records t) next
      passed = pass_turned most room m start shallow chosen leaf t D st (leaf_hangs t) (hanging_may m chosen t)

      enough_left : hanging_edge t ≡ true → exceeds most t.header ≡ false → Enough most passes next
      enough_left h e hangs not_so =
          let (n, l, x) = some_record t h in
          omega (arith, enough h e, (passed.done not_so n l x).1)

      further : hanging_edge t ≡ true → exceeds most t.header ≡ false → Closed m start chosen most t D (closing most passes next)
      further h e =
          let was = passed.later in
          let last = rest was.set was.stage (enough_left h e) in
          record { later = later_then was last.later; beyond = λ x. absurd (both_ways x e); rests = last.rests }

      go : (h e : Bool) → hanging_edge t ≡ h → exceeds most t.header ≡ e → Closed m start chosen most t D (cond (h && not e) (closing most passes next) t)
      go true true h e = record { later = later_itself st; beyond = λ x. x; rests = λ x. absurd (both_ways e x) }
      go true false h e = further h e
      go false e h is = record { later = later_itself st; beyond = λ x. x; rests = λ x. h }

  closed_all : (passes : ℕ) (t : Check.Tables) (D : Cuts start.count) → Stage m start chosen t D → Enough most passes t → Closed m start chosen most t D (closing most passes t)
  unfolding closing
  closed_all zero t D st enough = closed_out t D st enough
  closed_all (suc passes) t D st enough = closed_more passes t D st enough (λ D₁ st₁ enough₁. closed_all passes (pass most (leaf_hangs t) t) D₁ st₁ enough₁)

-- ---- all passes

-- What pass one and the later passes make of the tables m.
pub record Outcome (most : Limits) (m : Check.Tables) (start : Start m) (chosen : ℕ → Bool) (m' : Check.Tables) : Type 0 where
  pub set : Cuts start.count
  pub reached : Reaches start.base (ChosenNode m chosen) start.set set
  pub grown : Grown start.base (link m') set
  -- where the tables do not exceed their limits: all that was chosen is cut, and no leaf hangs
  pub selected : exceeds most m'.header ≡ false → (n : ℕ) → chosen n ≡ true → set.has (node_of (link m) n) ≡ true
  pub rests : exceeds most m'.header ≡ false → NoneHangs start.base set
  -- all cuts have generations below 15
  pub below : CutsBelow last_generation set
  pub four : (n : ℕ) → n < all_records m' → Four (piece_at m' n)
  -- children have their parent's material
  pub down : AllHandDown m'
  -- a vertex that was made stands at half the sum of its parents' places, rounded down
  pub halfway : (v : ℕ) → all_vertices m ≤ v → v < all_vertices m' → (m'.vertex_at v).place ≡ halfway_of (m'.vertex_at (m'.vertex_at v).p).place (m'.vertex_at (m'.vertex_at v).q).place
  -- old records keep their nodes
  pub records : all_records m ≤ all_records m'
  pub nodes : (n : ℕ) → n < all_records m → node_of (link m') n ≡ node_of (link m) n

module _ (most : Limits) (room : most.records < none) (m : Check.Tables) (start : Start m) (four : (n : ℕ) → Four (piece_at m n)) (down : AllHandDown m) (shallow : UpToLast m) (chosen : ℕ → Bool) (leaf : Selectable m chosen) where
  abbrev one : Check.Tables
  one = pass most chosen m

  -- Pass one.
  first_pass : Turned m start chosen most m start.set chosen (all_records m) one
  first_pass =
      pass_turned most room m start shallow chosen leaf m start.set (stage_start m start chosen (λ n l. four n) down) chosen
      (λ n l c. ((leaf n c).1, inl (n, c, refl)))

  -- The later ones.
  later_passes : Closed m start chosen most one first_pass.later.set (refined most chosen m)
  unfolding refined
  later_passes =
      closed_all most room m start shallow chosen leaf most.records one first_pass.later.set first_pass.later.stage
      (λ h e. let (n, l, x) = some_record one h in omega arith)

  -- Where the tables do not exceed their limits after pass one, all that was chosen is cut.
  first_selected : exceeds most one.header ≡ false → (n : ℕ) → chosen n ≡ true → first_pass.later.set.has (node_of (link m) n) ≡ true
  first_selected e n c =
      let l = (leaf n c).0 in
      let was = first_pass.later in
      ap was.set.has (sym (was.nodes n l)) ∙ was.stage.grown.represents.has n (omega (arith, was.records)) (first_pass.done e n l c).0

  -- They did not exceed them if they do not at the end.
  first_within : exceeds most (refined most chosen m).header ≡ false → exceeds most one.header ≡ false
  first_within e = ⊎_elim (λ t. absurd (both_ways (later_passes.beyond t) e)) (λ f. f) (either (exceeds most one.header))

  pub outcome : Outcome most m start chosen (refined most chosen m)
  outcome =
      let first = first_pass.later in
      let last = later_passes.later in
      let st = last.stage in
      record {
        set = last.set;
        reached = st.reached;
        grown = st.grown;
        selected = λ e n c. last.within (node_of (link m) n) (first_selected (first_within e) n c);
        rests = λ e. grown_rests_lem st.grown (none_hangs (refined most chosen m) st.grown.lawful (later_passes.rests e));
        below = stage_below m start shallow chosen leaf st;
        four = st.four;
        down = st.down;
        halfway = st.halfway;
        records = omega (arith, first.records, last.records);
        nodes = λ n l. last.nodes n (omega (arith, first.records)) ∙ first.nodes n l;
      }
