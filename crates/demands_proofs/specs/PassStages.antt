-- The tables turn by turn, through one pass: what they represent is reached by cutting selected and hanging leaves, and where they do not exceed their
-- limits all that was chosen when the pass began is cut. Assumes nothing.
use Rattle.std.specs.Prelude.{◌≡◌, Bool, cond, ◌&&◌, ◌⊎◌, ◌≢◌}
use Rattle.std.proofs.Math.Path.{refl}
use Rattle.std.proofs.Common.{sym, ap, ◌∙◌, subst, subst₂, inl, inr, ⊎_elim, le_refl, arith}
use Rattle.std.proofs.Math.Bool.{true, false, not}
use Prim.Native.Nat.{ℕ, zero, suc, ◌≤◌, ◌<◌}
use Rattle.piece.specs.Shape.{last_generation}
use Rattle.laws.specs.Pairs.{SamePair}
use Rattle.piece_edges.specs.Edges.{low_slot, high_slot}
use Rattle.piece.specs.Ends.{corner_at}
use Rattle.cuts_names.specs.Lists.{both_ways}
use Rattle.stored.specs.declared.Limits.{Limits}
use Rattle.stored.specs.declared.Vertex.{Vertex}
use Rattle.stored.specs.declared.Record.{Record}
use Rattle.stored.specs.Layout.{none}
use Rattle.mesh_tables.specs.Tables as Check
use Rattle.mesh_tables.specs.Tables.{base_vertices, all_vertices, all_records, piece_at, is_cut}
use Rattle.check_meaning.specs.Cuts.{Four}
use Rattle.refine_cut.specs.Cut.{cut_at}
use Rattle.refine_pass.specs.Passes.{exceeds, turn, pass_below, pass}
use Rattle.refine_pass.specs.Law.{within, Kept, cut_record_count, cut_vertex_count}
use Rattle.refine_pass.proofs.Law.{turns_kept}
use Rattle.cuts_names.specs.Pieces.{Piece, Node, generation}
use Rattle.cuts.specs.Sets.{Cuts, CutsWithin}
use Rattle.cuts.specs.Depth.{CutsBelow, there_below}
use Rattle.cuts.specs.Least.{OneMore, more_keeps, Reaches, stop, reached_below}
use Rattle.cuts.specs.Tables.{HangsIn, node_of, Appended}
use Rattle.cuts.specs.LinkNames.{base_or_beyond, marked}
use Rattle.cuts.specs.LinkNodes.{linked}
use Rattle.cuts.specs.LinkSets.{node_there}
use Rattle.cuts.specs.LinkAppend.{nodes_stay, append_adds_lem}
use Rattle.cuts.specs.LinkGrown.{Grown, grown_reaches}
use Rattle.cuts_names.specs.Names.{Name}
use Rattle.cuts_names.specs.Base.{Marked}
use Rattle.demands_proofs.specs.Link.{link}
use Rattle.demands_proofs.specs.CutAppends.{Halfway, cut_vertex, bases_stay, cut_after, cut_appends, cut_all_four, halfway_stays, halfway_made}
use Rattle.demands_proofs.specs.Materials.{AllHandDown, cut_hands_down}

-- The nodes of the chosen records.
abbrev pub ChosenNode : Check.Tables → (ℕ → Bool) → Node → Type 0
ChosenNode m chosen x = (n : ℕ) × (chosen n ≡ true) × (node_of (link m) n ≡ x)

-- "Generations go up to 15", and what may be chosen: leaves of a generation below 15.
abbrev pub UpToLast : Check.Tables → Type 0
UpToLast m = (n : ℕ) → n < all_records m → (piece_at m n).generation ≤ last_generation

abbrev pub Selectable : Check.Tables → (ℕ → Bool) → Type 0
Selectable m chosen = (n : ℕ) → chosen n ≡ true → (n < all_records m) × (is_cut m n ≡ false) × ((piece_at m n).generation < last_generation)

-- Why record n may be cut: it is a selected one, or one of its edges hangs.
abbrev pub Ground : Check.Tables → (ℕ → Bool) → Check.Tables → ℕ → Type 0
Ground m chosen t n = ChosenNode m chosen (node_of (link t) n) ⊎ ((e : ℕ) × HangsIn (link t) n e)

-- ---- a stage

-- What the passes start from: a marked base, and a set of cuts of it that the tables m represent.
pub record Start (m : Check.Tables) : Type 0 where
  pub count : ℕ
  pub base : ℕ → Piece Name
  pub set : Cuts count
  pub marked : Marked count base
  pub grown : Grown base (link m) set

-- The tables t were grown from m by cutting selected and hanging leaves, and represent D.
pub record Stage (m : Check.Tables) (start : Start m) (chosen : ℕ → Bool) (t : Check.Tables) (D : Cuts start.count) : Type 0 where
  pub reached : Reaches start.base (ChosenNode m chosen) start.set D
  pub grown : Grown start.base (link t) D
  pub base_vertices_lem : base_vertices t ≡ base_vertices m
  pub vertices : all_vertices m ≤ all_vertices t
  pub four : (n : ℕ) → n < all_records t → Four (piece_at t n)
  -- children have their parent's material
  pub down : AllHandDown t
  -- a vertex that was made stands halfway between its parents
  pub halfway : (v : ℕ) → all_vertices m ≤ v → v < all_vertices t → Halfway t v

-- The tables m themselves.
pub stage_start : (m : Check.Tables) (start : Start m) (chosen : ℕ → Bool) → ((n : ℕ) → n < all_records m → Four (piece_at m n)) → AllHandDown m → Stage m start chosen m start.set
stage_start m start chosen four down =
    record {
      reached = stop;
      grown = start.grown;
      base_vertices_lem = refl;
      vertices = le_refl (all_vertices m);
      four = four;
      down = down;
      halfway = λ v b l. absurd (omega arith);
    }

module _ (m : Check.Tables) (start : Start m) (shallow : UpToLast m) where
  -- A cut of the set that was given has a child, so its generation is below 15.
  cuts_shallow : CutsBelow last_generation start.set
  cuts_shallow x e =
      let (r, l, c, q) = start.grown.represents.only x e in
      let cut = start.grown.lawful.properly_cut r l c in
      let own : (piece_at m r).generation ≡ generation (node_of (link m) r) = (linked (link m) start.grown.lawful r l).generation in
      let young : generation (node_of (link m) r) < last_generation = omega (arith, cut.first_child.generation, shallow (m.record_at r).first_child (omega (arith, cut.inside))) in
      subst (λ (y : Node). generation y < last_generation) q young

  module _ (chosen : ℕ → Bool) (leaf : Selectable m chosen) where
    selected_shallow : (x : Node) → ChosenNode m chosen x → generation x < last_generation
    selected_shallow x (n, c, q) =
        let (l, u, young) = leaf n c in
        let own : (piece_at m n).generation ≡ generation (node_of (link m) n) = (linked (link m) start.grown.lawful n l).generation in
        let small : generation (node_of (link m) n) < last_generation = omega arith in
        subst (λ (y : Node). generation y < last_generation) q small

    module _ {t : Check.Tables} {D : Cuts start.count} (st : Stage m start chosen t D) where
      -- So the cuts of every stage have generations below 15, and its records of at most 15.
      pub stage_below : CutsBelow last_generation D
      stage_below = reached_below start.base (ChosenNode m chosen) st.reached start.marked 5 cuts_shallow selected_shallow

      pub stage_young : (n : ℕ) → n < all_records t → (piece_at t n).generation ≤ last_generation
      stage_young n l =
          let g = st.grown in
          omega (arith, (linked (link t) g.lawful n l).generation, there_below last_generation D stage_below (node_of (link t) n) (node_there (link t) g.lawful D g.represents n l))

-- ---- one cut

-- A stage after another: t', which represents a set with all cuts of D. Its old records have their nodes.
pub record Later (m : Check.Tables) (start : Start m) (chosen : ℕ → Bool) (t : Check.Tables) (D : Cuts start.count) (t' : Check.Tables) : Type 0 where
  pub set : Cuts start.count
  pub stage : Stage m start chosen t' set
  pub within : CutsWithin D set
  pub records : all_records t ≤ all_records t'
  pub nodes : (n : ℕ) → n < all_records t → node_of (link t') n ≡ node_of (link t) n

pub later_itself : {m : Check.Tables} {start : Start m} {chosen : ℕ → Bool} {t : Check.Tables} {D : Cuts start.count} → Stage m start chosen t D → Later m start chosen t D t
later_itself {t = t} {D = D} st = record { set = D; stage = st; within = λ x e. e; records = le_refl (all_records t); nodes = λ n l. refl }

pub later_then : {m : Check.Tables} {start : Start m} {chosen : ℕ → Bool} {s t u : Check.Tables} {D : Cuts start.count} → (a : Later m start chosen s D t) → Later m start chosen t a.set u → Later m start chosen s D u
later_then a b =
    record {
      set = b.set;
      stage = b.stage;
      within = λ x h. b.within x (a.within x h);
      records = omega (arith, a.records, b.records);
      nodes = λ n l. b.nodes n (omega (arith, a.records)) ∙ a.nodes n l;
    }

module _ (m : Check.Tables) (start : Start m) (shallow : UpToLast m) (chosen : ℕ → Bool) (leaf : Selectable m chosen) where
  -- A selected or a hanging leaf is cut.
  pub stage_cut : {t : Check.Tables} {D : Cuts start.count} → Stage m start chosen t D → (n : ℕ) → n < all_records t → is_cut t n ≡ false → Ground m chosen t n → all_records t < none → Later m start chosen t D (cut_at t n)
  stage_cut {t} {D} st n l u why few =
      let g = st.grown in
      let four = st.four n l in
      let young = stage_young m start shallow chosen leaf st n l in
      let a : Appended (link t) n (cut_vertex t n) (link (cut_at t n)) = cut_appends t n l four (omega arith) few in
      let (E, reached, grown) = grown_reaches g l u a st.reached why in
      let more : OneMore D (node_of (link t) n) E = append_adds_lem g.lawful l u a D E g.represents grown.represents in
      record {
        set = E;
        stage = record {
          reached = reached;
          grown = grown;
          base_vertices_lem = (bases_stay t n).0 ∙ st.base_vertices_lem;
          vertices = omega (arith, st.vertices, cut_vertex_count t n);
          four = cut_all_four t n l st.four;
          down = cut_hands_down t g.lawful n l st.down;
          halfway = λ v b c.
              ⊎_elim
              (λ o. halfway_stays t g.lawful n v (omega (arith, st.base_vertices_lem, start.grown.lawful.vertex_counts)) o (st.halfway v b o))
              (λ o. halfway_made t g.lawful n l v o c)
              (base_or_beyond v (all_vertices t));
        };
        within = more_keeps D (node_of (link t) n) E more;
        records = omega (arith, cut_record_count t n);
        nodes = nodes_stay g.lawful l u a;
      }

-- ---- the turns of a pass

-- After the first n turns of a pass that began with s: where the tables do not exceed their limits, every record that was chosen is cut, and if there was one
-- there are more records.
pub record Turned (m : Check.Tables) (start : Start m) (chosen : ℕ → Bool) (most : Limits) (s : Check.Tables) (D : Cuts start.count) (choice : ℕ → Bool) (n : ℕ) (t : Check.Tables) : Type 0 where
  pub later : Later m start chosen s D t
  pub done : exceeds most t.header ≡ false → (k : ℕ) → k < n → choice k ≡ true → (is_cut t k ≡ true) × (all_records s < all_records t)

-- A pass may choose leaves that are selected or hang.
abbrev pub May : Check.Tables → (ℕ → Bool) → Check.Tables → (ℕ → Bool) → Type 0
May m chosen s choice = (n : ℕ) → n < all_records s → choice n ≡ true → (is_cut s n ≡ false) × Ground m chosen s n

-- What hung when the pass began still hangs when its turn comes.
hangs_still : (s t : Check.Tables) (n e : ℕ) → n < all_records s → base_vertices t ≡ base_vertices s → Kept n s t → HangsIn (link s) n e → HangsIn (link t) n e
hangs_still s t n e l b k h =
    let v = k.vertex_at h.vertex h.made.1 in
    let r = k.record_at n (le_refl n) l in
    record {
      edge = h.edge;
      vertex = h.vertex;
      made = (omega (arith, h.made.0), omega (arith, h.made.1, k.vertices));
      ends = subst₂ (λ (x : Vertex) (y : Record). SamePair x.p x.q (corner_at y.piece (low_slot e)) (corner_at y.piece (high_slot e))) (sym v) (sym r) h.ends;
    }

module _ (most : Limits) (room : most.records < none) (m : Check.Tables) (start : Start m) (shallow : UpToLast m) (chosen : ℕ → Bool) (leaf : Selectable m chosen)
    (s : Check.Tables) (D : Cuts start.count) (st : Stage m start chosen s D) (choice : ℕ → Bool) (may : May m chosen s choice) where
  -- A turn that cuts.
  turn_cuts : (n : ℕ) → n < all_records s → (t : Check.Tables) → Kept n s t → Turned m start chosen most s D choice n t → exceeds most t.header ≡ false → choice n ≡ true →
      Turned m start chosen most s D choice (suc n) (cut_at t n)
  turn_cuts n l t kept before e c =
      let was = before.later in
      let there : n < all_records t = omega (arith, kept.records) in
      let few : all_records t < none = omega (arith, (within most t.header e).1) in
      let (u, why) = may n l c in
      let uncut : is_cut t n ≡ false = ap (λ (r : Record). not (Check.uncut r)) (kept.record_at n (le_refl n) l) ∙ u in
      let same : base_vertices t ≡ base_vertices s = was.stage.base_vertices_lem ∙ sym st.base_vertices_lem in
      let still : Ground m chosen t n =
      ⊎_elim (λ (k, ck, q). inl (k, ck, q ∙ sym (was.nodes n l))) (λ (i, h). inr (i, hangs_still s t n i l same kept h)) why in
      record {
        later = later_then was (stage_cut m start shallow chosen leaf was.stage n there uncut still few);
        done = λ beyond k b ck. (cut_after t n there few k (omega arith) (λ ne. (before.done e k (omega arith) ck).0), omega (arith, kept.records, cut_record_count t n));
      }

  turn_next : (n : ℕ) → n < all_records s → (t : Check.Tables) → Kept n s t → Turned m start chosen most s D choice n t → Turned m start chosen most s D choice (suc n) (turn most choice n t)
  unfolding turn
  turn_next n l t kept before = go (choice n) (exceeds most t.header) refl refl
    where
      go : (c e : Bool) → choice n ≡ c → exceeds most t.header ≡ e → Turned m start chosen most s D choice (suc n) (cond (c && not e) (cut_at t n) t)
      go true true c e = record { later = before.later; done = λ not_so k b ck. absurd (both_ways e not_so) }
      go true false c e = turn_cuts n l t kept before e c
      go false e c is =
          record {
            later = before.later;
            done = λ not_so k b ck. let ne : k ≢ n = λ q. both_ways ck (ap choice q ∙ c) in before.done not_so k (omega arith) ck;
          }

  turned : (n : ℕ) → n ≤ all_records s → Turned m start chosen most s D choice n (pass_below most choice n s)
  unfolding pass_below
  turned zero l = record { later = later_itself st; done = λ e k b c. absurd (omega arith) }
  turned (suc n) l = turn_next n l (pass_below most choice n s) (turns_kept most choice n s) (turned n (omega arith))

  -- A pass.
  pub pass_turned : Turned m start chosen most s D choice (all_records s) (pass most choice s)
  unfolding pass
  pass_turned = turned (all_records s) (le_refl (all_records s))
