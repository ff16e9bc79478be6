-- Demand 3, put together. Assumes nothing.
use Rattle.std.specs.Prelude.{◌≡◌, Bool, true, false, ◌||◌, ◌≢◌, ◌⊎◌, ◌↔◌, List, ℕ, ◌≤◌, ◌<◌, ltb, length, replicate}
use Rattle.std.proofs.Math.Path.{sym}
use Rattle.std.proofs.Common.{ap, subst, ◌∙◌, inl, inr, ⊎_elim, arith, ltb-true, ne_eqb}
use Rattle.laws.specs.Below.{either}
use Rattle.stored.specs.declared.Limits.{Limits}
use Rattle.stored.specs.Layout.{mesh_bytes, Stored, header_of, stored_as, StoredSelection, selection_of}
use Rattle.mesh_tables.specs.Tables as Check
use Rattle.mesh_tables.specs.Tables.{tables_of, all_vertices, all_records}
use Rattle.check_refusals.specs.Check.{check_number, check_of}
use Rattle.check_refusals.specs.Rows.{report_number}
use Rattle.check_meaning.proofs.Exactly.{accepts_exactly}
use Rattle.refine_pass.specs.Passes.{exceeds}
use Rattle.refine_service.specs.Refine.{closed, result_of, refine_number, refine_bytes}
use Rattle.refine_selection.specs.Selected.{another_job, another_round}
use Rattle.refine_meaning.specs.Answer.{refused_bytes, another_job_refused, another_round_refused}
use Rattle.cuts_names.specs.Pieces.{Node}
use Rattle.cuts.specs.Sets.{Cuts}
use Rattle.cuts.specs.Count.{LeafList}
use Rattle.demands_words.specs.Words.{BaseMesh, Fits, full_size, StoredMesh, sixfold_at, sum_of, RightSelectionLength, RightSelectionMark, SelectedPiece, Closes, GoodFor}
use Rattle.demands_proofs.specs.SetOf.{grown_cuts, grown_not_fits}
use Rattle.demands_proofs.specs.Selections.{length_passes, mark_passes, rule13_holds, rule14_holds}
use Rattle.demands_proofs.specs.RefineNumbers.{good_exactly, good_number, good_19_exceeds, refine_accepts_all, used_gets_14}
use Rattle.demands_proofs.specs.StoredFigures.{stored_volume}
use Rattle.demands_proofs.specs.FromStored as From
use Rattle.demands_proofs.specs.Outcomes.{closed_as_long, refined_within_lem}
use Rattle.demands_proofs.specs.Inside.{after, set, set_inside, set_closes}
use Rattle.demands_proofs.specs.Result.{is_closed, base_vertices_lem, result_right, result_mesh}
use Rattle.cuts.specs.LinkSets.{cut_nodes}
use Rattle.demands_proofs.specs.Link.{link}

-- One of the two tables is beyond its limit.
beyond : (most : Limits) (m : Check.Tables) → exceeds most m.header ≡ true → (most.vertices < all_vertices m) ⊎ (most.records < all_records m)
unfolding exceeds
beyond most m e =
    ⊎_elim
    (λ t. inl (ltb-true most.vertices (all_vertices m) t))
    (λ f. inr (ltb-true most.records (all_records m) (sym (ap (λ (c : Bool). c || ltb most.records (all_records m)) f) ∙ e)))
    (either (ltb most.vertices (all_vertices m)))

-- ---- of every kind

module _ (s : Stored) (x : StoredMesh s) (selection : StoredSelection) (good : GoodFor x selection) where
  abbrev pub most : Limits
  most = s.kind.limits

  abbrev pub b : BaseMesh
  b = x.base

  abbrev pub selected : Node → Type 0
  selected = SelectedPiece x.stores.numbers selection

  abbrev pub t : Check.Tables
  t = after s x selection good

  abbrev pub D : Cuts b.pieces
  D = set s x selection good

  accepted : check_number s ≡ 0
  accepted = (accepts_exactly s).1 (From.accepted s x)

  pub few_of_closed : exceeds most (closed s selection).header ≡ exceeds most t.header
  few_of_closed = ap (λ (m : Check.Tables). exceeds most m.header) (is_closed s x selection good)

  -- Where the tables exceed their limits, nothing that closes fits.
  none_fits : exceeds most t.header ≡ true → (X : Cuts b.pieces) → Closes b x.cuts selected X → Fits most b X → ⊥
  none_fits e X closes = grown_not_fits t b D (From.made s x selection good).grown (base_vertices_lem s x selection good) most (beyond most t e) X (set_inside s x selection good X closes)

  pub closes : exceeds most t.header ≡ false → Closes b x.cuts selected D
  closes few = set_closes s x selection good few (cut_nodes (link t)) (grown_cuts t b D (From.made s x selection good).grown)

  -- They exceed them exactly when none fits.
  pub exceeds_exactly : (exceeds most t.header ≡ true) ↔ ((X : Cuts b.pieces) → Closes b x.cuts selected X → Fits most b X → ⊥)
  exceeds_exactly = (
    none_fits,
    λ none. ⊎_elim (λ e. e) (λ few. absurd (none D (closes few) (result_right s x selection good few).fits)) (either (exceeds most t.header)),
  )

  -- The mesh that is written, of the kind that was read.
  abbrev pub result : Stored
  result = stored_as s.kind s.right (result_of t)

  pub result_volume : exceeds most t.header ≡ false → (before after : List Node) → LeafList x.cuts before → LeafList D after → sum_of (sixfold_at b) after ≡ sum_of (sixfold_at b) before
  unfolding result_mesh
  result_volume few before after p q = stored_volume result (result_mesh s x selection good few) after q ∙ sym (stored_volume s x before p)

  -- ---- in one buffer of so many bytes

  module _ (room : ℕ) where
    -- 19 exactly when the tables exceed their limits.
    is_19 : (refine_number s selection room ≡ 19) ↔ (exceeds most t.header ≡ true)
    is_19 = subst (λ (m : Check.Tables). (refine_number s selection room ≡ 19) ↔ (exceeds most m.header ≡ true)) (is_closed s x selection good) (good_19_exceeds s selection accepted (From.earns_none s x selection good) room)

    -- What is accepted does not exceed them.
    pub accepted_few : refine_number s selection room ≡ 0 → exceeds most t.header ≡ false
    accepted_few e = ⊎_elim (λ over. absurd (omega (arith, e, is_19.1 over))) (λ few. few) (either (exceeds most t.header))

    pub full_exactly : (refine_number s selection room ≡ 19) ↔ ((X : Cuts b.pieces) → Closes b x.cuts selected X → Fits most b X → ⊥)
    full_exactly = (λ e. exceeds_exactly.0 (is_19.0 e), λ none. is_19.1 (exceeds_exactly.1 none))

    pub zero_or_full : full_size s.kind ≤ room → (refine_number s selection room ≡ 0) ⊎ (refine_number s selection room ≡ 19)
    zero_or_full = good_number s selection accepted (From.earns_none s x selection good) room

    pub full_clear : refine_number s selection room ≡ 19 → refine_bytes s selection room ≡ replicate room 0
    full_clear e = refused_bytes s selection room (ne_eqb (refine_number s selection room) 0 (λ z. omega (arith, z, e)))

-- What is accepted has a good selection, whatever the buffer's length.
pub accepted_good : (s : Stored) (x : StoredMesh s) (selection : StoredSelection) (room : ℕ) → refine_number s selection room ≡ 0 → GoodFor x selection
accepted_good s x selection room e = From.good_selection s x selection ((refine_accepts_all s selection room).0 e).good

-- From a stored mesh and a good selection refine accepts exactly where the closed result is within the limits and the buffer.
pub good_accepted : (s : Stored) (x : StoredMesh s) (selection : StoredSelection) → GoodFor x selection → (room : ℕ) →
    (refine_number s selection room ≡ 0)
    ↔ (((closed s selection).header.vertices ≤ s.kind.limits.vertices) × ((closed s selection).header.records ≤ s.kind.limits.records) × (length (mesh_bytes s.kind.format (result_of (closed s selection))) ≤ room))
good_accepted s x selection good room = (
  λ e. let a = (refine_accepts_all s selection room).0 e in (a.within.vertices, a.within.records, refined_within_lem s selection room e),
  λ (vertices, records, long).
      (refine_accepts_all s selection room).1
      (record {
        accepted = From.accepted s x;
        good = From.earns_none s x selection good;
        within = record { vertices = vertices; records = records };
        long = subst (λ (n : ℕ). n ≤ room) (closed_as_long s selection) long;
      }),
)

-- ---- what follows

-- A good selection is one whose number is none of 11 to 18, whatever the buffer.
pub earned : (s : Stored) (x : StoredMesh s) (selection : StoredSelection) →
    GoodFor x selection ↔ ((room : ℕ) → 11 ≤ refine_number s selection room → refine_number s selection room ≤ 18 → ⊥)
earned s x selection =
    let both = good_exactly s selection ((accepts_exactly s).1 (From.accepted s x)) in
    (λ good. both.0 (From.earns_none s x selection good), λ none. From.good_selection s x selection (both.1 none))

-- "another job", "another round": a whole selection of another job gets 13, whatever else it says, and one of this job and another round 14.
module _ (s : Stored) (x : StoredMesh s) (selection : StoredSelection) (room : ℕ) (whole : RightSelectionLength selection) (marked : RightSelectionMark selection) where
  pub gets_13 : (selection_of selection).job ≢ x.job → refine_number s selection room ≡ 13
  unfolding tables_of
  gets_13 other =
      another_job_refused s selection room ((accepts_exactly s).1 (From.accepted s x)) ((length_passes selection).1 whole) ((mark_passes selection).1 marked)
      (⊎_elim (λ t. t) (λ f. absurd (other ((rule13_holds (tables_of s) selection).0 f ∙ From.stored_job s x))) (either (another_job (header_of s) (selection_of selection))))

  pub gets_14 : (selection_of selection).job ≡ x.job → (selection_of selection).round ≢ x.round → refine_number s selection room ≡ 14
  unfolding tables_of
  gets_14 same other =
      another_round_refused s selection room ((accepts_exactly s).1 (From.accepted s x)) ((length_passes selection).1 whole) ((mark_passes selection).1 marked)
      ((rule13_holds (tables_of s) selection).1 (same ∙ sym (From.stored_job s x)))
      (⊎_elim (λ t. t) (λ f. absurd (other ((rule14_holds (tables_of s) selection).0 f ∙ From.stored_round s x))) (either (another_round (header_of s) (selection_of selection))))

-- A selection that was used gets 14 from every later round.
pub used_refused : (s : Stored) (selection : StoredSelection) (room : ℕ) → refine_number s selection room ≡ 0 → (later : Stored) → (check_of later).number ≡ 0 → (header_of later).job ≡ (header_of s).job → (header_of s).round < (header_of later).round →
    (room' : ℕ) → refine_number later selection room' ≡ 14
unfolding tables_of
used_refused s selection room e later accepted job above room' =
    let same = ((refine_accepts_all s selection room).0 e).good.round in
    used_gets_14 s selection room e later (sym (report_number later) ∙ accepted) job (omega (arith, same, above)) room'
