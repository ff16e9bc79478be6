-- From a stored set and a good selection to what the passes make of it. Assumes nothing.
use Rattle.std.specs.Prelude.{◌≡◌, refl, Bool, true, false, not, ◌≢◌, ℕ, ◌≤◌, ◌<◌, length}
use Rattle.std.proofs.Common.{sym, ap, subst, ◌∙◌, arith}
use Rattle.std.proofs.Math.Dec.{eqb}
use borrow.Author.Tests.{eqb-true, eq-eqb}
use Rattle.piece.specs.Shape.{last_generation}
use Rattle.laws.specs.Below.{any_where, any_is}
use Rattle.stored.specs.declared.Header.{Header}
use Rattle.stored.specs.declared.Record.{Record}
use Rattle.stored.specs.Layout.{none, Stored, StoredSelection, named_in}
use Rattle.stored.specs.Fitting.{stored_none_small}
use Rattle.mesh_tables.specs.Tables as Check
use Rattle.mesh_tables.specs.Tables.{tables_of, all_records, piece_at, is_cut}
use Rattle.check_meaning.specs.Accepted.{Accepted}
use Rattle.check_meaning.specs.Cuts.{stored_four}
use Rattle.refine_selection.specs.Selected.{is_named}
use Rattle.refine_pass.specs.Passes.{refined}
use Rattle.cuts_names.specs.Lists.{not_so}
use Rattle.cuts_names.specs.Pieces.{Node, generation}
use Rattle.cuts.specs.Tables.{Lawful, node_of}
use Rattle.cuts.specs.LinkGrown.{Grown}
use Rattle.demands_words.specs.Words.{named, Numbering, header_for, StoredMesh, GoodSelection, SelectedPiece, count_in}
use Rattle.demands_proofs.specs.Selections.{EarnsNone}
use Rattle.demands_proofs.specs.Link.{link}
use Rattle.demands_proofs.specs.Lawful.{accepted_lawful}
use Rattle.demands_proofs.specs.Holds.{Holds}
use Rattle.demands_proofs.specs.HoldsGrown.{node_is, grown}
use Rattle.demands_proofs.specs.MarkedBase.{properly_marked}
use Rattle.demands_proofs.specs.Counts.{records_within}
use Rattle.demands_proofs.specs.Read.{written_holds, header_read}
use Rattle.demands_proofs.specs.AcceptedOf.{accepted_of_stored}
use Rattle.demands_proofs.specs.Materials.{right_hands_down}
use Rattle.demands_proofs.specs.PassStages as Stages
use Rattle.demands_proofs.specs.PassStages.{Start, UpToLast, Selectable}
use Rattle.demands_proofs.specs.Closing.{Outcome, outcome}

module _ (s : Stored) (x : StoredMesh s) where
  abbrev pub m : Check.Tables
  m = tables_of s

  abbrev pub N : Numbering
  N = x.stores.numbers

  pub accepted : Accepted s
  accepted = accepted_of_stored s x

  -- The bytes' tables hold the numbered set.
  pub holds : Holds m x.base N
  holds =
      let y = x.stores in
      subst (λ (t : Stored). Holds (tables_of t) x.base N) (sym y.bytes)
      (written_holds s.kind s.right x.job x.round x.base x.cuts x.right N y.vertices_numbered y.records_numbered y.job_fits y.round_fits y.materials)

  -- Their header has the job and the round.
  heading : m.header ≡ header_for x.job x.round x.base N
  heading =
      let y = x.stores in
      ap (λ (t : Stored). (tables_of t).header) y.bytes
      ∙ header_read s.kind s.right x.job x.round x.base x.cuts x.right N y.vertices_numbered y.records_numbered y.job_fits y.round_fits

  pub stored_job : m.header.job ≡ x.job
  stored_job = ap (λ (h : Header). h.job) heading

  pub stored_round : m.header.round ≡ x.round
  stored_round = ap (λ (h : Header). h.round) heading

  pub lawful : Lawful (link m)
  lawful = accepted_lawful m accepted.mesh (stored_four s)

  pub few : N.records ≤ none
  few = omega (arith, records_within s.kind.limits x.base x.cuts x.right.fits N x.stores.records_numbered, s.right.records, stored_none_small s.kind.format)

  pub marks_four : (r : ℕ) → r < x.base.pieces → length (x.base.shape_at r).marks ≡ 4
  marks_four r h = (x.right.marked.pieces r h).marked.four

  pub stored_grown : Grown (named x.base) (link m) x.cuts
  stored_grown = grown m x.base x.cuts N holds x.stores.vertices_numbered x.stores.records_numbered marks_four few lawful

  pub stored_node : (r : ℕ) → r < N.records → node_of (link m) r ≡ N.node_at r
  stored_node = node_is m x.base x.cuts N holds x.stores.vertices_numbered x.stores.records_numbered marks_four few lawful

  -- What the passes start from.
  abbrev pub start : Start m
  start = record { count = x.base.pieces; base = named x.base; set = x.cuts; marked = properly_marked x.base x.right.marked; grown = stored_grown }

  pub up_to_last : UpToLast m
  up_to_last = accepted.mesh.cuts.generations

  module _ (selection : StoredSelection) (good : GoodSelection x.job x.round x.base x.cuts N selection) where
    abbrev pub chosen : ℕ → Bool
    chosen = is_named (count_in selection) (named_in selection)

    which : (n : ℕ) → chosen n ≡ true → (i : ℕ) × (i < count_in selection) × (named_in selection i ≡ n)
    unfolding is_named
    which n e = let (i, l, q) = any_where (λ i. eqb (named_in selection i) n) (count_in selection) e in (i, l, eqb-true (named_in selection i) n q)

    named_chosen : (i : ℕ) → i < count_in selection → chosen (named_in selection i) ≡ true
    unfolding is_named
    named_chosen i l = any_is (λ j. eqb (named_in selection j) (named_in selection i)) (count_in selection) i l (eq-eqb (named_in selection i) (named_in selection i) refl)

    named_leaf : (i : ℕ) → i < count_in selection → (named_in selection i < all_records m) × (is_cut m (named_in selection i) ≡ false) × ((piece_at m (named_in selection i)).generation < last_generation)
    named_leaf i l =
        let n = named_in selection i in
        let there = good.there i l in
        let is = holds.record_at n there in
        let first : (m.record_at n).first_child ≡ none = ap (λ (r : Record). r.first_child) is ∙ x.stores.records_numbered.uncut n there (good.uncut i l) in
        let own : (piece_at m n).generation ≡ generation (N.node_at n) = ap (λ (r : Record). r.piece.generation) is in
        let deep = x.right.shallow (N.node_at n) (x.stores.records_numbered.there n there) in
        let apart : generation (N.node_at n) ≢ last_generation = good.not_last i l in
        let young : generation (N.node_at n) < last_generation = omega arith in
        (omega (arith, there, holds.records), ap (λ (f : ℕ). not (eqb f none)) first, omega arith)

    pub selectable : Selectable m chosen
    selectable n e =
        let (i, l, q) = which n e in
        subst (λ (k : ℕ). (k < all_records m) × (is_cut m k ≡ false) × ((piece_at m k).generation < last_generation)) q (named_leaf i l)

    -- The nodes of the chosen records are the selected pieces.
    pub chosen_selected : (n : Node) → Stages.ChosenNode m chosen n → SelectedPiece N selection n
    chosen_selected n (k, c, q) =
        let (i, l, e) = which k c in
        let there : k < N.records = subst (λ (j : ℕ). j < N.records) e (good.there i l) in
        (i, l, ap N.node_at e ∙ sym (stored_node k there) ∙ q)

    pub selected_chosen : (n : Node) → SelectedPiece N selection n → Stages.ChosenNode m chosen n
    selected_chosen n (i, l, q) = (named_in selection i, named_chosen i l, stored_node (named_in selection i) (good.there i l) ∙ q)

    -- What the passes make of it.
    pub made : Outcome s.kind.limits m start chosen (refined s.kind.limits chosen m)
    made = outcome s.kind.limits (omega (arith, s.right.records, stored_none_small s.kind.format)) m start (stored_four s) (right_hands_down m accepted.mesh) up_to_last chosen selectable

    -- The selection earns none of 11 to 18 from the mesh.
    pub earns_none : EarnsNone m selection
    earns_none =
        record {
          length = good.length;
          mark = good.mark;
          job = good.same_job ∙ sym stored_job;
          round = good.same_round ∙ sym stored_round;
          numbers = record { rising = good.rising; there = λ i l. (named_leaf i l).0 };
          leaves = λ i l. ap (λ (r : Record). r.first_child) (holds.record_at (named_in selection i) (good.there i l)) ∙ x.stores.records_numbered.uncut (named_in selection i) (good.there i l) (good.uncut i l);
          not_last = λ i l. let young = (named_leaf i l).2 in λ e. omega (arith, young, e);
          round_rises = λ e. good.not_last_round (sym stored_round ∙ e);
        }

  -- And back: a selection that earns none of 11 to 18 is a good one.
  pub good_selection : (selection : StoredSelection) → EarnsNone m selection → GoodSelection x.job x.round x.base x.cuts N selection
  good_selection selection e =
      record {
        length = e.length;
        mark = e.mark;
        same_job = e.job ∙ stored_job;
        same_round = e.round ∙ stored_round;
        rising = e.numbers.rising;
        there = there;
        uncut = λ i l. not_so (x.cuts.has (N.node_at (named_in selection i))) (λ c.
            let first = x.stores.records_numbered.cut (named_in selection i) (there i l) c in
            let is : N.first_at (named_in selection i) ≡ none = sym (ap (λ (r : Record). r.first_child) (holds.record_at (named_in selection i) (there i l))) ∙ e.leaves i l in
            omega (arith, is, first.there, few));
        not_last = λ i l q. e.not_last i l (ap (λ (r : Record). r.piece.generation) (holds.record_at (named_in selection i) (there i l)) ∙ q);
        not_last_round = λ q. e.round_rises (stored_round ∙ q);
      }
    where
      there : (i : ℕ) → i < count_in selection → named_in selection i < N.records
      there i l = omega (arith, e.numbers.there i l, holds.records)
