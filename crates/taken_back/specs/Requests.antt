-- What refusals 11 to 15, 30 and 18 leave of a request: of each row what holds where it is not given, as plain statements about the request's bytes and the
-- mesh's tables; and that of a stored mesh this is `GoodRequest`. 11 to 15 and 18 are refine's own (`demands_proofs/specs/Selections`). Assumes nothing.
use Rattle.std.specs.Prelude.{◌≡◌, ◌↔◌, ◌≢◌, ◌⊎◌, List, [], ◌∷◌, ◌++◌, ℕ, ◌≤◌, ◌<◌, eqb}
use Rattle.std.proofs.Math.Path.{refl}
use Rattle.std.proofs.Common.{sym, ◌∙◌, arith}
use Rattle.std.proofs.Math.Bool.{not}
use Rattle.std.proofs.Math.Logic.{inl, inr, ⊎_elim}
use borrow.Author.Tests.{eqb-true, eqb-false, not-true}
use Rattle.laws.specs.Below.{either}
use Rattle.laws.specs.Order.{Rule, rule, Giving, Judged, judge, done, judged_then, given_passes, one_of_them}
use Rattle.laws.proofs.Order.{given_exactly, accepted_exactly}
use Rattle.stored.specs.declared.Kind.{Kind}
use Rattle.stored.specs.Layout.{none, Stored, StoredSelection, selection_of, named_in}
use Rattle.mesh_tables.specs.Tables.{Tables, tables_of}
use Rattle.check_refusals.specs.Check.{rows, table_rows, check_number}
use Rattle.check_meaning.specs.Tests.{Fails, reads, equal, fails_unless, none_passes}
use Rattle.check_meaning.specs.Accepted.{first_child, Accepted}
use Rattle.check_meaning.specs.Exactly.{check_rules}
use Rattle.check_meaning.proofs.Exactly.{check_judged, accepts_exactly}
use Rattle.refine_selection.specs.Selected.{selection_rows, round_row}
use Rattle.takeback_service.specs.TakeBack.{left, names_uncut, request_rows, take_back_number}
use Rattle.takeback_service.specs.Order.{request_number, room_number, take_back_none, request_refused, later}
use Rattle.demands_words.specs.Words.{Numbering, StoredMesh, count_in, RightSelectionLength, RightSelectionMark}
use Rattle.demands_proofs.specs.Selections.{SameJob, SameRound, RightNumbers, RoundRises, selection_rules, selection_judged, rule18_holds}
use Rattle.demands_proofs.specs.RefineNumbers.{result_length, rule20_holds}
use Rattle.demands_proofs.specs.FromStored as From
use Rattle.demands_taken_back.specs.Words.{GoodRequestFor}
use Rattle.demands_taken_back.specs.ByTables.{first_is}

-- ---- what the rules ask

-- no "named record that is uncut"
abbrev pub NamesCut : Tables → StoredSelection → Type 0
NamesCut m t = (i : ℕ) → i < count_in t → first_child m (named_in t i) ≢ none

-- 11 to 15, 30 and 18, of the mesh and the request.
abbrev pub request_rules : Tables → StoredSelection → List Rule
request_rules m t = selection_rules m t ++ (rule 30 (NamesCut m t) ∷ rule 18 (RoundRises m) ∷ [])

-- 20: no "output buffer is shorter than the result".
abbrev pub room_rules : Kind → Tables → ℕ → List Rule
room_rules k m room = rule 20 (result_length k.format m ≤ room) ∷ []

-- What taking cuts back asks, in the order in which it tries; the first twelve are check's own.
abbrev pub take_back_rules : Stored → StoredSelection → ℕ → List Rule
take_back_rules mesh request room = check_rules mesh ++ (request_rules (tables_of mesh) request ++ room_rules mesh.kind (left mesh request) room)

-- The request earns none of 11 to 15, 30 and 18 from the mesh.
pub record RequestEarnsNone (m : Tables) (t : StoredSelection) : Type 0 where
  -- 11: "selection under 13 bytes, or length not 13 + 2n"
  pub length : RightSelectionLength t
  -- 12: "selection's mark or version wrong"
  pub mark : RightSelectionMark t
  -- 13: "another job"
  pub job : SameJob m t
  -- 14: "another round: the selection has expired"
  pub round : SameRound m t
  -- 15: "numbers not strictly rising, or one not below the record count"
  pub numbers : RightNumbers m t
  -- 30: "a named record that is uncut"
  pub cut : NamesCut m t
  -- 18: "the round is 65,535"
  pub round_rises : RoundRises m

-- All that it asks, named.
pub record TakeBackAccepts (mesh : Stored) (request : StoredSelection) (room : ℕ) : Type 0 where
  -- 1 to 10, 22 and 23: check accepts the mesh
  pub accepted : Accepted mesh
  -- 11 to 15, 30 and 18: the request is good for it
  pub good : RequestEarnsNone (tables_of mesh) request
  -- 20: no "output buffer is shorter than the result"
  pub long : result_length mesh.kind.format (left mesh request) ≤ room

-- ---- the tests

module _ (m : Tables) (t : StoredSelection) where
  rule30_holds : Fails (names_uncut m.record_at (selection_of t).count (named_in t)) (NamesCut m t)
  unfolding names_uncut
  rule30_holds = none_passes (count_in t) (λ i l. fails_unless (equal (first_child m (named_in t i)) none))

  request_judged : Judged (request_rows m t) (request_rules m t)
  unfolding request_rows round_row
  request_judged = judged_then (selection_judged m t) λ right. judge rule30_holds λ h30. judge (rule18_holds m) λ h18. done

  -- None of them is given exactly where the request earns none.
  pub request_exactly : (request_number m t ≡ 0) ↔ RequestEarnsNone m t
  unfolding request_number request_rows selection_rows round_row
  request_exactly =
      reads (accepted_exactly request_judged refl)
      (λ (h11, (h12, (h13, (h14, (h15, (h30, (h18, end))))))).
      record { length = h11; mark = h12; job = h13; round = h14; numbers = h15; cut = h30; round_rises = h18 })
      (λ g. (g.length, (g.mark, (g.job, (g.round, (g.numbers, (g.cut, (g.round_rises, tt))))))))

  -- None of them is 20.
  request_not_20 : request_number m t ≢ 20
  unfolding request_number request_rows selection_rows round_row
  request_not_20 = eqb-false (request_number m t) 20 (not-true (eqb (request_number m t) 20) (given_passes (λ k. not (eqb k 20)) (request_rows m t) refl))

-- ---- a stored mesh

module _ (s : Stored) (x : StoredMesh s) (request : StoredSelection) where
  abbrev m : Tables
  m = tables_of s

  abbrev N : Numbering
  N = x.stores.numbers

  -- A request is good exactly where it earns none of them.
  good_earns_none : GoodRequestFor x request ↔ RequestEarnsNone m request
  good_earns_none = (
    λ g.
        record {
          length = g.length;
          mark = g.mark;
          job = g.same_job ∙ sym (From.stored_job s x);
          round = g.same_round ∙ sym (From.stored_round s x);
          numbers = record { rising = g.rising; there = λ i l. omega (arith, g.there i l, (From.holds s x).records) };
          cut = λ i l e.
              let r = named_in request i in
              let first = x.stores.records_numbered.cut r (g.there i l) (g.cut i l) in
              omega (arith, e, first_is s x r (g.there i l), first.there, From.few s x);
          round_rises = λ e. g.not_last_round (sym (From.stored_round s x) ∙ e);
        },
    λ g.
        let there : (i : ℕ) → i < count_in request → named_in request i < N.records = λ i l. omega (arith, g.numbers.there i l, (From.holds s x).records) in
        record {
          length = g.length;
          mark = g.mark;
          same_job = g.job ∙ From.stored_job s x;
          same_round = g.round ∙ From.stored_round s x;
          rising = g.numbers.rising;
          there = there;
          cut = λ i l.
              let r = named_in request i in
              ⊎_elim (λ t. t) (λ f. absurd (g.cut i l (first_is s x r (there i l) ∙ x.stores.records_numbered.uncut r (there i l) f))) (either (x.cuts.has (N.node_at r)));
          not_last_round = λ e. g.round_rises (From.stored_round s x ∙ e);
        },
  )

  -- So a request is good exactly where none of 11 to 15, 30 and 18 is given.
  pub good_number : GoodRequestFor x request ↔ (request_number (tables_of s) request ≡ 0)
  good_number =
      let exactly = request_exactly m request in
      (λ g. exactly.1 (good_earns_none.0 g), λ e. good_earns_none.1 (exactly.0 e))

-- ---- the numbers

room_judged : (k : Kind) (m : Tables) (room : ℕ) → (room_number k m.header room ≡ 0) ↔ (result_length k.format m ≤ room)
unfolding room_number
room_judged k m room = reads (accepted_exactly (judge {n = 20} (rule20_holds k.format m room) λ h20. done) refl) (λ (h20, end). h20) (λ h. (h, tt))

module _ (mesh : Stored) (request : StoredSelection) (room : ℕ) where
  -- A number is given exactly where every rule before it holds and its own does not.
  pub take_back_refuses_exactly : (n : ℕ) → (take_back_number mesh request room ≡ n) ↔ Giving (take_back_rules mesh request room) n
  unfolding take_back_number rows table_rows request_rows selection_rows round_row
  take_back_refuses_exactly =
      given_exactly
      (judged_then (check_judged mesh) λ accepted. judged_then (request_judged (tables_of mesh) request) λ good. judge (rule20_holds mesh.kind.format (left mesh request) room) λ h20. done)
      refl

  -- 0 exactly where check accepts the mesh, the request is good for it and the buffer is long enough.
  pub take_back_accepts : (take_back_number mesh request room ≡ 0) ↔ TakeBackAccepts mesh request room
  take_back_accepts =
      let right = request_exactly (tables_of mesh) request in
      let fits = room_judged mesh.kind (left mesh request) room in
      reads (take_back_none mesh request room)
      (λ (checked, (requested, long)). record { accepted = (accepts_exactly mesh).0 checked; good = right.0 requested; long = fits.0 long })
      (λ a. ((accepts_exactly mesh).1 a.accepted, (right.1 a.good, fits.1 a.long)))

-- ---- on a mesh that check accepts

module _ (mesh : Stored) (request : StoredSelection) (accepted : check_number mesh ≡ 0) where
  -- Where the request is right, the buffer decides: 0 or 20.
  module _ (right : request_number (tables_of mesh) request ≡ 0) (room : ℕ) where
    pub right_one_of : (take_back_number mesh request room ≡ 0) ⊎ (take_back_number mesh request room ≡ 20)
    unfolding room_number
    right_one_of =
        let is = later mesh request room accepted right in
        ⊎_elim (λ e. inl (sym is ∙ e)) (⊎_elim (λ e. inr (sym is ∙ e)) absurd) (one_of_them _)

    pub right_fits : (take_back_number mesh request room ≡ 0) ↔ (result_length mesh.kind.format (left mesh request) ≤ room)
    right_fits =
        let is = later mesh request room accepted right in
        let fits = room_judged mesh.kind (left mesh request) room in
        (λ e. fits.0 (is ∙ e), λ h. sym is ∙ fits.1 h)

  -- 0 or 20 is given only where it is right.
  pub only_right : (room : ℕ) → (take_back_number mesh request room ≡ 0) ⊎ (take_back_number mesh request room ≡ 20) → request_number (tables_of mesh) request ≡ 0
  only_right room given =
      let n = request_number (tables_of mesh) request in
      ⊎_elim (eqb-true n 0)
      (λ f.
      let is = (request_refused mesh request room accepted f).0 in
      ⊎_elim (λ e. is ∙ e) (λ e. absurd (request_not_20 (tables_of mesh) request (is ∙ e))) given)
      (either (eqb n 0))
