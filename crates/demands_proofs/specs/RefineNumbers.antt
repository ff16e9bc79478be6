-- Refine's numbers, each with the plain statement of what holds where it is not given: refine gives a number exactly where every
-- rule before it holds and its own does not, and 0 exactly where all of them hold. Assumes nothing.
use Rattle.std.specs.Prelude.{◌≡◌, true, false, ◌||◌, ◌↔◌, ◌⊎◌, List, [], ◌∷◌, ◌++◌, ℕ, ◌+◌, ◌<◌, ◌≤◌, ltb}
use Rattle.std.proofs.Math.Path.{refl, subst}
use Rattle.std.proofs.Common.{sym, ◌∙◌, true≢false, inl, inr, ⊎_elim, mul-le-mul_left, arith}
use Rattle.std.proofs.Math.Dec.{eqb, leb}
use borrow.Author.Tests.{eqb-true, leb-true}
use Rattle.demands_words.specs.Words.{full_size}
use Rattle.laws.specs.Below.{either, or_second}
use Rattle.laws.specs.Order.{Rule, rule, Giving, Judged, judge, done, judged_then, given_passes, OneOf, one_of_them}
use Rattle.laws.proofs.Order.{given_exactly, accepted_exactly}
use Rattle.stored.specs.declared.Limits.{Limits}
use Rattle.stored.specs.declared.Format.{Format}
use Rattle.stored.specs.declared.Kind.{Kind}
use Rattle.stored.specs.Layout.{vertex_width, record_width, mesh_length, Stored, header_of, StoredSelection, selection_of}
use Rattle.mesh_tables.specs.Tables.{Tables, tables_of, all_vertices, all_records}
use Rattle.check_refusals.specs.Check.{rows, table_rows, check_number}
use Rattle.check_meaning.specs.Tests.{Fails, reads, not_below, or_fails}
use Rattle.check_meaning.specs.Accepted.{Within, Accepted}
use Rattle.check_meaning.specs.Exactly.{check_rules}
use Rattle.check_meaning.proofs.Exactly.{check_judged, accepts_exactly}
use Rattle.refine_selection.specs.Selected.{another_round, selection_rows, round_row}
use Rattle.refine_pass.specs.Passes.{exceeds}
use Rattle.refine_service.specs.Refine.{closed, refine_selection_rows, result_rows, refine_number}
use Rattle.refine_service.specs.Order.{selection_number}
use Rattle.refine_service.specs.Storing.{stored_number, later_number, refine_none, refine_selected, refine_later}
use Rattle.refine_meaning.specs.Answer.{another_round_refused}
use Rattle.demands_proofs.specs.Selections.{NamesLeaves, NamesNoneLast, RoundRises, EarnsNone, selection_rules, selection_judged, length_passes, mark_passes, rule13_holds, rule14_holds, rule16_holds, rule17_holds, rule18_holds}

-- ---- what the rules ask

-- How long these tables are as a mesh.
abbrev pub result_length : Format → Tables → ℕ
result_length f m = mesh_length f (all_vertices m) (all_records m)

-- 11 to 18, of the mesh and the selection: 16 and 17 are refine's own.
abbrev pub refine_selection_rules : Tables → StoredSelection → List Rule
refine_selection_rules m selection =
    selection_rules m selection ++ (rule 16 (NamesLeaves m selection) ∷ rule 17 (NamesNoneLast m selection) ∷ rule 18 (RoundRises m) ∷ [])

-- 19: no "closed result exceeds 1,024 vertices or 3,072 records"; 20: no "output buffer is shorter than the result".
abbrev pub result_rules : Kind → Tables → ℕ → List Rule
result_rules k m room = rule 19 (Within k.limits m) ∷ rule 20 (result_length k.format m ≤ room) ∷ []

-- What refine's rules ask, in the order in which they are tried; the first twelve are check's own.
abbrev pub refine_rules : Stored → StoredSelection → ℕ → List Rule
refine_rules mesh selection room = check_rules mesh ++ (refine_selection_rules (tables_of mesh) selection ++ result_rules mesh.kind (closed mesh selection) room)

-- All of them, named.
pub record RefineAccepts (mesh : Stored) (selection : StoredSelection) (room : ℕ) : Type 0 where
  -- 1 to 10, 22 and 23: check accepts the mesh
  pub accepted : Accepted mesh
  -- 11 to 18: the selection is good for it
  pub good : EarnsNone (tables_of mesh) selection
  -- 19: no "closed result exceeds 1,024 vertices or 3,072 records"
  pub within : Within mesh.kind.limits (closed mesh selection)
  -- 20: no "output buffer is shorter than the result"
  pub long : result_length mesh.kind.format (closed mesh selection) ≤ room

-- ---- the tests

pub rule19_holds : (most : Limits) (m : Tables) → Fails (exceeds most m.header) (Within most m)
unfolding exceeds
rule19_holds most m =
    reads (or_fails (not_below most.vertices (all_vertices m)) (not_below most.records (all_records m)))
    (λ h. record { vertices = h.0; records = h.1 })
    (λ w. (w.vertices, w.records))

pub rule20_holds : (f : Format) (m : Tables) (room : ℕ) → Fails (ltb room (result_length f m)) (result_length f m ≤ room)
rule20_holds f m room = not_below room (result_length f m)

module _ (m : Tables) (selection : StoredSelection) where
  refine_selection_judged : Judged (refine_selection_rows m selection) (refine_selection_rules m selection)
  unfolding refine_selection_rows round_row
  refine_selection_judged =
      judged_then (selection_judged m selection) λ right.
      judge (rule16_holds m selection) λ h16. judge (rule17_holds m selection) λ h17. judge (rule18_holds m) λ h18. done

  -- None of 11 to 18 is given exactly where the selection is good.
  selection_exactly : (selection_number m selection ≡ 0) ↔ EarnsNone m selection
  unfolding selection_number refine_selection_rows selection_rows round_row
  selection_exactly =
      reads (accepted_exactly refine_selection_judged refl)
      (λ (h11, (h12, (h13, (h14, (h15, (h16, (h17, (h18, end)))))))).
      record { length = h11; mark = h12; job = h13; round = h14; numbers = h15; leaves = h16; not_last = h17; round_rises = h18 })
      (λ g. (g.length, (g.mark, (g.job, (g.round, (g.numbers, (g.leaves, (g.not_last, (g.round_rises, tt)))))))))

  selection_within : eqb (selection_number m selection) 0 ≡ false → (11 ≤ selection_number m selection) × (selection_number m selection ≤ 18)
  unfolding selection_number refine_selection_rows selection_rows round_row
  selection_within other =
      let n = selection_number m selection in (
        leb-true 11 n (or_second (eqb n 0) (leb 11 n) other (given_passes (λ k. eqb k 0 || leb 11 k) (refine_selection_rows m selection) refl)),
        leb-true n 18 (given_passes (λ k. leb k 18) (refine_selection_rows m selection) refl),
      )

result_judged : (k : Kind) (m : Tables) (room : ℕ) → Judged (result_rows k m.header room) (result_rules k m room)
unfolding result_rows
result_judged k m room = judge (rule19_holds k.limits m) λ h19. judge (rule20_holds k.format m room) λ h20. done

-- ---- the numbers

module _ (mesh : Stored) (selection : StoredSelection) (room : ℕ) where
  -- Refine gives a number exactly where every rule before it holds and its own does not.
  pub refine_refuses_exactly : (n : ℕ) → (refine_number mesh selection room ≡ n) ↔ Giving (refine_rules mesh selection room) n
  unfolding refine_number rows table_rows refine_selection_rows selection_rows round_row result_rows
  refine_refuses_exactly =
      given_exactly
      (judged_then (check_judged mesh) λ accepted. judged_then (refine_selection_judged (tables_of mesh) selection) λ good. result_judged mesh.kind (closed mesh selection) room)
      refl

  later_exactly : (n : ℕ) → (later_number mesh selection room ≡ n) ↔ Giving (result_rules mesh.kind (closed mesh selection) room) n
  unfolding later_number stored_number result_rows
  later_exactly = given_exactly (result_judged mesh.kind (closed mesh selection) room) refl

  -- Refine gives 0 exactly where all of them hold: check accepts the mesh, the selection is good for it, the closed result is within the limits and
  -- the buffer is long enough.
  pub refine_accepts_all : (refine_number mesh selection room ≡ 0) ↔ RefineAccepts mesh selection room
  refine_accepts_all =
      reads (refine_none mesh selection room)
      (λ (checked, (selected, later)). let (within, (long, end)) = (later_exactly 0).0 later in
      record { accepted = (accepts_exactly mesh).0 checked; good = (selection_exactly (tables_of mesh) selection).0 selected; within = within; long = long })
      (λ a. ((accepts_exactly mesh).1 a.accepted, ((selection_exactly (tables_of mesh) selection).1 a.good, (later_exactly 0).1 (a.within, (a.long, refl)))))

-- ---- what demand 3 needs: on a mesh that check accepts

-- The number is none of 11 to 18.
abbrev pub NoneOf11To18 : ℕ → Type 0
NoneOf11To18 number = 11 ≤ number → number ≤ 18 → ⊥

module _ (mesh : Stored) (selection : StoredSelection) (accepted : check_number mesh ≡ 0) where
  -- Where the selection is good, 19 and 20 decide, whatever the buffer's length is.
  module _ (g : EarnsNone (tables_of mesh) selection) (room : ℕ) where
    later : later_number mesh selection room ≡ refine_number mesh selection room
    later = refine_later mesh selection room accepted ((selection_exactly (tables_of mesh) selection).1 g)

    pub good_gives : (n : ℕ) → (refine_number mesh selection room ≡ n) ↔ Giving (result_rules mesh.kind (closed mesh selection) room) n
    good_gives n = let exactly = later_exactly mesh selection room n in (λ e. exactly.0 (later ∙ e), λ r. sym later ∙ exactly.1 r)

    good_one_of : OneOf (0 ∷ 19 ∷ 20 ∷ []) (refine_number mesh selection room)
    unfolding later_number stored_number result_rows
    good_one_of = subst (OneOf (0 ∷ 19 ∷ 20 ∷ [])) later (one_of_them (result_rows mesh.kind (closed mesh selection).header room))

    pub good_19_exceeds : (refine_number mesh selection room ≡ 19) ↔ (exceeds mesh.kind.limits (closed mesh selection).header ≡ true)
    good_19_exceeds =
        let within = rule19_holds mesh.kind.limits (closed mesh selection) in (
          λ e. ⊎_elim (λ t. t) (λ f. absurd ((good_gives 19).0 e (within.0 f))) (either (exceeds mesh.kind.limits (closed mesh selection).header)),
          λ t. (good_gives 19).1 (λ w. true≢false (sym t ∙ within.1 w)),
        )

    -- "The largest mesh is 62,484 bytes.": with a buffer that can hold it the number is 0 or 19.
    pub good_number : full_size mesh.kind ≤ room → (refine_number mesh selection room ≡ 0) ⊎ (refine_number mesh selection room ≡ 19)
    good_number l =
        ⊎_elim inl
        (⊎_elim inr
        (⊎_elim
        (λ e. let (w, short) = (good_gives 20).0 e in
        let vertices = mul-le-mul_left (vertex_width mesh.kind.format) w.vertices in
        let records = mul-le-mul_left (record_width mesh.kind.format) w.records in
        absurd (short (omega (arith, l, vertices, records))))
        absurd))
        good_one_of

  -- Whatever the buffer's length is, the selection is good exactly where the number is none of 11 to 18.
  pub good_exactly_at : (room : ℕ) → EarnsNone (tables_of mesh) selection ↔ NoneOf11To18 (refine_number mesh selection room)
  good_exactly_at room =
      let n = selection_number (tables_of mesh) selection in (
        λ g l h. ⊎_elim (λ e. omega (arith, e, l)) (⊎_elim (λ e. omega (arith, e, h)) (⊎_elim (λ e. omega (arith, e, h)) absurd)) (good_one_of g room),
        λ none. (selection_exactly (tables_of mesh) selection).0
            (⊎_elim (eqb-true n 0)
            (λ f. let (low, high) = selection_within (tables_of mesh) selection f in
            let given = (refine_selected mesh selection room accepted f).0 in
            absurd (none (omega (arith, low, given)) (omega (arith, high, given))))
            (either (eqb n 0))),
      )

  -- The selection is good exactly where, for every length of the buffer, the number is none of 11 to 18.
  pub good_exactly : EarnsNone (tables_of mesh) selection ↔ ((room : ℕ) → NoneOf11To18 (refine_number mesh selection room))
  good_exactly = (λ g room. (good_exactly_at room).0 g, λ none. (good_exactly_at 0).1 (none 0))

-- ---- a selection is used once

-- A selection that was used gets 14 from every mesh of the job that check accepts and whose round is greater than the selection's.
pub used_gets_14 : (mesh : Stored) (selection : StoredSelection) (room : ℕ) → refine_number mesh selection room ≡ 0 →
    (later : Stored) → check_number later ≡ 0 → (header_of later).job ≡ (header_of mesh).job → (selection_of selection).round < (header_of later).round →
    (any : ℕ) → refine_number later selection any ≡ 14
unfolding tables_of
used_gets_14 mesh selection room e later accepted job above any =
    let g = ((refine_accepts_all mesh selection room).0 e).good in
    let right = (rule14_holds (tables_of later) selection).0 in
    another_round_refused later selection any accepted
    ((length_passes selection).1 g.length)
    ((mark_passes selection).1 g.mark)
    ((rule13_holds (tables_of later) selection).1 (g.job ∙ sym job))
    (⊎_elim (λ t. t) (λ f. let same : (selection_of selection).round ≡ (header_of later).round = right f in absurd (omega (arith, same, above))) (either (another_round (header_of later) (selection_of selection))))
