-- What refusals 11 to 18 leave of a selection, in document 01's words: of each row of "Numbers we give back" what holds where it is not
-- given, as plain statements about the selection's bytes and the mesh's tables, and that the row's test fails exactly there. Assumes nothing.
use Rattle.std.specs.Prelude.{◌≡◌, ◌≢◌, List, [], ◌∷◌, ℕ, zero, suc, ◌+◌, ◌*◌, ◌<◌, length, eqb}
use Rattle.std.proofs.Common.{sym, subst, ⊎_elim, not-suc-le-zero, eq-or-lt_of_le, le_of_suc-le-suc, add-one, arith}
use Rattle.laws.specs.Order.{Rule, rule, Judged, judge, done}
use Rattle.piece.specs.Shape.{last_generation}
use Rattle.stored.specs.Layout.{none, last_round, byte_at, u16_at, marked, StoredSelection, selection_width, selection_version, number_width, number_at, right_selection_length, right_selection_mark, selection_of, named_in}
use Rattle.mesh_tables.specs.Tables.{Tables, all_records, piece_at}
use Rattle.check_meaning.specs.Tests.{Passes, Fails, reads, equal, at_most, below, not_at_most, fails_unless, not_fails, and_passes, and_fails, or_fails, none_passes}
use Rattle.check_meaning.specs.Accepted.{first_child, Leaf}
use Rattle.refine_selection.specs.Selected.{wrong_selection_length, wrong_selection_mark, another_job, another_round, bad_number, bad_numbers, selection_rows, names_cut, names_last}
use Rattle.demands_words.specs.Words.{count_in, RightSelectionLength, RightSelectionMark}

-- ---- 13 and 14: the job and the round

-- no "another job"
abbrev pub SameJob : Tables → StoredSelection → Type 0
SameJob m t = (selection_of t).job ≡ m.header.job

-- no "another round: the selection has expired"
abbrev pub SameRound : Tables → StoredSelection → Type 0
SameRound m t = (selection_of t).round ≡ m.header.round

-- ---- 15 to 17: the record numbers

pub record RightNumbers (m : Tables) (t : StoredSelection) : Type 0 where
  -- no "numbers not strictly rising"
  pub rising : (i j : ℕ) → i < j → j < count_in t → named_in t i < named_in t j
  -- no "one not below the record count"
  pub there : (i : ℕ) → i < count_in t → named_in t i < all_records m

-- no "named record is already cut"
abbrev pub NamesLeaves : Tables → StoredSelection → Type 0
NamesLeaves m t = (i : ℕ) → i < count_in t → Leaf m (named_in t i)

-- no "named record has generation 15"
abbrev pub NamesNoneLast : Tables → StoredSelection → Type 0
NamesNoneLast m t = (i : ℕ) → i < count_in t → (piece_at m (named_in t i)).generation ≢ last_generation

-- ---- 18: the mesh's round

-- not "the round is 65,535"
abbrev pub RoundRises : Tables → Type 0
RoundRises m = m.header.round ≢ last_round

-- ---- all eight

-- 11 to 15, of the mesh and every selection.
abbrev pub selection_rules : Tables → StoredSelection → List Rule
selection_rules m selection =
    rule 11 (RightSelectionLength selection)
    ∷ rule 12 (RightSelectionMark selection)
    ∷ rule 13 (SameJob m selection)
    ∷ rule 14 (SameRound m selection)
    ∷ rule 15 (RightNumbers m selection)
    ∷ []

-- The selection earns none of 11 to 18 from the mesh.
pub record EarnsNone (m : Tables) (selection : StoredSelection) : Type 0 where
  -- 11: "selection under 13 bytes, or length not 13 + 2n"
  pub length : RightSelectionLength selection
  -- 12: "selection's mark or version wrong"
  pub mark : RightSelectionMark selection
  -- 13: "another job"
  pub job : SameJob m selection
  -- 14: "another round: the selection has expired"
  pub round : SameRound m selection
  -- 15: "numbers not strictly rising, or one not below the record count"
  pub numbers : RightNumbers m selection
  -- 16: "a named record is already cut"
  pub leaves : NamesLeaves m selection
  -- 17: "a named record has generation 15"
  pub not_last : NamesNoneLast m selection
  -- 18: "the round is 65,535"
  pub round_rises : RoundRises m

-- ---- the tests

-- The tests of length and mark, as the layout has them.
pub length_passes : (t : StoredSelection) → Passes (right_selection_length t) (RightSelectionLength t)
unfolding right_selection_length selection_of
length_passes t =
    reads (and_passes (at_most (selection_width t.format) (length t.bytes)) (equal (length t.bytes) (selection_width t.format + number_width t.format * number_at t.format t.bytes 11)))
    (λ h. record { heading = h.0; exact = h.1 })
    (λ r. (r.heading, r.exact))

pub mark_passes : (t : StoredSelection) → Passes (right_selection_mark t) (RightSelectionMark t)
unfolding right_selection_mark marked
mark_passes t =
    reads (and_passes (and_passes (and_passes (equal (byte_at t.bytes 0) 84) (equal (byte_at t.bytes 1) 77)) (equal (byte_at t.bytes 2) 83)) (equal (u16_at t.bytes 3) (selection_version t.format)))
    (λ h. record { T = h.0.0.0; M = h.0.0.1; S = h.0.1; version = h.1 })
    (λ r. (((r.T, r.M), r.S), r.version))

pub rule11_holds : (t : StoredSelection) → Fails (wrong_selection_length t) (RightSelectionLength t)
unfolding wrong_selection_length
rule11_holds t = not_fails (length_passes t)

pub rule12_holds : (t : StoredSelection) → Fails (wrong_selection_mark t) (RightSelectionMark t)
unfolding wrong_selection_mark
rule12_holds t = not_fails (mark_passes t)

module _ (m : Tables) (t : StoredSelection) where
  pub rule13_holds : Fails (another_job m.header (selection_of t)) (SameJob m t)
  unfolding another_job
  rule13_holds = not_fails (equal (selection_of t).job m.header.job)

  pub rule14_holds : Fails (another_round m.header (selection_of t)) (SameRound m t)
  unfolding another_round
  rule14_holds = not_fails (equal (selection_of t).round m.header.round)

  -- The numbers rise strictly where each is below the one that follows it.
  rises : ((i : ℕ) → i + 1 < count_in t → named_in t i < named_in t (i + 1)) → (i j : ℕ) → i < j → j < count_in t → named_in t i < named_in t j
  rises next i zero l b = absurd (not-suc-le-zero l)
  rises next i (suc j) l b =
      let before : named_in t j < named_in t (suc j) = rw add-one at (next j (omega arith)) in
      ⊎_elim
      (λ e. subst (λ (k : ℕ). named_in t k < named_in t (suc j)) (sym e) before)
      (λ l'. let first = rises next i j l' (omega arith) in omega (arith, before, first))
      (eq-or-lt_of_le (le_of_suc-le-suc l))

  pub rule15_holds : Fails (bad_numbers m.header.records (selection_of t).count (named_in t)) (RightNumbers m t)
  unfolding bad_numbers bad_number
  rule15_holds =
      reads
      (none_passes (count_in t)
      (λ i l. or_fails (not_at_most (all_records m) (named_in t i)) (and_fails (below (i + 1) (count_in t)) (not_at_most (named_in t (i + 1)) (named_in t i)))))
      (λ h. record { rising = rises (λ i l. (h i (omega arith)).1 l); there = λ i l. (h i l).0 })
      (λ r i l. (r.there i l, λ b. r.rising i (i + 1) (omega arith) b))

  pub selection_judged : Judged (selection_rows m.header t) (selection_rules m t)
  unfolding selection_rows
  selection_judged =
      judge (rule11_holds t) λ h11. judge (rule12_holds t) λ h12. judge rule13_holds λ h13. judge rule14_holds λ h14. judge rule15_holds λ h15. done

  pub rule16_holds : Fails (names_cut m.record_at (selection_of t).count (named_in t)) (NamesLeaves m t)
  unfolding names_cut
  rule16_holds = none_passes (count_in t) (λ i l. not_fails (equal (first_child m (named_in t i)) none))

  pub rule17_holds : Fails (names_last m.record_at (selection_of t).count (named_in t)) (NamesNoneLast m t)
  unfolding names_last
  rule17_holds = none_passes (count_in t) (λ i l. fails_unless (equal (piece_at m (named_in t i)).generation last_generation))

pub rule18_holds : (m : Tables) → Fails (eqb m.header.round last_round) (RoundRises m)
rule18_holds m = fails_unless (equal m.header.round last_round)
