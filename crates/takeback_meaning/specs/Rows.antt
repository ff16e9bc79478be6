-- Worked rows of taking cuts back, on the meshes of "A piece worked by hand", as one table under one claim, computed from the definitions.
use Rattle.std.specs.Prelude.{◌≡◌, refl, Bool, true, false, ◌&&◌, List, [], ◌∷◌, ℕ, set, eqb}
use Rattle.std.proofs.Common.{ap₂, eqb-true}
use Rattle.std.proofs.lemmas.Bool.{false≢true}
use Rattle.laws.specs.Below.{and_left, and_right}
use Rattle.laws_remaining.specs.Remaining.{old_below}
use Rattle.stored.specs.Layout.{stored1, selection1}
use Rattle.check_refusals.specs.Check.{leaves}
use Rattle.mesh_tables.specs.Tables.{Tables, tables_of}
use Rattle.refine_service.specs.Refine.{refine_bytes}
use Rattle.refine_meaning.specs.Rows.{k_of, k_cut, k_four, selecting, computed as refine_computed}
use Rattle.takeback_remains.specs.Remains.{cut_vertex, leaf_children, freed, holds_vertex, taken_away, vertex_remains, stays_cut, record_remains, renumbered, vertex_again, piece_again, record_again, closed_up}
use Rattle.takeback_service.specs.TakeBack.{left, names_uncut, request_rows, take_back_number, take_back_bytes}

-- What these answers compute with, besides what refine's do.
unfoldable pub computed : Bool
unfolding cut_vertex leaf_children freed holds_vertex taken_away vertex_remains stays_cut record_remains renumbered old_below vertex_again piece_again record_again closed_up left names_uncut request_rows take_back_number take_back_bytes
computed = true

-- The mesh but for its round: "round (u16) at 9".
abbrev but_round : List ℕ → ℕ → List ℕ
but_round mesh round = set mesh 9 round

-- A request of job 7 and this round that names these records.
abbrev naming : ℕ → ℕ → List ℕ → List ℕ
naming round count named = selecting 7 round count named

-- K refined by 0, then by 1 and 2, with 1 taken back.
abbrev three : Tables
three = tables_of (stored1 (take_back_bytes (stored1 k_four) (selection1 (naming 2 1 (1 ∷ []))) 165))

-- "Select 3 to 6 instead: 10 vertices, 15 records, 8 leaves", and what is left of that without the cuts of 4 and 5.
abbrev k_eight : List ℕ
k_eight = refine_bytes (stored1 k_four) (selection1 (naming 2 4 (3 ∷ 4 ∷ 5 ∷ 6 ∷ []))) 375

abbrev six : Tables
six = tables_of (stored1 (take_back_bytes (stored1 k_eight) (selection1 (naming 3 2 (4 ∷ 5 ∷ []))) 297))

pub record WorkedRows : Type 0 where
  -- K refined by 0: name 0, and it is K again but for its round. One byte less gets 20.
  pub whole_back : take_back_number (stored1 k_cut) (selection1 (naming 1 1 (0 ∷ []))) 77 ≡ 0
  pub whole_back_bytes : take_back_bytes (stored1 k_cut) (selection1 (naming 1 1 (0 ∷ []))) 77 ≡ k_of 2
  pub whole_back_short : take_back_number (stored1 k_cut) (selection1 (naming 1 1 (0 ∷ []))) 76 ≡ 20
  -- None named: the round alone.
  pub none_named : take_back_number (stored1 k_cut) (selection1 (naming 1 0 [])) 121 ≡ 0
  pub none_named_bytes : take_back_bytes (stored1 k_cut) (selection1 (naming 1 0 [])) 121 ≡ but_round k_cut 2
  -- A leaf is named; a number past the last; the request of an old round, and of another job.
  pub leaf_named : take_back_number (stored1 k_cut) (selection1 (naming 1 1 (1 ∷ []))) 121 ≡ 30
  pub past_last : take_back_number (stored1 k_cut) (selection1 (naming 1 1 (3 ∷ []))) 121 ≡ 15
  pub expired : take_back_number (stored1 k_cut) (selection1 (naming 0 1 (0 ∷ []))) 121 ≡ 14
  pub of_another_job : take_back_number (stored1 k_cut) (selection1 (selecting 8 0 1 (0 ∷ []))) 121 ≡ 13
  -- K refined by 0, then by 1 and 2: name 1 and 2, and it is as refined by 0 but for its round.
  pub both_back : take_back_number (stored1 k_four) (selection1 (naming 2 2 (1 ∷ 2 ∷ []))) 121 ≡ 0
  pub both_back_bytes : take_back_bytes (stored1 k_four) (selection1 (naming 2 2 (1 ∷ 2 ∷ []))) 121 ≡ but_round k_cut 3
  -- Name 0: its children are cut, and nothing goes. Name all three: one call is one step.
  pub upper_named : take_back_number (stored1 k_four) (selection1 (naming 2 1 (0 ∷ []))) 209 ≡ 0
  pub upper_named_bytes : take_back_bytes (stored1 k_four) (selection1 (naming 2 1 (0 ∷ []))) 209 ≡ but_round k_four 3
  pub all_named : take_back_number (stored1 k_four) (selection1 (naming 2 3 (0 ∷ 1 ∷ 2 ∷ []))) 121 ≡ 0
  pub all_named_bytes : take_back_bytes (stored1 k_four) (selection1 (naming 2 3 (0 ∷ 1 ∷ 2 ∷ []))) 121 ≡ but_round k_cut 3
  -- Name 1: 6 vertices, 5 records.
  pub one_back : take_back_number (stored1 k_four) (selection1 (naming 2 1 (1 ∷ []))) 165 ≡ 0
  pub one_back_vertices : three.header.vertices ≡ 6
  pub one_back_records : three.header.records ≡ 5
  -- Refined by 3 to 6 too: name 4, and nothing goes, since 5 is cut at the same vertex.
  pub twin_unnamed : take_back_number (stored1 k_eight) (selection1 (naming 3 1 (4 ∷ []))) 375 ≡ 0
  pub twin_unnamed_bytes : take_back_bytes (stored1 k_eight) (selection1 (naming 3 1 (4 ∷ []))) 375 ≡ but_round k_eight 4
  -- Name 4 and 5: 9 vertices, 11 records, 6 leaves.
  pub twins_back : take_back_number (stored1 k_eight) (selection1 (naming 3 2 (4 ∷ 5 ∷ []))) 297 ≡ 0
  pub twins_back_vertices : six.header.vertices ≡ 9
  pub twins_back_records : six.header.records ≡ 11
  pub twins_back_leaves : leaves six ≡ 6

-- Two lists as long as k_eight take fewer steps to compare by a test.
abbrev same : List ℕ → List ℕ → Bool
same [] [] = true
same [] (y ∷ t) = false
same (x ∷ s) [] = false
same (x ∷ s) (y ∷ t) = eqb x y && same s t

same_is : (s t : List ℕ) → same s t ≡ true → s ≡ t
same_is [] [] e = refl
same_is [] (y ∷ t) e = absurd (false≢true e)
same_is (x ∷ s) [] e = absurd (false≢true e)
same_is (x ∷ s) (y ∷ t) e = ap₂ ◌∷◌ (eqb-true x y (and_left (eqb x y) (same s t) e)) (same_is s t (and_right (eqb x y) (same s t) e))

abbrev kept : List ℕ
kept = take_back_bytes (stored1 k_eight) (selection1 (naming 3 1 (4 ∷ []))) 375

twin_same : same kept (but_round k_eight 4) ≡ true
unfolding refine_computed computed
twin_same = refl

-- The table holds.
pub worked : WorkedRows
unfolding refine_computed computed
worked =
    record {
      whole_back = refl;
      whole_back_bytes = refl;
      whole_back_short = refl;
      none_named = refl;
      none_named_bytes = refl;
      leaf_named = refl;
      past_last = refl;
      expired = refl;
      of_another_job = refl;
      both_back = refl;
      both_back_bytes = refl;
      upper_named = refl;
      upper_named_bytes = refl;
      all_named = refl;
      all_named_bytes = refl;
      one_back = refl;
      one_back_vertices = refl;
      one_back_records = refl;
      twin_unnamed = refl;
      twin_unnamed_bytes = same_is kept (but_round k_eight 4) twin_same;
      twins_back = refl;
      twins_back_vertices = refl;
      twins_back_records = refl;
      twins_back_leaves = refl;
    }
