-- Document 01's table, refusals 11 to 18: for each number when exactly it is given. Each is asked over the whole selection.
use Rattle.std.specs.Prelude.{Bool, not, ◌&&◌, ◌||◌, List, [], ◌∷◌, ℕ, ◌+◌, eqb, ltb, leb}
use Rattle.laws.specs.Below.{any_below}
use Rattle.laws.specs.Order.{Row, row}
use Rattle.piece.specs.Shape.{last_generation}
use Rattle.stored.specs.declared.Header.{Header}
use Rattle.stored.specs.declared.Record.{Record}
use Rattle.stored.specs.declared.Selection.{Selection}
use Rattle.stored.specs.Layout.{last_round, StoredSelection, right_selection_length, right_selection_mark, selection_of, named_in}
use Rattle.mesh_tables.specs.Tables.{uncut}

-- 11: "selection under 13 bytes, or length not 13 + 2n"
unfoldable pub wrong_selection_length : StoredSelection → Bool
wrong_selection_length t = not (right_selection_length t)

-- 12: "selection's mark or version wrong"
unfoldable pub wrong_selection_mark : StoredSelection → Bool
wrong_selection_mark t = not (right_selection_mark t)

-- 13: "another job"
unfoldable pub another_job : Header → Selection → Bool
another_job h s = not (eqb s.job h.job)

-- 14: "another round: the selection has expired"
unfoldable pub another_round : Header → Selection → Bool
another_round h s = not (eqb s.round h.round)

-- 15: "numbers not strictly rising, or one not below the record count": of `count` numbers the i-th, and the one that follows it
unfoldable pub bad_number : ℕ → ℕ → (ℕ → ℕ) → ℕ → Bool
bad_number records count named i = leb records (named i) || (ltb (i + 1) count && leb (named (i + 1)) (named i))

unfoldable pub bad_numbers : ℕ → ℕ → (ℕ → ℕ) → Bool
bad_numbers records count named = any_below count (bad_number records count named)

-- 11 to 15: what is asked of every selection, of the mesh's header and the selection.
unfoldable pub selection_rows : Header → StoredSelection → List Row
selection_rows h selection =
    let s = selection_of selection in
    row 11 (wrong_selection_length selection)
    ∷ row 12 (wrong_selection_mark selection)
    ∷ row 13 (another_job h s)
    ∷ row 14 (another_round h s)
    ∷ row 15 (bad_numbers h.records s.count (named_in selection))
    ∷ []

-- 16: "a named record is already cut"
unfoldable pub names_cut : (ℕ → Record) → ℕ → (ℕ → ℕ) → Bool
names_cut record_at count named = any_below count (λ i. not (uncut (record_at (named i))))

-- 17: "a named record has generation 15"
unfoldable pub names_last : (ℕ → Record) → ℕ → (ℕ → ℕ) → Bool
names_last record_at count named = any_below count (λ i. eqb (record_at (named i)).piece.generation last_generation)

-- 18: "the round is 65,535"
unfoldable pub round_row : Header → Row
round_row h = row 18 (eqb h.round last_round)

-- Record n is selected: some number of the selection names it.
unfoldable pub is_named : ℕ → (ℕ → ℕ) → ℕ → Bool
is_named count named n = any_below count (λ i. eqb (named i) n)
