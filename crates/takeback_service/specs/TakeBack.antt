-- What taking cuts back answers, for every stored mesh of every kind, every request and every length of the output buffer, which takes the mesh in one buffer.
use Rattle.std.specs.Prelude.{◌≡◌, Bool, List, [], ◌∷◌, ◌++◌, ℕ}
use Rattle.std.proofs.Common.{sym, ◌∙◌}
use Rattle.laws.specs.Lists.{output_of}
use Rattle.laws.specs.Below.{any_below}
use Rattle.laws.specs.Order.{Row, row, first_broken}
use Rattle.stored.specs.declared.Record.{Record}
use Rattle.stored.specs.Layout.{mesh_bytes, Stored, StoredSelection, selection_of, named_in}
use Rattle.mesh_tables.specs.Tables.{Tables, tables_of, uncut}
use Rattle.check_refusals.specs.Check.{rows}
use Rattle.refine_selection.specs.Selected.{selection_rows, round_row, is_named}
use Rattle.refine_service.specs.Refine.{result_of, room_row}
use Rattle.takeback_remains.specs.Remains.{closed_up}

-- "The request names cut records in the selection's layout." The tables that are left.
unfoldable pub left : Stored → StoredSelection → Tables
left mesh request = closed_up (tables_of mesh) (is_named (selection_of request).count (named_in request))

-- 30: "for a named record that is uncut"
unfoldable pub names_uncut : (ℕ → Record) → ℕ → (ℕ → ℕ) → Bool
names_uncut record_at count named = any_below count (λ i. uncut (record_at (named i)))

-- Refusals 11 to 15, 30 "in 16's place", and 18, of the mesh and the request.
unfoldable pub request_rows : Tables → StoredSelection → List Row
request_rows m request =
    selection_rows m.header request ++ (row 30 (names_uncut m.record_at (selection_of request).count (named_in request)) ∷ round_row m.header ∷ [])

-- "Refusals: 1 to 15, 18 and 20 as in refine, and 30": 1 to 10, and with them 22 and 23, are check's own.
unfoldable pub take_back_number : Stored → StoredSelection → ℕ → ℕ
take_back_number mesh request room = first_broken (rows mesh ++ (request_rows (tables_of mesh) request ++ (room_row mesh.kind (left mesh request).header room ∷ [])))

-- "the round rises by 1": the result is refine's, of the tables that are left. "After a refusal the output buffer is zero throughout; after acceptance it is
-- zero past the result."
unfoldable pub take_back_bytes : Stored → StoredSelection → ℕ → List ℕ
take_back_bytes mesh request room = output_of (take_back_number mesh request room) room (mesh_bytes mesh.kind.format (result_of (left mesh request)))

-- "Each public function states one outcome for each input: number, counts and all bytes of the output, refused or not."
pub record TakeBackOutcomeIs (mesh : Stored) (request : StoredSelection) (room r : ℕ) (out : List ℕ) : Type 0 where
  pub number : r ≡ take_back_number mesh request room
  pub bytes : out ≡ take_back_bytes mesh request room

-- "That no second outcome fits is itself proved"
pub one_take_back : (mesh : Stored) (request : StoredSelection) (room r r' : ℕ) (out out' : List ℕ) →
    TakeBackOutcomeIs mesh request room r out → TakeBackOutcomeIs mesh request room r' out' → (r ≡ r') × (out ≡ out')
one_take_back mesh request room r r' out out' is is' = (is.number ∙ sym is'.number, is.bytes ∙ sym is'.bytes)
