-- What refine answers, for every stored mesh of every kind, every selection and every length of the output buffer, which takes the mesh in one buffer.
use Rattle.std.specs.Prelude.{◌≡◌, List, [], ◌∷◌, ◌++◌, ℕ, ltb}
use Rattle.std.proofs.Common.{sym, ◌∙◌}
use Rattle.laws.specs.Lists.{output_of}
use Rattle.laws.specs.Below.{list_below}
use Rattle.laws.specs.Order.{Row, row, first_broken}
use Rattle.stored.specs.declared.Header.{Header}
use Rattle.stored.specs.declared.Kind.{Kind}
use Rattle.stored.specs.Layout.{next_round, mesh_length, Mesh, mesh_bytes, Stored, StoredSelection, selection_of, named_in}
use Rattle.mesh_tables.specs.Tables.{Tables, tables_of, all_vertices, all_records}
use Rattle.check_refusals.specs.Check.{rows}
use Rattle.refine_selection.specs.Selected.{selection_rows, names_cut, names_last, round_row, is_named}
use Rattle.refine_pass.specs.Passes.{exceeds, refined}

-- The tables after pass one, which "cuts the selected records", and all later passes.
unfoldable pub closed : Stored → StoredSelection → Tables
closed mesh selection = refined mesh.kind.limits (is_named (selection_of selection).count (named_in selection)) (tables_of mesh)

-- The mesh that is written.
unfoldable pub result_of : Tables → Mesh
result_of m =
    record {
      header = next_round m.header;
      vertices = list_below (all_vertices m) m.vertex_at;
      records = list_below (all_records m) m.record_at;
    }

-- Refusals 11 to 18, of the mesh and the selection: 16 and 17 are refine's own.
unfoldable pub refine_selection_rows : Tables → StoredSelection → List Row
refine_selection_rows m selection =
    let count = (selection_of selection).count in
    selection_rows m.header selection
    ++ (row 16 (names_cut m.record_at count (named_in selection)) ∷ row 17 (names_last m.record_at count (named_in selection)) ∷ round_row m.header ∷ [])

-- 20: "the output buffer is shorter than the result", a mesh with this header
abbrev pub room_row : Kind → Header → ℕ → Row
room_row k h room = row 20 (ltb room (mesh_length k.format h.vertices h.records))

-- Refusals 19 and 20, of the header after all passes and the output buffer's length.
unfoldable pub result_rows : Kind → Header → ℕ → List Row
result_rows k h room = row 19 (exceeds k.limits h) ∷ room_row k h room ∷ []

-- "Refine gives 1 to 20": 1 to 10, and with them 22 and 23, are check's own.
unfoldable pub refine_number : Stored → StoredSelection → ℕ → ℕ
refine_number mesh selection room =
    first_broken (rows mesh ++ (refine_selection_rows (tables_of mesh) selection ++ result_rows mesh.kind (closed mesh selection).header room))

-- "After a refusal the output buffer is zero throughout; after acceptance it is zero past the result."
unfoldable pub refine_bytes : Stored → StoredSelection → ℕ → List ℕ
refine_bytes mesh selection room = output_of (refine_number mesh selection room) room (mesh_bytes mesh.kind.format (result_of (closed mesh selection)))

-- "Each public function states one outcome for each input: number, counts and all bytes of the output, refused or not."
pub record RefineOutcomeIs (mesh : Stored) (selection : StoredSelection) (room r : ℕ) (out : List ℕ) : Type 0 where
  pub number : r ≡ refine_number mesh selection room
  pub bytes : out ≡ refine_bytes mesh selection room

-- "That no second outcome fits is itself proved"
pub one_refine : (mesh : Stored) (selection : StoredSelection) (room r r' : ℕ) (out out' : List ℕ) →
    RefineOutcomeIs mesh selection room r out → RefineOutcomeIs mesh selection room r' out' → (r ≡ r') × (out ≡ out')
one_refine mesh selection room r r' out out' is is' = (is.number ∙ sym is'.number, is.bytes ∙ sym is'.bytes)
