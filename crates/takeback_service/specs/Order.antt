-- The rules in their order, as the code tries them.
use Rattle.std.specs.Prelude.{◌≡◌, false, cond, ◌↔◌, List, [], ◌∷◌, ◌++◌, ℕ, replicate, eqb}
use Rattle.std.proofs.Math.Path.{refl, sym}
use Rattle.std.proofs.Common.{◌∙◌}
use Rattle.laws.specs.Lists.{output_of}
use Rattle.laws.specs.Order.{row, first_broken}
use Rattle.laws.proofs.Order.{one_after_other, both_hold}
use Rattle.stored.specs.declared.Kind.{Kind}
use Rattle.stored.specs.declared.Header.{Header}
use Rattle.stored.specs.Layout.{mesh_bytes, Stored, StoredSelection, selection_of, named_in}
use Rattle.mesh_tables.specs.Tables.{Tables, tables_of}
use Rattle.check_refusals.specs.Check.{rows, table_rows, check_number}
use Rattle.refine_selection.specs.Selected.{selection_rows, round_row}
use Rattle.refine_service.specs.Refine.{result_of, room_row}
use Rattle.takeback_service.specs.TakeBack.{left, names_uncut, request_rows, take_back_number, take_back_bytes}

-- Refusals 11 to 15, 30 and 18, or 0; 30 and 18 alone.
unfoldable pub request_number : Tables → StoredSelection → ℕ
request_number m request = first_broken (request_rows m request)

unfoldable pub named_number : Tables → ℕ → (ℕ → ℕ) → ℕ
named_number m count named = first_broken (row 30 (names_uncut m.record_at count named) ∷ round_row m.header ∷ [])

module _ (m : Tables) (t : StoredSelection) where
  -- 11 to 15 come first.
  pub request_wrong : eqb (first_broken (selection_rows m.header t)) 0 ≡ false → first_broken (selection_rows m.header t) ≡ request_number m t
  unfolding request_number request_rows selection_rows
  request_wrong e = sym (one_after_other (selection_rows m.header t) _ refl ∙ rw e)

  pub request_right : first_broken (selection_rows m.header t) ≡ 0 → named_number m (selection_of t).count (named_in t) ≡ request_number m t
  unfolding request_number request_rows selection_rows named_number
  request_right e = sym (one_after_other (selection_rows m.header t) _ refl ∙ rw e)

-- Refusal 20, or 0, of what is left; and the output then.
unfoldable pub room_number : Kind → Header → ℕ → ℕ
room_number k h room = first_broken (room_row k h room ∷ [])

unfoldable pub later_bytes : Stored → StoredSelection → ℕ → List ℕ
later_bytes mesh request room = output_of (room_number mesh.kind (left mesh request).header room) room (mesh_bytes mesh.kind.format (result_of (left mesh request)))

-- ---- what is answered, part by part

module _ (mesh : Stored) (request : StoredSelection) (room : ℕ) where
  refused : eqb (take_back_number mesh request room) 0 ≡ false → replicate room 0 ≡ take_back_bytes mesh request room
  unfolding take_back_bytes
  refused e = rw e

  -- Check's numbers come first, then 11 to 15, 30 and 18, then 20.
  after_check : take_back_number mesh request room ≡ cond (eqb (check_number mesh) 0) (first_broken (request_rows (tables_of mesh) request ++ (room_row mesh.kind (left mesh request).header room ∷ []))) (check_number mesh)
  unfolding take_back_number check_number rows table_rows
  after_check = one_after_other (rows mesh) (request_rows (tables_of mesh) request ++ (room_row mesh.kind (left mesh request).header room ∷ [])) refl

  after_request : first_broken (request_rows (tables_of mesh) request ++ (room_row mesh.kind (left mesh request).header room ∷ []))
      ≡ cond (eqb (request_number (tables_of mesh) request) 0) (room_number mesh.kind (left mesh request).header room) (request_number (tables_of mesh) request)
  unfolding request_number room_number request_rows selection_rows round_row
  after_request = one_after_other (request_rows (tables_of mesh) request) (room_row mesh.kind (left mesh request).header room ∷ []) refl

  pub judged_refused : eqb (check_number mesh) 0 ≡ false → (check_number mesh ≡ take_back_number mesh request room) × (replicate room 0 ≡ take_back_bytes mesh request room)
  judged_refused e = let n : check_number mesh ≡ take_back_number mesh request room = sym (after_check ∙ rw e) in (n, refused (rw (← n) e))

  -- 0 is given where check gives 0, no rule of the request is broken and there is room.
  pub take_back_none : (take_back_number mesh request room ≡ 0) ↔ ((check_number mesh ≡ 0) × ((request_number (tables_of mesh) request ≡ 0) × (room_number mesh.kind (left mesh request).header room ≡ 0)))
  unfolding take_back_number check_number rows table_rows request_number room_number request_rows selection_rows round_row
  take_back_none =
      let first = both_hold (rows mesh) (request_rows (tables_of mesh) request ++ (room_row mesh.kind (left mesh request).header room ∷ [])) refl in
      let later = both_hold (request_rows (tables_of mesh) request) (room_row mesh.kind (left mesh request).header room ∷ []) refl in
      (λ e. ((first.0 e).0, later.0 (first.0 e).1), λ z. first.1 (z.0, later.1 z.1))

  module _ (accepted : check_number mesh ≡ 0) where
    pub request_refused : eqb (request_number (tables_of mesh) request) 0 ≡ false → (request_number (tables_of mesh) request ≡ take_back_number mesh request room) × (replicate room 0 ≡ take_back_bytes mesh request room)
    request_refused e =
        let n : request_number (tables_of mesh) request ≡ take_back_number mesh request room = sym (after_check ∙ rw accepted (after_request ∙ rw e)) in
        (n, refused (rw (← n) e))

    module _ (right : request_number (tables_of mesh) request ≡ 0) where
      pub later : room_number mesh.kind (left mesh request).header room ≡ take_back_number mesh request room
      later = sym (after_check ∙ rw accepted (after_request ∙ rw right))

      pub later_bytes_lem : later_bytes mesh request room ≡ take_back_bytes mesh request room
      unfolding later_bytes take_back_bytes
      later_bytes_lem = rw later
