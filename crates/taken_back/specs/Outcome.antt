-- Demand 1 of taking cuts back: "Every byte string and every length of buffer gets either a mesh or a numbered refusal. [..] After a refusal the output buffer is
-- all zeros". `MeshIn` is in `demands/specs/Demand1`.
use Rattle.std.specs.Prelude.{◌≡◌, ◌≢◌, ◌⊎◌, false, List, [], ◌∷◌, ◌++◌, ℕ, ◌≤◌, length, replicate}
use Rattle.std.proofs.Common.{sym, ◌∙◌, inl, inr, ⊎_elim, arith, length-append, ne_eqb}
use Rattle.std.proofs.Math.Path.{ap}
use Rattle.std.proofs.lemmas.List.{length-replicate}
use Rattle.laws.specs.Below.{count_at_most}
use Rattle.laws.specs.Lists.{Bytes}
use Rattle.laws.specs.Order.{OneOf, one_of_them}
use Rattle.stored.specs.Layout.{Stored, of_kind, header_of, header_from, mesh_bytes, StoredSelection, selection_of, named_in}
use Rattle.stored.specs.Fitting.{HeaderFits, header_fits, round_fits}
use Rattle.mesh_tables.specs.Tables.{tables_of, all_vertices, all_records}
use Rattle.check_refusals.specs.Check.{rows, table_rows, check_number}
use Rattle.check_refusals.specs.Rows.{report_number}
use Rattle.refine_selection.specs.Selected.{selection_rows, round_row, is_named}
use Rattle.refine_service.specs.Refine.{result_of}
use Rattle.takeback_remains.specs.Remains.{vertex_remains, record_remains, closed_up}
use Rattle.takeback_service.specs.TakeBack.{left, request_rows, take_back_number, take_back_bytes}
use Rattle.takeback_meaning.specs.Answer.{refused_bytes, accepted_bytes, job_kept, base_vertices_kept, base_records_kept}
use Rattle.demands_proofs.specs.Outcomes.{zero_or_not, header_first}
use Rattle.demands_proofs.specs.StoredOf.{stored_of_accepted}
use Rattle.demands.specs.Demand1.{MeshIn}
use Rattle.demands_words.specs.Words.{check_numbers}
use Rattle.taken_back.specs.Words.{left_mesh, left_bytes}
use Rattle.taken_back.specs.Requests.{take_back_accepts}
use Rattle.taken_back.specs.Result.{left_vertices, left_records, left_as_long}
use Rattle.taken_back.specs.TakenBack.{in_one_buffer, accepted_again, accepted_good}

-- What taking cuts back answers, for a mesh and a request, whatever their bytes are, and a length of the output buffer.
pub record TakeBackOutcome (mesh : Stored) (request : StoredSelection) (room number : ℕ) (bytes : List ℕ) : Type 0 where
  -- "either a mesh", which check accepts; "or a numbered refusal", one of "1 to 15, 18 and 20 as in refine, and 30", with check's 22 and 23, and "all zeros".
  pub either :
      ((number ≡ 0) × (out : MeshIn mesh.kind bytes room) × (mesh.kind.two ≡ false → check_number (of_kind mesh (mesh_bytes mesh.kind.format out.mesh) []) ≡ 0))
      ⊎ (OneOf (check_numbers ++ (11 ∷ 12 ∷ 13 ∷ 14 ∷ 15 ∷ 30 ∷ 18 ∷ 20 ∷ [])) number × (bytes ≡ replicate room 0))
  -- The output buffer keeps its length.
  pub length : length bytes ≡ room

module _ (mesh : Stored) (request : StoredSelection) (room : ℕ) where
  one_of_these : OneOf (0 ∷ (check_numbers ++ (11 ∷ 12 ∷ 13 ∷ 14 ∷ 15 ∷ 30 ∷ 18 ∷ 20 ∷ []))) (take_back_number mesh request room)
  unfolding take_back_number rows table_rows request_rows selection_rows round_row
  one_of_these = one_of_them _

  refused : take_back_number mesh request room ≢ 0 → take_back_bytes mesh request room ≡ replicate room 0
  refused n = refused_bytes mesh request room (ne_eqb (take_back_number mesh request room) 0 n)

  module _ (e : take_back_number mesh request room ≡ 0) where
    pub left_within_lem : length (left_bytes mesh request) ≤ room
    left_within_lem = omega (arith, left_as_long mesh request, ((take_back_accepts mesh request room).0 e).long)

    few : ((result_of (left mesh request)).header.vertices ≤ mesh.kind.limits.vertices) × ((result_of (left mesh request)).header.records ≤ mesh.kind.limits.records)
    unfolding result_of left closed_up
    few =
        let m = tables_of mesh in
        let named = is_named (selection_of request).count (named_in request) in
        let most = ((take_back_accepts mesh request room).0 e).accepted.limits in
        (omega (arith, count_at_most (vertex_remains m named) (all_vertices m), most.vertices), omega (arith, count_at_most (record_remains m named) (all_records m), most.records))

    header_kept : Bytes mesh.base → header_from mesh.kind.format (take_back_bytes mesh request room) ≡ (result_of (left mesh request)).header
    unfolding result_of
    header_kept b = ap (header_from mesh.kind.format) (accepted_bytes mesh request room e) ∙ header_first mesh.kind.format (result_of (left mesh request)) fits _
      where
        given : HeaderFits mesh.kind.format (header_of mesh)
        given = header_fits mesh.base b mesh.kind.format

        fits : HeaderFits mesh.kind.format (result_of (left mesh request)).header
        fits =
            record {
              job = omega (arith, job_kept mesh request, given.job);
              round = round_fits (left mesh request).header.round;
              base_vertices = omega (arith, base_vertices_kept mesh request, given.base_vertices);
              vertices = omega (arith, few.0, mesh.right.vertices);
              base_records = omega (arith, base_records_kept mesh request, given.base_records);
              records = omega (arith, few.1, mesh.right.records);
            }

    mesh_in : Bytes mesh.base → MeshIn mesh.kind (take_back_bytes mesh request room) room
    unfolding result_of
    mesh_in b =
        record {
          mesh = result_of (left mesh request);
          vertices = left_vertices mesh request;
          records = left_records mesh request;
          few_vertices = few.0;
          few_records = few.1;
          bytes = accepted_bytes mesh request room e;
          as_long = left_as_long mesh request;
          within = left_within_lem;
          header = header_kept b;
        }

    pub left_accepted : Bytes mesh.base → Bytes mesh.grown → mesh.kind.two ≡ false → check_number (of_kind mesh (left_bytes mesh request) []) ≡ 0
    left_accepted b grown one =
        let x = stored_of_accepted mesh b grown ((take_back_accepts mesh request room).0 e).accepted in
        let good = accepted_good mesh x request room e in
        ap check_number (sym (in_one_buffer mesh one x request good)) ∙ sym (report_number (left_mesh mesh request)) ∙ accepted_again mesh x request good

-- Every mesh, every request and every length of the output buffer have one.
pub take_back_outcome : (mesh : Stored) (request : StoredSelection) → Bytes mesh.base → Bytes mesh.grown → (room : ℕ) → TakeBackOutcome mesh request room (take_back_number mesh request room) (take_back_bytes mesh request room)
unfolding mesh_in result_of
take_back_outcome mesh request b grown room =
    record {
      either = ⊎_elim
          (λ e. inl (e, mesh_in mesh request room e b, left_accepted mesh request room e b grown))
          (λ n. inr (⊎_elim (λ e. absurd (n e)) (λ other. other) (one_of_these mesh request room), refused mesh request room n))
          (zero_or_not (take_back_number mesh request room));
      length = ⊎_elim
          (λ e. rw (accepted_bytes mesh request room e) (simp (length-append, length-replicate) (omega (arith, left_within_lem mesh request room e))))
          (λ n. rw (refused mesh request room n) (length-replicate room 0))
          (zero_or_not (take_back_number mesh request room));
    }
