-- What taking cuts back answers, for every mesh of every kind, every request and every length of the output buffer.
use Rattle.std.specs.Prelude.{◌≡◌, true, false, ℕ, ◌+◌, ◌<◌, replicate, eqb}
use Rattle.std.proofs.Math.Path.{refl, sym}
use Rattle.std.proofs.Common.{◌∙◌}
use Rattle.laws.specs.Lists.{zero_past}
use Rattle.laws.specs.Order.{first_broken}
use Rattle.stored.specs.Layout.{last_round, Stored, header_of, mesh_bytes, StoredSelection, right_selection_length, right_selection_mark, selection_of}
use Rattle.stored.specs.Fitting.{round_rises}
use Rattle.mesh_tables.specs.Tables.{tables_of}
use Rattle.check_refusals.specs.Check.{check_number}
use Rattle.refine_selection.specs.Selected.{wrong_selection_length, wrong_selection_mark, another_job, another_round, selection_rows}
use Rattle.refine_service.specs.Refine.{result_of}
use Rattle.takeback_remains.specs.Remains.{closed_up}
use Rattle.takeback_service.specs.TakeBack.{left, request_rows, take_back_number, take_back_bytes}
use Rattle.takeback_service.specs.Order.{request_number, request_refused}

module _ (mesh : Stored) (request : StoredSelection) (room : ℕ) where
  -- "After a refusal the output buffer is zero throughout"
  pub refused_bytes : eqb (take_back_number mesh request room) 0 ≡ false → take_back_bytes mesh request room ≡ replicate room 0
  unfolding take_back_bytes
  refused_bytes e = rw e

  -- "after acceptance it is zero past the result."
  pub accepted_bytes : take_back_number mesh request room ≡ 0 → take_back_bytes mesh request room ≡ zero_past room (mesh_bytes mesh.kind.format (result_of (left mesh request)))
  unfolding take_back_bytes
  accepted_bytes e = rw e

  -- On an accepted mesh a whole request of another job gets 13, whatever else it says.
  module _ (accepted : check_number mesh ≡ 0) (whole : right_selection_length request ≡ true) (marked : right_selection_mark request ≡ true) where
    pub another_job_refused : another_job (header_of mesh) (selection_of request) ≡ true → take_back_number mesh request room ≡ 13
    unfolding tables_of request_number request_rows selection_rows first_broken wrong_selection_length wrong_selection_mark
    another_job_refused e =
        let found : 13 ≡ request_number (tables_of mesh) request = rw (whole, marked, e) in
        sym (found ∙ (request_refused mesh request room accepted (rw (← found))).0)

    -- And one of this job and another round 14: a request is dead as soon as the round has risen.
    pub another_round_refused : another_job (header_of mesh) (selection_of request) ≡ false → another_round (header_of mesh) (selection_of request) ≡ true → take_back_number mesh request room ≡ 14
    unfolding tables_of request_number request_rows selection_rows first_broken wrong_selection_length wrong_selection_mark
    another_round_refused j e =
        let found : 14 ≡ request_number (tables_of mesh) request = rw (whole, marked, j, e) in
        sym (found ∙ (request_refused mesh request room accepted (rw (← found))).0)

-- "the round rises by 1"; the job and the base counts stay.
module _ (mesh : Stored) (request : StoredSelection) where
  pub job_kept : (result_of (left mesh request)).header.job ≡ (header_of mesh).job
  unfolding result_of left closed_up tables_of
  job_kept = refl

  pub round_next : (header_of mesh).round < last_round → (result_of (left mesh request)).header.round ≡ (header_of mesh).round + 1
  unfolding result_of left closed_up tables_of
  round_next l = round_rises (header_of mesh).round l

  pub base_vertices_kept : (result_of (left mesh request)).header.base_vertices ≡ (header_of mesh).base_vertices
  unfolding result_of left closed_up tables_of
  base_vertices_kept = refl

  pub base_records_kept : (result_of (left mesh request)).header.base_records ≡ (header_of mesh).base_records
  unfolding result_of left closed_up tables_of
  base_records_kept = refl
