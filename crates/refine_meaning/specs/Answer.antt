-- What refine's answer says, for every mesh, every selection and every length of the output buffer.
use Rattle.std.specs.Prelude.{◌≡◌, true, false, ℕ, ◌+◌, ◌<◌, replicate, eqb}
use Rattle.std.proofs.Math.Path.{sym, ap}
use Rattle.std.proofs.Common.{◌∙◌}
use Rattle.laws.specs.Lists.{zero_past}
use Rattle.laws.specs.Order.{first_broken}
use Rattle.stored.specs.Layout.{last_round, round_after, Stored, header_of, mesh_bytes, StoredSelection, right_selection_length, right_selection_mark, selection_of, named_in}
use Rattle.stored.specs.Fitting.{round_rises}
use Rattle.mesh_tables.specs.Tables.{tables_of}
use Rattle.check_refusals.specs.Check.{check_number}
use Rattle.refine_selection.specs.Selected.{wrong_selection_length, wrong_selection_mark, another_job, another_round, selection_rows, is_named}
use Rattle.refine_pass.proofs.Stays.{job_stays, round_stays, base_vertices_stay, base_records_stay}
use Rattle.refine_service.specs.Refine.{closed, result_of, refine_selection_rows, refine_number, refine_bytes}
use Rattle.refine_service.specs.Order.{selection_number}
use Rattle.refine_service.specs.Storing.{refine_selected}

module _ (mesh : Stored) (selection : StoredSelection) (room : ℕ) where
  -- "After a refusal the output buffer is zero throughout"
  pub refused_bytes : eqb (refine_number mesh selection room) 0 ≡ false → refine_bytes mesh selection room ≡ replicate room 0
  unfolding refine_bytes
  refused_bytes e = rw e

  -- "after acceptance it is zero past the result."
  pub accepted_bytes : refine_number mesh selection room ≡ 0 →
      refine_bytes mesh selection room ≡ zero_past room (mesh_bytes mesh.kind.format (result_of (closed mesh selection)))
  unfolding refine_bytes
  accepted_bytes e = rw e

  -- On an accepted mesh a whole selection of another job gets 13, whatever else it says.
  module _ (accepted : check_number mesh ≡ 0) (whole : right_selection_length selection ≡ true) (marked : right_selection_mark selection ≡ true) where
    pub another_job_refused : another_job (header_of mesh) (selection_of selection) ≡ true → refine_number mesh selection room ≡ 13
    unfolding tables_of selection_number refine_selection_rows selection_rows first_broken wrong_selection_length wrong_selection_mark
    another_job_refused e =
        let found : 13 ≡ selection_number (tables_of mesh) selection = rw (whole, marked, e) in
        sym (found ∙ (refine_selected mesh selection room accepted (rw (← found))).0)

    -- And one of this job and another round 14: a choice is dead as soon as a refinement is accepted.
    pub another_round_refused : another_job (header_of mesh) (selection_of selection) ≡ false → another_round (header_of mesh) (selection_of selection) ≡ true → refine_number mesh selection room ≡ 14
    unfolding tables_of selection_number refine_selection_rows selection_rows first_broken wrong_selection_length wrong_selection_mark
    another_round_refused j e =
        let found : 14 ≡ selection_number (tables_of mesh) selection = rw (whole, marked, j, e) in
        sym (found ∙ (refine_selected mesh selection room accepted (rw (← found))).0)

-- "The round rises by 1"; the job and the base counts stay.
module _ (mesh : Stored) (selection : StoredSelection) where
  pub job_kept : (result_of (closed mesh selection)).header.job ≡ (header_of mesh).job
  unfolding result_of closed tables_of
  job_kept = job_stays mesh.kind.limits (is_named (selection_of selection).count (named_in selection)) (tables_of mesh)

  pub round_next : (header_of mesh).round < last_round → (result_of (closed mesh selection)).header.round ≡ (header_of mesh).round + 1
  unfolding result_of closed tables_of
  round_next l = ap round_after (round_stays mesh.kind.limits (is_named (selection_of selection).count (named_in selection)) (tables_of mesh)) ∙ round_rises (header_of mesh).round l

  pub base_vertices_kept : (result_of (closed mesh selection)).header.base_vertices ≡ (header_of mesh).base_vertices
  unfolding result_of closed tables_of
  base_vertices_kept = base_vertices_stay mesh.kind.limits (is_named (selection_of selection).count (named_in selection)) (tables_of mesh)

  pub base_records_kept : (result_of (closed mesh selection)).header.base_records ≡ (header_of mesh).base_records
  unfolding result_of closed tables_of
  base_records_kept = base_records_stay mesh.kind.limits (is_named (selection_of selection).count (named_in selection)) (tables_of mesh)
