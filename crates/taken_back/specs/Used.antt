-- A request belongs to one job and one round, and is used once. Assumes nothing.
use Rattle.std.specs.Prelude.{◌≡◌, ◌≢◌, ℕ}
use Rattle.std.proofs.Math.Path.{sym}
use Rattle.std.proofs.Common.{◌∙◌, ⊎_elim, arith}
use Rattle.laws.specs.Below.{either}
use Rattle.stored.specs.Layout.{Stored, header_of, StoredSelection, selection_of}
use Rattle.mesh_tables.specs.Tables.{tables_of}
use Rattle.check_refusals.specs.Check.{check_number}
use Rattle.check_refusals.specs.Rows.{report_number}
use Rattle.refine_selection.specs.Selected.{another_job, another_round}
use Rattle.refine_service.specs.Refine.{refine_number}
use Rattle.refine_meaning.specs.Answer as Refine
use Rattle.takeback_service.specs.TakeBack.{take_back_number}
use Rattle.takeback_meaning.specs.Answer as TakeBack
use Rattle.demands_words.specs.Words.{StoredMesh, RightSelectionLength, RightSelectionMark}
use Rattle.demands_proofs.specs.Selections.{SameJob, SameRound, length_passes, mark_passes, rule13_holds, rule14_holds}
use Rattle.demands_proofs.specs.RefineNumbers.{refine_accepts_all}
use Rattle.demands_proofs.specs.FromStored as From
use Rattle.demands_taken_back.specs.Words.{TakenBackFrom}
use Rattle.demands_taken_back.proofs.Stored.{again, accepted_again}
use Rattle.taken_back.specs.Words.{Later}
use Rattle.taken_back.specs.Requests.{take_back_accepts}
use Rattle.taken_back.specs.Result.{check_accepts}

-- ---- of another job, of another round

module _ (mesh : Stored) (t : StoredSelection) (room : ℕ) (accepted : check_number mesh ≡ 0) (whole : RightSelectionLength t) (marked : RightSelectionMark t) where
  other_job_13 : (selection_of t).job ≢ (header_of mesh).job → take_back_number mesh t room ≡ 13
  unfolding tables_of
  other_job_13 other =
      TakeBack.another_job_refused mesh t room accepted ((length_passes t).1 whole) ((mark_passes t).1 marked)
      (⊎_elim (λ e. e) (λ f. absurd (other ((rule13_holds (tables_of mesh) t).0 f))) (either (another_job (header_of mesh) (selection_of t))))

  module _ (job : (selection_of t).job ≡ (header_of mesh).job) (other : (selection_of t).round ≢ (header_of mesh).round) where
    other_round_14 : take_back_number mesh t room ≡ 14
    unfolding tables_of
    other_round_14 =
        TakeBack.another_round_refused mesh t room accepted ((length_passes t).1 whole) ((mark_passes t).1 marked)
        ((rule13_holds (tables_of mesh) t).1 job)
        (⊎_elim (λ e. e) (λ f. absurd (other ((rule14_holds (tables_of mesh) t).0 f))) (either (another_round (header_of mesh) (selection_of t))))

    refine_14 : refine_number mesh t room ≡ 14
    unfolding tables_of
    refine_14 =
        Refine.another_round_refused mesh t room accepted ((length_passes t).1 whole) ((mark_passes t).1 marked)
        ((rule13_holds (tables_of mesh) t).1 job)
        (⊎_elim (λ e. e) (λ f. absurd (other ((rule14_holds (tables_of mesh) t).0 f))) (either (another_round (header_of mesh) (selection_of t))))

module _ (s : Stored) (x : StoredMesh s) (request : StoredSelection) (room : ℕ) (whole : RightSelectionLength request) (marked : RightSelectionMark request) where
  pub gets_13 : (selection_of request).job ≢ x.job → take_back_number s request room ≡ 13
  unfolding tables_of
  gets_13 other = other_job_13 s request room (check_accepts s x) whole marked (λ e. other (e ∙ From.stored_job s x))

  pub gets_14 : (selection_of request).job ≡ x.job → (selection_of request).round ≢ x.round → take_back_number s request room ≡ 14
  unfolding tables_of
  gets_14 same other = other_round_14 s request room (check_accepts s x) whole marked (same ∙ sym (From.stored_job s x)) (λ e. other (e ∙ From.stored_round s x))

-- ---- used once

-- What is handed back is a later mesh of the same job.
pub taken_back_later : (s : Stored) (x : StoredMesh s) (request : StoredSelection) (mesh : Stored) → TakenBackFrom x request mesh → Later s mesh
unfolding tables_of
taken_back_later s x request mesh t =
    let after = again s x request mesh t in
    record {
      accepted = accepted_again s x request mesh t;
      same_job = From.stored_job mesh after ∙ sym (From.stored_job s x);
      higher_round = omega (arith, From.stored_round mesh after, From.stored_round s x);
    }

-- What was used on s, by either service, gets 14 from both on every later mesh.
module _ (s : Stored) (t : StoredSelection) (whole : RightSelectionLength t) (marked : RightSelectionMark t) (job : SameJob (tables_of s) t) (round : SameRound (tables_of s) t)
    (later : Stored) (is : Later s later) (room : ℕ)
  where
    accepted : check_number later ≡ 0
    accepted = sym (report_number later) ∙ is.accepted

    this_job : (selection_of t).job ≡ (header_of later).job
    unfolding tables_of
    this_job = job ∙ sym is.same_job

    other_round : (selection_of t).round ≢ (header_of later).round
    unfolding tables_of
    other_round e = omega (arith, e, round, is.higher_round)

    dead_here : take_back_number later t room ≡ 14
    dead_here = other_round_14 later t room accepted whole marked this_job other_round

    dead_there : refine_number later t room ≡ 14
    dead_there = refine_14 later t room accepted whole marked this_job other_round

module _ (s : Stored) (t : StoredSelection) (room : ℕ) where
  pub used_here_here : take_back_number s t room ≡ 0 → (later : Stored) → Later s later → (room' : ℕ) → take_back_number later t room' ≡ 14
  used_here_here e = let g = ((take_back_accepts s t room).0 e).good in dead_here s t g.length g.mark g.job g.round

  pub used_here_there : take_back_number s t room ≡ 0 → (later : Stored) → Later s later → (room' : ℕ) → refine_number later t room' ≡ 14
  used_here_there e = let g = ((take_back_accepts s t room).0 e).good in dead_there s t g.length g.mark g.job g.round

  pub used_there_here : refine_number s t room ≡ 0 → (later : Stored) → Later s later → (room' : ℕ) → take_back_number later t room' ≡ 14
  used_there_here e = let g = ((refine_accepts_all s t room).0 e).good in dead_here s t g.length g.mark g.job g.round
