-- What the user asked of the answer of taking cuts back, for every input, with no hypothesis left.
use Rattle.std.specs.Prelude.{◌≡◌, ◌↔◌, ◌≢◌, ◌⊎◌, false, List, [], ℕ, ◌≤◌, length}
use Rattle.std.proofs.Common.{sym, subst₂}
use Rattle.laws.specs.Lists.{zero_past, Bytes}
use Rattle.stored.specs.Layout.{Stored, of_kind, StoredSelection, selection_of}
use Rattle.check_refusals.specs.Check.{check_of}
use Rattle.takeback_service.specs.TakeBack.{TakeBackOutcomeIs}
use Rattle.demands_words.specs.Words.{StoredMesh, RightSelectionLength, RightSelectionMark}
use Rattle.demands_taken_back.specs.Words.{GoodRequestFor, TakenBackOrShortFrom}
use Rattle.face_to_face.specs.FaceToFace.{Meets, face_to_face_lem}
use Rattle.taken_back.specs.Words.{left_mesh, left_bytes}
use Rattle.taken_back.specs.Outcome.{TakeBackOutcome, take_back_outcome, left_within_lem, left_accepted}
use Rattle.taken_back.specs.TakenBack.{ours_take_back, good_at, written, accepted_again, same_volume, fits_exactly, enough, another_job_lem, another_round_lem}

pub record TakeBackPromise (mesh : Stored) (request : StoredSelection) (room number : ℕ) (out : List ℕ) : Type 0 where
  -- demand 1
  pub outcome : TakeBackOutcome mesh request room number out
  -- a request belongs to one job and one round: a whole one of another job gets 13, one of another round 14; and one is good exactly where the number is 0 or 20
  pub another_job_lem : (x : StoredMesh mesh) → RightSelectionLength request → RightSelectionMark request → (selection_of request).job ≢ x.job → number ≡ 13
  pub another_round_lem : (x : StoredMesh mesh) → RightSelectionLength request → RightSelectionMark request → (selection_of request).job ≡ x.job → (selection_of request).round ≢ x.round → number ≡ 14
  pub good : (x : StoredMesh mesh) → GoodRequestFor x request ↔ ((number ≡ 0) ⊎ (number ≡ 20))
  -- request nine: from a stored mesh and a good request what is taken back, or 20 and zeros; accepted exactly where the mesh that is left fits, as it does in a
  -- buffer as long as the mesh was; and that mesh, to the byte
  pub taken_back : (x : StoredMesh mesh) → GoodRequestFor x request → TakenBackOrShortFrom x request number out room
  pub exactly : (x : StoredMesh mesh) → GoodRequestFor x request → (number ≡ 0) ↔ (length (left_bytes mesh request) ≤ room)
  pub enough : (x : StoredMesh mesh) → GoodRequestFor x request → length mesh.base ≤ room → number ≡ 0
  pub written : number ≡ 0 → out ≡ zero_past room (left_bytes mesh request)
  -- "The result is accepted by check and keeps the summed volume."
  pub accepted_again : (x : StoredMesh mesh) → GoodRequestFor x request → (check_of (left_mesh mesh request)).number ≡ 0
  pub same_volume : (x : StoredMesh mesh) → GoodRequestFor x request → (check_of (left_mesh mesh request)).sixfold ≡ (check_of mesh).sixfold
  -- request thirteen
  pub meets : number ≡ 0 → Meets (λ bytes. of_kind mesh bytes []) out room

pub take_back_promised : (mesh : Stored) → mesh.kind.two ≡ false → (request : StoredSelection) (room number : ℕ) (out : List ℕ) → Bytes mesh.base → Bytes mesh.grown → TakeBackOutcomeIs mesh request room number out → TakeBackPromise mesh request room number out
take_back_promised mesh one request room number out bytes grown is =
    subst₂ (TakeBackPromise mesh request room) (sym is.number) (sym is.bytes)
    (record {
      outcome = take_back_outcome mesh request bytes grown room;
      another_job_lem = λ x. another_job_lem mesh x request room;
      another_round_lem = λ x. another_round_lem mesh x request room;
      good = λ x. good_at mesh x request room;
      taken_back = λ x good. ours_take_back.taken_back mesh one x request good room;
      exactly = λ x good. fits_exactly mesh x request good room;
      enough = λ x good. enough mesh one x request good room;
      written = written mesh request room;
      accepted_again = λ x. accepted_again mesh x request;
      same_volume = λ x. same_volume mesh x request;
      meets = λ e.
          let accepted = left_accepted mesh request room e bytes grown one in
          record { mesh = left_bytes mesh request; fits_room = left_within_lem mesh request room e; buffer = written mesh request room e; accepted = accepted; meets = face_to_face_lem _ accepted };
    })
