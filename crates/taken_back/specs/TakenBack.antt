-- Request nine. "The request names cut records in the selection's layout. A made vertex is taken away exactly when every record cut at it has two leaves as
-- children and all those records are named; named records that don't meet this stay cut. Records and vertices that remain close up in their order, and the
-- round rises by 1. The result is accepted by check and keeps the summed volume. [..] Refusals: 1 to 15, 18 and 20 as in refine, and 30 for a named record that
-- is uncut, in 16's place."
--
-- The words are in `demands_taken_back/specs/Words`: `GoodRequest` (one that earns none of 11 to 15, 30 and 18), `TakenBack` (what is handed back),
-- `TakenBackOrShort` (that, or 20 and zeros); and in `Words`: `left_mesh`, the mesh that is left by the definitions, and `left_bytes`, its bytes in one buffer; `round_of`; `Later`.
use Rattle.std.specs.Prelude.{◌≡◌, ◌↔◌, ◌≢◌, ◌⊎◌, false, List, [], ℕ, ◌+◌, ◌≤◌, length}
use Rattle.std.proofs.Common.{inl}
use Rattle.laws.specs.Lists.{zero_past}
use Rattle.laws.specs.Order.{Giving}
use Rattle.stored.specs.Layout.{Stored, of_kind, stored_as, StoredSelection, selection_of}
use Rattle.check_refusals.specs.Check.{check_of}
use Rattle.refine_service.specs.Refine.{refine_number}
use Rattle.takeback_service.specs.TakeBack.{take_back_number, take_back_bytes}
use Rattle.takeback_meaning.specs.Answer.{accepted_bytes}
use Rattle.cuts_names.specs.Pieces.{Node}
use Rattle.demands_words.specs.Words.{StoredMesh, RightSelectionLength, RightSelectionMark, count_in}
use Rattle.demands_taken_back.specs.Words.{GoodRequestFor, TakenBackFrom, MeetsTakenBack}
use Rattle.demands_taken_back.specs.Stored as Again
use Rattle.demands_taken_back.proofs.Stored as AgainProved
use Rattle.demands_taken_back.proofs.One.{one_taken_back}
use Rattle.taken_back.specs.Words.{left_mesh, left_bytes, round_of, Later}
use Rattle.taken_back.specs.Requests as Requests
use Rattle.taken_back.specs.Requests.{take_back_rules, TakeBackAccepts}
use Rattle.taken_back.specs.Result as Result
use Rattle.taken_back.specs.Used as Used

-- Ours takes cuts back as it is asked: for every stored mesh, every good request and every buffer; and a request is good exactly when the answer is 0 or 20.
pub ours_take_back : MeetsTakenBack take_back_number take_back_bytes
ours_take_back = record { taken_back = λ s one x request good room. Result.answered s x request good room one; good_exactly = Result.good_answered }

-- One buffer is enough to tell.
pub good_at : (s : Stored) (x : StoredMesh s) (request : StoredSelection) (room : ℕ) → GoodRequestFor x request ↔ ((take_back_number s request room ≡ 0) ⊎ (take_back_number s request room ≡ 20))
good_at = Result.good_answered_at

-- ---- what is handed back

-- The mesh that is left is what is taken back, and there is one such mesh of its kind only.
pub handed_back : (s : Stored) (x : StoredMesh s) (request : StoredSelection) → GoodRequestFor x request → TakenBackFrom x request (left_mesh s request)
handed_back = Result.result_taken_back

pub nothing_else : (s : Stored) (x : StoredMesh s) (request : StoredSelection) (base grown : List ℕ) → GoodRequestFor x request → TakenBackFrom x request (of_kind s base grown) → of_kind s base grown ≡ left_mesh s request
unfolding stored_as
nothing_else s x request base grown good t = one_taken_back s x request base grown _ _ t (handed_back s x request good)

-- In one buffer it is its bytes. Where the number is 0 the buffer holds them, and zeros past them.
pub in_one_buffer : (s : Stored) → s.kind.two ≡ false → (x : StoredMesh s) (request : StoredSelection) → GoodRequestFor x request → left_mesh s request ≡ of_kind s (left_bytes s request) []
in_one_buffer s one x request good = Result.result_in_one s x request good one

pub written : (s : Stored) (request : StoredSelection) (room : ℕ) → take_back_number s request room ≡ 0 → take_back_bytes s request room ≡ zero_past room (left_bytes s request)
written = accepted_bytes

-- "The result is accepted by check"
pub accepted_again : (s : Stored) (x : StoredMesh s) (request : StoredSelection) → GoodRequestFor x request → (check_of (left_mesh s request)).number ≡ 0
accepted_again s x request good = AgainProved.accepted_again s x request (left_mesh s request) (handed_back s x request good)

-- "and keeps the summed volume."
pub same_volume : (s : Stored) (x : StoredMesh s) (request : StoredSelection) → GoodRequestFor x request → (check_of (left_mesh s request)).sixfold ≡ (check_of s).sixfold
same_volume s x request good = AgainProved.reported_volume s x request (left_mesh s request) (handed_back s x request good)

-- 0 is answered exactly where the buffer has room for it. In one buffer it is no longer than the mesh was, so a buffer as long as the mesh is enough.
pub fits_exactly : (s : Stored) (x : StoredMesh s) (request : StoredSelection) → GoodRequestFor x request → (room : ℕ) → (take_back_number s request room ≡ 0) ↔ (length (left_bytes s request) ≤ room)
fits_exactly = Result.fits_exactly

pub no_longer : (s : Stored) → s.kind.two ≡ false → (x : StoredMesh s) (request : StoredSelection) → GoodRequestFor x request → length (left_bytes s request) ≤ length s.base
no_longer s one x request good = Result.result_no_longer s x request good one

pub enough : (s : Stored) → s.kind.two ≡ false → (x : StoredMesh s) (request : StoredSelection) → GoodRequestFor x request → (room : ℕ) → length s.base ≤ room → take_back_number s request room ≡ 0
enough s one x request good room = Result.enough s x request good room one

-- ---- where nothing goes

-- Where all cuts remain, the round alone changes.
pub nothing_gone : (s : Stored) (x : StoredMesh s) (request : StoredSelection) (good : GoodRequestFor x request) → ((n : Node) → (handed_back s x request good).set.has n ≡ x.cuts.has n) →
    left_mesh s request ≡ round_of s (x.round + 1)
unfolding stored_as
nothing_gone s x request good = Result.all_remain s x request _ _ (handed_back s x request good)

-- All remain for an empty request.
pub empty_keeps_all : (s : Stored) (x : StoredMesh s) (request : StoredSelection) (good : GoodRequestFor x request) → count_in request ≡ 0 → (n : Node) → (handed_back s x request good).set.has n ≡ x.cuts.has n
unfolding stored_as
empty_keeps_all s x request good = Result.empty_keeps_all s x request _ _ (handed_back s x request good)

pub empty_request : (s : Stored) (x : StoredMesh s) (request : StoredSelection) → GoodRequestFor x request → count_in request ≡ 0 → left_mesh s request ≡ round_of s (x.round + 1)
empty_request s x request good none = nothing_gone s x request good (empty_keeps_all s x request good none)

-- ---- one job, one round, one use

-- A whole request of another job gets 13 from a stored mesh, and one of another round 14, with any buffer; what is accepted is of this job and this round.
pub another_job_lem : (s : Stored) (x : StoredMesh s) (request : StoredSelection) (room : ℕ) → RightSelectionLength request → RightSelectionMark request → (selection_of request).job ≢ x.job → take_back_number s request room ≡ 13
another_job_lem = Used.gets_13

pub another_round_lem : (s : Stored) (x : StoredMesh s) (request : StoredSelection) (room : ℕ) → RightSelectionLength request → RightSelectionMark request → (selection_of request).job ≡ x.job → (selection_of request).round ≢ x.round →
    take_back_number s request room ≡ 14
another_round_lem = Used.gets_14

pub accepted_good : (s : Stored) (x : StoredMesh s) (request : StoredSelection) (room : ℕ) → take_back_number s request room ≡ 0 → GoodRequestFor x request
accepted_good s x request room e = (good_at s x request room).1 (inl e)

-- What is handed back is a later mesh of the same job.
pub later_again : (s : Stored) (x : StoredMesh s) (request : StoredSelection) → GoodRequestFor x request → Later s (left_mesh s request)
later_again s x request good = Used.taken_back_later s x request (left_mesh s request) (handed_back s x request good)

-- A request that was used gets 14 from every later mesh of the job, with any buffer: it never comes round again, since 18 stops at the last round.
pub used_is_dead : (s : Stored) (request : StoredSelection) (room : ℕ) → take_back_number s request room ≡ 0 → (later : Stored) → Later s later → (room' : ℕ) → take_back_number later request room' ≡ 14
used_is_dead = Used.used_here_here

-- It gets 14 from refine too, and a selection that refine has used gets 14 here.
pub dead_for_refine : (s : Stored) (request : StoredSelection) (room : ℕ) → take_back_number s request room ≡ 0 → (later : Stored) → Later s later → (room' : ℕ) → refine_number later request room' ≡ 14
dead_for_refine = Used.used_here_there

pub dead_by_refine : (s : Stored) (selection : StoredSelection) (room : ℕ) → refine_number s selection room ≡ 0 → (later : Stored) → Later s later → (room' : ℕ) → take_back_number later selection room' ≡ 14
dead_by_refine = Used.used_there_here

-- ---- the numbers

-- Each exactly where every rule before it in the list holds and its own does not, and 0 exactly where all hold: check's rules, 11 to 15, 30, 18, and 20.
pub take_back_refuses : (mesh : Stored) (request : StoredSelection) (room n : ℕ) → (take_back_number mesh request room ≡ n) ↔ Giving (take_back_rules mesh request room) n
take_back_refuses = Requests.take_back_refuses_exactly

pub take_back_accepts : (mesh : Stored) (request : StoredSelection) (room : ℕ) → (take_back_number mesh request room ≡ 0) ↔ TakeBackAccepts mesh request room
take_back_accepts = Requests.take_back_accepts
