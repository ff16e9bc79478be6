-- Request thirteen. "A mesh without hanging nodes can fail to meet face to face (document 002, figure 6); the labs want it shown that ours don't. For every
-- accepted mesh: each face of a leaf is in exactly two leaves, or it is in one leaf and lies in a base face that is in one base record only; and two leaves
-- that share a face mark it alike." The words are `Words`.
use Rattle.std.specs.Prelude.{◌≡◌, false, List, [], ℕ, ◌≤◌, length, ℤ}
use Rattle.std.proofs.Common.{sym, ◌∙◌}
use Rattle.laws.specs.Lists.{zero_past, Bytes}
use Rattle.stored.specs.Layout.{Stored, of_kind, stored1, StoredSelection}
use Rattle.mesh_tables.specs.Tables.{tables_of}
use Rattle.check_refusals.specs.Check.{check_number}
use Rattle.check_refusals.specs.Rows.{report_number}
use Rattle.check_meaning.proofs.Exactly.{accepts_exactly}
use Rattle.build_service.specs.Build.{plain_bytes, build_number, build_bytes}
use Rattle.build_meaning.specs.Accepts.{passed, check_accepts}
use Rattle.build_meaning.specs.Output as Build
use Rattle.refine_service.specs.Refine.{refine_number, refine_bytes}
use Rattle.demands_words.specs.Words.{ArgumentTypes}
use Rattle.demands_proofs.specs.GivenTypes.{given_by_types}
use Rattle.demands_proofs.specs.RefineNumbers.{refine_accepts_all}
use Rattle.demands_proofs.specs.StoredOf.{stored_of_accepted}
use Rattle.demands.specs.Demand3.{any_room}
use Rattle.demands.proofs.Demand3.{accepted_again}
use Rattle.face_to_face.specs.Words.{FaceToFace}
use Rattle.face_to_face.specs.Carried.{accepted_meets}

-- For every accepted mesh.
pub face_to_face_lem : (s : Stored) → check_number s ≡ 0 → FaceToFace (tables_of s)
face_to_face_lem s e = accepted_meets s ((accepts_exactly s).0 e)

-- A buffer of so many bytes holds a mesh that meets face to face, and zeros past it: read as these bytes are.
pub record Meets (read : List ℕ → Stored) (bytes : List ℕ) (room : ℕ) : Type 0 where
  pub mesh : List ℕ
  pub fits_room : length mesh ≤ room
  pub buffer : bytes ≡ zero_past room mesh
  pub accepted : check_number (read mesh) ≡ 0
  pub meets : FaceToFace (tables_of (read mesh))

-- So it holds of whatever build accepts, whatever the length of the buffer. `ArgumentTypes` says what the types of the arguments say: the job is a u32, the
-- coordinates are i16, the corners u16.
pub built_meets : (job : ℕ) (coordinates : List ℤ) (corners : List ℕ) → ArgumentTypes job coordinates corners → (room : ℕ) → build_number job coordinates corners room ≡ 0 →
    Meets stored1 (build_bytes job coordinates corners room) room
built_meets job coordinates corners types room e =
    let accepted = check_accepts job coordinates corners room (given_by_types job coordinates corners types) e in
    record { mesh = plain_bytes job coordinates corners; fits_room = (passed job coordinates corners room e).fits; buffer = Build.accepted_bytes job coordinates corners room e; accepted = accepted; meets = face_to_face_lem _ accepted }

-- And of whatever refine accepts of a kind in one buffer. `Bytes` says that its elements are bytes, as those of a `&[u8]` are.
pub refined_meets : (s : Stored) → s.kind.two ≡ false → (selection : StoredSelection) → Bytes s.base → Bytes s.grown → (room : ℕ) → refine_number s selection room ≡ 0 →
    Meets (λ mesh. of_kind s mesh []) (refine_bytes s selection room) room
refined_meets s one selection bytes grown room e =
    let x = stored_of_accepted s bytes grown ((refine_accepts_all s selection room).0 e).accepted in
    let r = any_room s one x selection room e in
    let accepted = accepted_again s x selection (refine_bytes s selection room) room r in
    record { mesh = r.mesh; fits_room = r.fits_room; buffer = r.written; accepted = sym (report_number (of_kind s r.mesh [])) ∙ accepted; meets = face_to_face_lem _ (sym (report_number (of_kind s r.mesh [])) ∙ accepted) }
