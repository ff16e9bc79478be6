-- The words of the page `TakenBack`, besides those of `demands_taken_back/specs/Words`.
use Rattle.std.specs.Prelude.{◌≡◌, List, ◌++◌, ℕ, ◌<◌, take, drop}
use Rattle.stored.specs.Layout.{u16_bytes, mesh_bytes, Stored, of_kind, header_of, stored_as, StoredSelection}
use Rattle.check_refusals.specs.Check.{check_of}
use Rattle.refine_service.specs.Refine.{result_of}
use Rattle.takeback_service.specs.TakeBack.{left}

-- The mesh that is left of a mesh by a request, of the same kind; and as bytes in one buffer.
abbrev pub left_mesh : Stored → StoredSelection → Stored
left_mesh mesh request = stored_as mesh.kind mesh.right (result_of (left mesh request))

abbrev pub left_bytes : Stored → StoredSelection → List ℕ
left_bytes mesh request = mesh_bytes mesh.kind.format (result_of (left mesh request))

-- The mesh's bytes with this round: "round (u16) at 9".
abbrev pub with_round : List ℕ → ℕ → List ℕ
with_round s round = take 9 s ++ (u16_bytes round ++ drop 11 s)

abbrev pub round_of : Stored → ℕ → Stored
round_of s round = of_kind s (with_round s.base round) s.grown

-- A later mesh of the same job: check accepts it, and its round is higher.
pub record Later (s later : Stored) : Type 0 where
  pub accepted : (check_of later).number ≡ 0
  pub same_job : (header_of later).job ≡ (header_of s).job
  pub higher_round : (header_of s).round < (header_of later).round
