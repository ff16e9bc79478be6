-- Services as the demands see them: what each answers, for every input. The demands are said of any services; that ours meet them, and that the
-- impostors don't, are theorems.
use Rattle.std.specs.Prelude.{List, ℕ, ℤ}
use Rattle.stored.specs.Layout.{Stored, StoredSelection}
use Rattle.check_refusals.specs.declared.Report.{Report}
use Rattle.check_refusals.specs.Check.{check_of}
use Rattle.build_service.specs.Build.{build_number, build_bytes}
use Rattle.refine_service.specs.Refine.{refine_number, refine_bytes}

pub record Services : Type 0 where
  -- Check's number, figures and place, for a stored mesh.
  pub check : Stored → Report
  -- Build's number, for a job, coordinates, corners and an output buffer of so many bytes, and all bytes of the buffer.
  pub build : ℕ → List ℤ → List ℕ → ℕ → ℕ
  pub build_out : ℕ → List ℤ → List ℕ → ℕ → List ℕ
  -- Refine's, for a mesh, a selection and an output buffer of so many bytes, which takes the mesh in one buffer.
  pub refine : Stored → StoredSelection → ℕ → ℕ
  pub refine_out : Stored → StoredSelection → ℕ → List ℕ

-- The services of this library. The code is proved to give just these (docs/OUTCOMES.md).
abbrev pub ours : Services
ours = record { check = check_of; build = build_number; build_out = build_bytes; refine = refine_number; refine_out = refine_bytes }
