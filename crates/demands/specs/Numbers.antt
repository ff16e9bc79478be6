-- The numbers, each given exactly when, in the order in which they are tried: document 01, "Numbers we give back". What each asks is a plain statement: of a
-- stored mesh in `check_meaning/specs/Accepted`, of a selection in `Selections`, of build's lists in `Words`.
use Rattle.std.specs.Prelude.{◌≡◌, ◌↔◌, List, ℕ, ℤ}
use Rattle.stored.specs.Layout.{Stored, StoredSelection}
use Rattle.laws.specs.Order.{Giving}
use Rattle.check_refusals.specs.Check.{check_number}
use Rattle.check_meaning.specs.Exactly as Check
use Rattle.check_meaning.proofs.Exactly as CheckProved
use Rattle.check_meaning.specs.Exactly.{check_rules}
use Rattle.refine_service.specs.Refine.{refine_number}
use Rattle.demands_words.specs.Words.{ArgumentTypes}
use Rattle.demands_proofs.specs.BuildNumbers as Build
use Rattle.demands_proofs.specs.BuildNumbers.{BuildExactly}
use Rattle.demands_proofs.specs.RefineNumbers as Refine
use Rattle.demands_proofs.specs.RefineNumbers.{refine_rules, RefineAccepts}
use Rattle.demands_proofs.specs.GivenTypes.{given_by_types}

-- Check: a number exactly where every rule before it in the list holds and its own does not, and 0 exactly where all hold.
pub check_refuses : (mesh : Stored) (n : ℕ) → (check_number mesh ≡ n) ↔ Giving (check_rules mesh) n
check_refuses = CheckProved.refuses_exactly

-- Build likewise: 21, 3, 4, 5, 7, 8, 23, 20, and 0.
pub build_gives : (job : ℕ) (coordinates : List ℤ) (corners : List ℕ) (room : ℕ) → ArgumentTypes job coordinates corners → BuildExactly job coordinates corners room
build_gives job coordinates corners room types = Build.build_exactly job coordinates corners room (given_by_types job coordinates corners types)

-- Refine likewise: check's rules, those of the selection and those of the result, and 0.
pub refine_refuses : (mesh : Stored) (selection : StoredSelection) (room n : ℕ) → (refine_number mesh selection room ≡ n) ↔ Giving (refine_rules mesh selection room) n
refine_refuses = Refine.refine_refuses_exactly

pub refine_accepts : (mesh : Stored) (selection : StoredSelection) (room : ℕ) → (refine_number mesh selection room ≡ 0) ↔ RefineAccepts mesh selection room
refine_accepts = Refine.refine_accepts_all
