-- K, the piece worked by hand, of rounds 0 and 1 as stored meshes, with an empty selection and one that names record 0: what the impostors are tried on.
-- Assumes nothing.
use Rattle.std.specs.Prelude.{◌≡◌, refl, Bool, true, ◌&&◌, List, [], ◌∷◌, ℕ, zero, suc, ◌<◌, length, get_or, ℤ, pos, ltb}
use Rattle.std.proofs.Common.{sym, ◌∙◌, arith, ltb-true}
use Rattle.laws.specs.Below.{and_left, and_right}
use Rattle.laws.specs.Lists.{zero_past, Bytes, bytes_none, bytes_cons}
use Rattle.stored.specs.Layout.{stored1, header_of, StoredSelection, selection1}
use Rattle.mesh_tables.specs.Tables.{tables_of}
use Rattle.build_service.specs.Build.{build_number, build_bytes}
use Rattle.build_meaning.specs.Rows.{computed as build_computed}
use Rattle.refine_service.specs.Refine.{refine_number, refine_bytes}
use Rattle.refine_meaning.specs.Rows.{k_coordinates, k_corners, K, k_of, selecting, computed as refine_computed}
use Rattle.demands_words.specs.Words.{I16, ArgumentTypes, StoredMesh, BuildAccepts, count_in}
use Rattle.demands_proofs.specs.RefineNumbers.{refine_accepts_all}
use Rattle.demands_proofs.specs.StoredOf.{stored_of_accepted}
use Rattle.demands_proofs.specs.GivenTypes.{given_by_types}
use Rattle.demands_proofs.specs.BuildNumbers.{build_exactly}
use Rattle.demands_proofs.specs.FromStored.{stored_round}

-- ---- build's lists

abbrev AllI16 : List ℤ → Type 0
AllI16 [] = Unit {0}
AllI16 (z ∷ rest) = I16 z × AllI16 rest

each_i16 : (l : List ℤ) → AllI16 l → (k : ℕ) → k < length l → I16 (get_or l k (pos 0))
each_i16 [] h k l = absurd (omega arith)
each_i16 (z ∷ rest) h zero l = h.0
each_i16 (z ∷ rest) h (suc k) l = each_i16 rest h.1 k (omega arith)

abbrev AllU16 : List ℕ → Type 0
AllU16 [] = Unit {0}
AllU16 (n ∷ rest) = (n < 65536) × AllU16 rest

each_u16 : (l : List ℕ) → AllU16 l → (k : ℕ) → k < length l → get_or l k 0 < 65536
each_u16 [] h k l = absurd (omega arith)
each_u16 (n ∷ rest) h zero l = h.0
each_u16 (n ∷ rest) h (suc k) l = each_u16 rest h.1 k (omega arith)

near : I16 (pos 0)
near = record { least = record { le = tt }; greatest = record { le = tt } }

far : I16 (pos 64)
far = record { least = record { le = tt }; greatest = record { le = tt } }

pub k_types : (job : ℕ) → job < 4294967296 → ArgumentTypes job k_coordinates k_corners
k_types job small =
    record {
      u32_job = small;
      i16_coordinates = each_i16 k_coordinates (near, (near, (near, (far, (near, (near, (far, (far, (near, (far, (far, (far, tt))))))))))));
      u16_corners = each_u16 k_corners (omega arith, (omega arith, (omega arith, (omega arith, tt))));
    }

-- Build accepts K for every job: nothing that it asks looks at the job.
built_7 : build_number 7 k_coordinates k_corners 77 ≡ 0
unfolding build_computed
built_7 = refl

pub k_accepts : BuildAccepts k_coordinates k_corners 77
k_accepts = (build_exactly 7 k_coordinates k_corners 77 (given_by_types 7 k_coordinates k_corners (k_types 7 (omega arith)))).gives_0.0 built_7

-- "job (u32) at 5"
pub k_job_7 : get_or (build_bytes 7 k_coordinates k_corners 77) 5 0 ≡ 7
unfolding build_computed
k_job_7 = refl

pub k_job_8 : get_or (build_bytes 8 k_coordinates k_corners 77) 5 0 ≡ 8
unfolding build_computed
k_job_8 = refl

-- ---- stored meshes

abbrev pub k_next : List ℕ
k_next = k_of 1

-- Nothing is named; record 0 is.
abbrev pub none_named : ℕ → StoredSelection
none_named round = selection1 (selecting 7 round 0 [])

abbrev pub first_named : StoredSelection
first_named = selection1 (selecting 7 1 1 (0 ∷ []))

-- Refine accepts them, with just the room that the result takes.
pub k_raised : refine_number (stored1 K) (none_named 0) 77 ≡ 0
unfolding refine_computed
k_raised = refl

pub k_raised_again : refine_number (stored1 k_next) (none_named 1) 77 ≡ 0
unfolding refine_computed
k_raised_again = refl

pub k_next_cut : refine_number (stored1 k_next) first_named 121 ≡ 0
unfolding refine_computed
k_next_cut = refl

-- "round (u16) at 9": it rises, and a copy has the old one.
pub k_copied_round : get_or (zero_past 77 K) 9 0 ≡ 0
unfolding refine_computed
k_copied_round = refl

pub k_raised_round : get_or (refine_bytes (stored1 K) (none_named 0) 77) 9 0 ≡ 1
unfolding refine_computed
k_raised_round = refl

pub k_raised_again_round : get_or (refine_bytes (stored1 k_next) (none_named 1) 77) 9 0 ≡ 2
unfolding refine_computed
k_raised_again_round = refl

-- How many records the selections name.
pub none_counted : count_in (none_named 0) ≡ 0
unfolding refine_computed
none_counted = refl

pub first_counted : count_in first_named ≡ 1
unfolding refine_computed
first_counted = refl

abbrev pub small : List ℕ → Bool
small [] = true
small (x ∷ rest) = ltb x 256 && small rest

pub small_bytes : (l : List ℕ) → small l ≡ true → Bytes l
small_bytes [] t = bytes_none
small_bytes (x ∷ rest) t = bytes_cons (ltb-true x 256 (and_left (ltb x 256) (small rest) t)) (small_bytes rest (and_right (ltb x 256) (small rest) t))

k_small : small K ≡ true
unfolding refine_computed
k_small = refl

k_next_small : small k_next ≡ true
unfolding refine_computed
k_next_small = refl

pub k_stored : StoredMesh (stored1 K)
k_stored = stored_of_accepted (stored1 K) (small_bytes K k_small) bytes_none ((refine_accepts_all (stored1 K) (none_named 0) 77).0 k_raised).accepted

pub k_next_stored : StoredMesh (stored1 k_next)
k_next_stored = stored_of_accepted (stored1 k_next) (small_bytes k_next k_next_small) bytes_none ((refine_accepts_all (stored1 k_next) first_named 121).0 k_next_cut).accepted

-- They are of rounds 0 and 1.
header_0 : (header_of (stored1 K)).round ≡ 0
unfolding refine_computed
header_0 = refl

header_1 : (header_of (stored1 k_next)).round ≡ 1
unfolding refine_computed
header_1 = refl

pub k_first_round : k_stored.round ≡ 0
unfolding tables_of
k_first_round = sym (stored_round (stored1 K) k_stored) ∙ header_0

pub k_later_round : 0 < k_next_stored.round
unfolding tables_of
k_later_round = let round = stored_round (stored1 k_next) k_next_stored in omega (arith, round, header_1)
