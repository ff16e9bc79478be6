-- Request three, "the solver wants handedness". "The volume service must return the signed determinant, positive for right-handed [..]. State that a child's
-- signed value is exactly half of its parent's. Build takes a left-handed piece by exchanging its last two corners before marking. Demand 2's base mesh is
-- then right-handed."
--
-- The words are in `Words`: `signed_of` is the determinant, `signed_at` that of the piece at a node; a right piece of a base mesh has a positive one. That check
-- gives 22 exactly where a base record's is negative, and rules 1 to 5 hold, is `refuses_exactly` (check_meaning/specs/Exactly).
use Rattle.std.specs.Prelude.{◌≡◌, refl, List, [], ◌∷◌, ℕ, ◌+◌, ◌<◌, ℤ, pos, ◌*ℤ◌, ◌<ℤ◌}
use Rattle.std.proofs.lemmas.List.Edits.{sets}
use Rattle.stored.specs.Layout.{Stored, stored1}
use Rattle.mesh_tables.specs.Tables.{tables_of, all_records, signed_at}
use Rattle.check_refusals.specs.Check.{check_number}
use Rattle.check_meaning.specs.Accepted.{Cut, first_child}
use Rattle.check_meaning.proofs.Exactly.{accepts_exactly}
use Rattle.check_meaning.specs.Cuts.{stored_four}
use Rattle.check_meaning.specs.Volumes.{signed}
use Rattle.check_meaning.proofs.Volumes.{children_halve_signed, every_right_handed}
use Rattle.build_service.specs.Build.{build_number, build_bytes}
use Rattle.build_meaning.specs.Rows.{computed as build_computed}
use Rattle.refine_meaning.specs.Rows.{k_coordinates, K, computed as refine_computed}
use Rattle.cuts.specs.Depth.{there_rooted}
use Rattle.demands_words.specs.Words as Words
use Rattle.demands_words.specs.Words.{StoredMesh, plain_base, built_base, AsGiven, BuildAccepts}
use Rattle.demands_proofs.specs.Handed as Proved
use Rattle.demands_proofs.specs.AsGiven.{as_given}

-- ---- over base meshes: every cut of every piece that cutting a properly marked base can give, up to generation 15

-- Every piece of a stored mesh is right-handed, whichever record it is.
pub right_handed : (s : Stored) (x : StoredMesh s) (r : ℕ) → r < x.stores.numbers.records → pos 0 <ℤ Words.signed_at x.base (x.stores.numbers.node_at r)
right_handed s x r h =
    let there = x.stores.records_numbered.there r h in
    Proved.right_handed x.base x.right.marked (x.stores.numbers.node_at r) (there_rooted x.cuts (x.stores.numbers.node_at r) there) (x.right.shallow (x.stores.numbers.node_at r) there)

-- ---- over bytes: what check accepts

-- Every record of a mesh that check accepts is right-handed.
pub records_right_handed : (s : Stored) → check_number s ≡ 0 → (n : ℕ) → n < all_records (tables_of s) → pos 0 <ℤ signed (tables_of s) n
records_right_handed s e = every_right_handed (tables_of s) ((accepts_exactly s).0 e).mesh (stored_four s)

-- And each child of a cut record has half its value.
pub records_halved : (s : Stored) → check_number s ≡ 0 → let m = tables_of s in (n : ℕ) → n < all_records m → Cut m n →
    (pos 2 *ℤ signed m (first_child m n) ≡ signed m n) × (pos 2 *ℤ signed m (first_child m n + 1) ≡ signed m n)
records_halved s e n l cut =
    let a = ((accepts_exactly s).0 e).mesh in
    children_halve_signed (tables_of s) a (stored_four s) n l (a.cuts.cuts n l cut)

-- ---- build

-- What build accepts it stores piece by piece as it is given: a left-handed one with its last two corners exchanged, any other as it is; and the marked edges,
-- as pairs of vertices, are those of the piece as given.
pub built_as_given : (coordinates : List ℤ) (corners : List ℕ) (room : ℕ) → BuildAccepts coordinates corners room → (r : ℕ) → r < (plain_base coordinates corners).pieces →
    AsGiven (plain_base coordinates corners) (built_base coordinates corners) r
built_as_given coordinates corners room asked = as_given coordinates corners asked.pieces

-- ---- K, worked by hand

-- "K is right-handed and keeps its row": its sixfold volume is its signed value.
pub k_signed : signed (tables_of (stored1 K)) 0 ≡ pos 262144
unfolding refine_computed signed_at
k_signed = refl

-- With its last two corners listed the other way round it is left-handed, and build stores K all the same, to the byte.
abbrev k_turned : List ℕ
k_turned = 0 ∷ 1 ∷ 3 ∷ 2 ∷ []

pub k_turned_accepted : build_number 7 k_coordinates k_turned 77 ≡ 0
unfolding build_computed
k_turned_accepted = refl

pub k_turned_bytes : build_bytes 7 k_coordinates k_turned 77 ≡ K
unfolding build_computed refine_computed
k_turned_bytes = refl

-- K's bytes with the corners in slots 2 and 3 of its record exchanged: 22, whatever its marks are then.
pub k_left_refused : check_number (stored1 (sets K 64 (3 ∷ 0 ∷ 2 ∷ 0 ∷ []))) ≡ 22
unfolding refine_computed check_number
k_left_refused = refl

-- With an edge code above 5 besides, which is 6: 22 is tried before. With a flag set besides, which is 5: 5 is tried before.
pub k_left_before_6 : check_number (stored1 (sets K 64 (3 ∷ 0 ∷ 2 ∷ 0 ∷ 9 ∷ []))) ≡ 22
unfolding refine_computed check_number
k_left_before_6 = refl

pub k_left_after_5 : check_number (stored1 (sets (sets K 64 (3 ∷ 0 ∷ 2 ∷ 0 ∷ [])) 73 (1 ∷ []))) ≡ 5
unfolding refine_computed check_number
k_left_after_5 = refl
