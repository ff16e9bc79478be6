-- Document 01, "Vertices and the grid": "Sixfold volume is the absolute determinant of three differences of three coordinates each (corners 1, 2, 3 less corner 0)".
-- Assumes nothing.
use Rattle.std.specs.Prelude.{Bool, List, [], ◌∷◌, ℕ, get_or, eqb, ℤ, pos, nat_abs, ◌+ℤ◌, ◌-ℤ◌, ◌*ℤ◌}
use Rattle.std.specs.Int.Signed.{lt_z}
use Rattle.grid.specs.Places.{Point}

-- what stands in row i and column j
abbrev pub entry : List (List ℤ) → ℕ → ℕ → ℤ
entry m i j = get_or (get_or m i []) j (pos 0)

-- the determinant of what rows 1 and 2 have in columns j and k
unfoldable pub minor_of : List (List ℤ) → ℕ → ℕ → ℤ
minor_of m j k = entry m 1 j *ℤ entry m 2 k -ℤ entry m 1 k *ℤ entry m 2 j

-- "determinant of three differences of three coordinates each", along row 0
unfoldable pub determinant_of : List (List ℤ) → ℤ
determinant_of m = entry m 0 0 *ℤ minor_of m 1 2 -ℤ entry m 0 1 *ℤ minor_of m 0 2 +ℤ entry m 0 2 *ℤ minor_of m 0 1

unfoldable pub difference_of : Point → Point → List ℤ
difference_of p q = (p.x -ℤ q.x) ∷ (p.y -ℤ q.y) ∷ (p.z -ℤ q.z) ∷ []

-- "corners 1, 2, 3 less corner 0"
unfoldable pub differences_of : (ℕ → Point) → List (List ℤ)
differences_of corner = difference_of (corner 1) (corner 0) ∷ difference_of (corner 2) (corner 0) ∷ difference_of (corner 3) (corner 0) ∷ []

-- Document 02: "The volume service must return the signed determinant, positive for right-handed".
abbrev pub signed_of : (ℕ → Point) → ℤ
signed_of corner = determinant_of (differences_of corner)

-- Flat: the determinant is 0. Left-handed: it is negative.
abbrev pub is_flat : ℤ → Bool
is_flat signed = eqb (nat_abs signed) 0

abbrev pub is_negative : ℤ → Bool
is_negative signed = lt_z signed (pos 0)

unfoldable pub left_handed : (ℕ → Point) → Bool
left_handed corner = is_negative (signed_of corner)

-- "Sixfold volume is the absolute determinant"
unfoldable pub sixfold_of : (ℕ → Point) → ℕ
sixfold_of corner = nat_abs (signed_of corner)

-- four corners by their slots
abbrev pub corners_of : Point → Point → Point → Point → ℕ → Point
corners_of a b c d i = get_or (a ∷ b ∷ c ∷ d ∷ []) i a
