-- Document 02, "Two": "Document 002 has a vertex hang on a piece if it lies in the closed piece and isn't one of its corners. For base meshes that meaning holds from now
-- on, by exact determinants." Assumes nothing.
use Rattle.std.specs.Prelude.{Bool, not, ℕ, ℤ}
use Rattle.laws.specs.Below.{all_below, put_at}
use Rattle.grid.specs.Places.{Point}
use Rattle.grid_volume.specs.Volume.{signed_of, left_handed}

-- The determinant of the piece with v in place of its corner in slot k.
abbrev pub part_of : (ℕ → Point) → Point → ℕ → ℤ
part_of corner v k = signed_of (put_at k v corner)

-- v lies in the closed piece: none of the four is negative. The piece itself is right-handed (document 02, "Three").
unfoldable pub lies_in : (ℕ → Point) → Point → Bool
lies_in corner v = all_below 4 (λ k. not (left_handed (put_at k v corner)))
