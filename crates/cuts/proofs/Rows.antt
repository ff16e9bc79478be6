-- Of specs/Rows.antt, the theorems that an edit of a definition breaks, and what only they need.
use Rattle.std.specs.Prelude.{◌≡◌, refl, [], ◌∷◌}
use Rattle.cuts_names.specs.Pieces.{low, high}
use Rattle.cuts.specs.Rows.{at, passes, rows, ladder}

-- After "select 0" the second program cuts record 1; then 2, 5 and 6; then 7, 9 and 11; then none.
ladder_passes : passes ladder 3 4 (at 0 [] ∷ []) ≡ (at 1 [] ∷ []) ∷ (at 2 [] ∷ at 1 (low ∷ []) ∷ at 1 (high ∷ []) ∷ []) ∷ (at 2 (high ∷ []) ∷ at 1 (high ∷ low ∷ []) ∷ at 1 (high ∷ high ∷ []) ∷ []) ∷ [] ∷ []
unfolding rows
ladder_passes = refl
