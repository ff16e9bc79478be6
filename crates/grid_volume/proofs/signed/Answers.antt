-- `grid_volume::signed` meets its contract: the rows are the corners' differences, small enough for the determinant. Assumes nothing.
use mathlib.Core.Path.{◌∙◌}
use mathlib.Core.List.{[], ◌∷◌}
use mir.Syntax.{w64}
use mir.Facts.{to_z-of_z}
use Rattle.grid_volume.specs.Volume.{determinant_of, differences_of}
use Rattle.grid_volume.specs.VolumeLaws.{rows_within}
use Rattle.grid.specs.Places.{greatest_place}
use Rattle.grid_volume.proofs.signed.Goals as goal

pub determinant-requires : goal.determinant-requires
determinant-requires c =
    rows_within greatest_place c.difference.result c.difference-2.result c.difference-3.result
    c.difference.ensures.small c.difference-2.ensures.small c.difference-3.ensures.small

pub returns : goal.returns
unfolding differences_of
returns c =
    to_z-of_z {w = w64} {z = c.determinant.result} (record { sfits = c.determinant.type_inv })
    ∙ c.determinant.ensures
    ∙ (λ i. determinant_of (c.difference.ensures.is i ∷ c.difference-2.ensures.is i ∷ c.difference-3.ensures.is i ∷ []))
