-- `check_inside::left_handed`: the determinant that fits is negative.
-- Assumes nothing.
use mathlib.Core.Path.{ap, ◌∙◌}
use mir.Syntax.{w64}
use mir.Facts.{to_z-of_z}
use Rattle.grid_volume.specs.Volume.{is_negative, left_handed}
use Rattle.check_inside.proofs.left_handed.Goals as goal

pub returns : goal.returns
unfolding left_handed
returns c = c.is_negative.ensures ∙ ap is_negative (to_z-of_z {w = w64} {z = c.signed.result} (record { sfits = c.signed.type_inv }) ∙ c.signed.ensures)
