-- `check_inside::cell_number` computes the number.
-- Assumes nothing.
use Rattle.std.proofs.Common.{rules}
use Rattle.check_inside.specs.Cells.{cell_number}
use Rattle.check_inside.proofs.cell_number.Goals as goal

pub returns : goal.returns
unfolding cell_number
returns c = search rules
