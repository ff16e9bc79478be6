-- `check_inside::any_in_cell` is the search along the cell's links.
-- Assumes nothing.
use Rattle.std.proofs.Common.{rules}
use Rattle.check_inside.specs.Cells.{in_cell}
use Rattle.check_inside.proofs.any_in_cell.Goals as goal

pub returns : goal.returns
unfolding in_cell
returns c = search rules
