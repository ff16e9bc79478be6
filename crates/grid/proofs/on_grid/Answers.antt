-- `grid::on_grid` meets its contract: it is the definition at what the calls return. Assumes nothing.
use Rattle.std.proofs.Common.{rules}
use Rattle.grid.specs.Places.{on_grid}
use Rattle.grid.proofs.on_grid.Goals as goal

pub returns-then-coordinate_on_grid-2 : goal.returns-then-coordinate_on_grid-2
unfolding on_grid
returns-then-coordinate_on_grid-2 c = search rules

pub returns-else-coordinate_on_grid-2 : goal.returns-else-coordinate_on_grid-2
unfolding on_grid
returns-else-coordinate_on_grid-2 c = search rules
