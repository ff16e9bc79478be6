-- `check_places::stands_at`: it is the definition, coordinate by coordinate, at the place that is read.
-- Assumes nothing.
use Rattle.std.proofs.Common.{rules}
use Rattle.grid.specs.Places.{same_place}
use Rattle.check_places.proofs.stands_at.Goals as goal

pub returns : goal.returns
unfolding same_place
returns c = search rules
