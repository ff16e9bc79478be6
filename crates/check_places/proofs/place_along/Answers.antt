-- `check_places::place_along` asks at each vertex along the links of the place's key.
-- Assumes nothing.
use Rattle.std.proofs.Common.{rules}
use Rattle.check_places.specs.Kept.{place_along}
use Rattle.check_places.proofs.place_along.Goals as goal

pub returns : goal.returns
unfolding place_along
returns c = search rules
