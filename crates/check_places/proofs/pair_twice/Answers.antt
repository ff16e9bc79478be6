-- `check_places::pair_twice` looks for the vertex's own parents along the links.
-- Assumes nothing.
use Rattle.check_places.specs.Kept.{pair_twice_lem}
use Rattle.check_places.proofs.pair_twice.Goals as goal

pub returns : goal.returns
returns c kept = rw (c.any_from.ensures, c.head_of-head.ensures, c.parents-ends.ensures) (pair_twice_lem _ _ _ _ kept)
