-- `check_places::place_key` computes the key.
-- Assumes nothing.
use Rattle.check_places.specs.Kept.{place_key}
use Rattle.check_places.proofs.place_key.Goals as goal

pub returns : goal.returns
unfolding place_key
returns c = c.key.ensures
