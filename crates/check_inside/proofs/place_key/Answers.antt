-- `check_inside::place_key`: the key of the cell's number.
-- Assumes nothing.
use Rattle.std.proofs.Common.{rules}
use Rattle.check_inside.specs.Cells.{place_key}
use Rattle.check_inside.proofs.place_key.Goals as goal

pub returns : goal.returns
unfolding place_key
returns c = search rules
