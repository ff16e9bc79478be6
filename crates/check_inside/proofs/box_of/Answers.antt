-- `check_inside::box_of`: the least and the greatest coordinates of the corners.
-- Assumes nothing.
use Rattle.std.proofs.Common.{rules}
use Rattle.check_inside.specs.Cells.{low_of, high_of}
use Rattle.check_inside.proofs.box_of.Goals as goal

pub returns : goal.returns
unfolding low_of high_of
returns c = search rules
