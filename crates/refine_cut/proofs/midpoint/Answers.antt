-- `refine_cut::midpoint`: the two ends' places, and halfway between them.
-- Assumes nothing.
use Rattle.refine_cut.specs.Cut.{midpoint_of}
use Rattle.refine_cut.proofs.midpoint.Goals as goal

pub returns : goal.returns
unfolding midpoint_of
returns c = rw (c.halfway.ensures, c.vertex-one.ensures, c.vertex-other.ensures)
