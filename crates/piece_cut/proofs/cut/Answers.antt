-- `piece_cut::cut`: the two children that the calls return, by the ends that the calls return.
-- Assumes nothing.
use Rattle.piece_cut.specs.Cut.{cut_of}
use Rattle.piece_cut.proofs.cut.Goals as goal

pub returns : goal.returns
unfolding cut_of
returns c = rw (← c.lower_end-u.ensures, ← c.higher_end-v.ensures, ← c.child.ensures, ← c.child-2.ensures)
