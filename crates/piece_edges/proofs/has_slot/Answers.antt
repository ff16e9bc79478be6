-- `piece_edges::has_slot`: it is the definition at what the calls return.
-- Assumes nothing.
use Rattle.std.proofs.Common.{rules}
use Rattle.piece_edges.specs.Edges.{has_slot}
use Rattle.piece_edges.proofs.has_slot.Goals as goal

pub returns-then-low_slot-k : goal.returns-then-low_slot-k
unfolding has_slot
returns-then-low_slot-k c = search rules

pub returns-else-low_slot-k : goal.returns-else-low_slot-k
unfolding has_slot
returns-else-low_slot-k c = search rules
