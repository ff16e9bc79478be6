-- `piece_edges::other_end`: it is the definition at what the calls return.
-- Assumes nothing.
use Rattle.std.proofs.Common.{rules}
use Rattle.piece_edges.specs.Edges.{other_end}
use Rattle.piece_edges.proofs.other_end.Goals as goal

pub returns-then-low-k : goal.returns-then-low-k
unfolding other_end
returns-then-low-k c = search rules

pub returns-else-low-k : goal.returns-else-low-k
unfolding other_end
returns-else-low-k c = search rules
