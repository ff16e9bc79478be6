-- `piece::higher_end`: each way out is one case of the definition, at what the calls return.
-- Assumes nothing.
use Rattle.std.proofs.Common.{rules}
use Rattle.piece.specs.Ends.{higher_end}
use Rattle.piece.proofs.higher_end.Goals as goal

pub returns-then-corner_at : goal.returns-then-corner_at
unfolding higher_end
returns-then-corner_at c = search rules

pub returns-else-corner_at : goal.returns-else-corner_at
unfolding higher_end
returns-else-corner_at c = search rules
