-- `piece::lower_end`: each way out is one case of the definition, at what the calls return.
-- Assumes nothing.
use Rattle.std.proofs.Common.{rules}
use Rattle.piece.specs.Ends.{lower_end}
use Rattle.piece.proofs.lower_end.Goals as goal

pub returns-then-corner_at : goal.returns-then-corner_at
unfolding lower_end
returns-then-corner_at c = search rules

pub returns-else-corner_at : goal.returns-else-corner_at
unfolding lower_end
returns-else-corner_at c = search rules
