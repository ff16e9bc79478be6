-- `piece::ends_at`: the corners in the edge's two slots, the lower first.
-- Assumes nothing.
use Rattle.std.proofs.Common.{rules}
use Rattle.piece.specs.Ends.{ends_at}
use Rattle.piece.proofs.ends_at.Goals as goal

pub returns : goal.returns
unfolding ends_at
returns c = search rules
