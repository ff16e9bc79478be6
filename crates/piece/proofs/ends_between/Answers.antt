-- `piece::ends_between`: the lower first.
-- Assumes nothing.
use Rattle.std.proofs.Common.{rules}
use Rattle.piece.specs.Ends.{between}
use Rattle.piece.proofs.ends_between.Goals as goal

pub returns : goal.returns
unfolding between
returns c = search rules
