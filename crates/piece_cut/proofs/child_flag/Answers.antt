-- `piece_cut::child_flag`: 1 where the call says that it is of type P_u.
-- Assumes nothing.
use Rattle.std.proofs.Common.{rules}
use Rattle.piece_cut.specs.Cut.{child_flag}
use Rattle.piece_cut.proofs.child_flag.Goals as goal

pub returns : goal.returns
unfolding child_flag
returns c = search rules
