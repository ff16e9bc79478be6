-- `piece_types::is_unset_p`: it is the definition at what the calls return.
-- Assumes nothing.
use Rattle.std.proofs.Common.{rules}
use Rattle.piece.specs.Shape.{unset_p}
use Rattle.piece_types.proofs.is_unset_p.Goals as goal

pub returns-then-p-eq0 : goal.returns-then-p-eq0
unfolding unset_p
returns-then-p-eq0 c = search rules

pub returns-else-p-eq0 : goal.returns-else-p-eq0
unfolding unset_p
returns-else-p-eq0 c = search rules
