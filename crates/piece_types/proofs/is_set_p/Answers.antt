-- `piece_types::is_set_p`: it is the definition at what the calls return.
-- Assumes nothing.
use Rattle.std.proofs.Common.{rules}
use Rattle.piece.specs.Shape.{set_p}
use Rattle.piece_types.proofs.is_set_p.Goals as goal

pub returns-then-p-ne0 : goal.returns-then-p-ne0
unfolding set_p
returns-then-p-ne0 c = search rules

pub returns-else-p-ne0 : goal.returns-else-p-ne0
unfolding set_p
returns-else-p-ne0 c = search rules
