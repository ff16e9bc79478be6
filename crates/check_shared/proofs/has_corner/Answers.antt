-- `check_shared::has_corner`: it is the definition.
-- Assumes nothing.
use Rattle.std.proofs.Common.{rules}
use Rattle.check_shared.specs.Rest.{has}
use Rattle.check_shared.proofs.has_corner.Goals as goal

pub returns : goal.returns
unfolding has
returns c = search rules
