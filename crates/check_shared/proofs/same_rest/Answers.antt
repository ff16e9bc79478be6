-- `check_shared::same_rest`: it is the definition at what the calls return.
-- Assumes nothing.
use Rattle.std.proofs.Common.{rules}
use Rattle.check_shared.specs.Rest.{same_rest}
use Rattle.check_shared.proofs.same_rest.Goals as goal

pub returns-then-has_corner : goal.returns-then-has_corner
unfolding same_rest
returns-then-has_corner c = search rules

pub returns-else-has_corner : goal.returns-else-has_corner
unfolding same_rest
returns-else-has_corner c = search rules
