-- `check_shared::only_under`: it is the definition.
-- Assumes nothing.
use Rattle.std.proofs.Common.{rules}
use Rattle.check_shared.specs.Sums.{under}
use Rattle.check_shared.proofs.only_under.Goals as goal

pub returns-then-x-top : goal.returns-then-x-top
unfolding under
returns-then-x-top c = search rules

pub returns-else-x-top : goal.returns-else-x-top
unfolding under
returns-else-x-top c = search rules
