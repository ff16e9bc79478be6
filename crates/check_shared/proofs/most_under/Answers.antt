-- `check_shared::most_under`: the greatest of what the calls return.
-- Assumes nothing.
use Rattle.std.proofs.Common.{rules}
use Rattle.check_shared.specs.Sums.{most_under}
use Rattle.check_shared.proofs.most_under.Goals as goal

pub returns : goal.returns
unfolding most_under
returns c = search rules
