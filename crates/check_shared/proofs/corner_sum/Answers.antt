-- `check_shared::corner_sum`: the sum of what the calls return.
-- Assumes nothing.
use Rattle.std.proofs.Common.{rules}
use Rattle.check_shared.specs.Sums.{first_of, second_of, third_of, corner_sum}
use Rattle.check_shared.proofs.corner_sum.Goals as goal

pub returns : goal.returns
unfolding first_of second_of third_of corner_sum
returns c = search rules
