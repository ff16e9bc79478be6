-- `check_shared::same_edge`: the ends that the calls return.
-- Assumes nothing.
use Rattle.std.proofs.Common.{rules}
use Rattle.check_shared.specs.Marks.{same_edge}
use Rattle.check_shared.proofs.same_edge.Goals as goal

pub returns : goal.returns
unfolding same_edge
returns c = search rules
