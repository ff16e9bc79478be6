-- `grid::is_halfway` meets its contract: it is the definition at what the calls return. Assumes nothing.
use Rattle.std.proofs.Common.{rules}
use Rattle.grid.specs.Places.{is_halfway}
use Rattle.grid.proofs.is_halfway.Goals as goal

pub returns-then-is_half_sum-2 : goal.returns-then-is_half_sum-2
unfolding is_halfway
returns-then-is_half_sum-2 c = search rules

pub returns-else-is_half_sum-2 : goal.returns-else-is_half_sum-2
unfolding is_halfway
returns-else-is_half_sum-2 c = search rules
