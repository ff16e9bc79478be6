-- `grid_lengths::ranks_before`: the tuples' order is the definition.
-- Assumes nothing.
use Rattle.std.proofs.Common.{rules}
use Rattle.grid_lengths.specs.Lengths.{ranks_before}
use Rattle.grid_lengths.proofs.ranks_before.Goals as goal

pub returns : goal.returns
unfolding ranks_before
returns c = search rules
