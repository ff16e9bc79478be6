-- `mesh_parents::pair_sum` computes the number.
-- Assumes nothing.
use Rattle.std.proofs.Common.{rules}
use Rattle.mesh_parents.specs.Pairs.{pair_sum}
use Rattle.mesh_parents.proofs.pair_sum.Goals as goal

pub returns : goal.returns
unfolding pair_sum
returns c = search rules
