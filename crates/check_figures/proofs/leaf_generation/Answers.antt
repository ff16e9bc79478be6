-- `check_figures::leaf_generation`: it is the definition at what the calls return.
-- Assumes nothing.
use Rattle.std.proofs.Common.{rules}
use Rattle.check_refusals.specs.Check.{leaf_generation}
use Rattle.check_figures.proofs.leaf_generation.Goals as goal

pub returns-then-is_leaf : goal.returns-then-is_leaf
unfolding leaf_generation
returns-then-is_leaf c = search rules

pub returns-else-is_leaf : goal.returns-else-is_leaf
unfolding leaf_generation
returns-else-is_leaf c = search rules
