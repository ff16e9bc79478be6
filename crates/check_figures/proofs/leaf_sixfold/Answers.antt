-- `check_figures::leaf_sixfold`: it is the definition at what the calls return.
-- Assumes nothing.
use Rattle.std.proofs.Common.{rules}
use Rattle.check_refusals.specs.Check.{leaf_sixfold}
use Rattle.check_figures.proofs.leaf_sixfold.Goals as goal

pub returns-then-is_leaf : goal.returns-then-is_leaf
unfolding leaf_sixfold
returns-then-is_leaf c = search rules

pub returns-else-is_leaf : goal.returns-else-is_leaf
unfolding leaf_sixfold
returns-else-is_leaf c = search rules
