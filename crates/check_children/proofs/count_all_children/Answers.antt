-- `check_children::count_all_children` has counted the children of the records before n.
-- Assumes nothing.
use mathlib.Core.Path.{sym}
use Rattle.laws.specs.Counts.{counts_none, counts_next, counts_end}
use Rattle.check_children.proofs.count_all_children.Goals as goal

pub loop-n-init : goal.loop-n-init
loop-n-init c = sym (counts_none _ _)

pub loop-n-preserved : goal.loop-n-preserved
loop-n-preserved c = counts_next _ _ _ _ _ c.loop-n.invariant c.count_children.ensures

pub returns : goal.returns
returns c = counts_end _ _ _ _ _ c.loop-n-test.false c.loop-n.auto.n-end c.loop-n.invariant
