-- `takeback_remains::keep_all`: the records before n have counted.
-- Assumes nothing.
use mathlib.Core.Path.{sym}
use native.Mathlib.Omega.{arith}
use Rattle.laws.specs.Counts.{counts_none, counts_next, counts_end}
use Rattle.takeback_remains.proofs.keep_all.Goals as goal

pub loop-n-init : goal.loop-n-init
loop-n-init c = (omega arith, sym (counts_none _ _))

pub loop-n-preserved : goal.loop-n-preserved
loop-n-preserved c = (omega arith, counts_next _ _ _ _ _ c.loop-n.invariant.1 c.keep.ensures)

pub returns : goal.returns
returns c = counts_end _ _ _ _ _ c.loop-n-test.false c.loop-n.invariant.0 c.loop-n.invariant.1
