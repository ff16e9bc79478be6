-- `takeback_closed::put_records`: the records before n are put.
-- Assumes nothing.
use mathlib.Core.Path.{sym, ◌∙◌, ap}
use native.Mathlib.Omega.{arith}
use lib.ListN.{length}
use Rattle.laws.specs.Counts.{counts_none, counts_next, counts_end, counts_long}
use Rattle.takeback_closed.specs.Law.{put_long}
use Rattle.takeback_closed.proofs.put_records.Goals as goal

pub loop-n-init : goal.loop-n-init
loop-n-init c = (omega arith, sym (counts_none _ _))

pub loop-n-preserved : goal.loop-n-preserved
loop-n-preserved c = (omega arith, counts_next _ _ _ _ _ c.loop-n.invariant.1 c.put_record.ensures)

pub shape_of-out : goal.shape_of-out
shape_of-out c = ap length c.loop-n.invariant.1 ∙ counts_long _ (put_long _ _ _) _ _

pub returns : goal.returns
returns c = counts_end _ _ _ _ _ c.loop-n-test.false c.loop-n.invariant.0 c.loop-n.invariant.1
