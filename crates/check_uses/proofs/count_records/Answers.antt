-- `check_uses::count_records` has counted the records before n.
-- Assumes nothing.
use mathlib.Core.Path.{sym}
use Rattle.laws.specs.Counts.{counts_none, counts_next}
use Rattle.check_uses.proofs.count_records.Goals as goal

pub loop-n-init : goal.loop-n-init
loop-n-init c = sym (counts_none _ _)

pub loop-n-preserved : goal.loop-n-preserved
loop-n-preserved c = counts_next _ _ _ _ _ c.loop-n.invariant c.count_record.ensures
