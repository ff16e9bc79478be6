-- `check_children::any_bad_record` has passed no record before n that is refused, and these have counted.
-- Assumes nothing.
use mathlib.Core.Path.{sym, ◌∙◌}
use mathlib.Core.Bool.{true≢false}
use Rattle.laws.specs.Below.{any_none, any_next, any_is, any_end}
use Rattle.laws.specs.Counts.{counts_none, counts_next, counts_end}
use Rattle.check_children.proofs.any_bad_record.Goals as goal

pub loop-n-init : goal.loop-n-init
loop-n-init c = (any_none _, sym (counts_none _ _))

pub returns-then-bad_record : goal.returns-then-bad_record
returns-then-bad_record c = record { value = sym (any_is _ _ _ c.loop-n-test.true (sym c.bad_record.ensures.value ∙ c.if-bad_record.true)); midpoints_after = λ e. absurd (true≢false e) }

pub loop-n-preserved : goal.loop-n-preserved
loop-n-preserved c = (any_next _ _ c.loop-n.invariant.0 (sym c.bad_record.ensures.value ∙ c.if-bad_record.false), counts_next _ _ _ _ _ c.loop-n.invariant.1 c.bad_record.ensures.midpoints_after)

pub returns : goal.returns
returns c = record { value = sym (any_end _ _ _ c.loop-n-test.false c.loop-n.auto.n-end c.loop-n.invariant.0); midpoints_after = λ e. counts_end _ _ _ _ _ c.loop-n-test.false c.loop-n.auto.n-end c.loop-n.invariant.1 }
