-- `check_marks::bad_mark_in` has found every mark before i to fit.
-- Assumes nothing.
use mathlib.Core.Path.{sym}
use mathlib.Core.Bool.{not}
use Rattle.laws.specs.Below.{any_none, any_next, any_is}
use mathlib.Core.Path.{ap}
use Rattle.check_marks.proofs.bad_mark_in.Invariants.{unfit}
use Rattle.check_marks.proofs.bad_mark_in.Goals as goal

pub loop-i-init : goal.loop-i-init
loop-i-init c = any_none (unfit c.args.edge c.args.marks)

pub returns-then-not-mark_fits : goal.returns-then-not-mark_fits
returns-then-not-mark_fits c =
    let a = c.args in
    sym (any_is (unfit a.edge a.marks) 4 c.loop-i.i c.loop-i-test.true (rw (← c.mark_fits.ensures) (ap not c.if-not-mark_fits.true)))

pub loop-i-preserved : goal.loop-i-preserved
loop-i-preserved c =
    let a = c.args in
    any_next (unfit a.edge a.marks) c.loop-i.i c.loop-i.invariant (rw (← c.mark_fits.ensures) (ap not c.if-not-mark_fits.false))
