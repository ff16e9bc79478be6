-- `takeback_remains::number`: the numbers below x have their new ones, and `next` is how many of them remain.
-- Assumes nothing.
use mathlib.Core.Path.{sym, ◌∙◌}
use native.Mathlib.Omega.{arith}
use Rattle.laws.specs.Below.{count_at_most}
use Rattle.takeback_remains.specs.Numbers.{numbering_none, numbering_gone, numbering_stays, numbering_all}
use Rattle.takeback_remains.specs.Held.{remains_by, remains_below}
use Rattle.takeback_remains.proofs.number.Goals as goal

pub loop-x-init : goal.loop-x-init
loop-x-init c = numbering_none _ _

pub loop-x-preserved-then-not-remains : goal.loop-x-preserved-then-not-remains
loop-x-preserved-then-not-remains c = numbering_gone _ _ _ _ _ c.loop-x.invariant (omega (arith, c.loop-x.invariant.long, c.loop-x-test.true)) (sym c.remains.ensures ∙ c.if-not-remains.true)

pub overflow_add-next : goal.overflow_add-next
overflow_add-next c =
    let a = c.args in
    let stays = sym c.remains.ensures ∙ c.if-not-remains.false in
    omega (arith, remains_below _ _ _ _ stays, c.loop-x.invariant.counted, count_at_most (remains_by a.count a.base a.counted.now) c.loop-x.x, c.ranges.count)

pub loop-x-preserved : goal.loop-x-preserved
loop-x-preserved c = numbering_stays _ _ _ _ _ c.loop-x.invariant (omega (arith, c.loop-x.invariant.long, c.loop-x-test.true)) (sym c.remains.ensures ∙ c.if-not-remains.false)

pub returns : goal.returns
returns c = let both = numbering_all _ _ _ _ _ c.loop-x.invariant (omega (arith, c.loop-x.invariant.long, c.loop-x-test.false)) in record { numbers_after = both.0; value = both.1 }
