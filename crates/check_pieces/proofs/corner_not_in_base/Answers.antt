-- `check_pieces::corner_not_in_base` has found every corner before k in the base.
-- Assumes nothing.
use borrow.Author.Tests.{le-leb, lt-leb}
use Prim.Native.Nat.{◌-◌}
use mathlib.Core.Path.{sym}
use mathlib.Core.Bool.{false}
use native.Mathlib.Omega.{arith}
use Rattle.laws.specs.Below.{any_none, any_next, any_is, any_end}
use Rattle.check_refusals.specs.Refusals.{corner_not_in_base}
use Rattle.check_pieces.proofs.corner_not_in_base.Invariants.{beyond}
use Rattle.check_pieces.proofs.corner_not_in_base.Goals as goal

pub loop-k-init : goal.loop-k-init
loop-k-init c = (omega arith, any_none (beyond c.args.count c.args.corners))

pub returns-then-count-corners : goal.returns-then-count-corners
unfolding corner_not_in_base
returns-then-count-corners c =
    let a = c.args in
    sym (any_is (beyond a.count a.corners) 4 c.loop-k.k c.loop-k-test.true (le-leb _ _ c.if-count-corners.true))

pub loop-k-preserved : goal.loop-k-preserved
loop-k-preserved c =
    let a = c.args in
    (omega arith, any_next (beyond a.count a.corners) c.loop-k.k c.loop-k.invariant.1 (lt-leb _ _ c.if-count-corners.false))

pub returns : goal.returns
unfolding corner_not_in_base
returns c =
    let a = c.args in
    sym (any_end (beyond a.count a.corners) 4 c.loop-k.k c.loop-k-test.false c.loop-k.invariant.0 c.loop-k.invariant.1)
