-- `check_inside::width_for`: n rises by one at least, and the mean of numbers below 65,536 is below it.
-- Assumes nothing.
use Prim.Native.Nat.{◌*◌, ◌≤◌}
use native.Mathlib.Nat.{div-le_of_le-mul}
use native.Mathlib.Omega.{arith}
use Rattle.check_inside.proofs.width_for.Goals as goal
use Rattle.check_inside.proofs.width_for.Goals.{else-loop-n-test, then-loop-n-test+else-step-n-end}

pub loop-n-init : goal.loop-n-init
loop-n-init c = (omega arith, omega arith, omega arith)

pub loop-n-preserved : goal.loop-n-preserved
loop-n-preserved c = (omega arith, omega arith, omega arith)

pub overflow_cast-result : goal.overflow_cast-result
overflow_cast-result c =
    let end = c.loop-n-test in
    let loop = c.loop-n in
    let many : end.sum ≤ end.seen * 65535 = elim end.branch [
      | else-loop-n-test w ↦ omega (arith, w.seen-is, w.sum-is, loop.invariant.1)
      | then-loop-n-test+else-step-n-end w ↦ omega (arith, w.seen-is, w.sum-is, w.from-sum.ensures, loop.invariant.1)
    ] in
    record { fits = omega (arith, div-le_of_le-mul end.seen many) }
