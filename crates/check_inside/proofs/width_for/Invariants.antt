-- `check_inside::width_for`: n rises by one at least, and the mean of numbers below 65,536 is below it.
-- Assumes nothing.
use Prim.Native.Nat.{◌+◌, ◌*◌, ◌-◌, ◌≤◌}
use Rattle.check_inside.proofs.width_for.Given as goal

abbrev pub invariant-loop-n : goal.invariant-loop-n
invariant-loop-n l = (l.seen ≤ l.n) × (l.sum ≤ 65535 * l.seen) × (l.n ≤ l.records + l.step)

abbrev pub decreases-loop-n : goal.decreases-loop-n
decreases-loop-n l = l.records - l.n
