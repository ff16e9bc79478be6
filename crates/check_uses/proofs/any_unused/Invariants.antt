-- `check_uses::any_unused` has found every vertex before v counted.
-- Assumes nothing.
use mathlib.Core.Path.{◌≡◌}
use mathlib.Core.Bool.{false}
use lib.Dec.{eqb}
use lib.ListN.{get_or}
use Rattle.laws.specs.Below.{any_below}
use Rattle.check_uses.proofs.any_unused.Given as goal

abbrev pub invariant-loop-v : goal.invariant-loop-v
invariant-loop-v l = any_below l.v (λ x. eqb (get_or l.uses x 0) 0) ≡ false
