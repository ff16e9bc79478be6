-- `slices::after` meets its contract: a part to the end is all that follows, and past the end nothing does.
-- Assumes nothing.
use mathlib.Core.Path.{sym}
use Prim.Native.Nat.{◌-◌}
use native.Mathlib.Nat.{le_of_lt}
use native.Mathlib.Omega.{arith}
use lib.ListN.{length, drop, length-drop, drop_of_length-le}
use lib.Seq.{take_all}
use Rattle.slices.proofs.after.Goals as goal

pub returns-then-at-s : goal.returns-then-at-s
returns-then-at-s c =
    let s = c.args.s.now in
    let at = c.args.at in
    take_all (length s - at) (drop at s) (omega (arith, length-drop at s))

pub returns-else-at-s : goal.returns-else-at-s
returns-else-at-s c = sym (drop_of_length-le c.args.s.now (le_of_lt c.if-at-s.false))
