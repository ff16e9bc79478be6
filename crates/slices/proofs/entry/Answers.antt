-- `slices::entry`: the quotient tells whether the entry begins within the table.
-- Assumes nothing.
use mathlib.Core.Path.{sym, ap, ◌∙◌}
use Prim.Native.Nat.{ℕ, ◌<◌}
use native.Mathlib.Nat.{le_refl}
use native.Mathlib.Omega.{arith}
use lib.ListN.{length, drop, drop_of_length-le}
use Rattle.laws.specs.Numbers.{entry_empty, entry_within, entry_beyond}
use Rattle.slices.proofs.entry.Goals as goal

pub returns-then-width-eq0 : goal.returns-then-width-eq0
returns-then-width-eq0 c =
    let a = c.args in
    c.after.ensures ∙ ap (λ (n : ℕ). drop n a.table.now) (entry_empty a.width a.i c.if-width-eq0.true)

pub overflow_mul-width : goal.overflow_mul-width
overflow_mul-width c =
    let a = c.args in
    let some : 0 < a.width = omega (arith, c.if-width-eq0.false) in
    omega (arith, entry_within a.width a.i (length a.table.now) some c.if-i-table.true)

pub returns : goal.returns
returns c =
    let a = c.args in
    let t = a.table.now in
    let some : 0 < a.width = omega (arith, c.if-width-eq0.false) in
    c.after-2.ensures ∙ drop_of_length-le t (le_refl (length t)) ∙ sym (drop_of_length-le t (entry_beyond a.width a.i (length t) some c.if-i-table.false))
