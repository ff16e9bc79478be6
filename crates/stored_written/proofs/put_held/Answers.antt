-- `stored_written::put_held`: past the end nothing is written; else the number against the count tells the slice.
-- Assumes nothing.
use mathlib.Core.Path.{◌∙◌}
use Prim.Native.Nat.{◌-◌, ◌<◌}
use native.Mathlib.Omega.{arith}
use Rattle.laws.specs.Numbers.{product_fits}
use Rattle.stored.specs.Held.{into_base, not_into_base, into_growth, not_into_growth, past_end_base, past_end_growth}
use Rattle.stored_written.proofs.put_held.Goals as goal

pub returns-then-t-i : goal.returns-then-t-i
returns-then-t-i c =
    let a = c.args in
    record { base_after = past_end_base a.t a.base.now a.i a.bytes.now c.if-t-i.true; grown_after = past_end_growth a.t a.grown.now a.i a.bytes.now c.if-t-i.true }

pub overflow_mul-wide : goal.overflow_mul-wide
overflow_mul-wide c =
    let a = c.args in
    let few : a.i < 4294967296 = omega (arith, c.if-t-i.false) in
    record { fits = product_fits a.t.width a.i (omega arith) few }

pub returns-then-i-t : goal.returns-then-i-t
returns-then-i-t c =
    let a = c.args in
    record { base_after = c.put_from.ensures ∙ into_base a.t a.base.now a.i a.bytes.now c.if-t-i.false c.if-i-t.true; grown_after = not_into_growth a.t a.grown.now a.i a.bytes.now c.if-i-t.true }

pub overflow_mul-wide-2 : goal.overflow_mul-wide-2
overflow_mul-wide-2 c =
    let a = c.args in
    let few : a.i - a.t.count < 4294967296 = omega (arith, c.if-t-i.false) in
    record { fits = product_fits a.t.width (a.i - a.t.count) (omega arith) few }

pub returns : goal.returns
returns c =
    let a = c.args in
    record { base_after = not_into_base a.t a.base.now a.i a.bytes.now c.if-i-t.false; grown_after = c.put_from-2.ensures ∙ into_growth a.t a.grown.now a.i a.bytes.now c.if-t-i.false c.if-i-t.false }
