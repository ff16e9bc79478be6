-- `stored_entries::entry_from`: the entry is all there, or what is left is shorter, or the entries begin past the end.
-- Assumes nothing.
use mathlib.Core.Path.{◌≡◌, sym, ap, ◌∙◌}
use Prim.Native.Nat.{suc, ◌+◌, ◌-◌, ◌*◌}
use native.Mathlib.Nat.{mul-suc}
use native.Mathlib.Omega.{arith}
use lib.ListN.{length, drop, length-drop, drop_of_length-le}
use lib.Seq.{take_all, take-nil, drop-drop}
use Rattle.laws.specs.Numbers.{product_fits}
use Rattle.stored_entries.proofs.entry_from.Goals as goal

pub returns-then-s-from : goal.returns-then-s-from
returns-then-s-from c =
    let a = c.args in
    let past = c.if-s-from.true in
    rw (drop-drop (a.wide * a.i) a.from a.s.now, drop_of_length-le a.s.now {i = a.from + a.wide * a.i} (omega arith)) (sym (take-nil a.wide))

pub overflow_mul-at : goal.overflow_mul-at
overflow_mul-at c =
    let a = c.args in
    record { fits = product_fits a.wide a.i (omega (arith, c.requires)) (omega (arith, c.requires)) }

pub overflow_add-to : goal.overflow_add-to
overflow_add-to c =
    let a = c.args in
    record { fits = rw (← mul-suc a.wide a.i) (product_fits a.wide (suc a.i) (omega (arith, c.requires)) (omega (arith, c.requires))) }

pub returns-then-to-table : goal.returns-then-to-table
returns-then-to-table c =
    let a = c.args in
    let wide : a.wide * a.i + a.wide - a.wide * a.i ≡ a.wide = omega arith in
    rw (wide, take_all (length a.s.now - a.from) (drop a.from a.s.now) (omega (arith, length-drop a.from a.s.now)))

pub returns : goal.returns
returns c =
    let a = c.args in
    let rest = drop a.from a.s.now in
    c.after.ensures
    ∙ ap (drop (a.wide * a.i)) (take_all (length a.s.now - a.from) rest (omega (arith, length-drop a.from a.s.now)))
    ∙ sym (take_all a.wide (drop (a.wide * a.i) rest) (omega (arith, length-drop (a.wide * a.i) rest, length-drop a.from a.s.now, c.if-to-table.false)))
