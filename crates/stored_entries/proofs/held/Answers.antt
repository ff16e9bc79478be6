-- `stored_entries::held`: past the end nothing is held; else the number against the count tells the slice.
-- Assumes nothing.
use mathlib.Core.Path.{sym, ◌∙◌}
use Rattle.stored.specs.Held.{held_base, held_growth, held_none}
use Rattle.stored_entries.proofs.held.Goals as goal

pub returns-then-t-i : goal.returns-then-t-i
returns-then-t-i c =
    let a = c.args in
    sym (held_none a.t a.base.now a.grown.now a.i c.if-t-i.true)

pub returns-then-i-t : goal.returns-then-i-t
returns-then-i-t c =
    let a = c.args in
    c.entry_from.ensures ∙ sym (held_base a.t a.base.now a.grown.now a.i c.if-t-i.false c.if-i-t.true)

pub returns : goal.returns
returns c =
    let a = c.args in
    c.entry_from-2.ensures ∙ sym (held_growth a.t a.base.now a.grown.now a.i c.if-t-i.false c.if-i-t.false)
