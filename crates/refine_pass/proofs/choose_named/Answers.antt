-- `refine_pass::choose_named` has counted the numbers before i in a table that was cleared.
-- Assumes nothing.
use mathlib.Core.Path.{sym, ◌∙◌, ap}
use Rattle.laws.specs.Links.{counted_at}
use Rattle.laws.specs.Counts.{counts_none, counts_next}
use Rattle.stored.specs.Layout.{selection_in, named_in}
use Rattle.refine_pass.proofs.choose_named.Goals as goal

pub loop-i-init : goal.loop-i-init
loop-i-init c = sym (counts_none _ _)

pub loop-i-preserved : goal.loop-i-preserved
loop-i-preserved c =
    let a = c.args in
    let was = c.loop-i in
    counts_next (λ t i. counted_at t (named_in (selection_in a.format a.selection.now) i)) _ was.i was.chosen c.count.new.table was.invariant (c.count.ensures ∙ ap (counted_at was.chosen) c.named_in.ensures)
