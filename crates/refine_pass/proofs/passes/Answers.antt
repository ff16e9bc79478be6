-- `refine_pass::passes`: pass one of the records that the table has, which are those that the selection names; then the closing.
-- Assumes nothing.
use lib.ListN.{length}
use Rattle.stored.specs.Layout.{selection_in, named_in}
use Rattle.refine_selection.specs.Selected.{is_named}
use Rattle.refine_cut.specs.Slices.{slices}
use Rattle.refine_pass.specs.Steps.{refined_is}
use Rattle.refine_pass.specs.Chosen.{named_pass}
use Rattle.refine_pass.proofs.passes.Goals as goal

pub returns : goal.returns
returns c =
    let a = c.args in
    let table = c.choose_named in
    let first = c.pass-with in
    let last = c.close in
    let start = slices a.h a.base.now a.grown.now in
    let then = slices first.result first.new.base first.new.grown in
    refined_is a.most a.l (is_named a.count (named_in (selection_in a.l.format a.selection.now))) start then (slices last.result last.new.base last.new.grown)
    (named_pass a.most a.l (length a.chosen.now) (selection_in a.l.format a.selection.now) a.count table.new.chosen table.ensures start then c.requires.records_in_bounds first.ensures.grown_after) last.ensures
