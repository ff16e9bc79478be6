-- `refine_selection::bad_numbers` asks each number in turn.
-- Assumes nothing.
use mathlib.Core.Path.{refl, ◌∙◌}
use Rattle.std.proofs.Common.{arith, rules, tests}
use Rattle.std.proofs.lemmas.Iterator.{YieldsList-from_range}
use Rattle.std.proofs.lemmas.Iterator.Search.{any_from_yields_List}
use Rattle.stored.specs.Layout.{selection_in, named_in}
use Rattle.laws.specs.Ranges.{any_of_range}
use Rattle.refine_selection.specs.Selected.{bad_number, bad_numbers}
use Rattle.refine_selection.proofs.bad_numbers.Goals as goal

pub returns : goal.returns
unfolding bad_numbers
returns c =
    any_from_yields_List (bad_number c.args.records c.args.count (named_in (selection_in c.args.format c.args.selection.now))) _ _ c.any.result c.any.ensures.ran (YieldsList-from_range 0 c.args.count c.args.count refl (omega arith)) (λ x b q k. search (rules, tests))
    ∙ any_of_range c.args.count _
