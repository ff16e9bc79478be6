-- `refine_selection::names_cut` asks each named record in turn.
-- Assumes nothing.
use mathlib.Core.Path.{refl, ◌∙◌}
use mathlib.Core.Bool.{not}
use Rattle.std.proofs.Common.{arith, rules, tests}
use Rattle.std.proofs.lemmas.Iterator.{YieldsList-from_range}
use Rattle.std.proofs.lemmas.Iterator.Search.{any_from_yields_List}
use Rattle.stored.specs.Layout.{selection_in, named_in}
use Rattle.mesh_tables.specs.Tables.{uncut}
use Rattle.stored_entries.specs.Mesh.{record_read}
use Rattle.laws.specs.Ranges.{any_of_range}
use Rattle.refine_selection.specs.Selected.{names_cut}
use Rattle.refine_selection.proofs.names_cut.Goals as goal

pub returns : goal.returns
unfolding names_cut
returns c =
    any_from_yields_List (λ i. not (uncut (record_read c.args.mesh.now (named_in (selection_in c.args.mesh.now.layout.format c.args.selection.now) i)))) _ _ c.any.result c.any.ensures.ran (YieldsList-from_range 0 c.args.count c.args.count refl (omega arith)) (λ x b q k. search (rules, tests))
    ∙ any_of_range c.args.count _
