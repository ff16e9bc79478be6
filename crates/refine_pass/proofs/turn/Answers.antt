-- `refine_pass::turn`: the limits are exceeded, or it is cut, and then the links have the vertex that the cut appended.
-- Assumes nothing.
use mathlib.Core.Path.{sym, ◌∙◌}
use Rattle.refine_cut.specs.Slices.{slices}
use Rattle.refine_pass.specs.Steps.{turn_exceeds, turn_cut}
use Rattle.refine_pass.specs.Linked.{cut_linking}
use Rattle.refine_pass.proofs.turn.Goals as goal

pub returns-then-exceeds-clause-grown_after : goal.returns-then-exceeds-clause-grown_after
returns-then-exceeds-clause-grown_after c = turn_exceeds _ _ _ _ (sym c.exceeds.ensures ∙ c.if-exceeds.true)

pub link_fresh-requires : goal.link_fresh-requires
link_fresh-requires c =
    let cut = c.cut-with in
    cut_linking _ _ _ _ _ c.requires.at_work (sym c.exceeds.ensures ∙ c.if-exceeds.false) _ c.requires.n_lt_records (slices cut.result cut.new.base cut.new.grown) cut.ensures

pub returns-clause-grown_after : goal.returns-clause-grown_after
returns-clause-grown_after c = turn_cut _ _ _ _ _ (sym c.exceeds.ensures ∙ c.if-exceeds.false) c.cut-with.ensures
