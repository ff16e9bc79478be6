-- `refine_pass::refined`: nothing is cut where the kind's numbers don't reach far enough.
-- Assumes nothing.
use mathlib.Core.Path.{sym, ◌∙◌}
use Rattle.refine_pass.specs.Steps.{out_of_reach_stays}
use Rattle.refine_pass.proofs.refined.Goals as goal

pub returns-then-not-numbers_reach-clause-value : goal.returns-then-not-numbers_reach-clause-value
returns-then-not-numbers_reach-clause-value c = out_of_reach_stays _ _ _ _ (sym c.numbers_reach.ensures ∙ c.if-not-numbers_reach.true)
