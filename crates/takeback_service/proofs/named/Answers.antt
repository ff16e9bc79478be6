-- `takeback_service::named`: each way out is the first rule broken, at what the calls return.
-- Assumes nothing.
use mathlib.Core.Path.{sym, ◌∙◌}
use borrow.Author.Tests.{eq-eqb, ne_eqb}
use Rattle.laws.specs.Order.{first_broken}
use Rattle.stored.specs.Layout.{last_round}
use Rattle.refine_selection.specs.Selected.{round_row}
use Rattle.takeback_service.specs.Order.{named_number}
use Rattle.takeback_service.proofs.named.Goals as goal

pub returns-then-names_uncut : goal.returns-then-names_uncut
unfolding named_number first_broken
returns-then-names_uncut c = rw (sym c.names_uncut.ensures ∙ c.if-names_uncut.true)

pub returns-then-mesh-eq-LAST_ROUND : goal.returns-then-mesh-eq-LAST_ROUND
unfolding named_number first_broken round_row
returns-then-mesh-eq-LAST_ROUND c = rw (sym c.names_uncut.ensures ∙ c.if-names_uncut.false, eq-eqb _ last_round c.if-mesh-eq-LAST_ROUND.true)

pub returns : goal.returns
unfolding named_number first_broken round_row
returns c = rw (sym c.names_uncut.ensures ∙ c.if-names_uncut.false, ne_eqb _ last_round c.if-mesh-eq-LAST_ROUND.false)
