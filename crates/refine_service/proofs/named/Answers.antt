-- `refine_service::named`: each way out is the first rule broken, at what the calls return.
-- Assumes nothing.
use mathlib.Core.Path.{sym, ◌∙◌}
use borrow.Author.Tests.{eq-eqb, ne_eqb}
use Rattle.laws.specs.Order.{first_broken}
use Rattle.stored.specs.Layout.{last_round}
use Rattle.refine_selection.specs.Selected.{round_row}
use Rattle.refine_service.specs.Order.{named_number}
use Rattle.refine_service.proofs.named.Goals as goal

pub returns-then-names_cut : goal.returns-then-names_cut
unfolding named_number first_broken
returns-then-names_cut c = rw (sym c.names_cut.ensures ∙ c.if-names_cut.true)

pub returns-then-names_last : goal.returns-then-names_last
unfolding named_number first_broken
returns-then-names_last c = rw (sym c.names_cut.ensures ∙ c.if-names_cut.false, sym c.names_last.ensures ∙ c.if-names_last.true)

pub returns-then-mesh-eq-LAST_ROUND : goal.returns-then-mesh-eq-LAST_ROUND
unfolding named_number first_broken round_row
returns-then-mesh-eq-LAST_ROUND c = rw (sym c.names_cut.ensures ∙ c.if-names_cut.false, sym c.names_last.ensures ∙ c.if-names_last.false, eq-eqb _ last_round c.if-mesh-eq-LAST_ROUND.true)

pub returns : goal.returns
unfolding named_number first_broken round_row
returns c = rw (sym c.names_cut.ensures ∙ c.if-names_cut.false, sym c.names_last.ensures ∙ c.if-names_last.false, ne_eqb _ last_round c.if-mesh-eq-LAST_ROUND.false)
