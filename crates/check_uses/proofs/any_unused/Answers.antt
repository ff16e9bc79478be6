-- `check_uses::any_unused` has found every vertex before v counted.
-- Assumes nothing.
use mathlib.Core.Path.{sym, ◌∙◌}
use lib.Dec.{eqb}
use lib.ListN.{get_or}
use borrow.Author.Tests.{eq-eqb, ne_eqb}
use Rattle.laws.specs.Below.{any_none, any_next, any_is}
use Rattle.check_uses.proofs.any_unused.Goals as goal

pub loop-v-init : goal.loop-v-init
loop-v-init c = any_none (λ x. eqb (get_or c.args.uses.now x 0) 0)

pub returns-then-at-eq0 : goal.returns-then-at-eq0
returns-then-at-eq0 c = sym (any_is (λ x. eqb (get_or c.args.uses.now x 0) 0) c.args.count c.loop-v.v c.loop-v-test.true (eq-eqb _ _ (sym c.at.ensures ∙ c.if-at-eq0.true)))

pub loop-v-preserved : goal.loop-v-preserved
loop-v-preserved c = any_next (λ x. eqb (get_or c.args.uses.now x 0) 0) c.loop-v.v c.loop-v.invariant (ne_eqb _ _ (λ e. c.if-at-eq0.false (c.at.ensures ∙ e)))
