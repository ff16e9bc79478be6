-- `build_service::bad_given_pieces` has found no bad piece before n.
-- Assumes nothing.
use mathlib.Core.Path.{sym, ◌∙◌}
use Rattle.laws.specs.Below.{any_none, any_next, any_is, any_end}
use Rattle.build_service.proofs.bad_given_pieces.Invariants.{bad}
use Rattle.build_service.proofs.bad_given_pieces.Goals as goal

pub loop-n-init : goal.loop-n-init
loop-n-init c = let a = c.args in any_none (bad a.plain.now a.vertices)

pub returns-then-bad_given : goal.returns-then-bad_given
returns-then-bad_given c =
    let a = c.args in
    sym (any_is (bad a.plain.now a.vertices) a.records c.loop-n.n c.loop-n-test.true (sym c.bad_given.ensures ∙ c.if-bad_given.true))

pub loop-n-preserved : goal.loop-n-preserved
loop-n-preserved c =
    let a = c.args in
    any_next (bad a.plain.now a.vertices) c.loop-n.n c.loop-n.invariant (sym c.bad_given.ensures ∙ c.if-bad_given.false)

pub returns : goal.returns
returns c =
    let a = c.args in
    sym (any_end (bad a.plain.now a.vertices) a.records c.loop-n.n c.loop-n-test.false c.loop-n.auto.n-end c.loop-n.invariant)
