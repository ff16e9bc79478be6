-- `chains::ReadLinks::any` finds from where it stands on what is found from where it began.
-- Assumes nothing.
use Rattle.std.proofs.Common.{◌≡◌, ◌-◌, sym, ◌∙◌, arith}
use Rattle.laws.specs.Links.{any_along_none, any_along_found, any_along_past, link_down}
use Rattle.chains.proofs.ReadLinks.any.Goals as goal

pub returns-then-test : goal.returns-then-test
returns-then-test g c P is =
    let found = sym (is (c.loop-to.to - 1) _ (omega arith) c.test.ensures) ∙ c.if-test.true in
    rw (← c.loop-to.invariant P is, any_along_found _ P _ c.loop-to-test.true found)

pub loop-to-smaller : goal.loop-to-smaller
loop-to-smaller g c = rw c.link-to.ensures (omega (arith, link_down c.args.self.now.nexts.now (c.loop-to.to - 1), c.loop-to-test.true))

pub loop-to-preserved : goal.loop-to-preserved
loop-to-preserved g c P is =
    let past = sym (is (c.loop-to.to - 1) _ (omega arith) c.test.ensures) ∙ c.if-test.false in
    rw (c.link-to.ensures, ← any_along_past _ P _ c.loop-to-test.true past) (c.loop-to.invariant P is)

pub returns : goal.returns
returns g c P is = let end : c.loop-to.to ≡ 0 = omega (arith, c.loop-to-test.false) in rw (← c.loop-to.invariant P is, end, any_along_none)
