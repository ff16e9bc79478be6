-- `chains::ReadLinks::lowest` finds from where it stands on, with what it has found, what is found from where it began.
-- Assumes nothing.
use Rattle.std.proofs.Common.{◌≡◌, cond, ◌-◌, arith}
use Rattle.laws.specs.Links.{first_along_none, first_along_past, link_down}
use Rattle.chains.proofs.ReadLinks.lowest.Goals as goal
use Rattle.chains.proofs.ReadLinks.lowest.Goals.{then-test, else-test}

pub loop-to-smaller : goal.loop-to-smaller
loop-to-smaller g c = rw c.link-to.ensures (omega (arith, link_down c.args.self.now.nexts.now (c.loop-to.to - 1), c.loop-to-test.true))

pub loop-to-preserved : goal.loop-to-preserved
loop-to-preserved g c P is =
    let at = c.loop-to in
    let tested = is (at.to - 1) _ (omega arith) c.test.ensures in
    let here : c.if-test.found ≡ cond (P (at.to - 1)) (at.to - 1) at.found = elim c.if-test.branch [ then-test w ↦ rw (w.found-is, ← tested, w.if-test.true) | else-test w ↦ rw (w.found-is, ← tested, w.if-test.false) ] in
    rw (c.link-to.ensures, here, ← first_along_past _ P _ at.found c.loop-to-test.true) (at.invariant P is)

pub returns : goal.returns
returns g c P is = let end : c.loop-to.to ≡ 0 = omega (arith, c.loop-to-test.false) in rw (← c.loop-to.invariant P is, end, first_along_none)
