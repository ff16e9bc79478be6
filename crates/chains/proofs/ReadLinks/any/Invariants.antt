-- `chains::ReadLinks::any` finds from where it stands on what is found from where it began.
-- Assumes nothing.
use Rattle.std.proofs.Common.{◌≡◌, ℕ, Bool, ◌<◌, ◌^◌}
use Rattle.laws.specs.Links.{any_along}
use Rattle.chains.proofs.ReadLinks.any.Given as goal

abbrev pub invariant-loop-to : goal.invariant-loop-to
invariant-loop-to g l = (P : ℕ → Bool) → ((u : ℕ) (r : Bool) → u < 2 ^ 64 → goal.F-post g l.test u r → r ≡ P u) → any_along l.self.nexts.now P l.to ≡ any_along l.self.nexts.now P l.from

abbrev pub decreases-loop-to : goal.decreases-loop-to
decreases-loop-to g l = l.to
