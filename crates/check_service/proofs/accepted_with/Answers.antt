-- `check_service::accepted_with`: the figures that the calls return.
-- Assumes nothing.
use native.Mathlib.Nat.{mod-eq_of_lt}
use Rattle.check_service.proofs.accepted_with.Goals as goal

pub returns : goal.returns
returns c =
    rw (c.leaves_of.ensures, c.deepest_of.ensures, c.sixfold_of.ensures, mod-eq_of_lt c.requires)
