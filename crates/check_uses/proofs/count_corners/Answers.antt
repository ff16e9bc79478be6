-- `check_uses::count_corners`: one use after the other.
-- Assumes nothing.
use Rattle.check_uses.specs.Uses.{used_by}
use Rattle.check_uses.proofs.count_corners.Goals as goal

pub returns : goal.returns
unfolding used_by
returns c = rw (c.count-4.ensures, c.count-3.ensures, c.count-2.ensures, c.count.ensures)
