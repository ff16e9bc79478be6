-- `check_faces::before_along` is the search along the links.
-- Assumes nothing.
use Rattle.std.proofs.Common.{rules}
use Rattle.check_faces.specs.Linked.{before_along}
use Rattle.check_faces.proofs.before_along.Goals as goal

pub returns : goal.returns
unfolding before_along
returns c = search rules
