-- `check_faces::bad_along` is the search along the links, for face i of q.
-- Assumes nothing.
use Rattle.std.proofs.Common.{rules}
use Rattle.check_faces.specs.Linked.{bad_along}
use Rattle.check_faces.proofs.bad_along.Goals as goal

pub returns : goal.returns
unfolding bad_along
returns c = search rules
