-- `mesh_parents::has_parents_below`: each way out is one case of the definition.
-- Assumes nothing.
use borrow.Author.Tests.{lt-ltb, le-ltb}
use Rattle.mesh_parents.proofs.has_parents_below.Goals as goal

pub returns-then-count-u : goal.returns-then-count-u
returns-then-count-u c = rw (le-ltb _ _ c.if-count-u.true)

pub returns : goal.returns
returns c = rw (lt-ltb _ _ c.if-count-u.false, c.has_parents.ensures)
