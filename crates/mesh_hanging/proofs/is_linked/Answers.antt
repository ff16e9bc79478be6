-- `mesh_hanging::is_linked`: the head is not 0.
-- Assumes nothing.
use Rattle.mesh_hanging.specs.Hanging.{is_linked}
use Rattle.mesh_hanging.proofs.is_linked.Goals as goal

pub returns : goal.returns
unfolding is_linked
returns c = rw c.head_of.ensures
