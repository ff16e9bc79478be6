-- `mesh_parents::link_pairs` links all vertices in heads that have been cleared.
-- Assumes nothing.
use Rattle.mesh_parents.proofs.link_pairs.Goals as goal

pub returns-clause-linked : goal.returns-clause-linked
returns-clause-linked c = rw (← c.clear.ensures.cleared) c.link_all.ensures.linked
