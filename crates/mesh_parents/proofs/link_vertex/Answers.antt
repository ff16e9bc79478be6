-- `mesh_parents::link_vertex` puts the vertex in under its key.
-- Assumes nothing.
use Rattle.mesh_parents.proofs.link_vertex.Goals as goal

pub returns-clause-linked : goal.returns-clause-linked
returns-clause-linked c = rw (c.push.ensures.pushed, c.vertex_key-key.ensures, c.keys.ensures)
