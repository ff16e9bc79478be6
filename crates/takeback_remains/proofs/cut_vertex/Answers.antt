-- `takeback_remains::cut_vertex`: what is found along the links is the vertex with the ends of the refinement edge as parents.
-- Assumes nothing.
use Rattle.takeback_remains.specs.Remains.{cut_vertex}
use Rattle.takeback_remains.proofs.cut_vertex.Goals as goal

pub returns : goal.returns
unfolding cut_vertex
returns c = rw (c.vertex_with.ensures, c.refinement_ends-ends.ensures)
