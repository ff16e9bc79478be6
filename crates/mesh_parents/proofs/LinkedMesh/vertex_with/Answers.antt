-- `mesh_parents::LinkedMesh::vertex_with`: what is found along the links is what a search through all vertices would find.
-- Assumes nothing.
use mathlib.Core.Path.{◌∙◌}
use Rattle.mesh_parents.specs.Pairs.{vertex_with_is}
use Rattle.mesh_parents.proofs.LinkedMesh.vertex_with.Goals as goal

pub returns : goal.returns
returns c = c.first_with.ensures ∙ vertex_with_is _ _ _ c.args.self.now.linked _
