-- `check_places::vertex_key`: a base vertex has its place's key, and a made one that of its parents.
-- Assumes nothing.
use Rattle.std.proofs.Common.{rules}
use Rattle.check_places.specs.Kept.{vertex_key}
use Rattle.check_places.proofs.vertex_key.Goals as goal

pub returns-then-v-mesh : goal.returns-then-v-mesh
unfolding vertex_key
returns-then-v-mesh c = search rules

pub returns-else-v-mesh : goal.returns-else-v-mesh
unfolding vertex_key
returns-else-v-mesh c = search rules
