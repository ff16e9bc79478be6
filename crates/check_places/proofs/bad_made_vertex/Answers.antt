-- `check_places::bad_made_vertex`: it is the definition at what the calls return.
-- Assumes nothing.
use Rattle.std.proofs.Common.{rules}
use Rattle.check_refusals.specs.Refusals.{bad_made_vertex}
use Rattle.check_places.proofs.bad_made_vertex.Goals as goal

pub returns-then-v-q : goal.returns-then-v-q
unfolding bad_made_vertex
returns-then-v-q c = search rules

pub returns-else-v-q : goal.returns-else-v-q
unfolding bad_made_vertex
returns-else-v-q c = search rules
