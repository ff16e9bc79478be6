-- `check_places::bad_base_vertex`: it is the definition at what the calls return.
-- Assumes nothing.
use Rattle.std.proofs.Common.{rules}
use Rattle.check_refusals.specs.Refusals.{bad_base_vertex}
use Rattle.check_places.proofs.bad_base_vertex.Goals as goal

pub returns-then-v-ne-NONE : goal.returns-then-v-ne-NONE
unfolding bad_base_vertex
returns-then-v-ne-NONE c = search rules

pub returns-else-v-ne-NONE : goal.returns-else-v-ne-NONE
unfolding bad_base_vertex
returns-else-v-ne-NONE c = search rules
