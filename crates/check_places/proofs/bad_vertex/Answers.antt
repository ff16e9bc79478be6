-- `check_places::bad_vertex`: it is the definition at what the calls return.
-- Assumes nothing.
use Rattle.std.proofs.Common.{rules}
use Rattle.check_refusals.specs.Refusals.{bad_vertex}
use Rattle.check_places.specs.Kept.{place_twice_lem}
use Rattle.check_places.proofs.bad_vertex.Goals as goal

pub returns-then-bad_base_vertex : goal.returns-then-bad_base_vertex
unfolding bad_vertex
returns-then-bad_base_vertex c kept = search rules

pub returns-else-bad_base_vertex : goal.returns-else-bad_base_vertex
unfolding bad_vertex
returns-else-bad_base_vertex c kept = let twice = place_twice_lem _ _ _ _ kept c.if-v-mesh.true in search (rules, twice)

pub returns-then-bad_made_vertex : goal.returns-then-bad_made_vertex
unfolding bad_vertex
returns-then-bad_made_vertex c kept = search rules

pub returns-else-bad_made_vertex : goal.returns-else-bad_made_vertex
unfolding bad_vertex
returns-else-bad_made_vertex c kept = let twice = c.pair_twice.ensures kept in search (rules, twice)
