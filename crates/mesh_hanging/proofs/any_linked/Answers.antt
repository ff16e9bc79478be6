-- `mesh_hanging::any_linked`: it is the definition, edge by edge, at what the calls return.
-- Assumes nothing.
use Rattle.std.proofs.Common.{rules}
use Rattle.laws.specs.Below.{any_below, fold_below}
use Rattle.piece_edges.specs.Edges.{low_slot, high_slot}
use Rattle.piece.specs.Ends.{ends_at}
use Rattle.mesh_hanging.specs.Hanging.{any_linked}
use Rattle.mesh_hanging.proofs.any_linked.Goals as goal

pub returns-then-is_linked-5 : goal.returns-then-is_linked-5
unfolding any_linked any_below fold_below low_slot high_slot ends_at
returns-then-is_linked-5 c = search rules

pub returns-else-is_linked-5 : goal.returns-else-is_linked-5
unfolding any_linked any_below fold_below low_slot high_slot ends_at
returns-else-is_linked-5 c = search rules
