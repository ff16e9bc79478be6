-- `mesh_hanging::leaf_hangs` asks of a leaf's corners whether an edge hangs, where an edge's key has links at all.
-- Assumes nothing.
use Rattle.std.proofs.Common.{rules}
use Rattle.laws.specs.Below.{and_false}
use Rattle.mesh_tables.specs.Tables.{tables_read, piece_at}
use Rattle.mesh_hanging.specs.Hanging.{leaf_hangs_along, not_linked}
use Rattle.mesh_hanging.proofs.leaf_hangs.Goals as goal

pub returns-then-not-is_leaf : goal.returns-then-not-is_leaf
unfolding leaf_hangs_along
returns-then-not-is_leaf c = search rules

pub returns-then-any_linked : goal.returns-then-any_linked
unfolding leaf_hangs_along
returns-then-any_linked c = search rules

pub returns-else-any_linked : goal.returns-else-any_linked
unfolding leaf_hangs_along
returns-else-any_linked c =
    let a = c.args in
    let m = tables_read a.mesh.now in
    let none = not_linked m a.links.now.heads.now a.links.now.nexts.now (piece_at m a.n).corners in
    search (rules, none, and_false)
