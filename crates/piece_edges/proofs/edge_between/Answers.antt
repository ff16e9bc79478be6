-- `piece_edges::edge_between`: of two slots the table is computed; otherwise there is no edge.
-- Assumes nothing.
use native.Mathlib.Omega.{arith}
use Rattle.laws.specs.Below.{first_below}
use Rattle.piece_edges.specs.Edges.{low_slot, high_slot, has_slot, joins, edge_between}
use Rattle.piece_edges.specs.Tables.{edge_none}
use Rattle.piece_edges.proofs.edge_between.Goals as goal

pub returns-in-1-k : goal.returns-in-1-k
unfolding edge_between joins has_slot low_slot high_slot first_below
returns-in-1-k c = rw (c.in-0.is, c.in-1-k.is)

pub returns-in-2-k : goal.returns-in-2-k
unfolding edge_between joins has_slot low_slot high_slot first_below
returns-in-2-k c = rw (c.in-0.is, c.in-2-k.is)

pub returns-in-3-k : goal.returns-in-3-k
unfolding edge_between joins has_slot low_slot high_slot first_below
returns-in-3-k c = rw (c.in-0.is, c.in-3-k.is)

pub returns-in_default-k : goal.returns-in_default-k
unfolding edge_between joins has_slot low_slot high_slot first_below
returns-in_default-k c = edge_none c.args.j c.args.k (omega arith)

pub returns-in-0-k : goal.returns-in-0-k
unfolding edge_between joins has_slot low_slot high_slot first_below
returns-in-0-k c = rw (c.in-1.is, c.in-0-k.is)

pub returns-in-2-k-2 : goal.returns-in-2-k-2
unfolding edge_between joins has_slot low_slot high_slot first_below
returns-in-2-k-2 c = rw (c.in-1.is, c.in-2-k-2.is)

pub returns-in-3-k-2 : goal.returns-in-3-k-2
unfolding edge_between joins has_slot low_slot high_slot first_below
returns-in-3-k-2 c = rw (c.in-1.is, c.in-3-k-2.is)

pub returns-in_default-k-2 : goal.returns-in_default-k-2
unfolding edge_between joins has_slot low_slot high_slot first_below
returns-in_default-k-2 c = edge_none c.args.j c.args.k (omega arith)

pub returns-in-0-k-2 : goal.returns-in-0-k-2
unfolding edge_between joins has_slot low_slot high_slot first_below
returns-in-0-k-2 c = rw (c.in-2.is, c.in-0-k-2.is)

pub returns-in-1-k-2 : goal.returns-in-1-k-2
unfolding edge_between joins has_slot low_slot high_slot first_below
returns-in-1-k-2 c = rw (c.in-2.is, c.in-1-k-2.is)

pub returns-in-3-k-3 : goal.returns-in-3-k-3
unfolding edge_between joins has_slot low_slot high_slot first_below
returns-in-3-k-3 c = rw (c.in-2.is, c.in-3-k-3.is)

pub returns-in_default-k-3 : goal.returns-in_default-k-3
unfolding edge_between joins has_slot low_slot high_slot first_below
returns-in_default-k-3 c = edge_none c.args.j c.args.k (omega arith)

pub returns-in-0-k-3 : goal.returns-in-0-k-3
unfolding edge_between joins has_slot low_slot high_slot first_below
returns-in-0-k-3 c = rw (c.in-3.is, c.in-0-k-3.is)

pub returns-in-1-k-3 : goal.returns-in-1-k-3
unfolding edge_between joins has_slot low_slot high_slot first_below
returns-in-1-k-3 c = rw (c.in-3.is, c.in-1-k-3.is)

pub returns-in-2-k-3 : goal.returns-in-2-k-3
unfolding edge_between joins has_slot low_slot high_slot first_below
returns-in-2-k-3 c = rw (c.in-3.is, c.in-2-k-3.is)

pub returns-in_default-k-4 : goal.returns-in_default-k-4
unfolding edge_between joins has_slot low_slot high_slot first_below
returns-in_default-k-4 c = edge_none c.args.j c.args.k (omega arith)

pub returns-in_default : goal.returns-in_default
unfolding edge_between joins has_slot low_slot high_slot first_below
returns-in_default c = edge_none c.args.j c.args.k (omega arith)
