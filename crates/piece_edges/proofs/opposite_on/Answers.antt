-- `piece_edges::opposite_on`: the table is computed, from what each arm says of the two slots.
-- Assumes nothing.
use native.Mathlib.Omega.{arith}
use borrow.Author.Tests.{ne_eqb}
use Rattle.laws.specs.Below.{first_below, and_false}
use Rattle.piece_edges.specs.Edges.{low_slot, high_slot, has_slot, on_face, opposite, opposite_on}
use Rattle.piece_edges.proofs.opposite_on.Goals as goal

pub returns-in-1-k : goal.returns-in-1-k
unfolding opposite_on opposite on_face has_slot low_slot high_slot first_below
returns-in-1-k c = rw (c.in-0.is, c.in-1-k.is)

pub returns-in-2-k : goal.returns-in-2-k
unfolding opposite_on opposite on_face has_slot low_slot high_slot first_below
returns-in-2-k c = rw (c.in-0.is, c.in-2-k.is)

pub returns-in_default-k : goal.returns-in_default-k
unfolding opposite_on opposite on_face has_slot low_slot high_slot first_below
returns-in_default-k c = let k = c.args.k in rw (c.in-0.is, ne_eqb 1 k (omega arith), ne_eqb 2 k (omega arith))

pub returns-in-0-k : goal.returns-in-0-k
unfolding opposite_on opposite on_face has_slot low_slot high_slot first_below
returns-in-0-k c = rw (c.in-1.is, c.in-0-k.is)

pub returns-in-2-k-2 : goal.returns-in-2-k-2
unfolding opposite_on opposite on_face has_slot low_slot high_slot first_below
returns-in-2-k-2 c = rw (c.in-1.is, c.in-2-k-2.is)

pub returns-in_default-k-2 : goal.returns-in_default-k-2
unfolding opposite_on opposite on_face has_slot low_slot high_slot first_below
returns-in_default-k-2 c = let k = c.args.k in rw (c.in-1.is, ne_eqb 0 k (omega arith), ne_eqb 2 k (omega arith))

pub returns-in-0-k-2 : goal.returns-in-0-k-2
unfolding opposite_on opposite on_face has_slot low_slot high_slot first_below
returns-in-0-k-2 c = rw (c.in-2.is, c.in-0-k-2.is)

pub returns-in-1-k-2 : goal.returns-in-1-k-2
unfolding opposite_on opposite on_face has_slot low_slot high_slot first_below
returns-in-1-k-2 c = rw (c.in-2.is, c.in-1-k-2.is)

pub returns-in_default-k-3 : goal.returns-in_default-k-3
unfolding opposite_on opposite on_face has_slot low_slot high_slot first_below
returns-in_default-k-3 c = let k = c.args.k in rw (c.in-2.is, ne_eqb 0 k (omega arith), ne_eqb 1 k (omega arith))

pub returns-in-0-k-3 : goal.returns-in-0-k-3
unfolding opposite_on opposite on_face has_slot low_slot high_slot first_below
returns-in-0-k-3 c = let i = c.args.i in rw (c.in-0-k-3.is, ne_eqb 0 i (omega arith), ne_eqb 1 i (omega arith), ne_eqb 2 i (omega arith), and_false)

pub returns-in-1-k-3 : goal.returns-in-1-k-3
unfolding opposite_on opposite on_face has_slot low_slot high_slot first_below
returns-in-1-k-3 c = let i = c.args.i in rw (c.in-1-k-3.is, ne_eqb 0 i (omega arith), ne_eqb 1 i (omega arith), ne_eqb 2 i (omega arith))

pub returns-in_default-k-4 : goal.returns-in_default-k-4
unfolding opposite_on opposite on_face has_slot low_slot high_slot first_below
returns-in_default-k-4 c = let i = c.args.i in let k = c.args.k in rw (ne_eqb 0 i (omega arith), ne_eqb 1 i (omega arith), ne_eqb 0 k (omega arith), ne_eqb 1 k (omega arith))
