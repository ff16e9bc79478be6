-- `check_pieces::equal_corners`: each way out is the edge at which the ends are equal, or the last.
-- Assumes nothing.
use borrow.Author.Tests.{eq-eqb, ne_eqb}
use Rattle.laws.specs.Below.{any_below, fold_below}
use Rattle.piece_edges.specs.Edges.{low_slot, high_slot}
use Rattle.check_refusals.specs.Refusals.{equal_corners}
use Rattle.check_pieces.proofs.equal_corners.Goals as goal

pub returns-then-a-b : goal.returns-then-a-b
unfolding equal_corners any_below fold_below low_slot high_slot
returns-then-a-b c = rw (eq-eqb _ _ c.if-a-b.true)

pub returns-then-a-c : goal.returns-then-a-c
unfolding equal_corners any_below fold_below low_slot high_slot
returns-then-a-c c = rw (ne_eqb _ _ c.if-a-b.false, eq-eqb _ _ c.if-a-c.true)

pub returns-then-a-d : goal.returns-then-a-d
unfolding equal_corners any_below fold_below low_slot high_slot
returns-then-a-d c = rw (ne_eqb _ _ c.if-a-b.false, ne_eqb _ _ c.if-a-c.false, eq-eqb _ _ c.if-a-d.true)

pub returns-then-b-c : goal.returns-then-b-c
unfolding equal_corners any_below fold_below low_slot high_slot
returns-then-b-c c = rw (ne_eqb _ _ c.if-a-b.false, ne_eqb _ _ c.if-a-c.false, ne_eqb _ _ c.if-a-d.false, eq-eqb _ _ c.if-b-c.true)

pub returns-then-b-d : goal.returns-then-b-d
unfolding equal_corners any_below fold_below low_slot high_slot
returns-then-b-d c = rw (ne_eqb _ _ c.if-a-b.false, ne_eqb _ _ c.if-a-c.false, ne_eqb _ _ c.if-a-d.false, ne_eqb _ _ c.if-b-c.false, eq-eqb _ _ c.if-b-d.true)

pub returns : goal.returns
unfolding equal_corners any_below fold_below low_slot high_slot
returns c = rw (ne_eqb _ _ c.if-a-b.false, ne_eqb _ _ c.if-a-c.false, ne_eqb _ _ c.if-a-d.false, ne_eqb _ _ c.if-b-c.false, ne_eqb _ _ c.if-b-d.false)
