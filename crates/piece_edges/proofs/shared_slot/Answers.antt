-- `piece_edges::shared_slot`: each way out is one case of the search among the ends, at what the calls return.
-- Assumes nothing.
use Rattle.piece_edges.specs.Tables.{shared_by_ends}
use Rattle.piece_edges.proofs.shared_slot.Goals as goal

pub returns-then-has_slot : goal.returns-then-has_slot
returns-then-has_slot c = rw (shared_by_ends, ← c.low_slot-low.ensures, ← c.has_slot.ensures, c.if-has_slot.true)

pub returns-then-has_slot-2 : goal.returns-then-has_slot-2
returns-then-has_slot-2 c = rw (shared_by_ends, ← c.low_slot-low.ensures, ← c.has_slot.ensures, c.if-has_slot.false, ← c.high_slot-high.ensures, ← c.has_slot-2.ensures, c.if-has_slot-2.true)

pub returns : goal.returns
returns c = rw (shared_by_ends, ← c.low_slot-low.ensures, ← c.has_slot.ensures, c.if-has_slot.false, ← c.high_slot-high.ensures, ← c.has_slot-2.ensures, c.if-has_slot-2.false)
