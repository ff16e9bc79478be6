-- `piece_cut::new_mark`: each way out is one case of the definition, at what the calls return.
-- Assumes nothing.
use Rattle.piece.specs.Shape.{slot_a, slot_b}
use Rattle.piece_cut.specs.Cut.{new_mark}
use Rattle.piece_cut.proofs.new_mark.Goals as goal

pub returns-then-set : goal.returns-then-set
unfolding new_mark slot_a slot_b
returns-then-set c = rw (← c.requires, c.if-set.true, ← c.high_slot.ensures, ← c.mark_of-acd.ensures, ← c.low_slot.ensures, ← c.mark_of-bcd.ensures, ← c.shared_slot.ensures) c.edge_between.ensures

pub returns : goal.returns
unfolding new_mark slot_a slot_b
returns c = rw (← c.requires, c.if-set.false, ← c.other_end.ensures) c.opposite_on.ensures
