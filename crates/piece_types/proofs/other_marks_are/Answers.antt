-- `piece_types::other_marks_are`: it is the definition at what the calls return.
-- Assumes nothing.
use Rattle.std.proofs.Common.{rules}
use Rattle.piece.specs.Shape.{other_marks_are, slot_a, slot_b}
use Rattle.piece_types.proofs.other_marks_are.Goals as goal

pub returns-then-mark_of-x : goal.returns-then-mark_of-x
unfolding other_marks_are slot_a slot_b
returns-then-mark_of-x c = search rules

pub returns-else-mark_of-x : goal.returns-else-mark_of-x
unfolding other_marks_are slot_a slot_b
returns-else-mark_of-x c = search rules
