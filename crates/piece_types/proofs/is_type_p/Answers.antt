-- `piece_types::is_type_p`: it is the definition at what the calls return.
-- Assumes nothing.
use Rattle.std.proofs.Common.{rules}
use Rattle.piece.specs.Shape.{type_p, slot_a, slot_b, slot_c, slot_d, edge_c_d}
use Rattle.piece_types.proofs.is_type_p.Goals as goal

pub returns-then-other_marks_are : goal.returns-then-other_marks_are
unfolding type_p slot_a slot_b slot_c slot_d edge_c_d
returns-then-other_marks_are c = search rules

pub returns-else-other_marks_are : goal.returns-else-other_marks_are
unfolding type_p slot_a slot_b slot_c slot_d edge_c_d
returns-else-other_marks_are c = search rules
