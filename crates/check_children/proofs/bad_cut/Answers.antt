-- `check_children::bad_cut`: each way out is one case of the definition, at what the calls return.
-- Assumes nothing.
use mathlib.Core.Path.{sym, ◌∙◌}
use Rattle.check_refusals.specs.Refusals.{bad_cut}
use Rattle.check_children.specs.Midpoints.{midpoint_counted}
use Rattle.check_children.proofs.bad_cut.Goals as goal

pub returns-then-is_leaf : goal.returns-then-is_leaf
unfolding bad_cut midpoint_counted
returns-then-is_leaf c = record { value = rw (sym c.is_leaf.ensures ∙ c.if-is_leaf.true); midpoints_after = rw (sym c.is_leaf.ensures ∙ c.if-is_leaf.true) }

pub bad_children-requires : goal.bad_children-requires
bad_children-requires c = rw (← c.ends_of-ends.ensures) c.vertex_with-w.ensures

pub returns : goal.returns
unfolding bad_cut midpoint_counted
returns c = record { value = rw (c.bad_children.ensures, c.record-record.ensures, sym c.is_leaf.ensures ∙ c.if-is_leaf.false); midpoints_after = rw (c.count.ensures, c.vertex_with-w.ensures, c.ends_of-ends.ensures, c.record-record.ensures, sym c.is_leaf.ensures ∙ c.if-is_leaf.false) }
