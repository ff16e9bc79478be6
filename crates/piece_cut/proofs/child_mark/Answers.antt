-- `piece_cut::child_mark`: each way out is one case of the definition, at what the calls return.
-- Assumes nothing.
use borrow.Author.Tests.{eq-eqb, ne_eqb}
use Rattle.piece_cut.specs.Cut.{child_mark}
use Rattle.piece_cut.proofs.child_mark.Goals as goal

pub returns-then-i-k : goal.returns-then-i-k
unfolding child_mark
returns-then-i-k c = rw (eq-eqb _ _ c.if-i-k.true) c.inherited_mark.ensures

pub returns-then-i-other_end : goal.returns-then-i-other_end
unfolding child_mark
returns-then-i-other_end c = rw (ne_eqb _ _ c.if-i-k.false, ← c.other_end.ensures, eq-eqb _ _ c.if-i-other_end.true) c.requires

pub returns : goal.returns
unfolding child_mark
returns c = rw (ne_eqb _ _ c.if-i-k.false, ← c.other_end.ensures, ne_eqb _ _ c.if-i-other_end.false) c.cut_mark.ensures
