-- `piece_cut::child`: the parts that the calls return.
-- Assumes nothing.
use Rattle.piece_cut.specs.Cut.{child_of, child_shape}
use Rattle.piece_cut.proofs.child.Goals as goal

pub returns : goal.returns
unfolding child_of child_shape
returns c =
    rw (
      ← c.child_corners.ensures,
      ← c.refinement_edge.ensures,
      ← c.child_mark.ensures,
      ← c.child_mark-2.ensures,
      ← c.child_mark-3.ensures,
      ← c.child_mark-4.ensures,
      ← c.requires.1,
    )
