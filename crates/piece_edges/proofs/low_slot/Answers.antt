-- `piece_edges::low_slot`: the codes of each arm have its slot in the table; a code above 5 has slot 0.
-- Assumes nothing.
use mathlib.Core.Path.{refl}
use native.Mathlib.Omega.{arith}
use Rattle.laws.specs.Below.{fold_below, all_below}
use Rattle.piece_edges.specs.Edges.{low_slot, low_past}
use Rattle.piece_edges.specs.Tables.{same_from}
use Rattle.piece_edges.proofs.low_slot.Goals as goal

pub returns-in-5 : goal.returns-in-5
unfolding low_slot all_below fold_below
returns-in-5 c = rw c.in-5.is

pub returns-in-0 : goal.returns-in-0
unfolding low_slot all_below fold_below
returns-in-0 c = same_from low_slot 0 0 3 refl _ (omega arith) (omega arith)

pub returns-in-3 : goal.returns-in-3
unfolding low_slot all_below fold_below
returns-in-3 c = same_from low_slot 1 3 2 refl _ (omega arith) (omega arith)

pub returns-in_default : goal.returns-in_default
unfolding low_slot all_below fold_below
returns-in_default c = low_past c.args.e (omega arith)
