-- `piece_edges::high_slot`: the codes of each arm have its slot in the table; a code above 5 has slot 0.
-- Assumes nothing.
use mathlib.Core.Path.{◌≡◌, refl}
use mathlib.Core.Logic.{inl, inr, ⊎_elim}
use native.Mathlib.Omega.{arith}
use Rattle.laws.specs.Below.{fold_below, all_below}
use Rattle.piece_edges.specs.Edges.{high_slot, high_past}
use Rattle.piece_edges.specs.Tables.{same_from}
use Rattle.piece_edges.proofs.high_slot.Goals as goal

pub returns-in-0 : goal.returns-in-0
unfolding high_slot all_below fold_below
returns-in-0 c = rw c.in-0.is

pub returns-in-1 : goal.returns-in-1
unfolding high_slot all_below fold_below
returns-in-1 c = ⊎_elim (λ h. rw h) (λ h. rw h) c.in-1.is

pub returns-in_default : goal.returns-in_default
unfolding high_slot all_below fold_below
returns-in_default c = high_past _ (omega arith)

pub returns-in-2 : goal.returns-in-2
unfolding high_slot all_below fold_below
returns-in-2 c = rw c.in-2.is

pub returns-in-2-2 : goal.returns-in-2-2
unfolding high_slot all_below fold_below
returns-in-2-2 c = let one : c.args.e ≡ 1 → ⊥ = λ h. c.in-2.in_default-own.rest.0.1 (inl h) in
    let three : c.args.e ≡ 3 → ⊥ = λ h. c.in-2.in_default-own.rest.0.1 (inr h) in
    same_from high_slot 3 4 2 refl _ (omega arith) (omega arith)
