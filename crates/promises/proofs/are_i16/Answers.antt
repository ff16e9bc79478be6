-- `promises::are_i16` meets its contract. The loop's invariant: every coordinate passed is an i16.
use mathlib.Core.Path.{sym, subst}
use mathlib.Core.Logic.{⊎_elim}
use mathlib.Core.List.{List}
use Prim.Native.Nat.{ℕ, ◌-◌}
use native.Mathlib.Nat.{eq-or-lt_of_le, le_of_suc-le-suc}
use native.Mathlib.Numerals.{add-one}
use native.Mathlib.Omega.{arith}
use borrow.Author.Rules.{sfits_of}
use lib.ListN.{get_or}
use lib.IntN.{ℤ, pos}
use mir.Syntax.{w16}
use Rattle.demands_words.specs.Words.{I16}
use Rattle.demands_proofs.specs.GivenTypes.{i16_held}
use Rattle.promises.proofs.are_i16.Goals as goal

pub loop-i-preserved : goal.loop-i-preserved
loop-i-preserved c =
    let turn = c.loop-i in
    let coordinates : List ℤ = c.args.coordinates.now in
    let here : I16 (get_or coordinates turn.i (pos 0)) = i16_held _ (sfits_of {w = w16} {z = get_or coordinates turn.i (pos 0)} c.read-1.given) in (
      omega arith,
      λ k l.
          ⊎_elim
          (λ e. subst (λ (j : ℕ). I16 (get_or coordinates j (pos 0))) (sym e) here)
          (λ below. turn.invariant.1 k below)
          (eq-or-lt_of_le (le_of_suc-le-suc (rw add-one at l))),
    )

pub returns : goal.returns
returns c = record { each = λ k l. c.loop-i.invariant.1 k (omega arith) }

pub loop-i-init : goal.loop-i-init
loop-i-init c = (omega arith, λ k l. absurd (omega arith))
