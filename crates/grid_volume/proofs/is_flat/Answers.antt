-- `grid_volume::is_flat`: the bits of a number are 0 exactly where it is.
-- Assumes nothing.
use mathlib.Core.Path.{◌≡◌, sym, ap, ◌∙◌}
use mathlib.Core.Logic.{⊎_elim}
use lib.Dec.{eqb}
use lib.IntN.{ℤ, nat_abs}
use borrow.Author.Tests.{eqb-true, eqb-false, ne_eqb}
use mir.Syntax.{w64}
use mir.Val.{SFits, to_z, of_z}
use mir.Facts.{to_z-of_z}
use Rattle.algebra.specs.Absolute.{zero_of_abs}
use Rattle.laws.specs.Below.{either}
use Rattle.grid_volume.proofs.is_flat.Goals as goal

bits : (z : ℤ) → SFits w64 z → eqb (of_z w64 z) 0 ≡ eqb (nat_abs z) 0
bits z fits =
    ⊎_elim
    (λ t. ap (λ (x : ℤ). eqb (of_z w64 x) 0) (zero_of_abs z (eqb-true (nat_abs z) 0 t)) ∙ sym t)
    (λ f. ne_eqb (of_z w64 z) 0 (λ e. eqb-false (nat_abs z) 0 f (ap nat_abs (sym (to_z-of_z fits) ∙ ap (to_z w64) e))) ∙ sym f)
    (either (eqb (nat_abs z) 0))

pub returns : goal.returns
returns c = bits c.args.signed c.ranges.signed
