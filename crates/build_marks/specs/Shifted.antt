-- An i16 and 32,768 more is a u16, and an i32 holds it.
use Rattle.std.specs.Prelude.{◌≡◌, refl, ℕ, suc, ◌+◌, ◌-◌, ◌<◌, T, ℤ, pos, negsuc, nat_abs, ◌+ℤ◌}
use Rattle.std.proofs.Common.{sym, ap, ◌∙◌, subst, arith, Fits, SFits, to_z, of_z, to_z-of_z, le-ltb}
use Rattle.std.specs.Int.Signed.{non_neg}
use Rattle.std.specs.Int.{w16, w32}
use Rattle.std.proofs.Math.Facts.{sfits_widen}
use Rattle.grid.specs.Places.{shift}

pub record Above (z : ℤ) : Type 0 where
  pub number : ℕ
  pub is : z +ℤ pos shift ≡ pos number
  pub small : number < 65536

above : (z : ℤ) → SFits w16 z → Above z
above (pos n) h = record { number = n + shift; is = refl; small = omega (arith, h.sfits) }
above (negsuc n) h =
    record { number = shift - suc n; is = rw (le-ltb shift (suc n) (omega (arith, h.sfits))); small = omega arith }

-- A number as an i16 and an i32 hold it.
abbrev pub held16 : ℤ → ℤ
held16 z = to_z w16 (of_z w16 z)

abbrev pub held32 : ℤ → ℤ
held32 z = to_z w32 (of_z w32 z)

module _ (z : ℤ) (h : SFits w16 z) where
  pub widens : SFits w32 (held16 z)
  widens = subst (SFits w32) (sym (to_z-of_z h)) (sfits_widen {w = w16} {w' = w32} tt h)

  itself : held32 (held16 z) ≡ z
  itself = to_z-of_z widens ∙ to_z-of_z h

  pub adds : SFits w32 (held32 (held16 z) +ℤ pos shift)
  adds =
      subst (λ (x : ℤ). SFits w32 (x +ℤ pos shift)) (sym itself)
      (subst (SFits w32) (sym (above z h).is) (record { sfits = omega (arith, (above z h).small) }))

  pub sum_held : held32 (held32 (held16 z) +ℤ pos shift) ≡ z +ℤ pos shift
  sum_held = to_z-of_z adds ∙ ap (λ (x : ℤ). x +ℤ pos shift) itself

  pub narrows : T (non_neg (held32 (held32 (held16 z) +ℤ pos shift))) × Fits w16 (nat_abs (held32 (held32 (held16 z) +ℤ pos shift)))
  narrows =
      subst (λ (x : ℤ). T (non_neg x) × Fits w16 (nat_abs x)) (sym (sum_held ∙ (above z h).is))
      (tt, record { fits = omega (arith, (above z h).small) })
