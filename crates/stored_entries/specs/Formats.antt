-- What a number and a record's corners are read as, by whether the format's numbers have four bytes or two.
use Rattle.std.specs.Prelude.{◌≡◌, Bool, ℕ, List, [], ◌∷◌, eqb}
use Rattle.std.proofs.Math.Path.{refl, sym}
use Rattle.std.proofs.Common.{ap, eqb-true}
use Rattle.std.proofs.Math.Bool.{true, false, cond}
use Rattle.stored.specs.declared.Format.{Format}
use Rattle.stored.specs.Layout.{version1, none, or_none, u16_at, u32_at, number_width, number_at, corners_from}

module _ (f : Format) where
  pub wide_width : f.wide ≡ true → number_width f ≡ 4
  wide_width w = ap (λ (b : Bool). cond b 4 2) w

  pub narrow_width : f.wide ≡ false → number_width f ≡ 2
  narrow_width w = ap (λ (b : Bool). cond b 4 2) w

  -- Of four bytes each number is read as it is: none is stored as it is.
  pub wide_is : f.wide ≡ true → (n : ℕ) → or_none f n ≡ n
  unfolding or_none
  wide_is w n = rw w (go (eqb n none) (eqb-true n none))
    where
      go : (b : Bool) → (b ≡ true → n ≡ none) → cond b none n ≡ n
      go true h = sym (h refl)
      go false h = refl

  pub narrow_is : f.wide ≡ false → (n : ℕ) → or_none f n ≡ or_none version1 n
  unfolding or_none
  narrow_is w n = rw w

  pub wide_number : f.wide ≡ true → (s : List ℕ) (at : ℕ) → u32_at s at ≡ or_none f (number_at f s at)
  wide_number w s at = rw (wide_is w (number_at f s at), w)

  pub narrow_number : f.wide ≡ false → (s : List ℕ) (at : ℕ) → or_none version1 (u16_at s at) ≡ or_none f (number_at f s at)
  narrow_number w s at = rw (narrow_is w (number_at f s at), w)

  pub wide_corners : f.wide ≡ true → (s : List ℕ) → u32_at s 0 ∷ u32_at s 4 ∷ u32_at s 8 ∷ u32_at s 12 ∷ [] ≡ corners_from f s
  wide_corners w s = rw (wide_number w s 0, wide_number w s 4, wide_number w s 8, wide_number w s 12, w)

  pub narrow_corners : f.wide ≡ false → (s : List ℕ) → corners_from version1 s ≡ corners_from f s
  unfolding or_none
  narrow_corners w s = rw w
