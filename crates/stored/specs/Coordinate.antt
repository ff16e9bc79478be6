-- "Coordinates in two's complement": a stored coordinate's place stands for the number that the machine reads from the two bytes.
use Rattle.std.specs.Prelude.{◌≡◌, ℕ, suc, ◌+◌, ◌-◌, ◌≤◌, ◌<◌, pos, negsuc, ltb}
use Rattle.std.proofs.Common.{sym, ap, ◌∙◌, ⊎_elim, arith, to_z, lt-ltb, le-ltb, ltb-true, ltb-false}
use Rattle.std.specs.Int.{w16}
use Rattle.laws.specs.Below.{either}
use Rattle.grid.specs.Places.{coordinate, shift}
use Rattle.stored.specs.Layout.{place_of, stored_of}
use Rattle.stored.specs.Fitting.{U16}

-- each undoes the other
pub stored_place : (n : ℕ) → U16 n → stored_of (place_of n) ≡ n
stored_place n h = omega arith

pub place_stored : (place : ℕ) → U16 place → place_of (stored_of place) ≡ place
place_stored place h = omega arith

pub stored_fits : (place : ℕ) → U16 (stored_of place)
stored_fits place = omega arith

-- the place that is read
pub place_read : (n : ℕ) → U16 n → coordinate (place_of n) ≡ to_z w16 n
unfolding coordinate
place_read n h = ⊎_elim (λ t. low (ltb-true n shift t)) (λ f. high (ltb-false n shift f)) (either (ltb n shift))
  where
    low : n < shift → coordinate (place_of n) ≡ to_z w16 n
    low l =
        let up : place_of n ≡ n + shift = omega arith in
        let back : n + shift - shift ≡ n = omega arith in
        rw (up, le-ltb (n + shift) shift (omega arith), lt-ltb n shift l) (ap pos back)

    high : shift ≤ n → coordinate (place_of n) ≡ to_z w16 n
    high g =
        let down : place_of n ≡ n - shift = omega arith in
        let back : shift - suc (n - shift) ≡ 65536 - suc n = omega arith in
        rw (down, lt-ltb (n - shift) shift (omega arith), le-ltb n shift g) (ap negsuc back)

-- the place that is written
pub place_written : (place : ℕ) → U16 place → to_z w16 (stored_of place) ≡ coordinate place
place_written place h = sym (place_read (stored_of place) (stored_fits place)) ∙ ap coordinate (place_stored place h)
