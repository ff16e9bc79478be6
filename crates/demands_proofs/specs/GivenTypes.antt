-- The types of build's arguments, a u32, i16s and u16s, give all that its laws ask of them, and each vertex stands at its listed coordinates.
-- Assumes nothing.
use Rattle.std.specs.Prelude.{◌≡◌, refl, List, ℕ, suc, ◌+◌, ◌*◌, ◌-◌, ◌<◌, ℤ, pos, negsuc, nat_abs, ◌+ℤ◌, ◌-ℤ◌}
use Rattle.std.proofs.Common.{sym, ap, ◌∙◌, arith, leb→le, le→leb, SFits, le-ltb}
use Rattle.std.proofs.Math.ListN.{length, get_or}
use Rattle.std.proofs.Math.IntN.{+ℤ-neg_ℤ_cancel}
use Rattle.std.specs.Int.{w16}
use Rattle.grid.specs.Places.{coordinate, shift}
use Rattle.build_marks.specs.Marking.{place_for, plain_place}
use Rattle.build_meaning.specs.Written.{Given}
use Rattle.demands_words.specs.Words.{point_at, plain_base, I16, ArgumentTypes}

-- What the machine holds as an i16 is one.
pub i16_held : (z : ℤ) → SFits w16 z → I16 z
i16_held (pos n) h = record { least = record { le = tt }; greatest = record { le = le→leb n 32767 (omega (arith, h.sfits)) } }
i16_held (negsuc n) h = record { least = record { le = le→leb n 32767 (omega (arith, h.sfits)) }; greatest = record { le = tt } }

-- An i16 and 32,768 more is a u16.
shifted : (z : ℤ) → I16 z → (n : ℕ) × (z +ℤ pos shift ≡ pos n) × (n < 65536)
shifted (pos n) h = let l = leb→le n 32767 h.greatest.le in (n + shift, refl, omega arith)
shifted (negsuc n) h =
    let l = leb→le n 32767 h.least.le in
    (shift - suc n, rw (le-ltb shift (suc n) (omega arith)) refl, omega arith)

place_small : (z : ℤ) → I16 z → place_for z < 65536
place_small z h = let (n, e, l) = shifted z h in rw e l

-- The place of an i16 holds it.
place_holds : (z : ℤ) → I16 z → coordinate (place_for z) ≡ z
unfolding coordinate
place_holds z h =
    let (n, e, l) = shifted z h in
    ap (λ (x : ℤ). pos (nat_abs x) -ℤ pos shift) e ∙ ap (λ (x : ℤ). x -ℤ pos shift) (sym e) ∙ +ℤ-neg_ℤ_cancel z (pos shift)

module _ (job : ℕ) (coordinates : List ℤ) (corners : List ℕ) (t : ArgumentTypes job coordinates corners) where
  pub given_by_types : Given job coordinates corners
  given_by_types =
      record {
        fits_job = t.u32_job;
        each_coordinate = λ k l. place_small (get_or coordinates k (pos 0)) (t.i16_coordinates k l);
        each_corner = t.u16_corners;
      }

  -- "Three coordinates a vertex": x, y and z as they are listed.
  pub stands_as_listed : (v : ℕ) → v < (plain_base coordinates corners).vertices →
      point_at (plain_base coordinates corners) v
      ≡ record { x = get_or coordinates (3 * v) (pos 0); y = get_or coordinates (3 * v + 1) (pos 0); z = get_or coordinates (3 * v + 2) (pos 0) }
  unfolding plain_place
  stands_as_listed v l =
      let at : (k : ℕ) → k < length coordinates → coordinate (place_for (get_or coordinates k (pos 0))) ≡ get_or coordinates k (pos 0) =
      λ k h. place_holds (get_or coordinates k (pos 0)) (t.i16_coordinates k h) in
      let x = at (3 * v) (omega arith) in
      let y = at (3 * v + 1) (omega arith) in
      let z = at (3 * v + 2) (omega arith) in
      λ i. record { x = x i; y = y i; z = z i }
