-- A face by its three corners.
use Rattle.std.specs.Prelude.{◌≡◌, Bool, cond, ◌&&◌, ◌||◌, List, eqb, leb, get_or}
use Rattle.std.proofs.Math.Path.{refl}
use Rattle.std.proofs.Common.{◌∙◌, ap₂, arith}
use Rattle.std.proofs.Math.Bool.{and-true, or-false}
use Prim.Native.Nat.{ℕ, zero, suc, ◌<◌}
use Rattle.laws.specs.Below.{any_below, all_below}
use Rattle.piece.specs.declared.Piece.{Piece}
use Rattle.piece.specs.Ends.{corner_at}
use Rattle.check_refusals.specs.Refusals.{face_has, face_within, same_face}
use Rattle.check_shared.specs.declared.Face.{Face}

-- Face i of a piece with these corners, the one without slot i.
unfoldable pub face_of : List ℕ → ℕ → Face
face_of p i =
    record {
      a = cond (eqb i 0) (get_or p 1 0) (get_or p 0 0);
      b = cond (leb i 1) (get_or p 2 0) (get_or p 1 0);
      c = cond (leb i 2) (get_or p 3 0) (get_or p 2 0);
    }

-- x is a corner of the face.
unfoldable pub holds : Face → ℕ → Bool
holds f x = eqb f.a x || eqb f.b x || eqb f.c x

-- Every corner of f is one of g.
unfoldable pub inside : Face → Face → Bool
inside f g = holds g f.a && holds g f.b && holds g f.c

unfoldable pub same_set : Face → Face → Bool
same_set f g = inside f g && inside g f

-- ---- the same as the definitions by slots

holds_is : (q : Piece) (j x : ℕ) → j < 4 → holds (face_of q.corners j) x ≡ face_has q j x
unfolding holds face_of face_has any_below
holds_is q zero x l = refl
holds_is q (suc zero) x l = rw (or-false (eqb (corner_at q 0) x))
holds_is q (suc (suc zero)) x l = rw (or-false (eqb (corner_at q 0) x || eqb (corner_at q 1) x))
holds_is q (suc (suc (suc zero))) x l = rw (or-false (eqb (corner_at q 0) x || eqb (corner_at q 1) x || eqb (corner_at q 2) x))
holds_is q (suc (suc (suc (suc j)))) x l = absurd (omega arith)

module _ (p q : Piece) (j : ℕ) (low : j < 4) where
  three : (f : Face) → inside f (face_of q.corners j) ≡ (face_has q j f.a && face_has q j f.b && face_has q j f.c)
  unfolding inside
  three f = rw (holds_is q j f.a low, holds_is q j f.b low, holds_is q j f.c low)

  by_slots : (i : ℕ) → i < 4 →
      (face_has q j (face_of p.corners i).a && face_has q j (face_of p.corners i).b && face_has q j (face_of p.corners i).c) ≡ face_within p i q j
  unfolding face_of face_within all_below
  by_slots zero l = refl
  by_slots (suc zero) l = rw (and-true (face_has q j (corner_at p 0)))
  by_slots (suc (suc zero)) l = rw (and-true (face_has q j (corner_at p 0) && face_has q j (corner_at p 1)))
  by_slots (suc (suc (suc zero))) l = rw (and-true (face_has q j (corner_at p 0) && face_has q j (corner_at p 1) && face_has q j (corner_at p 2)))
  by_slots (suc (suc (suc (suc i)))) l = absurd (omega arith)

  inside_is : (i : ℕ) → i < 4 → inside (face_of p.corners i) (face_of q.corners j) ≡ face_within p i q j
  inside_is i l = three (face_of p.corners i) ∙ by_slots i l

pub same_face_is : (p q : Piece) (i j : ℕ) → i < 4 → j < 4 → same_set (face_of p.corners i) (face_of q.corners j) ≡ same_face p i q j
unfolding same_set same_face
same_face_is p q i j l m = ap₂ ◌&&◌ (inside_is p q j m i l) (inside_is q p i l j m)
