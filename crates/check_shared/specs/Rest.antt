-- Of two pieces that share a face, the corners that it is without tell whether all their corners are the same.
use Rattle.std.specs.Prelude.{◌≡◌, refl, Bool, true, not, ◌&&◌, ◌||◌, List, ℕ, ◌<◌, eqb, get_or}
use Rattle.std.proofs.Common.{ap₂, ◌∙◌, ⊎_elim, eqb-true}
use Rattle.laws.specs.Below.{same_tests, any_below, any_is, any_where, all_at, all_of, and_left, and_right, or_second, either}
use Rattle.piece.specs.declared.Piece.{Piece}
use Rattle.piece.specs.Ends.{corner_at}
use Rattle.check_refusals.specs.Refusals.{has_corner, face_has, face_within, same_face, corners_within, same_corners}

-- x is one of these corners.
unfoldable pub has : List ℕ → ℕ → Bool
has p x = eqb (get_or p 0 0) x || eqb (get_or p 1 0) x || eqb (get_or p 2 0) x || eqb (get_or p 3 0) x

-- The corner that face i of the one is without is a corner of the other too, and so the other way with face j.
unfoldable pub same_rest : List ℕ → ℕ → List ℕ → ℕ → Bool
same_rest p i q j = has q (get_or p i 0) && has p (get_or q j 0)

has_is : (p : Piece) (x : ℕ) → has p.corners x ≡ has_corner p x
unfolding has has_corner any_below
has_is p x = refl

-- A corner of a face is one of the piece.
face_corner : (q : Piece) (j x : ℕ) → face_has q j x ≡ true → has_corner q x ≡ true
unfolding face_has has_corner
face_corner q j x e =
    let (k, l, t) = any_where (λ k. not (eqb k j) && eqb (corner_at q k) x) 4 e in
    any_is (λ k. eqb (corner_at q k) x) 4 k l (and_right (not (eqb k j)) (eqb (corner_at q k) x) t)

rest_within : (p q : Piece) (i j : ℕ) → i < 4 → face_within p i q j ≡ true → has_corner q (corner_at p i) ≡ corners_within p q
unfolding face_within corners_within
rest_within p q i j low e = same_tests (has_corner q (corner_at p i)) (corners_within p q) (λ t. all_of Has 4 (λ k l. at k l t)) (λ t. all_at Has 4 i t low)
  where
    Has : ℕ → Bool
    Has k = has_corner q (corner_at p k)

    at : (k : ℕ) → k < 4 → has_corner q (corner_at p i) ≡ true → has_corner q (corner_at p k) ≡ true
    at k l t =
        ⊎_elim
        (λ h. rw (eqb-true k i h) t)
        (λ n. face_corner q j (corner_at p k) (or_second (eqb k i) (face_has q j (corner_at p k)) n (all_at (λ k. eqb k i || face_has q j (corner_at p k)) 4 k e l)))
        (either (eqb k i))

pub same_rest_is : (p q : Piece) (i j : ℕ) → i < 4 → j < 4 → same_face p i q j ≡ true → same_rest p.corners i q.corners j ≡ same_corners p q
unfolding same_rest same_corners same_face
same_rest_is p q i j l m e =
    ap₂ ◌&&◌
    (has_is q (corner_at p i) ∙ rest_within p q i j l (and_left (face_within p i q j) (face_within q j p i) e))
    (has_is p (corner_at q j) ∙ rest_within q p j i m (and_right (face_within p i q j) (face_within q j p i) e))
