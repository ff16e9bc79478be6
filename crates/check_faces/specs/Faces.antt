-- Rule 7 by faces: every face of the records has a number, f for face f % 4 of record f / 4, and a face of q is bad with one of them.
use Rattle.std.specs.Prelude.{◌≡◌, false, ◌&&◌, ◌||◌, List, ltb}
use Rattle.std.proofs.Math.Path.{sym}
use Rattle.std.proofs.Common.{◌∙◌}
use Rattle.std.proofs.Math.Bool.{Bool, true, not}
use Rattle.std.proofs.Math.Logic.{⊎_elim}
use Prim.Native.Nat.{ℕ, ◌+◌, ◌*◌, ◌/◌, ◌%◌, ◌<◌}
use native.Mathlib.Omega.{arith}
use borrow.Author.Tests.{ltb-true, lt-ltb}
use Rattle.laws.specs.Below.{same_tests, any_below, any_is, any_where, and_left, and_right, or_true, or_second, either}
use Rattle.piece.specs.declared.Piece.{Piece}
use Rattle.piece.specs.Shape.{shape_of, mark}
use Rattle.stored.specs.declared.Record.{Record}
use Rattle.check_refusals.specs.Refusals.{same_face, same_mark, same_corners, two_marks_on, two_marks, has_face, face_before, face_in_three, bad_together, bad_with}
use Rattle.check_shared.specs.declared.Face.{Face}
use Rattle.check_shared.specs.Faces.{face_of, same_set, same_face_is}
use Rattle.check_shared.specs.Shared.{share_face}
use Rattle.check_shared.specs.Rest.{same_rest, same_rest_is}
use Rattle.check_shared.specs.Marks.{same_edge, same_edge_is}

-- Face f is this one.
unfoldable pub is_face : (ℕ → Record) → Face → ℕ → Bool
is_face record_at face f = same_set (face_of (record_at (f / 4)).piece.corners (f % 4)) face

-- It is, and its record comes before r.
unfoldable pub is_before : (ℕ → Record) → Face → ℕ → ℕ → Bool
is_before record_at face r f = ltb (f / 4) r && is_face record_at face f

-- Face f is this one, which is face i of q, with another mark, or its record has q's corners, or a record before its record has the face too: before f.
unfoldable pub bad_face : (ℕ → Record) → (ℕ → Bool) → Piece → ℕ → Face → ℕ → Bool
bad_face record_at before q i face f =
    is_face record_at face f
    && (not (same_mark (record_at (f / 4)).piece (f % 4) q i) || (same_rest (record_at (f / 4)).piece.corners (f % 4) q.corners i || before f))

-- What is read of its record: the corners p and the mark e; d is q's mark.
pub bad_face_is : (record_at : ℕ → Record) (before : ℕ → Bool) (q : Piece) (i : ℕ) (face : Face) (f : ℕ) (p : List ℕ) (e d : ℕ) →
    p ≡ (record_at (f / 4)).piece.corners → e ≡ mark (shape_of (record_at (f / 4)).piece) (f % 4) → d ≡ mark (shape_of q) i →
    bad_face record_at before q i face f
    ≡ (same_set (face_of p (f % 4)) face && (not (same_edge p e q.corners d) || (same_rest p (f % 4) q.corners i || before f)))
unfolding bad_face is_face same_mark
bad_face_is record_at before q i face f p e d pe ee de =
    let P : Piece = (record_at (f / 4)).piece in
    rw (pe, ee, de, same_edge_is P q (mark (shape_of P) (f % 4)) (mark (shape_of q) i))

module _ (record_at : ℕ → Record) (q : Piece) (n : ℕ) where
  -- The piece of a record.
  abbrev Of : ℕ → Piece
  Of r = (record_at r).piece

  -- A record before r has face i.
  abbrev Before : ℕ → ℕ → Bool
  Before i r = any_below (4 * n) (is_before record_at (face_of q.corners i) r)

  -- Face i is bad with face f.
  abbrev Bad : ℕ → ℕ → Bool
  Bad i f = bad_face record_at (λ g. Before i (g / 4)) q i (face_of q.corners i) f

  is_face_lem : (i f : ℕ) → i < 4 → is_face record_at (face_of q.corners i) f ≡ same_face (Of (f / 4)) (f % 4) q i
  unfolding is_face
  is_face_lem i f l = same_face_is (Of (f / 4)) q (f % 4) i (omega arith) l

  -- Face j of record r by its number.
  is_face_of : (i r j : ℕ) → i < 4 → j < 4 → same_face (Of r) j q i ≡ true → is_face record_at (face_of q.corners i) (4 * r + j) ≡ true
  is_face_of i r j l low e =
      let record_is : (4 * r + j) / 4 ≡ r = omega arith in
      let face_is : (4 * r + j) % 4 ≡ j = omega arith in
      is_face_lem i (4 * r + j) l ∙ rw (record_is, face_is) e

  -- ---- where a face is bad, two records are bad together

  three_bad : (r : ℕ) (p : Piece) → face_in_three record_at q r p ≡ true → bad_together record_at q r p ≡ true
  unfolding bad_together
  three_bad r p e = rw e

  corners_bad : (r : ℕ) (p : Piece) → same_corners p q ≡ true → bad_together record_at q r p ≡ true
  unfolding bad_together
  corners_bad r p e = rw (e, or_true (face_in_three record_at q r p))

  marks_bad : (r : ℕ) (p : Piece) → two_marks p q ≡ true → bad_together record_at q r p ≡ true
  unfolding bad_together
  marks_bad r p e = rw e (or_true (face_in_three record_at q r p || same_corners p q))

  before_back : (i r : ℕ) → i < 4 → Before i r ≡ true → face_before record_at q i r ≡ true
  unfolding face_before has_face is_before
  before_back i r l e =
      let face = face_of q.corners i in
      let (f, b, t) = any_where (is_before record_at face r) (4 * n) e in
      any_is (λ s. has_face q i (Of s)) r (f / 4) (ltb-true (f / 4) r (and_left (ltb (f / 4) r) (is_face record_at face f) t))
      (any_is (λ j. same_face (Of (f / 4)) j q i) 4 (f % 4) (omega arith) (sym (is_face_lem i f l) ∙ and_right (ltb (f / 4) r) (is_face record_at face f) t))

  bad_back : (i f : ℕ) → i < 4 → Bad i f ≡ true → bad_together record_at q (f / 4) (Of (f / 4)) ≡ true
  unfolding face_in_three two_marks two_marks_on has_face bad_face
  bad_back i f l e =
      let p : Piece = Of (f / 4) in
      let j : ℕ = f % 4 in
      let here : Bool = is_face record_at (face_of q.corners i) f in
      let corners : Bool = same_rest p.corners j q.corners i in
      let rest : Bool = not (same_mark p j q i) || (corners || Before i (f / 4)) in
      let same : same_face p j q i ≡ true = sym (is_face_lem i f l) ∙ and_left here rest e in
      let how : rest ≡ true = and_right here rest e in
      ⊎_elim
      (λ (t : same_mark p j q i ≡ true).
      let left = or_second (not (same_mark p j q i)) (corners || Before i (f / 4)) (rw t) how in
      ⊎_elim
      (λ c. corners_bad (f / 4) p (sym (same_rest_is p q j i (omega arith) l same) ∙ c))
      (λ d.
      let before = before_back i (f / 4) l (or_second corners (Before i (f / 4)) d left) in
      let has = any_is (λ j. same_face p j q i) 4 j (omega arith) same in
      three_bad (f / 4) p (any_is (λ i. has_face q i p && face_before record_at q i (f / 4)) 4 i l (rw (has, before))))
      (either corners))
      (λ (d : same_mark p j q i ≡ false). marks_bad (f / 4) p (any_is (λ a. any_below 4 (two_marks_on p a q)) 4 j (omega arith) (any_is (two_marks_on p j q) 4 i l (rw (same, d)))))
      (either (same_mark p j q i))

  -- ---- where two records are bad together, a face is bad

  before_there : (i r : ℕ) → i < 4 → r < n → face_before record_at q i r ≡ true → Before i r ≡ true
  unfolding face_before has_face is_before
  before_there i r m l e =
      let (s, b, t) = any_where (λ s. has_face q i (Of s)) r e in
      let (j, low, same) = any_where (λ j. same_face (Of s) j q i) 4 t in
      let record_is : (4 * s + j) / 4 ≡ s = omega arith in
      any_is (is_before record_at (face_of q.corners i) r) (4 * n) (4 * s + j) (omega arith) (rw (is_face_of i s j m low same, record_is, lt-ltb s r b))

  -- Face j of record r is face i of q, and one of the three ways to be bad is there.
  face_bad : (i r j : ℕ) → i < 4 → r < n → j < 4 → same_face (Of r) j q i ≡ true →
      (not (same_mark (Of r) j q i) || (same_corners (Of r) q || Before i r)) ≡ true → any_below 4 (λ i. any_below (4 * n) (Bad i)) ≡ true
  unfolding bad_face
  face_bad i r j l b low same how =
      let record_is : (4 * r + j) / 4 ≡ r = omega arith in
      let face_is : (4 * r + j) % 4 ≡ j = omega arith in
      any_is (λ i. any_below (4 * n) (Bad i)) 4 i l
      (any_is (Bad i) (4 * n) (4 * r + j) (omega arith) (rw (is_face_of i r j l low same, record_is, face_is, same_rest_is (Of r) q j i low l same) how))

  bad_there : (r : ℕ) → r < n → bad_together record_at q r (Of r) ≡ true → any_below 4 (λ i. any_below (4 * n) (Bad i)) ≡ true
  unfolding bad_together face_in_three two_marks two_marks_on has_face
  bad_there r l e =
      let p : Piece = Of r in
      ⊎_elim
      (λ c.
      let shared = share_face p q c in
      face_bad shared.i r shared.j shared.other l shared.one shared.same (rw c (or_true (not (same_mark p shared.j q shared.i)))))
      (λ (d : same_corners p q ≡ false).
      ⊎_elim
      (λ t.
      let (i, b, u) = any_where (λ i. has_face q i p && face_before record_at q i r) 4 t in
      let (j, low, same) = any_where (λ j. same_face p j q i) 4 (and_left (has_face q i p) (face_before record_at q i r) u) in
      let before = before_there i r b l (and_right (has_face q i p) (face_before record_at q i r) u) in
      face_bad i r j b l low same (rw (before, or_true (same_corners p q)) (or_true (not (same_mark p j q i)))))
      (λ (o : face_in_three record_at q r p ≡ false).
      let (j, low, t) = any_where (λ a. any_below 4 (two_marks_on p a q)) 4 (or_second (face_in_three record_at q r p || same_corners p q) (two_marks p q) (rw (o, d)) e) in
      let (i, b, u) = any_where (two_marks_on p j q) 4 t in
      face_bad i r j b l low (and_left (same_face p j q i) (not (same_mark p j q i)) u) (rw (and_right (same_face p j q i) (not (same_mark p j q i)) u)))
      (either (face_in_three record_at q r p)))
      (either (same_corners p q))

  -- Rule 7 for q's record goes by faces.
  pub by_faces : any_below 4 (λ i. any_below (4 * n) (Bad i)) ≡ bad_with record_at q n
  unfolding bad_with
  by_faces =
      same_tests (any_below 4 (λ i. any_below (4 * n) (Bad i))) (bad_with record_at q n)
      (λ e.
      let (i, l, t) = any_where (λ i. any_below (4 * n) (Bad i)) 4 e in
      let (f, b, u) = any_where (Bad i) (4 * n) t in
      any_is (λ r. bad_together record_at q r (Of r)) n (f / 4) (omega arith) (bad_back i f l u))
      (λ e. let (r, l, t) = any_where (λ r. bad_together record_at q r (Of r)) n e in bad_there r l t)
