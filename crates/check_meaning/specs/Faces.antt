-- Rules 7 and 8: the faces of the base records, and their corners.
use Rattle.std.specs.Prelude.{◌≡◌, refl, Bool, ◌&&◌, ◌↔◌, ℕ, ◌<◌, eqb}
use Rattle.std.proofs.Math.Path.{ap, subst}
use Rattle.std.proofs.Math.Logic.{inl, inr, ⊎_elim}
use Rattle.laws.specs.Below.{either}
use Rattle.piece.specs.declared.Piece.{Piece}
use Rattle.piece.specs.declared.Ends.{Ends}
use Rattle.piece.specs.Ends.{corner_at}
use Rattle.mesh_tables.specs.Tables.{Tables, base_vertices, base_records, piece_at}
use Rattle.check_refusals.specs.Refusals.{has_corner, face_has, face_within, same_face, same_ends, same_mark, corners_within, same_corners, two_marks_on, two_marks, has_face, face_before, face_in_three, bad_together, bad_with, bad_faces, bad_base_faces, unused_vertex, unused_vertices}
use Rattle.check_meaning.specs.Tests.{Passes, Fails, reads, equal, not_fails, not_passes, fails_unless, and_passes, and_fails, or_passes, or_fails, all_pass, any_passes, none_passes}
use Rattle.check_meaning.specs.Accepted.{CornerOf, OnRecordFace, SameRecordCorners, SameRecordFace, marked_ends, RightFaces, RightUses}

pub corner_of_lem : (p : Piece) (x : ℕ) → Passes (has_corner p x) (CornerOf p x)
unfolding has_corner
corner_of_lem p x = any_passes 4 λ k l. equal (corner_at p k) x

on_face_lem : (p : Piece) (i x : ℕ) → Passes (face_has p i x) (OnRecordFace p i x)
unfolding face_has
on_face_lem p i x =
    reads (any_passes 4 λ k l. and_passes (not_passes (fails_unless (equal k i))) (equal (corner_at p k) x))
    (λ h. (h.0, h.1, h.2.0, h.2.1))
    (λ r. (r.0, r.1, (r.2, r.3)))

module _ (p q : Piece) where
  corners_within_lem : Passes (corners_within p q) ((x : ℕ) → CornerOf p x → CornerOf q x)
  unfolding corners_within
  corners_within_lem =
      reads (all_pass 4 λ k l. corner_of_lem q (corner_at p k))
      (λ h x c. subst (CornerOf q) c.2 (h c.0 c.1))
      (λ f k l. f (corner_at p k) (k, l, refl))

  face_within_lem : (i j : ℕ) → Passes (face_within p i q j) ((x : ℕ) → OnRecordFace p i x → OnRecordFace q j x)
  unfolding face_within
  face_within_lem i j =
      reads (all_pass 4 λ k l. or_passes (equal k i) (on_face_lem q j (corner_at p k)))
      (λ h x c. subst (OnRecordFace q j) c.3 (⊎_elim (λ e. absurd (c.2 e)) (λ o. o) (h c.0 c.1)))
      (λ f k l. ⊎_elim (λ t. inl ((equal k i).0 t)) (λ g. inr (f (corner_at p k) (k, l, (fails_unless (equal k i)).0 g, refl))) (either (eqb k i)))

-- Two sets of numbers are the same where each is within the other.
both_within : {a b : Bool} {P Q : ℕ → Type 0} → Passes a ((x : ℕ) → P x → Q x) → Passes b ((x : ℕ) → Q x → P x) → Passes (a && b) ((x : ℕ) → P x ↔ Q x)
both_within h k = reads (and_passes h k) (λ r x. (r.0 x, r.1 x)) (λ s. (λ x. (s x).0, λ x. (s x).1))

module _ (p q : Piece) where
  same_corners_lem : Passes (same_corners p q) (SameRecordCorners p q)
  unfolding same_corners
  same_corners_lem = both_within (corners_within_lem p q) (corners_within_lem q p)

  same_face_lem : (i j : ℕ) → Passes (same_face p i q j) (SameRecordFace p i q j)
  unfolding same_face
  same_face_lem i j = both_within (face_within_lem p q i j) (face_within_lem q p j i)

  same_mark_lem : (i j : ℕ) → Passes (same_mark p i q j) (marked_ends p i ≡ marked_ends q j)
  unfolding same_mark same_ends
  same_mark_lem i j =
      let a = marked_ends p i in
      let b = marked_ends q j in
      reads (and_passes (equal a.lower b.lower) (equal a.higher b.higher))
      (λ h i. record { lower = h.0 i; higher = h.1 i })
      (λ e. (ap (λ (x : Ends). x.lower) e, ap (λ (x : Ends). x.higher) e))

  one_mark : Fails (two_marks p q) ((i : ℕ) → i < 4 → (j : ℕ) → j < 4 → SameRecordFace p i q j → marked_ends p i ≡ marked_ends q j)
  unfolding two_marks two_marks_on
  one_mark = none_passes 4 λ i l. none_passes 4 λ j k. and_fails (same_face_lem i j) (not_fails (same_mark_lem i j))

  -- Some face of p is face k of q.
  has_face_lem : (k : ℕ) → Passes (has_face q k p) ((i : ℕ) × (i < 4) × SameRecordFace p i q k)
  unfolding has_face
  has_face_lem k = any_passes 4 λ i l. same_face_lem i k

module _ (m : Tables) where
  in_two : (q : Piece) (s : ℕ) → Fails (face_in_three m.record_at q s (piece_at m s))
      ((k : ℕ) → k < 4 → (j : ℕ) × (j < 4) × SameRecordFace (piece_at m s) j q k → (r : ℕ) × (r < s) × ((i : ℕ) × (i < 4) × SameRecordFace (piece_at m r) i q k) → ⊥)
  unfolding face_in_three face_before
  in_two q s = none_passes 4 λ k l. and_fails (has_face_lem (piece_at m s) q k) (fails_unless (any_passes s λ r b. has_face_lem (piece_at m r) q k))

  pub rule7_holds : Fails (bad_base_faces m) (RightFaces m)
  unfolding bad_base_faces bad_faces bad_with bad_together
  rule7_holds =
      reads
      (none_passes (base_records m) λ n l. none_passes n λ r b.
      or_fails (or_fails (in_two (piece_at m n) r) (fails_unless (same_corners_lem (piece_at m r) (piece_at m n)))) (one_mark (piece_at m r) (piece_at m n)))
      (λ h.
      record {
        in_two = λ r s n i j k hr hs hn hi hj hk f g. (h n hn s hs).0.0 k hk (j, hj, g) (r, hr, (i, hi, f));
        different = λ r n hr hn. (h n hn r hr).0.1;
        one_mark = λ r n i j hr hn hi hj. (h n hn r hr).1 i hi j hj;
      })
      (λ f n hn s hs. (
        (
          λ k hk g e. f.in_two e.0 s n e.2.0 g.0 k e.1 hs hn e.2.1 g.1 hk e.2.2 g.2,
          f.different s n hs hn,
        ),
        λ i hi j hj. f.one_mark s n i j hs hn hi hj,
      ))

  pub rule8_holds : Fails (unused_vertices m) (RightUses m)
  unfolding unused_vertices unused_vertex
  rule8_holds = none_passes (base_vertices m) λ v l. not_fails (any_passes (base_records m) λ n b. corner_of_lem (piece_at m n) v)
