-- Two pieces mark a face that they share alike: the ranking looks only at vertex numbers and places. So a piece whose corners are exchanged has the marks
-- that it has as it is given.
use Rattle.std.specs.Prelude.{◌≡◌, refl, Bool, true, false, ◌≢◌, ◌⊎◌, List, ℕ, ◌<◌, ℤ}
use Rattle.std.proofs.Common.{sym, ◌∙◌, inl, inr, ⊎_elim}
use Rattle.std.proofs.Math.Path.{ap}
use Rattle.std.proofs.Math.Logic.Iff
use Rattle.laws.specs.Below.{fold_below, any_below, any_fails, all_below}
use Rattle.laws.specs.Pairs.{SamePair}
use Rattle.piece.specs.declared.Piece.{Piece}
use Rattle.piece.specs.declared.Ends.{Ends}
use Rattle.piece_edges.specs.Edges.{low_slot, high_slot, has_slot, on_face, slots_small}
use Rattle.piece.specs.Shape.{shape_of, mark}
use Rattle.piece.specs.Ends.{corner_at, lower_end, higher_end, ends_of}
use Rattle.grid.specs.Places.{point_of}
use Rattle.grid_lengths.specs.Lengths.{squared_length}
use Rattle.check_refusals.specs.Refusals.{face_has, face_within, same_face, same_ends, same_mark, two_marks_on, two_marks}
use Rattle.check_meaning.specs.Tests.{Passes, equal, below, not_passes, fails_unless, not_fails, and_passes, and_fails, or_passes, or_fails, all_pass, any_passes}
use Rattle.check_meaning.specs.Accepted.{OnRecordFace, SameRecordFace, marked_ends}
use Rattle.check_meaning.specs.Bases.{slots_joined, slots_apart}
use Rattle.build_marks.specs.Marking.{plain_place, righted_piece, rank_of, marked_piece}
use Rattle.build_meaning.specs.Edges.{Different, ends_same}
use Rattle.build_meaning.specs.Marks.{FirstRanked, first_unique, edge_is_first, mark_is_first}
use Rattle.build_meaning.specs.Righted.{slot_given, slot_small, righted_corner, given_corner, righted_different, same_face_given}

-- An edge of face i has neither end in slot i.
edge_on : (e i : ℕ) → Passes (on_face e i) ((e < 6) × ((low_slot e ≢ i) × (high_slot e ≢ i)))
unfolding on_face has_slot
edge_on e i = and_passes (below e 6) (not_passes (or_fails (fails_unless (equal (low_slot e) i)) (fails_unless (equal (high_slot e) i))))

-- Two different slots of a face are the ends of an edge of that face.
face_edge : (i : ℕ) → i < 4 → (a : ℕ) → a < 4 → (b : ℕ) → b < 4 →
    (((a ≡ i) ⊎ (b ≡ i)) ⊎ (a ≡ b)) ⊎ ((e : ℕ) × (e < 6) × ((on_face e i ≡ true) × SamePair (low_slot e) (high_slot e) a b))
unfolding on_face has_slot low_slot high_slot all_below any_below fold_below
face_edge =
    (all_pass 4 (λ i l. all_pass 4 (λ a la. all_pass 4 (λ b lb. or_passes (or_passes (or_passes (equal a i) (equal b i)) (equal a b))
    (any_passes 6 (λ e k. and_passes Iff.rfl
    (or_passes (and_passes (equal (low_slot e) a) (equal (high_slot e) b)) (and_passes (equal (low_slot e) b) (equal (high_slot e) a))))))))).0 refl

-- Every corner of face i of p is one of face j of q.
abbrev Carries : Piece → ℕ → Piece → ℕ → Type 0
Carries p i q j = (k : ℕ) → k < 4 → k ≢ i → OnRecordFace q j (corner_at p k)

-- That is what check's test of a face within a face asks.
within_carries : (p q : Piece) (i j : ℕ) → face_within p i q j ≡ true → Carries p i q j
unfolding face_within face_has
within_carries p q i j e k l other =
    ⊎_elim (λ same. absurd (other same)) (λ r. (r.0, r.1, r.2.0, r.2.1))
    ((all_pass 4 (λ k l. or_passes (equal k i) (any_passes 4 λ x b. and_passes (not_passes (fails_unless (equal x j))) (equal (corner_at q x) (corner_at p k))))).0 e k l)

-- Where face i of p is within face j of q, every edge of face i of p is one of face j of q, with the same ends.
carried : (p q : Piece) (i j : ℕ) → Different p → j < 4 → Carries p i q j → (e : ℕ) → on_face e i ≡ true → (f : ℕ) × (f < 6) × ((on_face f j ≡ true) × (ends_of p e ≡ ends_of q f))
carried p q i j d lj w e on =
    let (le, ends) = (edge_on e i).0 on in
    let (a, la, na, ca) = w (low_slot e) (slots_small e).0 ends.0 in
    let (b, lb, nb, cb) = w (high_slot e) (slots_small e).1 ends.1 in
    let apart : a ≢ b = λ h. slots_apart e le (d (low_slot e) (high_slot e) (slots_small e).0 (slots_small e).1 (sym ca ∙ ap (corner_at q) h ∙ cb)) in
    ⊎_elim
    (λ h. absurd (⊎_elim (λ o. ⊎_elim na nb o) apart h))
    (λ r.
    let (f, lf, s) = r in (
      f,
      lf,
      (
        s.0,
        ends_same p q e f (⊎_elim
            (λ h. inl (sym ca ∙ ap (corner_at q) (sym h.0), sym cb ∙ ap (corner_at q) (sym h.1)))
            (λ h. inr (sym ca ∙ ap (corner_at q) (sym h.1), sym cb ∙ ap (corner_at q) (sym h.0)))
            s.1),
      ),
    ))
    (face_edge j lj a la b lb)

-- Edges with the same ends rank alike.
rank_by_ends : (coordinates : List ℤ) (p q : Piece) (e f : ℕ) → ends_of p e ≡ ends_of q f → rank_of coordinates p e ≡ rank_of coordinates q f
unfolding rank_of
rank_by_ends coordinates p q e f same =
    ap (λ (x : Ends). record {
      length = squared_length (point_of (plain_place coordinates x.lower)) (point_of (plain_place coordinates x.higher));
      lower = x.lower;
      higher = x.higher;
    }) same

module _ (coordinates : List ℤ) (p q : Piece) (dp : Different p) (dq : Different q) where
  -- Where some edges of p and some of q have the same ends, so have the first-ranked of each.
  same_first : (P Q : ℕ → Bool)
      (there : (e : ℕ) → e < 6 → P e ≡ true → (f : ℕ) × (f < 6) × ((Q f ≡ true) × (ends_of p e ≡ ends_of q f)))
      (back : (f : ℕ) → f < 6 → Q f ≡ true → (e : ℕ) × (e < 6) × ((P e ≡ true) × (ends_of q f ≡ ends_of p e))) →
      (m n : ℕ) → FirstRanked coordinates p P m → FirstRanked coordinates q Q n → ends_of p m ≡ ends_of q n
  same_first P Q there back m n r r' =
      let (f, lf, s) = there m r.there r.is_among in
      let first : FirstRanked coordinates q Q f = record {
        there = lf;
        is_among = s.0;
        first = λ h lh on.
            let (g, lg, t) = back h lh on in
            rw (rank_by_ends coordinates q p h g t.1, ← rank_by_ends coordinates p q m f s.1) (r.first g lg t.0);
      } in
      s.1 ∙ ap (ends_of q) (first_unique coordinates q dq Q f n first r')

  -- The first-ranked edge of a face is the first-ranked of the same face of another piece.
  carried_first : (i j : ℕ) → i < 4 → j < 4 → Carries p i q j → Carries q j p i → marked_ends (marked_piece coordinates p) i ≡ marked_ends (marked_piece coordinates q) j
  unfolding ends_of lower_end higher_end marked_piece
  carried_first i j li lj there back =
      same_first (λ e. on_face e i) (λ e. on_face e j)
      (λ e l on. carried p q i j dp lj there e on)
      (λ e l on. carried q p j i dq li back e on)
      (mark (shape_of (marked_piece coordinates p)) i) (mark (shape_of (marked_piece coordinates q)) j)
      (mark_is_first coordinates p i li) (mark_is_first coordinates q j lj)

  -- Two pieces with a common face mark it alike.
  pub shared_face_one_mark : (i j : ℕ) → i < 4 → j < 4 → SameRecordFace p i q j → marked_ends (marked_piece coordinates p) i ≡ marked_ends (marked_piece coordinates q) j
  shared_face_one_mark i j li lj same =
      carried_first i j li lj (λ k l n. (same (corner_at p k)).0 (k, l, n, refl)) (λ k l n. (same (corner_at q k)).1 (k, l, n, refl))

  -- So check finds no second mark on any face.
  one_mark_on : (i j : ℕ) → i < 4 → j < 4 → two_marks_on (marked_piece coordinates p) i (marked_piece coordinates q) j ≡ false
  unfolding two_marks_on same_face same_mark same_ends marked_piece
  one_mark_on i j li lj =
      let p' = marked_piece coordinates p in
      let q' = marked_piece coordinates q in
      let a = marked_ends p' i in
      let b = marked_ends q' j in
      (and_fails (and_passes Iff.rfl Iff.rfl) (not_fails (and_passes (equal a.lower b.lower) (equal a.higher b.higher)))).1
      (λ same.
      let ends = carried_first i j li lj (within_carries p' q' i j same.0) (within_carries q' p' j i same.1) in
      (ap (λ (x : Ends). x.lower) ends, ap (λ (x : Ends). x.higher) ends))

  -- The last clause of refusal 7 can't be broken.
  pub never_two_marks : two_marks (marked_piece coordinates p) (marked_piece coordinates q) ≡ false
  unfolding two_marks
  never_two_marks =
      let p' = marked_piece coordinates p in
      let q' = marked_piece coordinates q in
      any_fails (λ i. any_below 4 (two_marks_on p' i q')) 4 (λ i li. any_fails (two_marks_on p' i q') 4 (λ j lj. one_mark_on i j li lj))

-- ---- a piece as it is given, and made right-handed

-- Every edge of a piece has the ends of one of another piece that has the same corners, whatever their slots.
edge_there : (p q : Piece) (slot : ℕ → ℕ) → Different p → ((k : ℕ) → k < 4 → slot k < 4) → ((k : ℕ) → k < 4 → corner_at p k ≡ corner_at q (slot k)) →
    (e : ℕ) → e < 6 → (f : ℕ) × (f < 6) × (ends_of p e ≡ ends_of q f)
edge_there p q slot d small same e l =
    let a = low_slot e in
    let b = high_slot e in
    let la = (slots_small e).0 in
    let lb = (slots_small e).1 in
    let apart : slot a ≢ slot b = λ h. slots_apart e l (d a b la lb (same a la ∙ ap (corner_at q) h ∙ sym (same b lb))) in
    ⊎_elim
    (λ h. absurd (apart h))
    (λ r.
    let (f, lf, ends) = r in (
      f,
      lf,
      ends_same p q e f (⊎_elim
          (λ h. inl (same a la ∙ ap (corner_at q) (sym h.0), same b lb ∙ ap (corner_at q) (sym h.1)))
          (λ h. inr (same a la ∙ ap (corner_at q) (sym h.1), same b lb ∙ ap (corner_at q) (sym h.0)))
          ends),
    ))
    (slots_joined (slot a) (small a la) (slot b) (small b lb))

module _ (coordinates : List ℤ) (p : Piece) (d : Different p) where
  -- The refinement edge, as a pair of vertices, is that of the piece as it is given.
  pub edge_as_given : ends_of (righted_piece coordinates p) (marked_piece coordinates (righted_piece coordinates p)).edge ≡ ends_of p (marked_piece coordinates p).edge
  edge_as_given =
      let q = righted_piece coordinates p in
      let slot = slot_given coordinates p in
      let all : ℕ → Bool = λ e. true in
      same_first coordinates q p (righted_different coordinates p d) d all all
      (λ e l on. let (f, lf, s) = edge_there q p slot (righted_different coordinates p d) (slot_small coordinates p) (righted_corner coordinates p) e l in (f, lf, (refl, s)))
      (λ e l on. let (f, lf, s) = edge_there p q slot d (slot_small coordinates p) (given_corner coordinates p) e l in (f, lf, (refl, s)))
      (marked_piece coordinates q).edge (marked_piece coordinates p).edge
      (edge_is_first coordinates q) (edge_is_first coordinates p)

  -- So is the mark of each face.
  pub mark_as_given : (i : ℕ) → i < 4 → marked_ends (marked_piece coordinates (righted_piece coordinates p)) (slot_given coordinates p i) ≡ marked_ends (marked_piece coordinates p) i
  mark_as_given i l =
      shared_face_one_mark coordinates (righted_piece coordinates p) p (righted_different coordinates p d) d
      (slot_given coordinates p i) i (slot_small coordinates p i l) l (same_face_given coordinates p i l)
