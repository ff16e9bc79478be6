-- A piece with four different corners is properly marked: the ranking is a strict total order, so that its first edge is one edge, for
-- the piece and for each face.
use Rattle.std.specs.Prelude.{◌≡◌, true, false, ◌&&◌, List, ℤ, eqb}
use Rattle.std.proofs.Math.Path.{refl}
use Rattle.std.proofs.Common.{sym, ◌∙◌, subst}
use Rattle.std.proofs.Math.Bool.{Bool, not, true≢false}
use Rattle.std.proofs.Math.Logic.{⊎_elim}
use Rattle.std.proofs.Math.Logic.Iff
use Prim.Native.Nat.{ℕ, zero, suc, ◌<◌}
use native.Mathlib.Omega.{arith}
use borrow.Author.Tests.{eqb-true, eqb-false}
use Rattle.laws.specs.Below.{fold_below, any_below, all_below, all_at, any_is, first_where, either}
use Rattle.piece.specs.declared.Piece.{Piece}
use Rattle.piece_edges.specs.Edges.{low_slot, high_slot, has_slot, on_face}
use Rattle.piece.specs.Shape.{shape_of, mark, mark_fits, flag_fits, Valid}
use Rattle.grid_lengths.specs.Lengths.{ranks_before}
use Rattle.grid_lengths.specs.RankingTheorems.{irreflexive, transitive, total}
use Rattle.check_refusals.specs.Refusals.{bad_marks}
use Rattle.check_meaning.specs.Tests.{Passes, reads, equal, not_below, not_fails, not_passes, and_passes, and_fails, or_fails, none_passes}
use Rattle.check_meaning.specs.Bases.{valid_is}
use Rattle.build_marks.specs.Marking.{rank_of, outranked, first_ranked, marked_piece}
use Rattle.build_meaning.specs.First.{FirstOf, first_exists}
use Rattle.build_meaning.specs.Edges.{Different, edge_by_ends}

-- Edge f of a piece ranks before its edge e.
abbrev pub earlier : List ℤ → Piece → ℕ → ℕ → Bool
earlier coordinates p f e = ranks_before (rank_of coordinates p f) (rank_of coordinates p e)

-- Edge e is the first-ranked of the edges of which among holds.
abbrev pub FirstRanked : List ℤ → Piece → (ℕ → Bool) → ℕ → Type 0
FirstRanked coordinates p among e = FirstOf 6 among (earlier coordinates p) e

module _ (coordinates : List ℤ) (p : Piece) where
  module _ (among : ℕ → Bool) where
    -- The test by which the first-ranked is found says that none ranks before it.
    is_first : (e : ℕ) → e < 6 → Passes (among e && not (outranked coordinates p among e)) (FirstRanked coordinates p among e)
    unfolding outranked
    is_first e l =
        reads (and_passes Iff.rfl (not_passes (none_passes 6 λ f k. and_fails Iff.rfl Iff.rfl)))
        (λ h. record { there = l; is_among = h.0; first = h.1 })
        (λ r. (r.is_among, r.first))

    -- Where there is an edge among them, the first-ranked is one of them, and none of them ranks before it.
    pub first_ranked_lem : any_below 6 among ≡ true → FirstRanked coordinates p among (first_ranked coordinates p among)
    unfolding first_ranked
    first_ranked_lem some =
        let test : ℕ → Bool = λ e. among e && not (outranked coordinates p among e) in
        let (e, r) = first_exists among (earlier coordinates p) (λ a. irreflexive (rank_of coordinates p a)) (λ a b c. transitive (rank_of coordinates p a) (rank_of coordinates p b) (rank_of coordinates p c)) 6 some in
        let (l, t, f) = first_where test 6 (any_is test 6 e r.there ((is_first e r.there).1 r)) in
        (is_first (first_ranked coordinates p among) l).0 t

  -- No other edge is the first: two different edges have different ends, and of these one ranks before the other.
  pub first_unique : Different p → (among : ℕ → Bool) (e f : ℕ) → FirstRanked coordinates p among e → FirstRanked coordinates p among f → e ≡ f
  unfolding rank_of
  first_unique d among e f r s =
      ⊎_elim (eqb-true e f)
      (λ n. absurd (⊎_elim
      (λ t. true≢false (sym t ∙ s.first e r.there r.is_among))
      (λ t. true≢false (sym t ∙ r.first f s.there s.is_among))
      (total (rank_of coordinates p e) (rank_of coordinates p f) (λ q. eqb-false e f n (edge_by_ends p d e f r.there s.there q.0 q.1)))))
      (either (eqb e f))

-- Every face has an edge.
face_edges : (i : ℕ) → i < 4 → any_below 6 (λ e. on_face e i) ≡ true
unfolding on_face has_slot low_slot high_slot any_below all_below fold_below
face_edges i l = all_at (λ i. any_below 6 (λ e. on_face e i)) 4 i refl l

module _ (coordinates : List ℤ) (p : Piece) where
  -- The marks are stored face by face.
  face_mark : (i : ℕ) → i < 4 → mark (shape_of (marked_piece coordinates p)) i ≡ first_ranked coordinates p (λ e. on_face e i)
  unfolding marked_piece
  face_mark zero l = refl
  face_mark (suc zero) l = refl
  face_mark (suc (suc zero)) l = refl
  face_mark (suc (suc (suc zero))) l = refl
  face_mark (suc (suc (suc (suc i)))) l = absurd (omega arith)

  -- The refinement edge is the first-ranked of the piece.
  pub edge_is_first : FirstRanked coordinates p (λ e. true) (marked_piece coordinates p).edge
  unfolding marked_piece any_below fold_below
  edge_is_first = first_ranked_lem coordinates p (λ e. true) refl

  -- A face's mark is the first-ranked of the face.
  pub mark_is_first : (i : ℕ) → i < 4 → FirstRanked coordinates p (λ e. on_face e i) (mark (shape_of (marked_piece coordinates p)) i)
  mark_is_first i l =
      subst (FirstRanked coordinates p (λ e. on_face e i)) (sym (face_mark i l)) (first_ranked_lem coordinates p (λ e. on_face e i) (face_edges i l))

  module _ (d : Different p) where
    -- Both faces that contain the refinement edge are marked with it: the first of the piece is the first of each face that it is on.
    pub refinement_faces : (i : ℕ) → i < 4 → on_face (marked_piece coordinates p).edge i ≡ true → mark (shape_of (marked_piece coordinates p)) i ≡ (marked_piece coordinates p).edge
    refinement_faces i l on =
        let r = edge_is_first in
        first_unique coordinates p d (λ e. on_face e i) (mark (shape_of (marked_piece coordinates p)) i) (marked_piece coordinates p).edge (mark_is_first i l)
        (record { there = r.there; is_among = on; first = λ f k t. r.first f k refl })

    -- Each mark lies on its face, and is the refinement edge where that is on the face.
    pub marks_fit : (i : ℕ) → i < 4 → mark_fits (marked_piece coordinates p).edge (mark (shape_of (marked_piece coordinates p)) i) i ≡ true
    unfolding mark_fits
    marks_fit i l =
        let e = (marked_piece coordinates p).edge in
        let m = mark (shape_of (marked_piece coordinates p)) i in
        rw (mark_is_first i l).is_among
        (⊎_elim (λ on. rw on ((equal m e).1 (refinement_faces i l on))) (λ off. rw off) (either (on_face e i)))

    -- A piece with four different corners is properly marked.
    pub marked_valid : Valid (shape_of (marked_piece coordinates p))
    unfolding marked_piece flag_fits
    marked_valid = record { four = refl; valid = (valid_is (shape_of (marked_piece coordinates p))).1 (edge_is_first.there, (marks_fit, refl)) }

    -- Refusal 6 can't be broken.
    pub never_badly_marked : bad_marks (marked_piece coordinates p) ≡ false
    unfolding bad_marks
    never_badly_marked =
        (or_fails (not_below 5 (marked_piece coordinates p).edge) (none_passes 4 λ i l. not_fails Iff.rfl)).1
        (let l = edge_is_first.there in omega arith, marks_fit)
