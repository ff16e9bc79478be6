-- Document 02, "Three": what build makes of a piece, beside the piece as it is given. Assumes nothing.
use Rattle.std.specs.Prelude.{◌≡◌, true, false, List, ℕ, ◌<◌, ℤ}
use Rattle.std.proofs.Math.Path.{sym, ap}
use Rattle.std.proofs.Common.{◌∙◌, subst₂, arith}
use Rattle.laws.specs.Pairs.{SamePair}
use Rattle.piece_edges.specs.Edges.{low_slot, high_slot, slots_small}
use Rattle.piece.specs.declared.Piece.{Piece}
use Rattle.piece.specs.Shape.{shape_of, mark}
use Rattle.piece.specs.Ends.{corner_at, lower_end, higher_end, ends_of}
use Rattle.grid.specs.Places.{point_of}
use Rattle.grid_volume.specs.Volume.{is_negative, left_handed}
use Rattle.grid_volume.specs.Formal.{same_corners_lem}
use Rattle.build_marks.specs.Marking.{plain_place, plain_piece, plain_point, last_exchanged, righted_piece, marked_piece}
use Rattle.build_meaning.specs.Edges.{Different}
use Rattle.build_meaning.specs.Righted.{righted_different}
use Rattle.build_meaning.specs.Shared.{shared_face_one_mark, edge_as_given}
use Rattle.demands_words.specs.Words.{BaseMesh, point_at, plain_base, built_base, AsGiven, RightPieces}
use Rattle.demands_proofs.specs.Lawful.{ends_pair}
use Rattle.demands_proofs.specs.PlainRules.{listed_corner}

module _ (coordinates : List ℤ) (corners : List ℕ) (a : RightPieces (plain_base coordinates corners)) (r : ℕ) (l : r < (plain_base coordinates corners).pieces) where
  abbrev p : Piece
  p = plain_piece corners r

  abbrev q : Piece
  q = righted_piece coordinates p

  different : Different p
  different j k hj hk e = (a r l).different j k hj hk (sym (listed_corner corners r j hj) ∙ e ∙ listed_corner corners r k hk)

  abbrev given : BaseMesh
  given = plain_base coordinates corners

  -- The listed corners stand where the piece's do.
  same_hand : left_handed (plain_point coordinates p) ≡ left_handed (λ k. point_at given (given.corner_at r k))
  unfolding left_handed
  same_hand =
      ap is_negative (same_corners_lem (plain_point coordinates p) (λ k. point_at given (given.corner_at r k))
      (λ k s. ap (λ (v : ℕ). point_of (plain_place coordinates v)) (listed_corner corners r k s)))

  exchanged : left_handed (plain_point coordinates p) ≡ true → q ≡ last_exchanged p
  unfolding righted_piece
  exchanged t = rw t

  kept : left_handed (plain_point coordinates p) ≡ false → q ≡ p
  unfolding righted_piece
  kept f = rw f

  -- An edge of the piece as it is given, by its listed corners.
  listed_pair : (x y e : ℕ) → SamePair x y (corner_at p (low_slot e)) (corner_at p (high_slot e)) → SamePair x y (given.corner_at r (low_slot e)) (given.corner_at r (high_slot e))
  listed_pair x y e = subst₂ (SamePair x y) (listed_corner corners r (low_slot e) (slots_small e).0) (listed_corner corners r (high_slot e) (slots_small e).1)

  pub as_given : AsGiven (plain_base coordinates corners) (built_base coordinates corners) r
  unfolding last_exchanged marked_piece ends_of lower_end higher_end
  as_given =
      record {
        left = λ h.
            let is = exchanged (same_hand ∙ h) in
            let at = listed_corner corners r in (
              ap (λ (x : Piece). corner_at x 0) is ∙ at 0 (omega arith),
              ap (λ (x : Piece). corner_at x 1) is ∙ at 1 (omega arith),
              ap (λ (x : Piece). corner_at x 2) is ∙ at 3 (omega arith),
              ap (λ (x : Piece). corner_at x 3) is ∙ at 2 (omega arith),
            );
        right = λ h k s. ap (λ (x : Piece). corner_at x k) (kept (same_hand ∙ h)) ∙ listed_corner corners r k s;
        edge =
            let e = (marked_piece coordinates q).edge in
            let f = (marked_piece coordinates p).edge in
            listed_pair (corner_at q (low_slot e)) (corner_at q (high_slot e)) f (ends_pair q p e f (edge_as_given coordinates p different));
        marks = λ i j hi hj same.
            let e = mark (shape_of (marked_piece coordinates q)) i in
            let f = mark (shape_of (marked_piece coordinates p)) j in
            listed_pair (corner_at q (low_slot e)) (corner_at q (high_slot e)) f
            (ends_pair q p e f
            (shared_face_one_mark coordinates q p (righted_different coordinates p different) different i j hi hj
            (λ x. (
              λ c. let (k, s, o, y) = (same x).0 c in (k, s, o, listed_corner corners r k s ∙ y),
              λ c. let (k, s, o, y) = c in (same x).1 (k, s, o, sym (listed_corner corners r k s) ∙ y),
            ))));
      }
