-- Of specs/Bases.antt, the theorems that an edit of a definition breaks, and what only they need.
use Rattle.std.specs.Prelude.{◌≡◌, ℕ, ◌<◌, length}
use native.Mathlib.Omega.{arith}
use Rattle.piece.specs.declared.Piece.{Piece}
use Rattle.piece_edges.specs.Edges.{low_slot, high_slot, has_slot, on_face}
use Rattle.piece.specs.Shape.{shape_of, mark, mark_fits, flag_fits, Valid}
use Rattle.mesh_tables.specs.Tables.{Tables, base_records, piece_at}
use Rattle.check_refusals.specs.Refusals.{bad_marks, bad_base_marks}
use Rattle.check_meaning.specs.Tests.{Passes, Fails, reads, equal, below, not_below, not_fails, not_passes, fails_unless, and_passes, implies_passes, or_fails, none_passes}
use Rattle.check_meaning.specs.Accepted.{EdgeOf, RightMarks, RightBaseMarks}
use Rattle.check_meaning.specs.Bases.{valid_is}

-- An edge of face i, and a mark that fits it.
edge_of : (e i : ℕ) → Passes (on_face e i) (EdgeOf i e)
unfolding on_face has_slot
edge_of e i =
    reads (and_passes (below e 6) (not_passes (or_fails (fails_unless (equal (low_slot e) i)) (fails_unless (equal (high_slot e) i)))))
    (λ h. record { code = h.0; low = h.1.0; high = h.1.1 })
    (λ r. (r.code, (r.low, r.high)))

mark_fits_lem : (edge m i : ℕ) → Passes (mark_fits edge m i) (EdgeOf i m × (EdgeOf i edge → m ≡ edge))
unfolding mark_fits
mark_fits_lem edge m i = and_passes (edge_of m i) (implies_passes (edge_of edge i) (equal m edge))

module _ (p : Piece) where
  -- Rule 6 asks for the marks that the document does.
  right_marks : Fails (bad_marks p) (RightMarks p)
  unfolding bad_marks
  right_marks =
      reads (or_fails (not_below 5 p.edge) (none_passes 4 λ i l. not_fails (mark_fits_lem p.edge (mark (shape_of p) i) i)))
      (λ h. record { edge = omega arith; marks = λ i l. (h.1 i l).0; refinement_faces = λ i l. (h.1 i l).1 })
      (λ r. let code = r.edge in (omega arith, λ i l. (r.marks i l, r.refinement_faces i l)))

  -- So a piece whose flag is unset has right marks exactly where its shape is valid: an unset flag fits every type.
  pub marks_valid : p.flag ≡ 0 → length p.marks ≡ 4 → RightMarks p → Valid (shape_of p)
  unfolding flag_fits
  marks_valid unset four r =
      record {
        four = four;
        valid = (valid_is (shape_of p)).1 (r.edge, (λ i l. (mark_fits_lem p.edge (mark (shape_of p) i) i).1 (r.marks i l, r.refinement_faces i l), rw ((equal p.flag 0).1 unset)));
      }

  pub valid_marks : Valid (shape_of p) → RightMarks p
  valid_marks v =
      let (edge, (marks, flag)) = (valid_is (shape_of p)).0 v.valid in
      let fits : (i : ℕ) → i < 4 → EdgeOf i (mark (shape_of p) i) × (EdgeOf i p.edge → mark (shape_of p) i ≡ p.edge) = λ i l. (mark_fits_lem p.edge (mark (shape_of p) i) i).0 (marks i l) in
      record { edge = edge; marks = λ i l. (fits i l).0; refinement_faces = λ i l. (fits i l).1 }

module _ (m : Tables) where
  pub rule6_holds : Fails (bad_base_marks m) (RightBaseMarks m)
  unfolding bad_base_marks
  rule6_holds = none_passes (base_records m) (λ n l. right_marks (piece_at m n))
