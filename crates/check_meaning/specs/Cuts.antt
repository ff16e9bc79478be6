-- Rules 9 and 10: the cuts, and the edges of the leaves.
use Rattle.std.specs.Prelude.{◌≡◌, refl, true, ℕ, ◌+◌, length}
use Rattle.std.proofs.Math.Path.{sym}
use Rattle.std.proofs.Common.{◌∙◌, subst, length-set}
use Rattle.laws.specs.Below.{any_is, first_where}
use Rattle.piece.specs.declared.Piece.{Piece}
use Rattle.piece.specs.declared.Ends.{Ends}
use Rattle.piece.specs.Ends.{lower_end, higher_end}
use Rattle.piece.specs.Same.{same_piece, same_piece_is, same_piece_refl}
use Rattle.piece_cut.specs.Cut.{child_shape, child_of, cut_of}
use Rattle.stored.specs.Layout.{none, Stored, record_in, record_from}
use Rattle.mesh_tables.specs.Tables.{Tables, tables_of, all_vertices, piece_at, is_cut, has_parents, vertex_with}
use Rattle.check_refusals.specs.Refusals.{is_child_of}
use Rattle.check_meaning.specs.Tests.{Passes, Fails, reads, equal, not_fails, not_passes, fails_unless, and_passes, or_passes}
use Rattle.check_meaning.specs.Accepted.{Made, HasParents, RightVertices, Leaf, Cut, first_child, ChildOf}
use Rattle.check_meaning.specs.Vertices.{parents_are}

-- ---- four corners and four marks: only lists of four are told apart by their slots 0 to 3

pub record Four (p : Piece) : Type 0 where
  pub corners : length p.corners ≡ 4
  pub marks : length p.marks ≡ 4

pub stored_four : (s : Stored) (n : ℕ) → Four (piece_at (tables_of s) n)
unfolding tables_of record_in record_from
stored_four s n = record { corners = refl; marks = refl }

pub child_four : (p : Piece) (w k : ℕ) → Four p → Four (child_of p w k)
unfolding child_of child_shape
child_four p w k f = record { corners = simp length-set f.corners; marks = refl }

pub cut_four : (p : Piece) (w : ℕ) → Four p → Four (cut_of p w).first × Four (cut_of p w).second
unfolding cut_of
cut_four p w f = (child_four p w (higher_end p p.edge) f, child_four p w (lower_end p p.edge) f)

pub same_piece_lem : (p q : Piece) → Four p → Four q → Passes (same_piece p q) (p ≡ q)
same_piece_lem p q f g = (
  same_piece_is p q f.corners g.corners f.marks g.marks,
  λ e. subst (λ (r : Piece). same_piece p r ≡ true) e (same_piece_refl p),
)

module _ (m : Tables) where
  -- ---- 9

  -- No parent pair is used twice, so the first vertex with these parents is the only one.
  pub vertex_is : RightVertices m → (ends : Ends) (w : ℕ) → Made m w → HasParents m ends w → vertex_with m ends ≡ w
  unfolding vertex_with
  vertex_is v ends w d h =
      let (l, t, f) = first_where (has_parents m ends) (all_vertices m) (any_is (has_parents m ends) (all_vertices m) w d.there ((parents_are m ends w).1 (d.beyond, h))) in
      let (b, g) = (parents_are m ends (vertex_with m ends)).0 t in
      v.one_pair (vertex_with m ends) w (record { beyond = b; there = l }) d (g.p ∙ sym h.p) (g.q ∙ sym h.q)

  pub is_cut_lem : (n : ℕ) → Passes (is_cut m n) (Cut m n)
  is_cut_lem n = not_passes (fails_unless (equal (first_child m n) none))

  pub is_leaf : (n : ℕ) → Fails (is_cut m n) (Leaf m n)
  is_leaf n = not_fails (equal (first_child m n) none)

  pub child_of_lem : (c n : ℕ) → Passes (is_child_of (m.record_at n) c) (ChildOf m c n)
  unfolding is_child_of
  child_of_lem c n =
      reads (and_passes (is_cut_lem n) (or_passes (equal (first_child m n) c) (equal (first_child m n + 1) c)))
      (λ h. record { cut = h.0; is = h.1 })
      (λ r. (r.cut, r.is))
