-- Of specs/Theorems.antt, the theorems that an edit of a definition breaks, and what only they need.
use Rattle.std.specs.Prelude.{◌≡◌, refl, Bool, true, false, cond, ◌&&◌, ◌||◌, ℕ, ◌<◌, eqb}
use Rattle.std.proofs.Common.{ap, subst}
use Rattle.std.proofs.Math.Bool.{not}
use Rattle.std.proofs.Math.Logic.{⊎_elim}
use borrow.Author.Tests.{eqb-true}
use Rattle.laws.specs.Below.{all_below, all_at, and_left, and_right, or_second, either}
use Rattle.piece_edges.specs.Edges.{has_slot, other_end, on_face}
use Rattle.piece.specs.Shape.{Shape, Valid, mark, slot_a, slot_b, type_p, type_a, type_o, type_m, set_p, unset_p, valid_shape}
use Rattle.piece_cut.specs.Cut.{new_mark, child_shape}
use Rattle.piece.specs.Every.{every_shape, every_shape_lem, only_if, only_if_holds}
use Rattle.piece_cut.specs.Theorems.{End, computed}

-- The test at both ends.
abbrev at_both_ends : (Shape → ℕ → Bool) → Shape → Bool
at_both_ends test s = test s (slot_a s) && test s (slot_b s)

-- The rule at each end of each valid shape, from the test over all of them.
every_cut : (test : Shape → ℕ → Bool) → every_shape (at_both_ends test) ≡ true → (s : Shape) → Valid s → (k : ℕ) → End s k → test s k ≡ true
unfolding has_slot slot_a slot_b
every_cut test all s v k e =
    let both = every_shape_lem (at_both_ends test) all s v.four v.valid in
    ⊎_elim
    (λ low. subst (λ (j : ℕ). test s j ≡ true) (eqb-true (slot_a s) k low) (and_left (test s (slot_a s)) (test s (slot_b s)) both))
    (λ no. subst (λ (j : ℕ). test s j ≡ true) (eqb-true (slot_b s) k (or_second (eqb (slot_a s) k) (eqb (slot_b s) k) no e)) (and_right (test s (slot_a s)) (test s (slot_b s)) both))
    (either (eqb (slot_a s) k))

-- The child is of this type and its flag is f.
abbrev gives : (Shape → Bool) → ℕ → Shape → ℕ → Bool
gives type f s k = type (child_shape s k) && eqb (child_shape s k).flag f

given : (type : Shape → Bool) (f : ℕ) (s : Shape) (k : ℕ) → gives type f s k ≡ true → (type (child_shape s k) ≡ true) × ((child_shape s k).flag ≡ f)
given type f s k e =
    (and_left (type (child_shape s k)) (eqb (child_shape s k).flag f) e, eqb-true (child_shape s k).flag f (and_right (type (child_shape s k)) (eqb (child_shape s k).flag f) e))

-- "P unset gives two P set; P set gives two A; A, O, M give two P unset."
type_row : Shape → ℕ → Bool
type_row s k =
    let from_unset = gives type_p 1 s k in
    let from_set = gives type_a 0 s k in
    let from_others = gives type_p 0 s k in
    only_if (unset_p s) from_unset && (only_if (set_p s) from_set && only_if (type_a s || (type_o s || type_m s)) from_others)

type_row_holds : every_shape (at_both_ends type_row) ≡ true
unfolding computed type_row
type_row_holds = refl

module _ (s : Shape) (v : Valid s) (k : ℕ) (end : End s k) where
  abbrev Row : Bool
  Row = only_if (set_p s) (gives type_a 0 s k) && only_if (type_a s || (type_o s || type_m s)) (gives type_p 0 s k)

  row : (only_if (unset_p s) (gives type_p 1 s k) && Row) ≡ true
  unfolding type_row
  row = every_cut type_row type_row_holds s v k end

  -- P unset gives two P set.
  pub unset_p_gives_set_p : unset_p s ≡ true → (type_p (child_shape s k) ≡ true) × ((child_shape s k).flag ≡ 1)
  unset_p_gives_set_p t = given type_p 1 s k (only_if_holds (unset_p s) (gives type_p 1 s k) (and_left (only_if (unset_p s) (gives type_p 1 s k)) Row row) t)

  -- P set gives two A.
  pub set_p_gives_a : set_p s ≡ true → (type_a (child_shape s k) ≡ true) × ((child_shape s k).flag ≡ 0)
  set_p_gives_a t =
      given type_a 0 s k
      (only_if_holds (set_p s) (gives type_a 0 s k)
      (and_left (only_if (set_p s) (gives type_a 0 s k)) (only_if (type_a s || (type_o s || type_m s)) (gives type_p 0 s k)) (and_right (only_if (unset_p s) (gives type_p 1 s k)) Row row)) t)

  -- A, O and M give two P unset.
  pub others_give_unset_p : (type_a s || (type_o s || type_m s)) ≡ true → (type_p (child_shape s k) ≡ true) × ((child_shape s k).flag ≡ 0)
  others_give_unset_p t =
      given type_p 0 s k
      (only_if_holds (type_a s || (type_o s || type_m s)) (gives type_p 0 s k)
      (and_right (only_if (set_p s) (gives type_a 0 s k)) (only_if (type_a s || (type_o s || type_m s)) (gives type_p 0 s k)) (and_right (only_if (unset_p s) (gives type_p 1 s k)) Row row)) t)

-- ---- the marks

valid_child : Shape → ℕ → Bool
valid_child s k = valid_shape (child_shape s k)

valid_child_holds : every_shape (at_both_ends valid_child) ≡ true
unfolding computed valid_child
valid_child_holds = refl

inherited : Shape → ℕ → Bool
inherited s k = eqb (child_shape s k).edge (mark s k) && eqb (mark (child_shape s k) k) (mark s k)

inherited_holds : every_shape (at_both_ends inherited) ≡ true
unfolding computed inherited
inherited_holds = refl

cut_faces : Shape → ℕ → Bool
cut_faces s k =
    all_below 4 λ i. let opposite = on_face (mark (child_shape s k) i) i && on_face (mark (child_shape s k) i) k in
    only_if (not (has_slot s.edge i)) opposite

cut_faces_holds : every_shape (at_both_ends cut_faces) ≡ true
unfolding computed cut_faces
cut_faces_holds = refl

module _ (s : Shape) (v : Valid s) (k : ℕ) (end : End s k) where
  -- The child of a valid shape is valid.
  pub child_is_valid : Valid (child_shape s k)
  unfolding valid_child child_shape
  child_is_valid = record { four = refl; valid = every_cut valid_child valid_child_holds s v k end }

  -- The inherited face keeps its mark, which becomes the refinement edge.
  pub inherited_mark_lem : ((child_shape s k).edge ≡ mark s k) × (mark (child_shape s k) k ≡ mark s k)
  unfolding inherited
  inherited_mark_lem =
      let both = every_cut inherited inherited_holds s v k end in (
        eqb-true (child_shape s k).edge (mark s k) (and_left (eqb (child_shape s k).edge (mark s k)) (eqb (mark (child_shape s k) k) (mark s k)) both),
        eqb-true (mark (child_shape s k) k) (mark s k) (and_right (eqb (child_shape s k).edge (mark s k)) (eqb (mark (child_shape s k) k) (mark s k)) both),
      )

  -- A cut face, one without a slot that is no end of the refinement edge, is marked on its edge without the new vertex.
  pub cut_face_mark : (i : ℕ) → i < 4 → has_slot s.edge i ≡ false → (on_face (mark (child_shape s k) i) i ≡ true) × (on_face (mark (child_shape s k) i) k ≡ true)
  unfolding cut_faces
  cut_face_mark i l free =
      let m = mark (child_shape s k) i in
      let at = all_at (λ i. only_if (not (has_slot s.edge i)) (on_face (mark (child_shape s k) i) i && on_face (mark (child_shape s k) i) k)) 4 i (every_cut cut_faces cut_faces_holds s v k end) l in
      let both = only_if_holds (not (has_slot s.edge i)) (on_face m i && on_face m k) at (ap not free) in
      (and_left (on_face m i) (on_face m k) both, and_right (on_face m i) (on_face m k) both)

-- "The edge connecting the new vertex to the new refinement edge", and "the edge opposite the new vertex": the new vertex is in slot k, the
-- new refinement edge is the child's, and the new face is the one without the end that stays.
abbrev on_new_face : Shape → ℕ → Bool
on_new_face s k = on_face (new_mark s k) (other_end s.edge k)

abbrev reaches : Shape → ℕ → Bool
reaches s k = has_slot (child_shape s k).edge (other_end (new_mark s k) k)

abbrev connects : Shape → ℕ → Bool
connects s k = has_slot (new_mark s k) k && (reaches s k && on_new_face s k)

abbrev is_opposite : Shape → ℕ → Bool
is_opposite s k = on_new_face s k && on_face (new_mark s k) k

new_face_mark : Shape → ℕ → Bool
new_face_mark s k =
    let if_set = connects s k in
    let otherwise = is_opposite s k in
    cond (set_p s) if_set otherwise

new_face_mark_holds : every_shape (at_both_ends new_face_mark) ≡ true
unfolding computed new_face_mark
new_face_mark_holds = refl

module _ (s : Shape) (v : Valid s) (k : ℕ) (end : End s k) where
  new_face_mark_lem : cond (set_p s) (connects s k) (is_opposite s k) ≡ true
  unfolding new_face_mark
  new_face_mark_lem = every_cut new_face_mark new_face_mark_holds s v k end

  -- If the parent is type P_f, the mark of the new face connects the new vertex to an end of the child's refinement edge.
  pub connects_to_the_refinement_edge : set_p s ≡ true → (has_slot (new_mark s k) k ≡ true) × (has_slot (child_shape s k).edge (other_end (new_mark s k) k) ≡ true) × (on_face (new_mark s k) (other_end s.edge k) ≡ true)
  connects_to_the_refinement_edge t =
      let all : connects s k ≡ true = rw t at new_face_mark_lem in
      let rest = and_right (has_slot (new_mark s k) k) (reaches s k && on_new_face s k) all in
      (and_left (has_slot (new_mark s k) k) (reaches s k && on_new_face s k) all, and_left (reaches s k) (on_new_face s k) rest, and_right (reaches s k) (on_new_face s k) rest)

  -- Otherwise it is the edge of the new face without the new vertex.
  pub opposite_the_new_vertex : set_p s ≡ false → (on_face (new_mark s k) (other_end s.edge k) ≡ true) × (on_face (new_mark s k) k ≡ true)
  opposite_the_new_vertex f =
      let both : is_opposite s k ≡ true = rw f at new_face_mark_lem in
      (and_left (on_new_face s k) (on_face (new_mark s k) k) both, and_right (on_new_face s k) (on_face (new_mark s k) k) both)
