-- Document 01, "The marked piece": what a piece carries besides its corners, its types, and when it is valid.
use Rattle.std.specs.Prelude.{Bool, true, not, ◌&&◌, ◌||◌, List, ℕ, length, get_or, eqb, ltb, ◌≡◌}
use Rattle.laws.specs.Below.{all_below}
use Rattle.piece_edges.specs.Edges.{low_slot, high_slot, edge_between, on_face, opposite_on}
use Rattle.piece.specs.declared.Piece.{Piece}

-- "A piece carries a refinement edge, one marked edge for each face [..], a flag and a generation." The generation has no part in cutting, nor has
-- document 02's material.
pub record Shape : Type 0 where
  pub edge : ℕ
  pub marks : List ℕ
  pub flag : ℕ

-- "Generations go up to 15"
abbrev pub last_generation : ℕ
last_generation = 15

abbrev pub shape_of : Piece → Shape
shape_of p = record { edge = p.edge; marks = p.marks; flag = p.flag }

-- The marked edge of face i.
abbrev pub mark : Shape → ℕ → ℕ
mark s i = get_or s.marks i 0

-- ---- "Let the refinement edge be ab and the other corners c, d."

unfoldable pub slot_a : Shape → ℕ
slot_a s = low_slot s.edge

unfoldable pub slot_b : Shape → ℕ
slot_b s = high_slot s.edge

-- cd is the edge with neither a nor b.
unfoldable pub edge_c_d : Shape → ℕ
edge_c_d s = opposite_on (slot_a s) (slot_b s)

unfoldable pub slot_c : Shape → ℕ
slot_c s = low_slot (edge_c_d s)

unfoldable pub slot_d : Shape → ℕ
slot_d s = high_slot (edge_c_d s)

-- "By the marks of faces acd and bcd": the faces without b and without a. Are they marked x and y?
unfoldable pub other_marks_are : Shape → ℕ → ℕ → Bool
other_marks_are s x y = eqb (mark s (slot_b s)) x && eqb (mark s (slot_a s)) y

-- "P, (ac, bc) or (ad, bd)"
unfoldable pub type_p : Shape → Bool
type_p s =
    other_marks_are s (edge_between (slot_a s) (slot_c s)) (edge_between (slot_b s) (slot_c s))
    || other_marks_are s (edge_between (slot_a s) (slot_d s)) (edge_between (slot_b s) (slot_d s))

-- "A, (ac, bd) or (ad, bc)"
unfoldable pub type_a : Shape → Bool
type_a s =
    other_marks_are s (edge_between (slot_a s) (slot_c s)) (edge_between (slot_b s) (slot_d s))
    || other_marks_are s (edge_between (slot_a s) (slot_d s)) (edge_between (slot_b s) (slot_c s))

-- "O, cd twice"
unfoldable pub type_o : Shape → Bool
type_o s = other_marks_are s (edge_c_d s) (edge_c_d s)

-- "M, cd once"
unfoldable pub type_m : Shape → Bool
type_m s = (eqb (mark s (slot_b s)) (edge_c_d s) || eqb (mark s (slot_a s)) (edge_c_d s)) && not (type_o s)

-- The flag is a byte: 0 is unset.
abbrev pub unset : Shape → Bool
unset s = eqb s.flag 0

-- P with the flag set.
unfoldable pub set_p : Shape → Bool
set_p s = type_p s && not (unset s)

-- P with the flag unset.
unfoldable pub unset_p : Shape → Bool
unset_p s = type_p s && unset s

-- ---- valid shapes

-- "One marked edge for each face (an edge of that face)", and "both faces that contain the refinement edge are marked with it".
unfoldable pub mark_fits : ℕ → ℕ → ℕ → Bool
mark_fits edge m i = on_face m i && (not (on_face edge i) || eqb m edge)

-- "The flag may be set only in type P."
unfoldable pub flag_fits : Shape → Bool
flag_fits s = unset s || (eqb s.flag 1 && type_p s)

unfoldable pub valid_shape : Shape → Bool
valid_shape s = ltb s.edge 6 && (all_below 4 (λ i. mark_fits s.edge (mark s i) i) && flag_fits s)

-- A valid shape: four marks, each on its face, both refinement faces marked with the refinement edge, the flag set only in type P.
pub record Valid (s : Shape) : Type 0 where
  pub four : length s.marks ≡ 4
  pub valid : valid_shape s ≡ true
