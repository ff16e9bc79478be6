-- Document 002's BisectTet, which is document 01's "Cutting", to be read beside it: its five steps from top to bottom, then the two children
-- that they make, in document 01's order. The code has the same order and, with `_` for the capitals, the same names.
use Rattle.std.specs.Prelude.{cond, List, [], ◌∷◌, ℕ, ◌+◌, ◌%◌, set, eqb}
use Rattle.laws.specs.Below.{bit}
use Rattle.piece_edges.specs.Edges.{other_end, edge_between, opposite_on, shared_slot}
use Rattle.piece.specs.Shape.{Shape, shape_of, mark, slot_a, slot_b, set_p, unset_p}
use Rattle.piece.specs.Ends.{lower_end, higher_end}
use Rattle.piece.specs.declared.Piece.{Piece}
use Rattle.piece_cut.specs.declared.Children.{Children}

-- w is the new vertex, the midpoint of the refinement edge. A child has w in the slot of one end of the refinement edge, which is k below.
-- "Each child has one inherited face, two cut faces, and one new face, which is common to both children": the inherited face is the one
-- without w, face k; the new face is the one without the end that stays; the two cut faces are the others.

-- Step 1. "Bisect τ by joining the midpoint of its refinement edge to each of the two vertices not lying on the refinement edge. This
-- defines V(τ_i)." Document 01: "all else stays in its slot", whatever the corners are.
abbrev pub child_corners {ℓ} : {A : Type ℓ} → List A → A → ℕ → List A
child_corners corners w k = set corners k w

-- Step 2. "The inherited face inherits its marked edge from the parent,
abbrev pub inherited_mark : Shape → ℕ → ℕ
inherited_mark s k = mark s k

-- and this marked edge is the refinement edge of the child."
abbrev pub refinement_edge : Shape → ℕ → ℕ
refinement_edge s k = inherited_mark s k

-- Step 3. "On the cut faces of the children mark the edge opposite the new vertex with respect to the face."
abbrev pub cut_mark : ℕ → ℕ → ℕ
cut_mark k i = opposite_on i k

-- Step 4. "The new face is marked the same way for both children. If the parent is type P_f, the marked edge is the edge connecting the new
-- vertex to the new refinement edge. Otherwise it is the edge opposite the new vertex." Document 01: "The new face wcd is marked cd; if the
-- parent is P with the flag set, it is marked from w to the corner that the two other marked edges share."
unfoldable pub new_mark : Shape → ℕ → ℕ
new_mark s k =
    cond (set_p s)
    (edge_between k (shared_slot (mark s (slot_b s)) (mark s (slot_a s))))
    (opposite_on (other_end s.edge k) k)

-- Step 5. "The flag is set in the children if and only if the parent is type P_u."
unfoldable pub child_flag : Shape → ℕ
child_flag s = bit (unset_p s)

-- "Mark the faces of the children as follows": which step marks face i.
unfoldable pub child_mark : Shape → ℕ → ℕ → ℕ
child_mark s k i = cond (eqb i k) (inherited_mark s k) (cond (eqb i (other_end s.edge k)) (new_mark s k) (cut_mark k i))

-- A child without its corners: steps 2 to 5 put together.
unfoldable pub child_shape : Shape → ℕ → Shape
child_shape s k =
    record {
      edge = refinement_edge s k;
      marks = child_mark s k 0 ∷ child_mark s k 1 ∷ child_mark s k 2 ∷ child_mark s k 3 ∷ [];
      flag = child_flag s;
    }

-- One child, with the new vertex w in slot k. "Their generation is the parent's plus 1", in a byte. Document 02: "a child has its parent's" material.
unfoldable pub child_of : Piece → ℕ → ℕ → Piece
child_of p w k =
    let s = child_shape (shape_of p) k in
    record {
      corners = child_corners p.corners w k;
      edge = s.edge;
      marks = s.marks;
      flag = s.flag;
      generation = (p.generation + 1) % 256;
      material = p.material;
    }

-- "The first child has w in v's slot, the second has w in u's slot."
unfoldable pub cut_of : Piece → ℕ → Children
cut_of p w = record { first = child_of p w (higher_end p p.edge); second = child_of p w (lower_end p p.edge) }
