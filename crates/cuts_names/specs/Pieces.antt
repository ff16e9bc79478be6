-- Pieces over any kind of corner, their children, and the pieces that cutting a base can give.
use Rattle.std.specs.Prelude.{◌≡◌, refl, Bool, true, false, cond, List, [], ◌∷◌, ℕ, length, eqb}
use Rattle.std.proofs.Common.{ap}
use Rattle.std.proofs.Math.Path.{fun_ext}
use Rattle.piece_edges.specs.Edges.{low_slot, high_slot}
use Rattle.piece.specs.Shape.{Shape, slot_a, slot_b}
use Rattle.piece_cut.specs.Cut.{child_shape}
use Rattle.cuts_names.specs.Names.{Name, mid}

-- A piece is a shape and a corner in each slot.
pub record Piece (A : Type 0) : Type 0 where
  pub shape : Shape
  pub corner : ℕ → A

-- A child has the midpoint in the slot of one end of the refinement edge: the end in its first slot, or the one in its second.
pub data Side : Type 0 where
  low high : Side

abbrev pub end_at : Shape → Side → ℕ
end_at s low = slot_a s
end_at s high = slot_b s

-- w in slot k, all else as in f.
abbrev pub put : {A : Type 0} → A → ℕ → (ℕ → A) → ℕ → A
put w k f j = cond (eqb j k) w (f j)

-- The child with w for the midpoint.
unfoldable pub child_with : {A : Type 0} → A → Piece A → Side → Piece A
child_with w p side =
    record { shape = child_shape p.shape (end_at p.shape side); corner = put w (end_at p.shape side) p.corner }

-- Other names for the corners.
unfoldable pub renamed : {A B : Type 0} → (A → B) → Piece A → Piece B
renamed f p = record { shape = p.shape; corner = λ k. f (p.corner k) }

-- Cutting does not look at the corners' names.
pub child_renamed : {A B : Type 0} (f : A → B) (w : A) (p : Piece A) (side : Side) → renamed f (child_with w p side) ≡ child_with (f w) (renamed f p) side
unfolding child_with renamed
child_renamed {A} {B} f w p side =
    ap
    (λ (c : ℕ → B). record { shape = (child_with w p side).shape; corner = c })
    (fun_ext (λ j. past (eqb j (end_at p.shape side)) w (p.corner j)))
  where
    past : (b : Bool) (x y : A) → f (cond b x y) ≡ cond b (f x) (f y)
    past true x y = refl
    past false x y = refl

-- ---- pieces over names

-- The midpoint of edge e.
abbrev pub mid_of : Piece Name → ℕ → Name
mid_of p e = mid (p.corner (low_slot e)) (p.corner (high_slot e))

-- The vertex that cutting the piece makes.
abbrev pub makes : Piece Name → Name
makes p = mid_of p p.shape.edge

unfoldable pub child : Piece Name → Side → Piece Name
unfolding child_with
child p side = child_with (makes p) p side

-- ---- nodes

-- A base record's number and the sides taken from it, the last cut first: a piece that cutting the base can give.
pub record Node : Type 0 where
  pub root : ℕ
  pub path : List Side

abbrev pub generation : Node → ℕ
generation n = length n.path

-- A node's child.
abbrev pub kid : Node → Side → Node
kid n side = record { root = n.root; path = side ∷ n.path }

unfoldable pub piece_down : Piece Name → List Side → Piece Name
piece_down p [] = p
piece_down p (side ∷ path) = child (piece_down p path) side

-- The piece at a node, over the base pieces.
unfoldable pub piece_at : (ℕ → Piece Name) → Node → Piece Name
unfolding piece_down
piece_at base n = piece_down (base n.root) n.path

pub piece_root_lem : (base : ℕ → Piece Name) (r : ℕ) → piece_at base (record { root = r; path = [] }) ≡ base r
unfolding piece_at
piece_root_lem base r = refl

pub piece_kid_lem : (base : ℕ → Piece Name) (n : Node) (side : Side) → piece_at base (kid n side) ≡ child (piece_at base n) side
unfolding piece_at
piece_kid_lem base n side = refl
