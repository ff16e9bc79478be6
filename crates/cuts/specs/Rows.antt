-- Sanity rows, computed: the six pieces round a cube's diagonal, and a ladder of three pieces that closes to the set that the second program
-- gives.
use Rattle.std.specs.Prelude.{◌≡◌, refl, Bool, false, not, List, [], ◌∷◌, ◌++◌, map, ℕ, zero, suc, length, get_or}
use Rattle.laws.specs.Below.{any_below, list_below}
use Rattle.piece.specs.Shape.{Shape}
use Rattle.piece.specs.Every.{shaped}
use Rattle.cuts_names.specs.Names as Names
use Rattle.cuts_names.specs.Lists.{among, passing}
use Rattle.cuts_names.specs.Names.{Name, mid, named}
use Rattle.cuts_names.specs.Pieces.{Piece, Side, low, high, makes, child, Node, piece_down, piece_at}
use Rattle.cuts_names.specs.Macro.{computed}
use Rattle.cuts.specs.Least.{same_node}
use Rattle.cuts.specs.Count.{nodes, made_of}
use Rattle.cuts.specs.Fuel.{hangs_on, hangs_in}

-- ---- pieces and passes

-- A piece with its corners as a list, so that two can be compared.
record Row : Type 0 where
  shape : Shape
  corners : List Name

abbrev row_of : Piece Name → Row
row_of p = record { shape = p.shape; corners = p.corner 0 ∷ p.corner 1 ∷ p.corner 2 ∷ p.corner 3 ∷ [] }

-- A base piece with these vertex numbers for corners.
abbrev pub base_piece : Shape → List ℕ → Piece Name
base_piece s numbers = record { shape = s; corner = λ k. Names.base (get_or numbers k 0) }

abbrev pub at : ℕ → List Side → Node
at r path = record { root = r; path = path }

-- The leaves of the set with these cuts.
leaves : ℕ → List Node → List Node
leaves count cuts = passing (λ n. not (among same_node n cuts)) (nodes count cuts)

-- Those of them that hang: what the next pass cuts.
hanging : (ℕ → Piece Name) → ℕ → List Node → List Node
hanging base count cuts = passing (hangs_in base cuts) (leaves count cuts)

-- What each of so many passes cuts, after these cuts.
pub passes : (ℕ → Piece Name) → ℕ → ℕ → List Node → List (List Node)
passes base count zero cuts = []
passes base count (suc n) cuts = let more = hanging base count cuts in more ∷ passes base count n (cuts ++ more)

-- What these rows compute with.
unfoldable pub rows : Bool
unfolding computed named child piece_down piece_at any_below hangs_on hangs_in leaves hanging passes
rows = false

-- ---- the cube

-- The cube of side 64 as six pieces round the diagonal from vertex 0 to vertex 7, as build marks them.
abbrev cube : ℕ → Piece Name
cube r =
    base_piece (shaped 2 4 2 2 1 0)
    (get_or
    ((0 ∷ 1 ∷ 3 ∷ 7 ∷ [])
    ∷ (0 ∷ 1 ∷ 5 ∷ 7 ∷ [])
    ∷ (0 ∷ 2 ∷ 3 ∷ 7 ∷ [])
    ∷ (0 ∷ 2 ∷ 6 ∷ 7 ∷ [])
    ∷ (0 ∷ 4 ∷ 5 ∷ 7 ∷ [])
    ∷ (0 ∷ 4 ∷ 6 ∷ 7 ∷ [])
    ∷ [])
    r [])

-- The six pieces have one midpoint, the diagonal's.
cube_midpoint : list_below 6 (λ r. makes (cube r)) ≡ list_below 6 (λ r. mid (Names.base 0) (Names.base 7))
unfolding rows list_below
cube_midpoint = refl

-- "Select one: all six are cut, 9 vertices, 18 records, 12 leaves."
cube_passes : passes cube 6 2 (at 0 [] ∷ []) ≡ (at 5 [] ∷ at 4 [] ∷ at 3 [] ∷ at 2 [] ∷ at 1 [] ∷ []) ∷ [] ∷ []
unfolding rows
cube_passes = refl

abbrev cube_cuts : List Node
cube_cuts = at 0 [] ∷ at 1 [] ∷ at 2 [] ∷ at 3 [] ∷ at 4 [] ∷ at 5 [] ∷ []

cube_made : made_of cube cube_cuts ≡ mid (Names.base 0) (Names.base 7) ∷ []
unfolding rows
cube_made = refl

cube_leaves : length (leaves 6 cube_cuts) ≡ 12
unfolding rows
cube_leaves = refl

-- ---- a ladder of three pieces

-- Vertices (0,0,0), (64,0,0), (32,-32,0), (32,0,-32), (32,96,0), (32,0,96), (32,160,160), (96,96,96). The first two pieces share an edge and the
-- next two share one; neither shared edge is the refinement edge of the later piece, so that a piece hangs on an edge that its own cut leaves whole.
abbrev pub ladder : ℕ → Piece Name
ladder r =
    get_or
    (base_piece (shaped 0 3 1 0 0 0) (0 ∷ 1 ∷ 2 ∷ 3 ∷ [])
    ∷ base_piece (shaped 5 5 5 2 1 0) (0 ∷ 1 ∷ 4 ∷ 5 ∷ [])
    ∷ base_piece (shaped 1 3 1 0 1 0) (4 ∷ 5 ∷ 6 ∷ 7 ∷ [])
    ∷ [])
    r (base_piece (shaped 0 3 1 0 0 0) [])

-- The nodes of its records 0 to 18, in their order.
abbrev ladder_nodes : List Node
ladder_nodes =
    at 0 []
    ∷ at 1 []
    ∷ at 2 []
    ∷ at 0 (high ∷ [])
    ∷ at 0 (low ∷ [])
    ∷ at 1 (high ∷ [])
    ∷ at 1 (low ∷ [])
    ∷ at 2 (high ∷ [])
    ∷ at 2 (low ∷ [])
    ∷ at 1 (high ∷ high ∷ [])
    ∷ at 1 (low ∷ high ∷ [])
    ∷ at 1 (high ∷ low ∷ [])
    ∷ at 1 (low ∷ low ∷ [])
    ∷ at 2 (high ∷ high ∷ [])
    ∷ at 2 (low ∷ high ∷ [])
    ∷ at 1 (high ∷ high ∷ high ∷ [])
    ∷ at 1 (low ∷ high ∷ high ∷ [])
    ∷ at 1 (high ∷ high ∷ low ∷ [])
    ∷ at 1 (low ∷ high ∷ low ∷ [])
    ∷ []

-- Its vertices: beyond the base, the parents are 0, 1; 4, 5; 4, 6; 0, 4; 0, 5.
abbrev vertex : ℕ → Name
vertex n =
    let b = Names.base in
    get_or (b 0 ∷ b 1 ∷ b 2 ∷ b 3 ∷ b 4 ∷ b 5 ∷ b 6 ∷ b 7 ∷ mid (b 0) (b 1) ∷ mid (b 4) (b 5) ∷ mid (b 4) (b 6) ∷ mid (b 0) (b 4) ∷ mid (b 0) (b 5) ∷ []) n (b 0)

abbrev written : Shape → List ℕ → Row
written s numbers = record { shape = s; corners = map vertex numbers }

-- Edge, marks, flag and corners of each record that it writes are those of the piece at the record's node.
ladder_records : map (λ n. row_of (piece_at ladder n)) ladder_nodes ≡ written (shaped 0 3 1 0 0 0) (0 ∷ 1 ∷ 2 ∷ 3 ∷ [])
    ∷ written (shaped 5 5 5 2 1 0) (0 ∷ 1 ∷ 4 ∷ 5 ∷ [])
    ∷ written (shaped 1 3 1 0 1 0) (4 ∷ 5 ∷ 6 ∷ 7 ∷ [])
    ∷ written (shaped 1 5 1 2 1 1) (0 ∷ 8 ∷ 2 ∷ 3 ∷ [])
    ∷ written (shaped 3 3 5 4 3 1) (8 ∷ 1 ∷ 2 ∷ 3 ∷ [])
    ∷ written (shaped 1 3 1 0 1 1) (0 ∷ 1 ∷ 4 ∷ 9 ∷ [])
    ∷ written (shaped 2 4 2 2 0 1) (0 ∷ 1 ∷ 9 ∷ 5 ∷ [])
    ∷ written (shaped 0 4 2 0 0 1) (4 ∷ 5 ∷ 10 ∷ 7 ∷ [])
    ∷ written (shaped 3 3 5 4 3 1) (10 ∷ 5 ∷ 6 ∷ 7 ∷ [])
    ∷ written (shaped 0 3 2 0 0 0) (0 ∷ 1 ∷ 11 ∷ 9 ∷ [])
    ∷ written (shaped 3 3 5 0 3 0) (11 ∷ 1 ∷ 4 ∷ 9 ∷ [])
    ∷ written (shaped 0 4 1 0 0 0) (0 ∷ 1 ∷ 9 ∷ 12 ∷ [])
    ∷ written (shaped 4 4 5 4 0 0) (12 ∷ 1 ∷ 9 ∷ 5 ∷ [])
    ∷ written (shaped 2 4 2 2 1 0) (4 ∷ 9 ∷ 10 ∷ 7 ∷ [])
    ∷ written (shaped 4 4 2 4 3 0) (9 ∷ 5 ∷ 10 ∷ 7 ∷ [])
    ∷ written (shaped 2 5 2 2 1 0) (0 ∷ 8 ∷ 11 ∷ 9 ∷ [])
    ∷ written (shaped 3 3 5 4 3 0) (8 ∷ 1 ∷ 11 ∷ 9 ∷ [])
    ∷ written (shaped 1 5 1 2 1 0) (0 ∷ 8 ∷ 9 ∷ 12 ∷ [])
    ∷ written (shaped 4 4 5 4 3 0) (8 ∷ 1 ∷ 9 ∷ 12 ∷ [])
    ∷ []
unfolding rows
ladder_records = refl

-- "Leaves 11", and five made vertices.
abbrev ladder_cuts : List Node
ladder_cuts = at 0 [] ∷ at 1 [] ∷ at 2 [] ∷ at 1 (high ∷ []) ∷ at 1 (low ∷ []) ∷ at 2 (high ∷ []) ∷ at 1 (high ∷ high ∷ []) ∷ at 1 (high ∷ low ∷ []) ∷ []

ladder_leaves : length (leaves 3 ladder_cuts) ≡ 11
unfolding rows
ladder_leaves = refl

ladder_made : length (made_of ladder ladder_cuts) ≡ 5
unfolding rows
ladder_made = refl
