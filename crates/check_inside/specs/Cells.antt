-- Cells of one width, in which base vertices are linked, and what a piece asks in them. How wide they are decides nothing but the time.
use Rattle.std.specs.Prelude.{Bool, not, ◌&&◌, ◌||◌, List, ℕ, ◌+◌, ◌-◌, ◌*◌, ◌/◌, min, max, length, get_or, eqb, ltb, leb}
use Rattle.laws.specs.Below.{any_below}
use Rattle.laws.specs.Links.{key_among, any_along}
use Rattle.piece.specs.declared.Piece.{Piece}
use Rattle.piece.specs.Ends.{corner_at}
use Rattle.grid.specs.declared.Place.{Place}
use Rattle.grid.specs.Places.{Point, point_of}
use Rattle.grid_volume.specs.Volume.{corners_of}
use Rattle.grid_inside.specs.Inside.{lies_in}
use Rattle.stored.specs.declared.Vertex.{Vertex}
use Rattle.check_inside.specs.declared.Slabs.{Slabs}
use Rattle.check_inside.specs.declared.Corner.{Corner}
use Rattle.check_inside.specs.declared.Asking.{Asking}

-- ---- cells

-- The number of the cell along one axis. The width is one less than a cell's.
unfoldable pub slab_of : ℕ → ℕ → ℕ
slab_of width x = x / (width + 1)

unfoldable pub slabs_of : ℕ → Place → Slabs
slabs_of width p = record { x = slab_of width p.x; y = slab_of width p.y; z = slab_of width p.z }

-- The number of a cell. The factors move rows and layers apart.
unfoldable pub cell_number : ℕ → ℕ → ℕ → ℕ
cell_number x y z = x + 31 * y + 961 * z

-- The key of a place, one of so many.
unfoldable pub place_key : ℕ → ℕ → Place → ℕ
place_key keys width p = key_among keys (cell_number (slabs_of width p).x (slabs_of width p).y (slabs_of width p).z)

-- The least and the greatest coordinates of two places.
unfoldable pub lower_of : Place → Place → Place
lower_of p q = record { x = min p.x q.x; y = min p.y q.y; z = min p.z q.z }

unfoldable pub upper_of : Place → Place → Place
upper_of p q = record { x = max p.x q.x; y = max p.y q.y; z = max p.z q.z }

-- ---- a piece that asks

abbrev pub corner_of : (ℕ → Vertex) → Piece → ℕ → Corner
corner_of vertex_at p k = record { number = corner_at p k; place = (vertex_at (corner_at p k)).place }

unfoldable pub asking_of : (ℕ → Vertex) → Piece → Asking
asking_of vertex_at p = record { a = corner_of vertex_at p 0; b = corner_of vertex_at p 1; c = corner_of vertex_at p 2; d = corner_of vertex_at p 3 }

-- Its box: the least and the greatest coordinates of its corners.
unfoldable pub low_of : Asking → Place
low_of q = lower_of (lower_of q.a.place q.b.place) (lower_of q.c.place q.d.place)

unfoldable pub high_of : Asking → Place
high_of q = upper_of (upper_of q.a.place q.b.place) (upper_of q.c.place q.d.place)

unfoldable pub is_within : Place → Place → Place → Bool
is_within low high p =
    leb low.x p.x && leb p.x high.x && leb low.y p.y && leb p.y high.y && leb low.z p.z && leb p.z high.z

-- v is none of its corners and lies, where it stands, in the closed piece.
unfoldable pub is_corner : Asking → ℕ → Bool
is_corner q v = eqb q.a.number v || eqb q.b.number v || eqb q.c.number v || eqb q.d.number v

abbrev pub standing : Asking → ℕ → Point
standing q = corners_of (point_of q.a.place) (point_of q.b.place) (point_of q.c.place) (point_of q.d.place)

unfoldable pub hangs_among : Asking → ℕ → Place → Bool
hangs_among q v place = not (is_corner q v) && lies_in (standing q) (point_of place)

-- The same where only what stands in a box is looked at.
unfoldable pub hangs_within : Asking → Place → Place → ℕ → Place → Bool
hangs_within q low high v place = not (is_corner q v) && is_within low high place && lies_in (standing q) (point_of place)

-- Vertex u is one of the first so many, and hangs on it.
unfoldable pub hangs_below : (ℕ → Vertex) → ℕ → Asking → Place → Place → ℕ → Bool
hangs_below vertex_at count q low high u = ltb u count && hangs_within q low high u (vertex_at u).place

-- ---- the cells that are asked

-- P holds at some number from one to another.
unfoldable pub any_within : ℕ → ℕ → (ℕ → Bool) → Bool
any_within from to P = any_below (to + 1 - from) (λ i. P (from + i))

-- P holds along the links of a cell; of a row of cells, a layer, a block.
unfoldable pub in_cell : List ℕ → List ℕ → (ℕ → Bool) → ℕ → ℕ → ℕ → Bool
in_cell heads nexts P x y z = any_along nexts P (get_or heads (key_among (length heads) (cell_number x y z)) 0)

unfoldable pub in_row : List ℕ → List ℕ → (ℕ → Bool) → Slabs → Slabs → ℕ → ℕ → Bool
in_row heads nexts P from to y z = any_within from.x to.x (λ x. in_cell heads nexts P x y z)

unfoldable pub in_layer : List ℕ → List ℕ → (ℕ → Bool) → Slabs → Slabs → ℕ → Bool
in_layer heads nexts P from to z = any_within from.y to.y (λ y. in_row heads nexts P from to y z)

unfoldable pub in_block : List ℕ → List ℕ → (ℕ → Bool) → Slabs → Slabs → Bool
in_block heads nexts P from to = any_within from.z to.z (in_layer heads nexts P from to)
