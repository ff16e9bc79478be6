-- Document 01, "Vertices and the grid": places and the coordinates that they hold, the grid of base vertices, and standing halfway.
-- Assumes nothing.
use Rattle.std.specs.Prelude.{Bool, ◌&&◌, ℕ, ◌+◌, ◌/◌, ◌%◌, leb, eqb, ℤ, pos, nat_abs, ◌-ℤ◌}
use Rattle.grid.specs.declared.Place.{Place}

-- how much more a place is than its coordinate
abbrev pub shift : ℕ
shift = 32768

-- "Coordinates are whole numbers": code holds one as a place, the coordinate and 32,768 more, so that every u16 is a place
unfoldable pub coordinate : ℕ → ℤ
coordinate p = pos p -ℤ pos shift

-- the greatest place, and how far apart two coordinates are at most
abbrev pub greatest_place : ℕ
greatest_place = 65535

pub record Point : Type 0 where
  pub x : ℤ
  pub y : ℤ
  pub z : ℤ

abbrev pub point_of : Place → Point
point_of p = record { x = coordinate p.x; y = coordinate p.y; z = coordinate p.z }

-- "Base coordinates are multiples of 32 from -32,736 to 32,736"
unfoldable pub coordinate_on_grid : ℤ → Bool
coordinate_on_grid c = eqb (nat_abs c % 32) 0 && leb (nat_abs c) 32736

unfoldable pub on_grid : Point → Bool
on_grid p = coordinate_on_grid p.x && coordinate_on_grid p.y && coordinate_on_grid p.z

-- "two base vertices at one place"
unfoldable pub same_place : Place → Place → Bool
same_place a b = eqb a.x b.x && eqb a.y b.y && eqb a.z b.z

-- "stands exactly halfway between them": twice w is the sum of a and b
unfoldable pub is_halfway : Place → Place → Place → Bool
is_halfway w a b = eqb (w.x + w.x) (a.x + b.x) && eqb (w.y + w.y) (a.y + b.y) && eqb (w.z + w.z) (a.z + b.z)

-- half the sum of a and b, rounded down where the sum is odd
unfoldable pub halfway_of : Place → Place → Place
halfway_of a b = record { x = (a.x + b.x) / 2; y = (a.y + b.y) / 2; z = (a.z + b.z) / 2 }
