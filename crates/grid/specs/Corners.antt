-- Corners by their slots: one put in another's place, two exchanged, and a point halfway between two.
-- Assumes nothing.
use Rattle.std.specs.Prelude.{◌≡◌, ℕ, ◌+ℤ◌}
use Rattle.laws.specs.Below.{put_at}
use Rattle.grid.specs.Places.{Point}

-- the corners in slots i and j exchanged, all else in its slot
abbrev pub exchanged : ℕ → ℕ → (ℕ → Point) → ℕ → Point
exchanged i j corner = put_at i (corner j) (put_at j (corner i) corner)

-- w "stands exactly halfway between" u and v: its double is their sum, in each coordinate
pub record Midpoint (w u v : Point) : Type 0 where
  pub x : w.x +ℤ w.x ≡ u.x +ℤ v.x
  pub y : w.y +ℤ w.y ≡ u.y +ℤ v.y
  pub z : w.z +ℤ w.z ≡ u.z +ℤ v.z
