-- Document 01, "Build and refine": squared lengths, and the ranking of edges.
-- Assumes nothing.
use Rattle.std.specs.Prelude.{Bool, ◌&&◌, ◌||◌, ℕ, ltb, eqb, ℤ, nat_abs, ◌+ℤ◌, ◌-ℤ◌, ◌*ℤ◌}
use Rattle.grid_lengths.specs.declared.Ranked.{Ranked}
use Rattle.grid.specs.Places.{Point}

abbrev pub square : ℤ → ℤ
square d = d *ℤ d

-- "squared length"
unfoldable pub squared_length : Point → Point → ℕ
squared_length p q = nat_abs (square (p.x -ℤ q.x) +ℤ square (p.y -ℤ q.y) +ℤ square (p.z -ℤ q.z))

-- "Edges are ranked by squared length, longest first; of equal lengths the one with the smaller lower vertex number ranks first, then the one with the smaller higher number"
unfoldable pub ranks_before : Ranked → Ranked → Bool
ranks_before a b =
    ltb b.length a.length
    || eqb a.length b.length && (ltb a.lower b.lower || eqb a.lower b.lower && ltb a.higher b.higher)
