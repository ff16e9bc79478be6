-- The table of uses of refusal 8: "keep one count for each of the 1,024 possible vertices".
use Rattle.std.specs.Prelude.{◌≡◌, refl, Bool, true, false, ◌||◌, List, ℕ, ◌≤◌, ◌<◌, length, get_or, replicate, eqb}
use Rattle.std.proofs.Common.{◌∙◌, arith}
use Rattle.laws.specs.Below.{any_below, any_same}
use Rattle.laws.specs.Links.{counted_at, counted_long}
use Rattle.laws.specs.Counts.{counts_below, marked, counted_marked, Marking, counts_zero}
use Rattle.piece.specs.declared.Piece.{Piece}
use Rattle.piece.specs.Ends.{corner_at}
use Rattle.mesh_tables.specs.Tables.{Tables, piece_at, base_vertices, base_records}
use Rattle.check_refusals.specs.Refusals.{has_corner, unused_vertex, unused_vertices}

-- One use more of each of a piece's four corners.
unfoldable pub used_by : List ℕ → List ℕ → List ℕ
used_by uses corners =
    counted_at (counted_at (counted_at (counted_at uses (get_or corners 0 0)) (get_or corners 1 0)) (get_or corners 2 0)) (get_or corners 3 0)

used_long : (uses corners : List ℕ) → length (used_by uses corners) ≡ length uses
unfolding used_by
used_long uses corners = counted_long _ _ ∙ counted_long _ _ ∙ counted_long _ _ ∙ counted_long _ _

-- What has been used then: a corner, and what had been used.
used_marked : (uses : List ℕ) (p : Piece) (v : ℕ) → v < length uses → marked (used_by uses p.corners) v ≡ (marked uses v || has_corner p v)
unfolding used_by has_corner any_below
used_marked uses p v l =
    let a = counted_at uses (corner_at p 0) in
    let b = counted_at a (corner_at p 1) in
    let c = counted_at b (corner_at p 2) in
    let la = counted_long uses (corner_at p 0) in
    let lb = counted_long a (corner_at p 1) ∙ la in
    let lc = counted_long b (corner_at p 2) ∙ lb in
    rw (
      counted_marked c (corner_at p 3) v (rw lc l),
      counted_marked b (corner_at p 2) v (rw lb l),
      counted_marked a (corner_at p 1) v (rw la l),
      counted_marked uses (corner_at p 0) v l,
    )
    (together (marked uses v) (eqb (corner_at p 0) v) (eqb (corner_at p 1) v) (eqb (corner_at p 2) v) (eqb (corner_at p 3) v))
  where
    together : (before a b c d : Bool) → (before || a || b || c || d) ≡ (before || (a || b || c || d))
    together true a b c d = refl
    together false a b c d = refl

pub uses_marking : (at : ℕ → Piece) → Marking (λ t n. used_by t (at n).corners) (λ n v. has_corner (at n) v)
uses_marking at = record { long = λ t n. used_long t (at n).corners; marks = λ t n v l. used_marked t (at n) v l }

-- The table of the base records, with room for so many vertices.
abbrev pub uses_in : Tables → ℕ → List ℕ
uses_in m room = counts_below (λ t n. used_by t (piece_at m n).corners) (replicate room 0) (base_records m)

-- A vertex is in no base record exactly if its count is 0: what the table says of all base vertices is what the rule says.
pub unused_is : (m : Tables) (room : ℕ) → base_vertices m ≤ room → any_below (base_vertices m) (λ v. eqb (get_or (uses_in m room) v 0) 0) ≡ unused_vertices m
unfolding unused_vertices unused_vertex
unused_is m room fits =
    any_same (base_vertices m) (λ v. eqb (get_or (uses_in m room) v 0) 0) (unused_vertex m)
    (λ v l. counts_zero (λ t n. used_by t (piece_at m n).corners) (λ n x. has_corner (piece_at m n) x) (uses_marking (piece_at m)) room (base_records m) v (omega arith))
