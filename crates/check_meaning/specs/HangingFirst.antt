-- "With 10 it also returns the first leaf edge found hanging, by record and then edge code": the place that check returns, in plain words.
use Rattle.std.specs.Prelude.{ℕ, ◌<◌}
use Rattle.piece.specs.Ends.{ends_of}
use Rattle.mesh_tables.specs.Tables.{Tables, all_records, piece_at}
use Rattle.check_meaning.specs.Accepted.{Made, Leaf, HasParents}

-- "An edge hangs if it is an edge of a leaf and some made vertex has its two ends as parents.": edge e of record n.
pub record HangingEdge (m : Tables) (n e : ℕ) : Type 0 where
  pub there : n < all_records m
  pub leaf : Leaf m n
  pub code : e < 6
  pub vertex : ℕ
  pub made : Made m vertex
  pub parents : HasParents m (ends_of (piece_at m n) e) vertex
