-- Tables that are left of others, entry by entry, hold the numbering of what remains.
use Rattle.std.specs.Prelude.{◌≡◌, Bool, true, false, ℕ, ◌<◌, length}
use Rattle.laws.specs.Below.{count_below}
use Rattle.laws_remaining.specs.Remaining.{old_below}
use Rattle.piece.specs.Ends.{corner_at}
use Rattle.stored.specs.declared.Vertex.{Vertex}
use Rattle.stored.specs.declared.Record.{Record}
use Rattle.stored.specs.Layout.{none}
use Rattle.mesh_tables.specs.Tables as Check
use Rattle.mesh_tables.specs.Tables.{base_vertices, all_vertices, base_records, all_records}

-- What remains gets as its number how many before it remain; what does not becomes none.
pub record NewNumber (stays : ℕ → Bool) (old new : ℕ) : Type 0 where
  pub remains : stays old ≡ true → new ≡ count_below old stays
  pub gone : stays old ≡ false → new ≡ none

-- Entry k of the tables m' is the entry of m before which k remain, with new numbers for parents, corners and first children.
pub record VertexLeft (stays : ℕ → Bool) (was is : Vertex) : Type 0 where
  pub place : is.place ≡ was.place
  pub p : NewNumber stays was.p is.p
  pub q : NewNumber stays was.q is.q

pub record RecordLeft (vertex_stays record_stays : ℕ → Bool) (was is : Record) : Type 0 where
  pub four : length is.piece.corners ≡ 4
  pub corner : (j : ℕ) → j < 4 → NewNumber vertex_stays (corner_at was.piece j) (corner_at is.piece j)
  pub edge : is.piece.edge ≡ was.piece.edge
  pub marks : is.piece.marks ≡ was.piece.marks
  pub flag : is.piece.flag ≡ was.piece.flag
  pub generation : is.piece.generation ≡ was.piece.generation
  pub material : is.piece.material ≡ was.piece.material
  pub first : NewNumber record_stays was.first_child is.first_child

pub record TablesLeft (m m' : Check.Tables) (vertex_stays record_stays : ℕ → Bool) : Type 0 where
  pub base_vertices_lem : base_vertices m' ≡ base_vertices m
  pub vertices : all_vertices m' ≡ count_below (all_vertices m) vertex_stays
  pub base_records_lem : base_records m' ≡ base_records m
  pub records : all_records m' ≡ count_below (all_records m) record_stays
  pub vertex_at : (k : ℕ) → k < all_vertices m' → VertexLeft vertex_stays (m.vertex_at (old_below (all_vertices m) vertex_stays k)) (m'.vertex_at k)
  pub record_at : (k : ℕ) → k < all_records m' → RecordLeft vertex_stays record_stays (m.record_at (old_below (all_records m) record_stays k)) (m'.record_at k)
