-- Tables that hold a numbered set of cuts: entry by entry what its bytes say.
use Rattle.std.specs.Prelude.{◌≡◌, ℕ, ◌<◌}
use Rattle.mesh_tables.specs.Tables.{Tables, base_vertices, all_vertices, base_records, all_records}
use Rattle.demands_words.specs.Words.{BaseMesh, Numbering, vertex_of, record_of}

pub record Holds (m : Tables) (b : BaseMesh) (N : Numbering) : Type 0 where
  pub base_vertices_lem : base_vertices m ≡ b.vertices
  pub vertices : all_vertices m ≡ N.vertices
  pub base_records_lem : base_records m ≡ b.pieces
  pub records : all_records m ≡ N.records
  pub vertex_at : (v : ℕ) → v < N.vertices → m.vertex_at v ≡ vertex_of b N v
  pub record_at : (r : ℕ) → r < N.records → m.record_at r ≡ record_of b N r
