-- The vertices and the records that a mesh holds, by their numbers.
use Rattle.std.specs.Prelude.{ℕ}
use Rattle.stored.specs.declared.Vertex.{Vertex}
use Rattle.stored.specs.declared.Record.{Record}
use Rattle.stored.specs.Layout.{vertex_in, record_in}
use Rattle.stored_entries.specs.declared.Mesh.{Mesh}

abbrev pub vertex_read : Mesh → ℕ → Vertex
vertex_read m = vertex_in m.layout m.base.now m.grown.now

abbrev pub record_read : Mesh → ℕ → Record
record_read m = record_in m.layout m.base.now m.grown.now
