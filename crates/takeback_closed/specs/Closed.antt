-- The mesh that is left, as it is written: the header, and then each vertex and each record that has a new number, in the place of that number.
use Rattle.std.specs.Prelude.{cond, List, ℕ, eqb}
use Rattle.std.proofs.lemmas.List.Edits.{sets}
use Rattle.laws.specs.Counts.{counts_below}
use Rattle.stored.specs.declared.Format.{Format}
use Rattle.stored.specs.declared.Header.{Header}
use Rattle.stored.specs.declared.Vertex.{Vertex}
use Rattle.stored.specs.declared.Record.{Record}
use Rattle.stored.specs.Layout.{none, mesh_length, header_bytes, vertex_bytes, record_bytes}
use Rattle.mesh_tables.specs.Tables.{Tables, all_vertices, all_records}
use Rattle.takeback_remains.specs.Remains.{vertex_again, record_again}
use Rattle.takeback_remains.specs.Numbers.{new_in}

-- The bytes of entry x in the place of its new number, if it has one.
unfoldable pub entry_put : (ℕ → ℕ) → (ℕ → ℕ) → (ℕ → List ℕ) → List ℕ → ℕ → List ℕ
entry_put new place bytes out x = let put = sets out (place (new x)) (bytes x) in cond (eqb (new x) none) out put

-- Vertices stand behind the header, records behind so many vertices.
abbrev pub vertex_put : Format → (ℕ → Vertex) → List ℕ → List ℕ → ℕ → List ℕ
vertex_put f vertex_at vertices out v = entry_put (new_in vertices) (λ k. mesh_length f k 0) (λ u. vertex_bytes f (vertex_again (new_in vertices) (vertex_at u))) out v

abbrev pub record_put : Format → (ℕ → Record) → ℕ → List ℕ → List ℕ → List ℕ → ℕ → List ℕ
record_put f record_at behind vertices records out n = entry_put (new_in records) (λ k. mesh_length f behind k) (λ c. record_bytes f (record_again (new_in vertices) (new_in records) (record_at c))) out n

-- The whole, with this header.
unfoldable pub closed_put : Format → Tables → List ℕ → List ℕ → Header → List ℕ → List ℕ
closed_put f m vertices records h out =
    counts_below (record_put f m.record_at h.vertices vertices records)
    (counts_below (vertex_put f m.vertex_at vertices) (sets out 0 (header_bytes f h)) (all_vertices m))
    (all_records m)
