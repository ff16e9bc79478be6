-- What is left goes by the names of the records that there are.
use Rattle.std.specs.Prelude.{◌≡◌, Bool, ◌&&◌, ◌||◌, ℕ, ◌<◌, leb}
use Rattle.std.proofs.Math.Path.{ap}
use Rattle.std.proofs.Math.Bool.{not}
use Rattle.std.proofs.Math.Dec.{eqb, ltb}
use Rattle.laws.specs.Below.{any_below, any_same}
use Rattle.mesh_tables.specs.Tables.{Tables, base_vertices, all_vertices, base_records, all_records, is_cut}
use Rattle.check_refusals.specs.Refusals.{is_child_of}
use Rattle.takeback_remains.specs.Remains.{cut_vertex, freed, leaf_children, holds_vertex, taken_away, vertex_remains, stays_cut, record_remains}

module _ (m : Tables) (P Q : ℕ → Bool) (same : (n : ℕ) → n < all_records m → P n ≡ Q n) where
  holds_same : (v n : ℕ) → n < all_records m → holds_vertex m P v n ≡ holds_vertex m Q v n
  unfolding holds_vertex freed
  holds_same v n l = ap (λ (b : Bool). is_cut m n && not (b && leaf_children m.record_at n) && eqb (cut_vertex m n) v) (same n l)

  pub vertices_same : vertex_remains m P ≡ vertex_remains m Q
  unfolding vertex_remains taken_away
  vertices_same = λ i v. ltb v (all_vertices m) && not (leb (base_vertices m) v && not (any_same (all_records m) (holds_vertex m P v) (holds_vertex m Q v) (holds_same v) i))

  pub records_same : record_remains m P ≡ record_remains m Q
  unfolding record_remains stays_cut
  records_same = λ i c. ltb c (all_records m) && (ltb c (base_records m) || any_below (all_records m) (λ n. is_child_of (m.record_at n) c && (is_cut m n && vertices_same i (cut_vertex m n))))
