-- Rule 23: base vertices that hang on base records.
use Rattle.std.specs.Prelude.{ℕ, ◌<◌}
use Rattle.grid_inside.proofs.Weights.{closed_exactly}
use Rattle.mesh_tables.specs.Tables.{Tables, base_vertices, base_records, piece_at, corner_point, signed_at}
use Rattle.check_refusals.specs.Refusals.{hangs_on, vertex_hangs, hanging_vertices}
use Rattle.check_meaning.specs.Tests.{Passes, Fails, reads, not_passes, fails_unless, and_passes, any_passes}
use Rattle.check_meaning.specs.Accepted.{point_at, RightBaseRecords, RightHanded, HangsOn, NoVertexHangs, SomeVertexHangs}
use Rattle.check_meaning.specs.Bases.{base_right_handed}
use Rattle.check_meaning.specs.Faces.{corner_of_lem}

module _ (m : Tables) (solid : RightBaseRecords m) (handed : RightHanded m) where
  -- Of a right-handed piece the determinants say what lies in it.
  vertex_hangs_lem : (n : ℕ) → n < base_records m → (v : ℕ) → Passes (hangs_on m.vertex_at (piece_at m n) v) (HangsOn m v n)
  unfolding hangs_on signed_at
  vertex_hangs_lem n l v =
      let p = piece_at m n in
      reads
      (and_passes (not_passes (fails_unless (corner_of_lem p v))) (closed_exactly (corner_point m.vertex_at p) (point_at m v) (base_right_handed m solid handed n l)))
      (λ h. record { lies_in = h.1; no_corner = h.0 })
      (λ h. (h.no_corner, h.lies_in))

  pub some_hangs : Passes (hanging_vertices m) (SomeVertexHangs m)
  unfolding hanging_vertices vertex_hangs
  some_hangs =
      reads (any_passes (base_records m) (λ n l. any_passes (base_vertices m) (λ v b. vertex_hangs_lem n l v)))
      (λ (n, l, (v, b, h)). (n, l, v, b, h))
      (λ (n, l, v, b, h). (n, l, (v, b, h)))

  pub rule23_holds : Fails (hanging_vertices m) (NoVertexHangs m)
  rule23_holds =
      reads (fails_unless some_hangs)
      (λ none n l v b h. none (n, l, v, b, h))
      (λ none (n, l, v, b, h). none n l v b h)
