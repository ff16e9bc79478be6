use Prim.Native.Nat.{ℕ}
use Rattle.std.proofs.Math.IntN.{ℤ}
use Rattle.mesh_tables.specs.Tables.{Tables, piece_at, signed_at, sixfold_at}

-- The signed determinant of record n, and its sixfold volume.
abbrev pub signed : Tables → ℕ → ℤ
signed m n = signed_at m.vertex_at (piece_at m n)

abbrev pub volume : Tables → ℕ → ℕ
volume m n = sixfold_at m.vertex_at (piece_at m n)
