-- How large a sixfold volume can be, and a sum that wraps.
use Rattle.std.specs.Prelude.{◌≡◌, ℕ, ◌+◌, ◌*◌, ◌%◌, ◌^◌, ◌≤◌, List, refl}
use Rattle.std.proofs.Math.Nat.{mod-add-mod}
use Rattle.std.proofs.Common.{arith}
use Rattle.laws.specs.Below.{sum_below, sum_next}
use Rattle.piece.specs.declared.Piece.{Piece}
use Rattle.piece.specs.Ends.{corner_at}
use Rattle.grid.specs.declared.Place.{Place}
use Rattle.grid.specs.PlaceLaws.{Held}
use Rattle.grid_volume.specs.Volume.{sixfold_of, differences_of}
use Rattle.grid_volume.specs.VolumeLaws.{sixfold_within}
use Rattle.stored.specs.declared.Layout.{Layout}
use Rattle.stored.specs.Layout.{vertex_in, vertex_from}
use Rattle.mesh_tables.specs.Tables.{sixfold_at}
use Rattle.grid.specs.Places.{greatest_place}

-- Every place that is read is a u16.
place_held : (l : Layout) (base grown : List ℕ) (v : ℕ) → Held (vertex_in l base grown v).place
unfolding vertex_in vertex_from
place_held l base grown v = record { x = omega arith; y = omega arith; z = omega arith }

abbrev pub most : ℕ
most = 6 * greatest_place ^ 3

-- A piece's sixfold volume, whatever its corners.
pub sixfold_at_most : (l : Layout) (base grown : List ℕ) (p : Piece) → sixfold_at (vertex_in l base grown) p ≤ most
unfolding sixfold_at sixfold_of differences_of
sixfold_at_most l base grown p =
    let at : (k : ℕ) → Place = λ k. (vertex_in l base grown (corner_at p k)).place in
    sixfold_within (at 0) (at 1) (at 2) (at 3) (place_held l base grown (corner_at p 0)) (place_held l base grown (corner_at p 1)) (place_held l base grown (corner_at p 2)) (place_held l base grown (corner_at p 3))

-- A sum modulo m, and one number more.
pub wraps_next : (f : ℕ → ℕ) (m i s : ℕ) → s ≡ sum_below i f % m → (s + f i) % m ≡ sum_below (i + 1) f % m
wraps_next f m i s inv = rw (inv, mod-add-mod, sum_next f i (sum_below i f) refl)
