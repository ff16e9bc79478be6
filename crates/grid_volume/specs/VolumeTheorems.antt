-- What a cut and an exchange of corners do to sixfold volumes. What they do to determinants, from which it follows, is in `Halving`.
-- Assumes nothing.
use Rattle.std.specs.Prelude.{◌≡◌, ◌≢◌, ℕ, ◌<◌, pos, nat_abs, ◌*ℤ◌}
use Rattle.std.proofs.Common.{◌∙◌, ap}
use Rattle.std.proofs.Math.IntN.{+ℤ_comm}
use Rattle.algebra.specs.Absolute.{abs_neg}
use Rattle.grid.specs.Places.{Point}
use Rattle.grid_volume.specs.Volume.{determinant_of, differences_of, signed_of, sixfold_of}
use Rattle.laws.specs.Below.{put_at}
use Rattle.grid.specs.Corners.{exchanged, Midpoint}
use Rattle.grid_volume.specs.Halving.{determinant_halved, determinant_turned}

-- Document 02: "State that a child's signed value is exactly half of its parent's." Of the piece with an edge's midpoint in place of one of its ends.
pub half_signed : (corner : ℕ → Point) (w : Point) (i j : ℕ) → i < 4 → j < 4 → i ≢ j → Midpoint w (corner i) (corner j) →
    pos 2 *ℤ signed_of (put_at i w corner) ≡ signed_of corner
half_signed = determinant_halved

-- What stands halfway between two points stands so between the second and the first.
pub midpoint_turned : (w p q : Point) → Midpoint w p q → Midpoint w q p
midpoint_turned w p q m = record { x = m.x ∙ +ℤ_comm p.x q.x; y = m.y ∙ +ℤ_comm p.y q.y; z = m.z ∙ +ℤ_comm p.z q.z }

-- An exchange of two corners leaves the sixfold volume as it is.
pub sixfold_exchanged : (corner : ℕ → Point) (i j : ℕ) → i < 4 → j < 4 → i ≢ j → sixfold_of (exchanged i j corner) ≡ sixfold_of corner
unfolding sixfold_of
sixfold_exchanged corner i j hi hj apart =
    ap nat_abs (determinant_turned corner i j hi hj apart) ∙ abs_neg (determinant_of (differences_of corner))
