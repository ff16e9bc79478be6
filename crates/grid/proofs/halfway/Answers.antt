-- `grid::halfway` meets its contract, coordinate by coordinate. Assumes nothing.
use Rattle.grid.specs.Places.{halfway_of}
use Rattle.grid.proofs.halfway.Goals as goal

pub returns : goal.returns
unfolding halfway_of
returns c = λ i. record { x = c.half_sum.ensures i; y = c.half_sum-2.ensures i; z = c.half_sum-3.ensures i }
