-- `grid::is_half_sum` meets its contract: a u32 holds both sums, and the test is the definition's. Assumes nothing.
use mathlib.Core.Path.{refl}
use Rattle.grid.proofs.is_half_sum.Goals as goal

pub returns : goal.returns
returns c = refl
