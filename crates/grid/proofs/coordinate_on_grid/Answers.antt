-- `grid::coordinate_on_grid` meets its contract: 32,768 is a multiple of 32, so places are on the grid as their coordinates are. Assumes nothing.
use mathlib.Core.Path.{◌∙◌}
use native.Mathlib.Omega.{arith}
use borrow.Author.Tests.{ne_eqb, lt-leb}
use Rattle.grid.specs.PlaceLaws.{off_multiple, off_below, on_grid_is}
use Rattle.grid.proofs.coordinate_on_grid.Goals as goal
use Rattle.grid.proofs.coordinate_on_grid.Goals.{then-p-eq0, else-p-eq0}

pub returns-then-p-ge-LEAST : goal.returns-then-p-ge-LEAST
returns-then-p-ge-LEAST c = on_grid_is c.args.p c.if-p-ge-LEAST.true.0 c.if-p-ge-LEAST.true.1

pub returns-else-p-ge-LEAST : goal.returns-else-p-ge-LEAST
returns-else-p-ge-LEAST c =
    let p = c.args.p in
    elim c.if-p-eq0.branch [
      | then-p-eq0 w ↦ w.t-3-is ∙ lt-leb 32 p (omega (arith, w.if-p-eq0.true)) ∙ off_below p (omega (arith, w.if-p-eq0.true))
      | else-p-eq0 w ↦ w.t-3-is ∙ ne_eqb _ _ w.if-p-eq0.false ∙ off_multiple p w.if-p-eq0.false
    ]
