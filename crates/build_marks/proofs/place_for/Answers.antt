-- `build_marks::place_for`: an i32 holds the sum, which is a u16.
-- Assumes nothing.
use mathlib.Core.Path.{ap}
use lib.IntN.{nat_abs}
use Rattle.build_marks.specs.Shifted.{widens, adds, sum_held, narrows}
use Rattle.build_marks.proofs.place_for.Goals as goal

pub overflow_cast-result : goal.overflow_cast-result
overflow_cast-result c = widens c.args.x c.ranges.x

pub overflow_add-result : goal.overflow_add-result
overflow_add-result c = adds c.args.x c.ranges.x

pub overflow_cast-result-2 : goal.overflow_cast-result-2
overflow_cast-result-2 c = narrows c.args.x c.ranges.x

pub returns : goal.returns
returns c = ap nat_abs (sum_held c.args.x c.ranges.x)
