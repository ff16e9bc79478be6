-- `slices::four`: a number of four bytes is two of two.
-- Assumes nothing.
use mathlib.Core.Path.{sym}
use lib.ListN.{drop}
use Rattle.laws.specs.Numbers.{number_join}
use Rattle.slices.proofs.four.Goals as goal

pub returns : goal.returns
returns c =
    let args = c.args in
    rw (c.two.ensures.value, c.two-2.ensures.value, c.after-rest.ensures) (sym (number_join 2 2 (drop args.at args.s.now)))
