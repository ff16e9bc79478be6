-- `grid_volume::minor` meets its contract: products of two entries and their difference are far below 2 ^ 63. Assumes nothing.
use Rattle.grid_volume.specs.Exact.{passed, difference, product, fits, stored}
use Rattle.grid.specs.Places.{greatest_place}
use Rattle.grid_volume.proofs.minor.Goals as goal

pub overflow_mul-result : goal.overflow_mul-result
overflow_mul-result c = fits (product (passed greatest_place c.args.a c.requires.0 tt) (passed greatest_place c.args.d c.requires.3 tt)) tt

pub overflow_mul-result-2 : goal.overflow_mul-result-2
overflow_mul-result-2 c = fits (product (passed greatest_place c.args.b c.requires.1 tt) (passed greatest_place c.args.c c.requires.2 tt)) tt

pub overflow_sub-result : goal.overflow_sub-result
overflow_sub-result c =
    fits (difference
    (stored (product (passed greatest_place c.args.a c.requires.0 tt) (passed greatest_place c.args.d c.requires.3 tt)) tt)
    (stored (product (passed greatest_place c.args.b c.requires.1 tt) (passed greatest_place c.args.c c.requires.2 tt)) tt)) tt

pub returns : goal.returns
returns c =
    (stored (difference
    (stored (product (passed greatest_place c.args.a c.requires.0 tt) (passed greatest_place c.args.d c.requires.3 tt)) tt)
    (stored (product (passed greatest_place c.args.b c.requires.1 tt) (passed greatest_place c.args.c c.requires.2 tt)) tt)) tt).is
