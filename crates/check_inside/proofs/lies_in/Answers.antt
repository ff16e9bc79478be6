-- `check_inside::lies_in`: no corner that is replaced makes the piece left-handed.
-- Assumes nothing.
use Rattle.std.proofs.Common.{rules}
use Rattle.laws.specs.Below.{all_below, fold_below}
use Rattle.grid_volume.specs.Volume.{differences_of, left_handed}
use Rattle.grid_inside.specs.Inside.{lies_in}
use Rattle.check_inside.proofs.lies_in.Goals as goal

pub returns-then-not-left_handed-3 : goal.returns-then-not-left_handed-3
unfolding lies_in all_below fold_below left_handed differences_of
returns-then-not-left_handed-3 c = search rules

pub returns-else-not-left_handed-3 : goal.returns-else-not-left_handed-3
unfolding lies_in all_below fold_below left_handed differences_of
returns-else-not-left_handed-3 c = search rules
