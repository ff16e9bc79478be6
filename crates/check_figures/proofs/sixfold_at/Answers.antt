-- `check_figures::sixfold_at`: the absolute value of the signed determinant.
-- Assumes nothing.
use Rattle.std.proofs.Common.{rules}
use Rattle.grid_volume.specs.Volume.{sixfold_of}
use Rattle.mesh_tables.specs.Tables.{sixfold_at}
use Rattle.check_figures.proofs.sixfold_at.Goals as goal

pub returns : goal.returns
unfolding sixfold_at sixfold_of
returns c = search rules
