-- `mesh_tables::signed_between`: the four corners' places.
-- Assumes nothing.
use Rattle.std.proofs.Common.{rules}
use Rattle.grid_volume.specs.Volume.{differences_of}
use Rattle.mesh_tables.proofs.signed_between.Goals as goal

pub returns : goal.returns
unfolding differences_of
returns c = search rules
