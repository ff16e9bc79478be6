-- `mesh_parents::pair_key`: the key of the pair's number.
-- Assumes nothing.
use mathlib.Core.Path.{◌∙◌, ap}
use Rattle.laws.specs.Links.{key_among}
use Rattle.mesh_parents.specs.Pairs.{pair_key}
use Rattle.mesh_parents.proofs.pair_key.Goals as goal

pub returns : goal.returns
unfolding pair_key
returns c = c.key.ensures ∙ ap (key_among c.args.keys) c.pair_sum.ensures
