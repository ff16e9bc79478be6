-- `mesh_parents::head_of`: the head at the pair's key.
-- Assumes nothing.
use mathlib.Core.Path.{◌∙◌, ap}
use Prim.Native.Nat.{ℕ}
use lib.ListN.{length, get_or}
use Rattle.laws.specs.Links.{key_among}
use Rattle.mesh_parents.specs.Pairs.{pair_key}
use Rattle.mesh_parents.proofs.head_of.Goals as goal

pub returns : goal.returns
unfolding pair_key
returns c =
    let heads = c.args.links.now.heads.now in
    c.first.ensures ∙ ap (λ (x : ℕ). get_or heads (key_among (length heads) x) 0) c.pair_sum.ensures
