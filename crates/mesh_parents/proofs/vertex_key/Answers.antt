-- `mesh_parents::vertex_key`: a base vertex has no key, and a made one that of its parents.
-- Assumes nothing.
use mathlib.Core.Path.{◌∙◌, ap}
use borrow.Author.Tests.{lt-ltb, le-ltb}
use Rattle.mesh_parents.specs.Pairs.{pair_key, key_of}
use Rattle.mesh_parents.proofs.vertex_key.Goals as goal

pub returns-then-v-mesh : goal.returns-then-v-mesh
unfolding key_of
returns-then-v-mesh c = rw (lt-ltb _ _ c.if-v-mesh.true)

pub returns : goal.returns
unfolding key_of
returns c =
    rw (le-ltb _ _ c.if-v-mesh.false)
    (c.pair_key.ensures ∙ ap (pair_key c.args.keys) c.parents.ensures)
