-- `refine_pass::choose_hanging` has chosen, of the records before n, those that hang.
-- Assumes nothing.
use mathlib.Core.Path.{◌∙◌}
use native.Mathlib.Nat.{le_refl}
use native.Mathlib.Omega.{arith}
use Rattle.mesh_tables.specs.Tables.{tables_read, all_vertices, leaf_hangs}
use Rattle.mesh_hanging.specs.Hanging.{leaf_hangs_along_lem}
use Rattle.refine_pass.specs.Chosen.{chosen_none, chosen_next}
use Rattle.refine_pass.proofs.choose_hanging.Goals as goal

pub loop-n-init : goal.loop-n-init
loop-n-init c =
    let a = c.args in
    chosen_none (leaf_hangs (tables_read a.linked.now.mesh.now)) a.chosen.now

pub loop-n-preserved : goal.loop-n-preserved
loop-n-preserved c =
    let a = c.args in
    let was = c.loop-n in
    let m = tables_read a.linked.now.mesh.now in
    let linked = a.linked.now.linked in
    let hangs = leaf_hangs_along_lem m (all_vertices m) a.linked.now.links.heads.now a.linked.now.links.nexts.now linked.chain linked.keys (le_refl (all_vertices m)) was.n in
    rw c.from.ensures (chosen_next (leaf_hangs m) was.n was.chosen was.some c.leaf_hangs-hangs.result was.invariant (omega (arith, was.auto.chosen, c.requires)) (c.leaf_hangs-hangs.ensures ∙ hangs))
