-- `mesh_parents::has_parents`: each way out is one case of the definition, at what the calls return.
-- Assumes nothing.
use mathlib.Core.Path.{ap}
use borrow.Author.Tests.{le-leb, lt-leb, eq-eqb, ne_eqb}
use Rattle.piece.specs.declared.Ends.{Ends}
use Rattle.mesh_tables.specs.Tables.{has_parents}
use Rattle.mesh_parents.proofs.has_parents.Goals as goal

pub returns-then-v-mesh : goal.returns-then-v-mesh
unfolding has_parents
returns-then-v-mesh c = rw (lt-leb _ _ c.if-v-mesh.true)

pub returns-then-parents-ends : goal.returns-then-parents-ends
unfolding has_parents
returns-then-parents-ends c = let p = ap (λ (x : Ends). x.lower) c.parents-parents.ensures in rw (le-leb _ _ c.if-v-mesh.false, ← p, ne_eqb _ _ c.if-parents-ends.true)

pub returns : goal.returns
unfolding has_parents
returns c = let p = ap (λ (x : Ends). x.lower) c.parents-parents.ensures in let q = ap (λ (x : Ends). x.higher) c.parents-parents.ensures in rw (le-leb _ _ c.if-v-mesh.false, ← p, eq-eqb _ _ c.if-parents-ends.false, ← q)
