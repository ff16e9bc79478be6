-- `takeback_closed::put_vertices`: the vertices before v are put.
-- Assumes nothing.
use mathlib.Core.Path.{sym, ◌∙◌, ap}
use native.Mathlib.Omega.{arith}
use lib.ListN.{length}
use Rattle.laws.specs.Counts.{counts_none, counts_next, counts_end, counts_long}
use Rattle.takeback_closed.specs.Law.{put_long}
use Rattle.takeback_closed.proofs.put_vertices.Goals as goal

pub loop-v-init : goal.loop-v-init
loop-v-init c = (omega arith, sym (counts_none _ _))

pub loop-v-preserved : goal.loop-v-preserved
loop-v-preserved c = (omega arith, counts_next _ _ _ _ _ c.loop-v.invariant.1 c.put_vertex.ensures)

pub shape_of-out : goal.shape_of-out
shape_of-out c = ap length c.loop-v.invariant.1 ∙ counts_long _ (put_long _ _ _) _ _

pub returns : goal.returns
returns c = counts_end _ _ _ _ _ c.loop-v-test.false c.loop-v.invariant.0 c.loop-v.invariant.1
