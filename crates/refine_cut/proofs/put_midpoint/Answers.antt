-- `refine_cut::put_midpoint`: the vertex is there, or appended.
-- Assumes nothing.
use Rattle.refine_cut.specs.Steps.{midpoint_there, midpoint_appended}
use Rattle.refine_cut.proofs.put_midpoint.Goals as goal

pub returns-then-w-h : goal.returns-then-w-h
returns-then-w-h c = let a = c.args in midpoint_there a.l a.h a.base.now a.grown.now a.ends a.w c.if-w-h.true

pub returns : goal.returns
returns c =
    let a = c.args in
    let put = c.put_vertex in
    let v = c.midpoint-v in
    midpoint_appended a.l a.h a.base.now a.grown.now a.ends a.w c.if-w-h.false v.result v.ensures put.new.base put.new.grown put.ensures.base_after put.ensures.grown_after
