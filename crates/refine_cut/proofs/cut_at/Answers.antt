-- `refine_cut::cut_at`: no room, or the midpoint and then the children; read as tables, by the law of the cut.
-- Assumes nothing.
use native.Mathlib.Omega.{arith}
use Rattle.refine_cut.specs.Slices.{slices}
use Rattle.refine_cut.specs.Steps.{midpoint_records, no_vertex_room, no_record_room, cut_written}
use Rattle.refine_cut.proofs.Law.{cut_with_tables}
use Rattle.refine_cut.proofs.cut_at.Goals as goal

pub returns-then-l-h : goal.returns-then-l-h
returns-then-l-h c =
    let a = c.args in
    record { bytes = no_vertex_room a.l a.h a.base.now a.grown.now a.n a.w c.if-l-h.true; cuts = λ ready found. absurd (omega (arith, ready.vertex_room, c.if-l-h.true)) }

pub returns-then-l-h-2 : goal.returns-then-l-h-2
returns-then-l-h-2 c =
    let a = c.args in
    record { bytes = no_record_room a.l a.h a.base.now a.grown.now a.n a.w c.if-l-h-2.true; cuts = λ ready found. absurd (omega (arith, ready.record_room, c.if-l-h-2.true)) }

pub put_children-requires : goal.put_children-requires
put_children-requires c =
    let a = c.args in
    let half = c.put_midpoint-with in
    let same = midpoint_records a.l a.h a.base.now a.grown.now c.ends_of-ends.result a.w (slices half.result half.new.base half.new.grown) half.ensures in
    omega (arith, same, c.if-l-h-2.false)

pub returns : goal.returns
returns c =
    let a = c.args in
    let half = c.put_midpoint-with in
    let last = c.put_children in
    let bytes = cut_written a.l a.h a.base.now a.grown.now a.n a.w c.if-l-h.false c.if-l-h-2.false c.record-r.result c.record-r.ensures c.ends_of-ends.result c.ends_of-ends.ensures (slices half.result half.new.base half.new.grown) (slices last.result last.new.base last.new.grown) half.ensures last.ensures in
    record { bytes = bytes; cuts = cut_with_tables a.l (slices a.h a.base.now a.grown.now) a.n a.w (slices last.result last.new.base last.new.grown) bytes }
