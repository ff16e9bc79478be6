-- `stored_written::put_vertex`: the bytes, in the slice that holds the entry.
-- Assumes nothing.
use mathlib.Core.Path.{sym, ap, ◌∙◌}
use native.Mathlib.Omega.{arith}
use lib.ListN.{take}
use lib.Seq.{length-take-le}
use Rattle.stored.specs.Layout.{base_into, grown_into}
use Rattle.stored_written.proofs.put_vertex.Goals as goal

pub slice_bounds-put_held-end : goal.slice_bounds-put_held-end
slice_bounds-put_held-end c = sym (length-take-le c.vertex_width-width.result c.vertex_bytes-bytes.result (omega (arith, c.vertex_width-width.ensures.upper_bound)))

pub returns : goal.returns
returns c =
    let a = c.args in
    let put = c.put_held in
    let bytes = c.vertex_bytes-bytes in
    let stored = (λ i. take (c.vertex_width-width.ensures.value i) bytes.result) ∙ bytes.ensures in
    record { base_after = put.ensures.base_after ∙ ap (base_into a.l.vertices a.base.now a.i) stored; grown_after = put.ensures.grown_after ∙ ap (grown_into a.l.vertices a.grown.now a.i) stored }
