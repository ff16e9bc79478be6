-- `stored_written::put_mesh`: the header, the vertices and the records, one after the other.
-- Assumes nothing.
use mathlib.Core.Path.{sym, ◌∙◌}
use Prim.Native.Nat.{◌+◌, ◌*◌}
use native.Mathlib.Omega.{arith}
use lib.ListN.{length, take}
use lib.Seq.{sets, length-take-le}
use Rattle.laws.specs.Numbers.{product_fits}
use Rattle.stored.specs.Entries.{assembled_put}
use Rattle.stored_written.proofs.put_mesh.Goals as goal

pub overflow_mul-vertex_bytes : goal.overflow_mul-vertex_bytes
overflow_mul-vertex_bytes c = record { fits = product_fits c.vertex_width.result c.args.h.vertices (omega (arith, c.vertex_width.ensures.upper_bound)) (omega arith) }

pub overflow_mul-record_bytes : goal.overflow_mul-record_bytes
overflow_mul-record_bytes c = record { fits = product_fits c.record_width.result c.args.h.records (omega (arith, c.record_width.ensures.upper_bound)) (omega arith) }

pub slice_bounds-put-end : goal.slice_bounds-put-end
slice_bounds-put-end c = sym (length-take-le c.header_width-width.result c.header_bytes-header.result (omega (arith, c.header_width-width.ensures.upper_bound)))

pub returns : goal.returns
returns c =
    let a = c.args in
    let bytes = c.header_bytes-header in
    let wide = c.header_width-width.ensures.value in
    let header = (λ i. take (wide i) bytes.result) ∙ bytes.ensures in
    let first = c.part-first.ensures ∙ (λ i. take (c.vertex_width.ensures.value i * a.h.vertices) a.vertices.now) in
    let then = c.part-then.ensures ∙ (λ i. take (c.record_width.ensures.value i * a.h.records) a.records.now) in
    rw (c.put_from-2.ensures, c.put_from.ensures, c.put.ensures)
    ((λ i. sets (sets (sets a.out.now 0 (header i)) (wide i + 0) (first i)) (wide i + length (first i)) (then i))
    ∙ assembled_put a.format a.out.now a.h a.vertices.now a.records.now)
