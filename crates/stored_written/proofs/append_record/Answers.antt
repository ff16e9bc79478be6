-- `stored_written::append_record`: the record's bytes, behind the header, so many vertices and so many records.
-- Assumes nothing.
use mathlib.Core.Path.{sym, ap₂, ◌∙◌}
use Prim.Native.Nat.{◌+◌, ◌*◌}
use native.Mathlib.Nat.{mul-le-mul_right}
use native.Mathlib.Omega.{arith}
use lib.ListN.{take}
use lib.Seq.{sets, length-take-le}
use Rattle.laws.specs.Numbers.{product_fits}
use Rattle.stored_written.proofs.append_record.Goals as goal

pub overflow_mul-from : goal.overflow_mul-from
overflow_mul-from c = record { fits = product_fits c.vertex_width.result c.args.vertices (omega (arith, c.vertex_width.ensures.upper_bound)) (omega arith) }

pub overflow_add-from : goal.overflow_add-from
overflow_add-from c =
    let all = mul-le-mul_right c.args.vertices c.vertex_width.ensures.upper_bound in
    record { fits = omega (arith, c.header_width.ensures.upper_bound) }

pub overflow_mul-width : goal.overflow_mul-width
overflow_mul-width c = record { fits = product_fits c.record_width-width.result c.args.records (omega (arith, c.record_width-width.ensures.upper_bound)) (omega arith) }

pub slice_bounds-put_from-end : goal.slice_bounds-put_from-end
slice_bounds-put_from-end c = sym (length-take-le c.record_width-width.result c.record_bytes-bytes.result (omega (arith, c.record_width-width.ensures.upper_bound)))

pub returns : goal.returns
returns c =
    let a = c.args in
    let bytes = c.record_bytes-bytes in
    let wide = c.record_width-width.ensures.value in
    c.put_from.ensures
    ∙ ap₂ (sets a.out.now)
    (λ i. c.header_width.ensures.value i + c.vertex_width.ensures.value i * a.vertices + wide i * a.records)
    ((λ i. take (wide i) bytes.result) ∙ bytes.ensures)
