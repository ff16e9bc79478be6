-- `stored_written::append_vertex`: the vertex's bytes, behind the header and so many vertices.
-- Assumes nothing.
use mathlib.Core.Path.{◌≡◌, sym, ap₂, ◌∙◌}
use Prim.Native.Nat.{ℕ, ◌+◌, ◌*◌}
use native.Mathlib.Omega.{arith}
use lib.ListN.{take}
use lib.Seq.{sets, length-take-le}
use Rattle.laws.specs.Numbers.{product_fits}
use Rattle.stored.specs.Layout.{header_width, vertex_width, record_width}
use Rattle.stored_written.proofs.append_vertex.Goals as goal

-- Before the first record.
none_yet : (at w : ℕ) → at ≡ at + w * 0
none_yet at w = omega arith

pub overflow_mul-width : goal.overflow_mul-width
overflow_mul-width c = record { fits = product_fits c.vertex_width-width.result c.args.vertices (omega (arith, c.vertex_width-width.ensures.upper_bound)) (omega arith) }

pub slice_bounds-put_from-end : goal.slice_bounds-put_from-end
slice_bounds-put_from-end c = sym (length-take-le c.vertex_width-width.result c.vertex_bytes-bytes.result (omega (arith, c.vertex_width-width.ensures.upper_bound)))

pub returns : goal.returns
returns c =
    let a = c.args in
    let bytes = c.vertex_bytes-bytes in
    let wide = c.vertex_width-width.ensures.value in
    c.put_from.ensures
    ∙ ap₂ (sets a.out.now)
    ((λ i. c.header_width-from.ensures.value i + wide i * a.vertices) ∙ none_yet (header_width a.format + vertex_width a.format * a.vertices) (record_width a.format))
    ((λ i. take (wide i) bytes.result) ∙ bytes.ensures)
