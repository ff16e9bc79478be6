-- `stored_written::copy_tables`: the vertices' part, then the records'.
-- Assumes nothing.
use mathlib.Core.Path.{ap, ◌∙◌}
use Prim.Native.Nat.{◌+◌, ◌*◌}
use native.Mathlib.Nat.{mul-le-mul_right}
use native.Mathlib.Omega.{arith}
use lib.ListN.{take, drop}
use lib.Seq.{sets}
use Rattle.laws.specs.Numbers.{product_fits}
use Rattle.stored.specs.Layout.{vertex_part, record_part}
use Rattle.stored_written.proofs.copy_tables.Goals as goal

pub overflow_mul-vertex_bytes : goal.overflow_mul-vertex_bytes
overflow_mul-vertex_bytes c = record { fits = product_fits c.vertex_width.result c.args.h.vertices (omega (arith, c.vertex_width.ensures.upper_bound)) (omega arith) }

pub overflow_mul-record_bytes : goal.overflow_mul-record_bytes
overflow_mul-record_bytes c = record { fits = product_fits c.record_width.result c.args.h.records (omega (arith, c.record_width.ensures.upper_bound)) (omega arith) }

pub overflow_add-from : goal.overflow_add-from
overflow_add-from c =
    let all = mul-le-mul_right c.args.h.vertices c.vertex_width.ensures.upper_bound in
    record { fits = omega (arith, c.header_width-from.ensures.upper_bound) }

pub returns : goal.returns
unfolding vertex_part record_part
returns c =
    let a = c.args in
    let header = c.header_width-from.ensures.value in
    let vertex = c.vertex_width.ensures.value in
    let record_wide_lem = c.record_width.ensures.value in record { base_after = c.put.ensures ∙ ap (sets a.base.now 0) (c.part-vertices.ensures ∙ (λ i. take (vertex i * a.h.vertices) (drop (header i) a.mesh.now))); grown_after = c.put-2.ensures ∙ ap (sets a.grown.now 0) (c.part-records.ensures ∙ (λ i. take (record_wide_lem i * a.h.records) (drop (header i + vertex i * a.h.vertices) a.mesh.now))) }
