-- `stored_headers::tables_length`: its sum is the definition's, and fits, as both widths are small.
-- Assumes nothing.
use native.Mathlib.Nat.{mul-le-mul_right}
use native.Mathlib.Omega.{arith}
use Rattle.stored_headers.proofs.tables_length.Goals as goal

pub overflow_mul-result : goal.overflow_mul-result
overflow_mul-result c = let v = mul-le-mul_right c.args.vertices c.vertex_width.ensures.upper_bound in record { fits = omega arith }

pub overflow_mul-result-2 : goal.overflow_mul-result-2
overflow_mul-result-2 c = let r = mul-le-mul_right c.args.records c.record_width.ensures.upper_bound in record { fits = omega arith }

pub overflow_add-result : goal.overflow_add-result
overflow_add-result c =
    let v = mul-le-mul_right c.args.vertices c.vertex_width.ensures.upper_bound in
    let r = mul-le-mul_right c.args.records c.record_width.ensures.upper_bound in
    record { fits = omega arith }

pub returns : goal.returns
returns c =
    let v = mul-le-mul_right c.args.vertices c.vertex_width.ensures.upper_bound in
    let r = mul-le-mul_right c.args.records c.record_width.ensures.upper_bound in
    record { value = rw (c.vertex_width.ensures.value, c.record_width.ensures.value); upper_bound = omega arith }
