-- `stored::layout_of`: the tables' places are the definition's, and each fits a usize.
-- Assumes nothing.
use Prim.Native.Nat.{ℕ, ◌*◌, ◌≤◌, ◌<◌}
use native.Mathlib.Nat.{mul-le-mul_right}
use native.Mathlib.Omega.{arith}
use Rattle.stored.proofs.layout_of.Goals as goal

-- A width is small, so that all of a table fits.
wide_fits : (w n : ℕ) → w ≤ 14 → n < 4294967296 → w * n < 18446744073709551000
wide_fits w n l h = let all = mul-le-mul_right n l in omega arith

pub overflow_mul-records : goal.overflow_mul-records
overflow_mul-records c = let l = wide_fits _ c.in_base-first.result c.vertex_width-wide.ensures.upper_bound (omega arith) in record { fits = omega arith }

pub overflow_add-records : goal.overflow_add-records
overflow_add-records c =
    let l = wide_fits _ c.in_base-first.result c.vertex_width-wide.ensures.upper_bound (omega arith) in
    record { fits = omega (arith, c.header_width-2.ensures.upper_bound) }

pub overflow_mul-records-2 : goal.overflow_mul-records-2
overflow_mul-records-2 c = let l = wide_fits _ c.in_growth.result c.vertex_width-wide.ensures.upper_bound (omega arith) in record { fits = omega arith }

pub returns : goal.returns
returns c =
    rw (
      c.vertex_width-wide.ensures.value,
      c.in_base-first.ensures,
      c.header_width.ensures.value,
      c.record_width.ensures.value,
      c.in_base.ensures,
      c.header_width-2.ensures.value,
      c.in_growth.ensures,
    )
