-- `stored_written::put_record`: the bytes, in the slice that holds the entry.
-- Assumes nothing.
use mathlib.Core.Path.{sym, ap, ◌∙◌}
use native.Mathlib.Omega.{arith}
use lib.ListN.{take}
use lib.Seq.{length-take-le}
use Rattle.stored.specs.Layout.{base_into, grown_into}
use Rattle.stored_written.proofs.put_record.Goals as goal

pub slice_bounds-put_held-end : goal.slice_bounds-put_held-end
slice_bounds-put_held-end c = sym (length-take-le c.record_width-width.result c.record_bytes-bytes.result (omega (arith, c.record_width-width.ensures.upper_bound)))

pub returns : goal.returns
returns c =
    let a = c.args in
    let put = c.put_held in
    let bytes = c.record_bytes-bytes in
    let stored = (λ i. take (c.record_width-width.ensures.value i) bytes.result) ∙ bytes.ensures in
    record { base_after = put.ensures.base_after ∙ ap (base_into a.l.records a.base.now a.i) stored; grown_after = put.ensures.grown_after ∙ ap (grown_into a.l.records a.grown.now a.i) stored }
