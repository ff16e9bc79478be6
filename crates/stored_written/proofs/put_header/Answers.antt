-- `stored_written::put_header`: the header's bytes, at the beginning.
-- Assumes nothing.
use mathlib.Core.Path.{sym, ap, ◌∙◌}
use native.Mathlib.Omega.{arith}
use lib.ListN.{take}
use lib.Seq.{sets, length-take-le}
use Rattle.stored_written.proofs.put_header.Goals as goal

pub slice_bounds-put-end : goal.slice_bounds-put-end
slice_bounds-put-end c = sym (length-take-le c.header_width-width.result c.header_bytes-bytes.result (omega (arith, c.header_width-width.ensures.upper_bound)))

pub returns : goal.returns
returns c =
    let bytes = c.header_bytes-bytes in
    c.put.ensures ∙ ap (sets c.args.out.now 0) ((λ i. take (c.header_width-width.ensures.value i) bytes.result) ∙ bytes.ensures)
