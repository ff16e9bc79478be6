-- `stored_encoded::record_bytes` meets its contract: the fields, put one after the other.
-- Assumes nothing.
use mathlib.Core.Path.{refl}
use Rattle.stored_encoded.specs.Laid.{record_put}
use Rattle.stored_encoded.proofs.record_bytes.Goals as goal

pub returns : goal.returns
returns c =
    let a = c.args in
    rw (c.put-5.ensures, c.put-4.ensures, c.put-3.ensures, c.put-2.ensures, c.put.ensures, c.edge_at-at.ensures.value, c.number_width-wide.ensures.value)
    (record_put a.format a.r _ _ _ _ _ _ refl c.stored_or_none.ensures c.stored_or_none-2.ensures c.stored_or_none-3.ensures c.stored_or_none-4.ensures c.stored_or_none-5.ensures)
