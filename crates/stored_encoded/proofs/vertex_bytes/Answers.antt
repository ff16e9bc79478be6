-- `stored_encoded::vertex_bytes` meets its contract: the fields, put one after the other.
-- Assumes nothing.
use Rattle.stored_encoded.specs.Laid.{vertex_put}
use Rattle.stored_encoded.proofs.vertex_bytes.Goals as goal

pub returns : goal.returns
returns c =
    let a = c.args in
    rw (c.put-5.ensures, c.put-4.ensures, c.put-3.ensures, c.put-2.ensures, c.put.ensures, c.from.ensures, c.from-2.ensures, c.from-3.ensures)
    (vertex_put a.format a.v c.number_width.result c.stored_or_none.result c.stored_or_none-2.result c.number_width.ensures.value c.stored_or_none.ensures c.stored_or_none-2.ensures)
