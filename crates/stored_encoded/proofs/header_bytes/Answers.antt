-- `stored_encoded::header_bytes` meets its contract: the fields, put one after the other.
-- Assumes nothing.
use Rattle.stored_encoded.specs.Laid.{header_put}
use Rattle.stored_encoded.proofs.header_bytes.Goals as goal

pub returns : goal.returns
returns c =
    let a = c.args in
    rw (c.put-7.ensures, c.put-6.ensures, c.put-5.ensures, c.put-4.ensures, c.put-3.ensures, c.put-2.ensures, c.put.ensures)
    (header_put a.format a.h c.number_width-wide.result c.version_of.result c.number_width-wide.ensures.value c.version_of.ensures)
