-- `list_writer::Writer::figure` meets its contract: what is put after something is put behind it.
-- Assumes nothing.
use Rattle.list_writer.specs.Laws.{then}
use Rattle.list_writer.proofs.Writer.figure.Goals as goal

pub returns : goal.returns
returns c = then _ _ _ c.put_bytes.ensures c.put_number.ensures
