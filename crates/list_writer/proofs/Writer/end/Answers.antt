-- `list_writer::Writer::end` meets its contract: the byte that it puts is the line feed.
-- Assumes nothing.
use Rattle.list_text.specs.Text.{line_feed}
use Rattle.list_writer.proofs.Writer.end.Goals as goal

pub returns : goal.returns
unfolding line_feed
returns c = c.put_bytes.ensures
