-- `stored_entries::four_of` meets its contract: the number byte by byte.
-- Assumes nothing.
use mathlib.Core.Path.{◌∙◌}
use Rattle.slices.specs.Bytes.{number_four_at}
use Rattle.stored_entries.proofs.four_of.Goals as goal

pub returns : goal.returns
returns c = c.from_le_bytes.ensures ∙ number_four_at c.args.at c.args.s.now
