-- `Entry::number_or_none` meets its contract: the number of four bytes as it is, or of two.
-- Assumes nothing.
use mathlib.Core.Path.{ap, ◌∙◌}
use Rattle.stored.specs.Layout.{version1, or_none}
use Rattle.stored_entries.specs.Formats.{wide_number, narrow_number}
use Rattle.stored_entries.proofs.Entry.number_or_none.Goals as goal

pub returns-then-self : goal.returns-then-self
returns-then-self c = let a = c.args in c.four.ensures ∙ wide_number a.self.now.format c.if-self.true a.self.now.bytes.now a.at

pub returns : goal.returns
returns c =
    let a = c.args in
    c.or_none.ensures ∙ ap (or_none version1) c.two.ensures.value ∙ narrow_number a.self.now.format c.if-self.false a.self.now.bytes.now a.at
