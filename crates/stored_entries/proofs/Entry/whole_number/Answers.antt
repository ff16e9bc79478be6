-- `Entry::whole_number` meets its contract: the number of four bytes as it is, or of two.
-- Assumes nothing.
use mathlib.Core.Path.{ap, ◌∙◌}
use native.Mathlib.Omega.{arith}
use Rattle.stored.specs.Layout.{version1, or_none}
use Rattle.stored_entries.specs.Formats.{wide_width, narrow_width, wide_number, narrow_number}
use Rattle.stored_entries.proofs.Entry.whole_number.Goals as goal

pub four_of-requires : goal.four_of-requires
four_of-requires c = omega (arith, c.requires, wide_width c.args.self.now.format c.if-self.true)

pub returns-then-self : goal.returns-then-self
returns-then-self c = let a = c.args in c.four_of.ensures ∙ wide_number a.self.now.format c.if-self.true a.self.now.bytes.now a.at

pub two_of-requires : goal.two_of-requires
two_of-requires c = omega (arith, c.requires, narrow_width c.args.self.now.format c.if-self.false)

pub returns : goal.returns
returns c =
    let a = c.args in
    c.or_none.ensures ∙ ap (or_none version1) c.two_of.ensures.value ∙ narrow_number a.self.now.format c.if-self.false a.self.now.bytes.now a.at
