-- `Entry::whole_corners` meets its contract: four numbers of four bytes, or of two.
-- Assumes nothing.
use mathlib.Core.Path.{◌∙◌}
use native.Mathlib.Omega.{arith}
use Rattle.stored_entries.specs.Formats.{wide_width, narrow_width, wide_corners, narrow_corners}
use Rattle.stored_entries.proofs.Entry.whole_corners.Goals as goal

pub wide_corners-requires : goal.wide_corners-requires
wide_corners-requires c = omega (arith, c.requires, wide_width c.args.self.now.format c.if-self.true)

pub returns-then-self : goal.returns-then-self
returns-then-self c = let a = c.args in c.wide_corners.ensures ∙ wide_corners a.self.now.format c.if-self.true a.self.now.bytes.now

pub narrow_corners-requires : goal.narrow_corners-requires
narrow_corners-requires c = omega (arith, c.requires, narrow_width c.args.self.now.format c.if-self.false)

pub returns : goal.returns
returns c = let a = c.args in c.narrow_corners.ensures ∙ narrow_corners a.self.now.format c.if-self.false a.self.now.bytes.now
