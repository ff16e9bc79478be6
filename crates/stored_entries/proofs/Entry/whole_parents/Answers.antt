-- `Entry::whole_parents` meets its contract: two numbers of four bytes, or of two.
-- Assumes nothing.
use native.Mathlib.Omega.{arith}
use Rattle.stored.specs.Layout.{vertex_from}
use Rattle.stored_entries.specs.Formats.{wide_width, narrow_width, wide_number, narrow_number}
use Rattle.stored_entries.proofs.Entry.whole_parents.Goals as goal

pub four_of-requires : goal.four_of-requires
four_of-requires c = omega (arith, c.requires, wide_width c.args.self.now.format c.if-self.true)

pub four_of-requires-then-self : goal.four_of-requires-then-self
four_of-requires-then-self c = omega (arith, c.requires, wide_width c.args.self.now.format c.if-self.true)

pub returns-then-self : goal.returns-then-self
unfolding vertex_from
returns-then-self c =
    let a = c.args in
    let wide = c.if-self.true in
    rw (c.four_of.ensures, c.four_of-then-self.ensures, wide_number a.self.now.format wide a.self.now.bytes.now 6, wide_number a.self.now.format wide a.self.now.bytes.now 10, wide)

pub two_of-requires : goal.two_of-requires
two_of-requires c = omega (arith, c.requires, narrow_width c.args.self.now.format c.if-self.false)

pub two_of-requires-2 : goal.two_of-requires-2
two_of-requires-2 c = omega (arith, c.requires, narrow_width c.args.self.now.format c.if-self.false)

pub returns : goal.returns
unfolding vertex_from
returns c =
    let a = c.args in
    let narrow = c.if-self.false in
    rw (
      c.or_none.ensures,
      c.two_of.ensures.value,
      c.or_none-2.ensures,
      c.two_of-2.ensures.value,
      narrow_number a.self.now.format narrow a.self.now.bytes.now 6,
      narrow_number a.self.now.format narrow a.self.now.bytes.now 8,
      narrow,
    )
