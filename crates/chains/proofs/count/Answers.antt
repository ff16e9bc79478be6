-- `chains::count` adds 1 where the table has the index and the count is not full.
-- Assumes nothing.
use mathlib.Core.Path.{sym}
use native.Mathlib.Omega.{arith}
use Rattle.laws.specs.Links.{counted_there, counted_past, counted_full}
use Rattle.chains.proofs.count.Goals as goal

pub returns-then-table-i : goal.returns-then-table-i
returns-then-table-i c = sym (counted_past c.args.table.now c.args.i c.if-table-i.true)

pub returns-then-table-i-2 : goal.returns-then-table-i-2
returns-then-table-i-2 c = let a = c.args in sym (counted_full a.table.now a.i (omega (arith, c.if-table-i-2.true)))

pub returns : goal.returns
returns c =
    let a = c.args in
    sym (counted_there a.table.now a.i (omega arith) (omega arith))
