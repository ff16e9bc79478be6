-- `takeback_remains::number`: the numbers below x have their new ones, and `next` is how many of them remain.
-- Assumes nothing.
use Rattle.takeback_remains.specs.Numbers.{Numbering}
use Rattle.takeback_remains.specs.Held.{remains_by}
use Rattle.takeback_remains.proofs.number.Given as goal

abbrev pub invariant-loop-x : goal.invariant-loop-x
invariant-loop-x l = Numbering (remains_by l.count l.base l.counted) l.initial.numbers l.x l.next l.numbers
