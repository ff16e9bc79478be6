-- `chains::key` takes the bits in common with the last key's number; where there is no key there is none.
-- Assumes nothing.
use Rattle.std.proofs.Common.{rules}
use mathlib.Core.Path.{sym}
use lib.Bits.{and_zero_r}
use Rattle.laws.specs.Links.{key_among}
use Rattle.chains.proofs.key.Goals as goal

pub returns-then-keys-eq0 : goal.returns-then-keys-eq0
unfolding key_among
returns-then-keys-eq0 c = rw c.if-keys-eq0.true (sym (and_zero_r c.args.x))

pub returns : goal.returns
unfolding key_among
returns c = search rules
