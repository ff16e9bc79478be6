-- `chains::ReadLinks::is_short` asks the three tests one after the other.
-- Assumes nothing.
use Rattle.std.proofs.Common.{rules}
use Rattle.laws.specs.Links.{short}
use Rattle.chains.proofs.ReadLinks.is_short.Goals as goal

pub returns-then-self-n : goal.returns-then-self-n
unfolding short
returns-then-self-n c = search rules

pub returns-else-self-n : goal.returns-else-self-n
unfolding short
returns-else-self-n c = search rules
