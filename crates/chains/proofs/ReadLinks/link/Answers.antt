-- `chains::ReadLinks::link` takes a link that leads down.
-- Assumes nothing.
use borrow.Author.Tests.{le-leb, lt-leb}
use Rattle.laws.specs.Links.{link_at}
use Rattle.chains.proofs.ReadLinks.link.Goals as goal

pub returns-then-to-u : goal.returns-then-to-u
unfolding link_at
returns-then-to-u c = rw (← c.at-to.ensures, le-leb _ _ c.if-to-u.true)

pub returns-else-to-u : goal.returns-else-to-u
unfolding link_at
returns-else-to-u c = rw (← c.at-to.ensures, lt-leb _ _ c.if-to-u.false)
