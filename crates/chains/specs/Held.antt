-- What a struct of links holds, as the lists that the laws speak of.
use Rattle.std.specs.Prelude.{◌≡◌, length}
use Rattle.laws.specs.Links.{links_of, Links as Lists}
use Rattle.chains.specs.declared.Links.{Links}

-- The links that it holds.
abbrev pub links_in : Links → Lists
links_in l = links_of l.heads.now l.nexts.now

-- It holds the same two slices, so that what is written stands in them.
abbrev pub SameSlices : Links → Links → Type 0
SameSlices before after = (after.heads.ghost_name ≡ before.heads.ghost_name) × (after.nexts.ghost_name ≡ before.nexts.ghost_name)

-- They are as long as they were.
abbrev pub AsLong : Links → Links → Type 0
AsLong before after = (length after.heads.now ≡ length before.heads.now) × (length after.nexts.now ≡ length before.nexts.now)
