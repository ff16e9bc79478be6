-- `mesh_parents::link_all` has put in the vertices before v.
-- Assumes nothing.
use mathlib.Core.Path.{◌≡◌}
use Rattle.chains.specs.Held.{links_in, SameSlices}
use Rattle.mesh_tables.specs.Tables.{tables_read}
use Rattle.mesh_parents.specs.Pairs.{pair_links}
use Rattle.mesh_parents.proofs.link_all.Given as goal

abbrev pub invariant-loop-v : goal.invariant-loop-v
invariant-loop-v l = (links_in l.links ≡ pair_links (tables_read l.mesh) (links_in l.initial.links) l.v) × SameSlices l.initial.links l.links
