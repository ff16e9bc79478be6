-- `check_inside::link_all` has put in the vertices before v.
-- Assumes nothing.
use mathlib.Core.Path.{◌≡◌}
use lib.ListN.{length}
use Rattle.laws.specs.Links.{linked_below}
use Rattle.chains.specs.Held.{links_in}
use Rattle.stored_entries.specs.Mesh.{vertex_read}
use Rattle.check_inside.specs.Cells.{place_key}
use Rattle.check_inside.proofs.link_all.Given as goal

abbrev pub invariant-loop-v : goal.invariant-loop-v
invariant-loop-v l = links_in l.links ≡ linked_below (λ u. place_key (length l.initial.links.heads.now) l.width (vertex_read l.mesh u).place) (links_in l.initial.links) l.v
