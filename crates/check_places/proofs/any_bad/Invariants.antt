-- `check_places::any_bad` has found no bad vertex before v, and has linked those before v, in lists as long as they were.
-- Assumes nothing.
use mathlib.Core.Path.{◌≡◌}
use mathlib.Core.Bool.{false}
use lib.ListN.{length}
use Rattle.laws.specs.Links.{Empty}
use Rattle.laws.specs.Below.{any_below}
use Rattle.mesh_tables.specs.Tables.{tables_read}
use Rattle.check_refusals.specs.Refusals.{bad_vertex}
use Rattle.check_places.specs.Kept.{VerticesKept}
use Rattle.check_places.proofs.any_bad.Given as goal

abbrev pub invariant-loop-v : goal.invariant-loop-v
invariant-loop-v l = (Empty l.initial.links.heads.now → (any_below l.v (bad_vertex (tables_read l.mesh)) ≡ false) × VerticesKept (tables_read l.mesh) l.v l.links.heads.now l.links.nexts.now)
    × (length l.links.nexts.now ≡ length l.initial.links.nexts.now)
