-- `takeback_remains::number_vertices`: a vertex remains as the counts of those that hold it say.
-- Assumes nothing.
use Prim.Native.Nat.{ℕ}
use mathlib.Core.Path.{◌∙◌, ap}
use mathlib.Core.List.{List}
use lib.ListN.{length}
use Rattle.laws.specs.Counts.{counts_below, marked}
use Rattle.mesh_tables.specs.Tables.{tables_read}
use Rattle.takeback_remains.specs.Held.{held_counted}
use Rattle.takeback_remains.specs.Left.{vertices_numbered}
use Rattle.takeback_remains.proofs.number_vertices.Goals as goal

pub returns : goal.returns
returns c =
    let a = c.args in
    let m = tables_read a.linked.now.mesh.now in
    let named = marked a.named.now in
    let both = vertices_numbered m named c.hold_all.new.held _ (length a.counts.now) _ _ c.requires.vertices_in_bounds c.requires.vertices_in_bounds_2
    (c.hold_all.ensures ∙ ap (λ (start : List ℕ). counts_below (held_counted m named) start a.linked.now.mesh.now.header.records) (c.fill.ensures.after (λ y e. e)))
    c.number.ensures.numbers_after c.number.ensures.value in record { numbers_after = both.0; value = both.1 }
