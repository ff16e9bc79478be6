-- `check_uses::unused_vertices`: a table that is too short refuses; else it is cleared, filled and read, and is the rule's.
-- Assumes nothing.
use mathlib.Core.Path.{◌≡◌, ◌∙◌, ap}
use mathlib.Core.List.{List}
use Prim.Native.Nat.{ℕ}
use lib.Dec.{eqb}
use lib.ListN.{length, get_or}
use borrow.Author.Tests.{le-ltb}
use Rattle.laws.specs.Below.{any_below}
use Rattle.laws.specs.Counts.{counts_below}
use Rattle.mesh_tables.specs.Tables.{tables_read, piece_at}
use Rattle.check_uses.specs.Uses.{used_by, uses_in, unused_is}
use Rattle.check_uses.proofs.unused_vertices.Goals as goal

pub returns : goal.returns
returns c =
    let a = c.args in
    let m = tables_read a.mesh.now in
    let room = length a.uses.now in
    let table : c.count_records.new.uses ≡ uses_in m room =
    c.count_records.ensures ∙ ap (λ (start : List ℕ). counts_below (λ t n. used_by t (piece_at m n).corners) start a.mesh.now.header.base_records) (c.fill.ensures.after (λ y e. e)) in
    rw (le-ltb _ _ c.if-uses-mesh.false)
    (c.any_unused.ensures ∙ ap (λ (t : List ℕ). any_below a.mesh.now.header.base_vertices (λ v. eqb (get_or t v 0) 0)) table ∙ unused_is m room c.if-uses-mesh.false)
