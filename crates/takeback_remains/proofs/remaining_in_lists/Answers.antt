-- `takeback_remains::remaining_in_lists`: each way out is one case of the definition; the links are filled before they are asked.
-- Assumes nothing.
use mathlib.Core.Path.{sym, ◌∙◌}
use native.Mathlib.Omega.{arith}
use lib.ListN.{length}
use Rattle.mesh_parents.specs.Pairs.{links_linked}
use Rattle.takeback_remains.specs.Left.{room, left_short, left_whole, all_numbered}
use Rattle.takeback_remains.proofs.remaining_in_lists.Goals as goal

pub returns-then-is_cramped : goal.returns-then-is_cramped
returns-then-is_cramped c = left_short _ _ _ _ (sym c.is_cramped.ensures ∙ c.if-is_cramped.true)

pub invariant_of-linked : goal.invariant_of-linked
invariant_of-linked c = record { linked = rw (c.read.ensures.heads, c.read.ensures.nexts) (links_linked _ _ _ (room _ _ _ _ _ _ (sym c.is_cramped.ensures ∙ c.if-is_cramped.false)).links _ c.link_pairs.ensures.linked) }

pub number_vertices-of_vertices-requires : goal.number_vertices-of_vertices-requires
number_vertices-of_vertices-requires c =
    let fits = room _ _ _ _ _ _ (sym c.is_cramped.ensures ∙ c.if-is_cramped.false) in
    record { vertices_in_bounds = fits.counts_vertices; vertices_in_bounds_2 = fits.vertices }

pub number_records-of_records-requires : goal.number_records-of_records-requires
number_records-of_records-requires c = (room _ _ _ _ _ _ (sym c.is_cramped.ensures ∙ c.if-is_cramped.false)).records

pub returns : goal.returns
returns c =
    let a = c.args in
    let fits = room a.mesh.now.header a.heads.now a.nexts.now a.counts.now a.vertices.now a.records.now (sym c.is_cramped.ensures ∙ c.if-is_cramped.false) in
    let of_vertices = c.number_vertices-of_vertices in
    let of_records = c.number_records-of_records in
    rw c.header_again.ensures
    (all_numbered _ _ _ _ _ (length of_vertices.new.counts) _ _ (omega (arith, fits.links.fits)) (rw of_vertices.auto.counts fits.counts_records) fits.vertices
    of_vertices.ensures.numbers_after of_vertices.ensures.value of_records.ensures.numbers_after of_records.ensures.value
    ∙ left_whole _ _ _ _ (sym c.is_cramped.ensures ∙ c.if-is_cramped.false))
