-- `check_inside::hanging_in_lists` links the base vertices by cells, where there is room, and asks for each base record.
-- Assumes nothing.
use mathlib.Core.Path.{sym, ◌∙◌}
use Rattle.laws.specs.Links.{roomy}
use Rattle.check_refusals.specs.Refusals.{vertex_hangs, hanging_vertices}
use Rattle.check_inside.specs.Search.{cells_filled}
use Rattle.check_inside.proofs.hanging_in_lists.Goals as goal
use Rattle.stored_entries.specs.Mesh.{vertex_read}

pub returns : goal.returns
unfolding hanging_vertices vertex_hangs
returns c =
    let a = c.args in
    let short = sym c.is_short.ensures ∙ c.if-is_short.false in
    let (some, chain) = cells_filled (vertex_read a.mesh.now) c.width_for-width.result a.mesh.now.header.base_vertices a.heads.now a.nexts.now _ _
    (roomy a.heads.now a.nexts.now a.mesh.now.header.base_vertices short) c.clear.ensures.cleared c.link_all.ensures in
    rw short (c.any_record.ensures (rw c.read.ensures.heads some) (rw (c.read.ensures.heads, c.read.ensures.nexts) chain))
