-- `Mesh::corner` meets its contract: one field of the record, and past the four slots 0.
-- Assumes nothing.
use mathlib.Core.Path.{sym, ◌∙◌}
use lib.ListN.{get_or, get_or-eq_default}
use Rattle.stored.specs.Layout.{held_in, record_in, corners_from, record_from}
use Rattle.stored_entries.proofs.Mesh.corner.Goals as goal

pub returns-then-k-lt4 : goal.returns-then-k-lt4
unfolding record_in record_from
returns-then-k-lt4 c =
    let held = c.record_held.ensures in
    c.corner.ensures ∙ (λ i. get_or (corners_from (held.format i) (held.bytes i)) c.args.k 0)

pub returns : goal.returns
unfolding record_in record_from
returns c =
    let a = c.args in
    sym (get_or-eq_default (corners_from a.self.now.layout.format (held_in a.self.now.layout.records a.self.now.base.now a.self.now.grown.now a.i)) 0 c.if-k-lt4.false)
