-- `check_children::bad_in_lists`: each way out is one case of the definition, at what the calls return. The links and the table of midpoints are filled before
-- they are asked. Assumes nothing.
use Rattle.std.proofs.Common.{rules}
use mathlib.Core.Path.{◌≡◌, sym, ◌∙◌, ap}
use mathlib.Core.List.{List}
use Prim.Native.Nat.{ℕ}
use lib.ListN.{length}
use Rattle.laws.specs.Counts.{counts_below}
use Rattle.mesh_tables.specs.Tables.{tables_read}
use Rattle.check_refusals.specs.Refusals.{bad_cuts}
use Rattle.mesh_parents.specs.Pairs.{links_linked}
use Rattle.check_children.specs.Lent.{room}
use Rattle.check_children.specs.Midpoints.{midpoint_counted, midpoints_in, any_no_midpoint_is}
use Rattle.check_children.proofs.bad_in_lists.Goals as goal

pub invariant_of-linked : goal.invariant_of-linked
invariant_of-linked c = record { linked = rw (c.read.ensures.heads, c.read.ensures.nexts) (links_linked _ _ _ (room _ _ _ _ _ (sym c.is_cramped.ensures ∙ c.if-is_cramped.false)).links _ c.link_pairs.ensures.linked) }

pub bad_records-requires : goal.bad_records-requires
bad_records-requires c = (room _ _ _ _ _ (sym c.is_cramped.ensures ∙ c.if-is_cramped.false)).records

pub returns-then-bad_records : goal.returns-then-bad_records
unfolding bad_cuts
returns-then-bad_records c = search rules

pub returns-else-bad_records : goal.returns-else-bad_records
unfolding bad_cuts
returns-else-bad_records c =
    let m = tables_read c.args.mesh.now in
    let lent = room _ _ _ _ _ (sym c.is_cramped.ensures ∙ c.if-is_cramped.false) in
    let most = length c.args.midpoints.now in
    let counted : c.bad_records.new.midpoints ≡ midpoints_in m most =
    c.bad_records.ensures.midpoints_after c.if-bad_records.false ∙ ap (λ (start : List ℕ). counts_below (midpoint_counted m) start c.args.mesh.now.header.records) (c.fill.ensures.after (λ y e. e)) in
    let few = any_no_midpoint_is m _ most lent.vertices counted in
    search (rules, few)
