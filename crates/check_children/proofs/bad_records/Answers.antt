-- `check_children::bad_records` asks the table that it has cleared and filled.
-- Assumes nothing.
use mathlib.Core.Path.{◌≡◌, ◌∙◌, ap}
use mathlib.Core.List.{List}
use lib.ListN.{length}
use Prim.Native.Nat.{ℕ}
use Rattle.laws.specs.Counts.{counts_below}
use Rattle.mesh_tables.specs.Tables.{tables_read}
use Rattle.check_children.specs.Children.{children_counted, children_in}
use Rattle.check_children.proofs.Children.{any_bad_record_is}
use Rattle.check_children.proofs.bad_records.Goals as goal
use Rattle.stored_entries.specs.Mesh.{record_read}

pub returns : goal.returns
returns c =
    let a = c.args in
    let m = tables_read a.linked.now.mesh.now in
    let table : c.count_all_children.new.children ≡ children_in m (length a.children.now) =
    c.count_all_children.ensures
    ∙ ap (λ (start : List ℕ). counts_below (λ t n. children_counted t (record_read a.linked.now.mesh.now n)) start a.linked.now.mesh.now.header.records) (c.fill.ensures.after (λ y e. e)) in
    record { value = c.any_bad_record.ensures.value ∙ any_bad_record_is m _ (length a.children.now) c.requires table; midpoints_after = c.any_bad_record.ensures.midpoints_after }
