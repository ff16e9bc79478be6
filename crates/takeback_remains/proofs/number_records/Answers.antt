-- `takeback_remains::number_records`: a record remains as the counts of those that keep it say.
-- Assumes nothing.
use Prim.Native.Nat.{ℕ}
use mathlib.Core.Path.{◌≡◌, ◌∙◌, ap}
use mathlib.Core.List.{List}
use lib.ListN.{length}
use Rattle.laws.specs.Below.{count_below}
use Rattle.laws.specs.Counts.{counts_below}
use Rattle.mesh_tables.specs.Tables.{tables_read}
use Rattle.takeback_remains.specs.Numbers.{numbers_of}
use Rattle.takeback_remains.specs.Held.{remains_by, kept_counted, kept_in}
use Rattle.takeback_remains.specs.Left.{records_counted}
use Rattle.takeback_remains.proofs.number_records.Goals as goal

pub returns : goal.returns
returns c =
    let a = c.args in
    let h = a.linked.now.mesh.now.header in
    let m = tables_read a.linked.now.mesh.now in
    let size = length a.numbers.now in
    let kept : c.keep_all.new.kept ≡ kept_in m a.vertices.now (length a.counts.now) =
    c.keep_all.ensures ∙ ap (λ (start : List ℕ). counts_below (kept_counted m a.vertices.now) start h.records) (c.fill.ensures.after (λ y e. e)) in record { numbers_after = c.number.ensures.numbers_after ∙ ap (λ (k : List ℕ). numbers_of (remains_by h.records h.base_records k) size) kept; value = c.number.ensures.value ∙ ap (λ (k : List ℕ). count_below size (remains_by h.records h.base_records k)) kept ∙ records_counted h.records h.base_records size _ c.requires }
