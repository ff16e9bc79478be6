-- `refine_cut::put_children`: the record cut, then its two children.
-- Assumes nothing.
use Prim.Native.Nat.{◌+◌}
use mathlib.Core.Path.{refl}
use Rattle.refine_cut.specs.Cut.{cut_record, leaf_record}
use Rattle.refine_cut.specs.Slices.{slices}
use Rattle.refine_cut.specs.Steps.{record_written, children_written}
use Rattle.refine_cut.proofs.put_children.Goals as goal

pub returns : goal.returns
returns c =
    let a = c.args in
    let l = a.l in
    let h = a.h in
    let base = a.base.now in
    let grown = a.grown.now in
    let two = c.cut-two in
    let first = c.put_record in
    let then = c.put_record-2 in
    let last = c.put_record-3 in
    children_written l h base grown a.n a.r a.w two.result two.ensures first.new.base first.new.grown then.new.base then.new.grown last.new.base last.new.grown
    (record_written l h (slices h base grown) base grown first.new.base first.new.grown a.n (cut_record a.r.piece h.records) (cut_record a.r.piece h.records) refl refl first.ensures.base_after first.ensures.grown_after)
    (record_written l h (slices h first.new.base first.new.grown) first.new.base first.new.grown then.new.base then.new.grown h.records (leaf_record two.result.first) (leaf_record two.result.first) refl refl then.ensures.base_after then.ensures.grown_after)
    (record_written l h (slices h then.new.base then.new.grown) then.new.base then.new.grown last.new.base last.new.grown (h.records + 1) (leaf_record two.result.second) (leaf_record two.result.second) refl refl last.ensures.base_after last.ensures.grown_after)
