-- `refine_service::refined` makes what it lends as long as the passes need it.
-- Assumes nothing.
use mathlib.Core.Path.{◌≡◌, ◌∙◌, ap}
use mathlib.Core.Bool.{Bool, false}
use mathlib.Core.List.{List}
use Prim.Native.Nat.{ℕ, ◌+◌, ◌≤◌}
use native.Mathlib.Omega.{arith}
use lib.ListN.{length}
use Rattle.laws.specs.Links.{Roomy}
use Rattle.stored.specs.declared.Kind.{Kind}
use Rattle.stored.specs.Layout.{limits, kind1, selection_in, selection1, named_in}
use Rattle.refine_selection.specs.Selected.{is_named}
use Rattle.refine_cut.specs.Slices.{Slices, slices}
use Rattle.refine_pass.specs.Puts.{too_short, refined_within}
use Rattle.refine_pass.specs.Steps.{long_enough}
use Rattle.refine_service.proofs.refined.Goals as goal

-- All passes on a mesh of version 1, with lists that are long enough.
passes : (k : Kind) → k ≡ kind1 → (heads nexts chosen selection : List ℕ) (count : ℕ) (s : Slices) → Roomy heads nexts (limits.vertices + 1) → limits.records ≤ length chosen →
    refined_within k (too_short k.limits heads nexts chosen) (is_named count (named_in (selection_in k.format selection))) s ≡ refined_within kind1 false (is_named count (named_in (selection1 selection))) s
passes k is heads nexts chosen selection count s room places =
    ap (λ (j : Kind). refined_within j (too_short j.limits heads nexts chosen) (is_named count (named_in (selection_in j.format selection))) s) is
    ∙ ap (λ (lacking : Bool). refined_within kind1 lacking (is_named count (named_in (selection1 selection))) s) (long_enough limits heads nexts chosen room places)

pub returns : goal.returns
returns c =
    let a = c.args in
    c.refined.ensures.value
    ∙ passes c.kind_1.result c.kind_1.ensures _ _ _ a.selection.now a.count (slices a.h a.vertices.now a.records.now)
    (record { keys = omega arith; places = omega arith; fits = omega arith }) (omega arith)
