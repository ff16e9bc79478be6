-- `refine_pass::pass` has made the turns before n, of the records that the table has, and the links are those of the vertices then.
-- Assumes nothing.
use mathlib.Core.Path.{sym, ◌∙◌}
use native.Mathlib.Omega.{arith}
use Rattle.laws.specs.Counts.{marked}
use Rattle.refine_cut.specs.Slices.{slices}
use Rattle.refine_pass.specs.Steps.{turns_none, turns_past, turns_next, turns_all, turns_there}
use Rattle.refine_pass.proofs.pass.Goals.{then-is_chosen, else-is_chosen}
use Rattle.refine_pass.proofs.pass.Goals as goal

pub loop-n-init : goal.loop-n-init
loop-n-init c = let a = c.args in (turns_none a.most a.l (marked a.chosen.now) (slices a.h a.base.now a.grown.now), c.requires)

pub turn-with-requires-clause-n_lt_records : goal.turn-with-requires-clause-n_lt_records
turn-with-requires-clause-n_lt_records c =
    let a = c.args in
    let was = c.loop-n in
    let kept = turns_there a.most a.l (marked a.chosen.now) (slices a.h a.base.now a.grown.now) was.n (slices was.with was.base was.grown) was.invariant.0 in
    omega (arith, kept, c.loop-n-test.true)

pub loop-n-preserved : goal.loop-n-preserved
loop-n-preserved c =
    let a = c.args in
    let was = c.loop-n in
    let start = slices a.h a.base.now a.grown.now in
    let before = slices was.with was.base was.grown in
    elim c.if-is_chosen.branch [
      | then-is_chosen w ↦
          let turn = w.turn-with in
          rw (w.with-is, w.base-is, w.grown-is, w.links-is) (
            turns_next a.most a.l (marked a.chosen.now) start was.n before (slices turn.result turn.new.base turn.new.grown) was.invariant.0 (sym c.is_chosen.ensures ∙ w.if-is_chosen.true) turn.ensures.grown_after,
            turn.ensures.at_work_after,
          )
      | else-is_chosen w ↦
          rw (w.with-is, w.base-is, w.grown-is, w.links-is) (
            turns_past a.most a.l (marked a.chosen.now) start was.n before was.invariant.0 (sym c.is_chosen.ensures ∙ w.if-is_chosen.false),
            was.invariant.1,
          )
    ]

pub returns-clause-grown_after : goal.returns-clause-grown_after
returns-clause-grown_after c =
    let a = c.args in
    let was = c.loop-n in
    turns_all a.most a.l (marked a.chosen.now) (slices a.h a.base.now a.grown.now) was.n (slices was.with was.base was.grown) was.auto.n-end c.loop-n-test.false was.invariant.0
