-- `refine_pass::close`: what is left to close is the same after each pass, and the links are those of the vertices then.
-- Assumes nothing.
use Prim.Native.Nat.{◌+◌, ◌-◌}
use mathlib.Core.Path.{sym, ◌∙◌}
use native.Mathlib.Omega.{arith}
use Rattle.laws.specs.Counts.{marked}
use Rattle.mesh_tables.specs.Tables.{leaf_hangs, hanging_edge}
use Rattle.refine_cut.specs.Slices.{slices, tables_in}
use Rattle.refine_pass.specs.Steps.{pass_same, closing_exceeds, closing_none, closing_out}
use Rattle.refine_pass.proofs.Steps.{closing_once}
use Rattle.refine_pass.specs.Law.{within}
use Rattle.refine_pass.proofs.close.Goals as goal

pub returns-then-exceeds : goal.returns-then-exceeds
returns-then-exceeds c =
    let a = c.args in
    let was = c.loop in
    closing_exceeds a.most a.l (a.most.records - was.counter) (slices was.with was.base was.grown) (sym c.exceeds.ensures ∙ c.if-exceeds.true) ∙ was.invariant.0

pub choose_hanging-requires : goal.choose_hanging-requires
choose_hanging-requires c =
    let was = c.loop in
    let (v, r) = within c.args.most was.with (sym c.exceeds.ensures ∙ c.if-exceeds.false) in
    omega (arith, r, was.auto.chosen, c.requires.records_in_bounds)

pub returns-then-not-choose_hanging : goal.returns-then-not-choose_hanging
unfolding hanging_edge
returns-then-not-choose_hanging c =
    let a = c.args in
    let was = c.loop in
    let chosen = c.choose_hanging in
    closing_none a.most a.l (a.most.records - was.counter) (slices was.with was.base was.grown) (sym chosen.ensures.any ∙ c.if-not-choose_hanging.true) ∙ was.invariant.0

pub loop-preserved : goal.loop-preserved
unfolding hanging_edge
loop-preserved c =
    let a = c.args in
    let was = c.loop in
    let chosen = c.choose_hanging in
    let next = c.pass-with in
    let s = slices was.with was.base was.grown in
    let t = slices next.result next.new.base next.new.grown in (
      closing_once a.most a.l (a.most.records - (was.counter + 1)) (a.most.records - was.counter) s t (omega (arith, c.loop-test.true)) (sym c.exceeds.ensures ∙ c.if-exceeds.false)
          (sym chosen.ensures.any ∙ c.if-not-choose_hanging.false)
          (pass_same a.most a.l (marked chosen.new.chosen) (leaf_hangs (tables_in a.l s)) s t chosen.ensures.each next.ensures.grown_after)
          ∙ was.invariant.0,
      next.ensures.at_work,
    )

pub returns : goal.returns
returns c =
    let a = c.args in
    let was = c.loop in
    sym (closing_out a.most a.l (a.most.records - was.counter) (slices was.with was.base was.grown) (omega (arith, c.loop-test.false))) ∙ was.invariant.0
