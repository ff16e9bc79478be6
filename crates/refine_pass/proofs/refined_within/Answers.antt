-- `refine_pass::refined_within`: nothing is cut, or the links are filled and all passes are made.
-- Assumes nothing.
use mathlib.Core.Path.{sym, ap, ◌∙◌}
use Rattle.std.proofs.Common.{rules}
use native.Mathlib.Omega.{arith}
use Rattle.laws.specs.Links.{Links}
use Rattle.laws.specs.Lists.{Bytes}
use Rattle.stored.specs.declared.Layout.{Layout}
use Rattle.stored.specs.Fitting.{stored_none_small, reached}
use Rattle.refine_cut.specs.Slices.{slices}
use Rattle.refine_pass.specs.Steps.{exceeds_stays, short_base_stays, short_growth_stays, lacking_stays, short_links, short_table}
use Rattle.refine_pass.specs.Linked.{passes_begin, passes_end}
use Rattle.refine_pass.proofs.refined_within.Goals as goal

pub returns-then-exceeds : goal.returns-then-exceeds
returns-then-exceeds c = exceeds_stays _ _ _ _ (sym c.exceeds.ensures ∙ c.if-exceeds.true)

pub returns-then-base-vertex_width : goal.returns-then-base-vertex_width
returns-then-base-vertex_width c = short_base_stays _ _ _ _ (rw (← c.vertex_width.ensures.value) c.if-base-vertex_width.true)

pub returns-then-grown-record_width : goal.returns-then-grown-record_width
returns-then-grown-record_width c = short_growth_stays _ _ _ _ (rw (← c.record_width.ensures.value) c.if-grown-record_width.true)

pub returns-then-is_short : goal.returns-then-is_short
returns-then-is_short c = lacking_stays _ _ _ _ (short_links _ _ _ _ (sym c.is_short.ensures ∙ c.if-is_short.true))

pub returns-then-chosen-most : goal.returns-then-chosen-most
returns-then-chosen-most c = lacking_stays _ _ _ _ (short_table _ _ _ _ c.if-chosen-most.true)

pub overflow_add-most-4 : goal.overflow_add-most-4
overflow_add-most-4 c = record { fits = omega (arith, (reached c.args.k c.requires).0, stored_none_small c.args.k.format) }

pub overflow_add-most-5 : goal.overflow_add-most-5
overflow_add-most-5 c = record { fits = omega (arith, (reached c.args.k c.requires).1, stored_none_small c.args.k.format) }

pub passes-requires : goal.passes-requires
passes-requires c =
    let a = c.args in
    let laid = c.working_layout-l in
    let filled = c.link_pairs.ensures.linked in
    let base : Bytes a.base.now = record { byte = λ k. search rules } in
    let grown : Bytes a.grown.now = record { byte = λ k. search rules } in
    let both = passes_begin _ c.requires _ laid.ensures (slices a.h a.base.now a.grown.now) (sym c.exceeds.ensures ∙ c.if-exceeds.false) (rw (← c.vertex_width.ensures.value) c.if-base-vertex_width.false) (rw (← c.record_width.ensures.value) c.if-grown-record_width.false) _ _ _ (sym c.is_short.ensures ∙ c.if-is_short.false) c.if-chosen-most.false (base, grown) _ _ (ap (λ (l : Links). l.heads) filled) (ap (λ (l : Links). l.nexts) filled) in
    record { at_work = both.0; records_in_bounds = both.1.0; limits_in_bounds = both.1.1 }

pub returns : goal.returns
returns c =
    let laid = c.working_layout-l in
    passes_end _ c.requires _ laid.ensures _ (sym c.exceeds.ensures ∙ c.if-exceeds.false) (rw (← c.vertex_width.ensures.value) c.if-base-vertex_width.false) (rw (← c.record_width.ensures.value) c.if-grown-record_width.false) _ _ _ (sym c.is_short.ensures ∙ c.if-is_short.false) c.if-chosen-most.false _ _ (rw (← ap (λ (x : Layout). x.format) laid.ensures) c.passes.ensures)
