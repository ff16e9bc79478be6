-- `refine_pass::cut`: the vertex found along the links is the one that the cut uses.
-- Assumes nothing.
use native.Mathlib.Omega.{arith}
use Rattle.refine_cut.specs.Slices.{slices}
use Rattle.refine_pass.specs.Linked.{found_within, cut_found}
use Rattle.refine_pass.proofs.cut.Goals as goal

pub overflow_cast-w : goal.overflow_cast-w
overflow_cast-w c =
    let a = c.args in
    let found = c.first_with-w in
    record { fits = omega (arith, found_within a.l (slices a.h a.base.now a.grown.now) a.links.now.heads.now a.links.now.nexts.now c.requires c.refinement_ends-ends.result found.result found.ensures, c.well_formed.0) }

pub returns : goal.returns
returns c =
    let a = c.args in
    let ends = c.refinement_ends-ends in
    let found = c.first_with-w in
    let last = c.cut_at in
    cut_found a.l (slices a.h a.base.now a.grown.now) a.links.now.heads.now a.links.now.nexts.now c.requires a.n ends.result ends.ensures found.result found.ensures (slices last.result last.new.base last.new.grown) last.ensures.bytes
