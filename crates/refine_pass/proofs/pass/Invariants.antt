-- `refine_pass::pass` has made the turns before n, of the records that the table has, and the links are those of the vertices then.
-- Assumes nothing.
use mathlib.Core.Path.{◌≡◌}
use Rattle.laws.specs.Counts.{marked}
use Rattle.refine_cut.specs.Slices.{slices}
use Rattle.refine_pass.specs.Puts.{turns_put}
use Rattle.refine_pass.specs.Linked.{AtWork}
use Rattle.refine_pass.proofs.pass.Given as goal

abbrev pub invariant-loop-n : goal.invariant-loop-n
invariant-loop-n l = (slices l.with l.base l.grown ≡ turns_put l.most l.l (marked l.chosen) l.n (slices l.initial.with l.initial.base l.initial.grown)) × AtWork l.most l.l (slices l.with l.base l.grown) l.links.heads.now l.links.nexts.now
