-- `refine_pass::close`: what is left to close is the same after each pass, and the links are those of the vertices then.
-- Assumes nothing.
use Prim.Native.Nat.{◌-◌}
use mathlib.Core.Path.{◌≡◌}
use Rattle.refine_cut.specs.Slices.{slices}
use Rattle.refine_pass.specs.Puts.{closing_put}
use Rattle.refine_pass.specs.Linked.{AtWork}
use Rattle.refine_pass.proofs.close.Given as goal

abbrev pub invariant-loop : goal.invariant-loop
invariant-loop l = (closing_put l.most l.l (l.most.records - l.counter) (slices l.with l.base l.grown) ≡ closing_put l.most l.l l.most.records (slices l.initial.with l.initial.base l.initial.grown)) × AtWork l.most l.l (slices l.with l.base l.grown) l.links.heads.now l.links.nexts.now
