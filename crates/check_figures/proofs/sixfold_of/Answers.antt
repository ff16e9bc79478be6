-- `check_figures::sixfold_of` has summed the leaves before n, modulo 2^64.
-- Assumes nothing.
use Rattle.std.proofs.Common.{ℕ, ◌+◌, ◌%◌, ◌^◌, sym, ap, ◌∙◌, le_antisymm}
use Rattle.laws.specs.Below.{sum_below, sum_none}
use Rattle.check_refusals.specs.Check.{sixfold}
use Rattle.check_figures.specs.Bounds.{wraps_next}
use Rattle.check_figures.proofs.sixfold_of.Invariants.{volume_at}
use Rattle.check_figures.proofs.sixfold_of.Goals as goal

pub loop-n-init : goal.loop-n-init
loop-n-init c = sym (ap (λ (s : ℕ). s % 2 ^ 64) (sum_none (volume_at c.args.mesh.now)))

pub loop-n-preserved : goal.loop-n-preserved
loop-n-preserved c =
    let before = c.loop-n in
    ap (λ (x : ℕ). (before.total + x) % 2 ^ 64) c.leaf_sixfold-total.ensures
    ∙ wraps_next (volume_at c.args.mesh.now) (2 ^ 64) before.n before.total before.invariant

pub returns : goal.returns
unfolding sixfold
returns c =
    c.loop-n.invariant
    ∙ ap (λ (n : ℕ). sum_below n (volume_at c.args.mesh.now) % 2 ^ 64) (le_antisymm c.loop-n.auto.n-end c.loop-n-test.false)
