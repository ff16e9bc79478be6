-- `check_figures::deepest_of` has the greatest of the leaves before n.
-- Assumes nothing.
use Rattle.std.proofs.Common.{ℕ, max, sym, ap, ◌∙◌, le_antisymm}
use Rattle.laws.specs.Below.{greatest_below, greatest_none, greatest_next}
use Rattle.check_refusals.specs.Check.{leaf_generation, deepest}
use Rattle.check_figures.proofs.deepest_of.Goals as goal
use Rattle.stored_entries.specs.Mesh.{record_read}

pub loop-n-init : goal.loop-n-init
loop-n-init c = sym (greatest_none (λ n. leaf_generation (record_read c.args.mesh.now n)))

pub loop-n-preserved : goal.loop-n-preserved
loop-n-preserved c = c.max-found.ensures ∙ ap (λ (x : ℕ). max c.loop-n.found x) c.leaf_generation.ensures ∙ greatest_next (λ n. leaf_generation (record_read c.args.mesh.now n)) c.loop-n.n c.loop-n.found c.loop-n.invariant

pub returns : goal.returns
unfolding deepest
returns c = c.loop-n.invariant ∙ ap (λ (n : ℕ). greatest_below n (λ n. leaf_generation (record_read c.args.mesh.now n))) (le_antisymm c.loop-n.auto.n-end c.loop-n-test.false)
