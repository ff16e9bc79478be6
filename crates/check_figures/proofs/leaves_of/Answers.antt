-- `check_figures::leaves_of` has counted the leaves before n.
-- Assumes nothing.
use Rattle.std.proofs.Common.{ℕ, ◌≤◌, sym, ap, ◌∙◌, subst, le_antisymm, arith}
use Rattle.laws.specs.Below.{bit, bit_small, count_below, count_none, count_next, count_at_most}
use Rattle.mesh_tables.specs.Tables.{uncut}
use Rattle.check_refusals.specs.Check.{leaves}
use Rattle.check_figures.proofs.leaves_of.Goals as goal
use Rattle.stored_entries.specs.Mesh.{record_read}

pub loop-n-init : goal.loop-n-init
loop-n-init c = sym (count_none (λ n. uncut (record_read c.args.mesh.now n)))

pub overflow_add-total : goal.overflow_add-total
overflow_add-total c = let few : c.loop-n.total ≤ c.loop-n.n = subst (λ (x : ℕ). x ≤ c.loop-n.n) (sym c.loop-n.invariant) (count_at_most (λ n. uncut (record_read c.args.mesh.now n)) c.loop-n.n) in let one = c.from-total.ensures in let small = bit_small c.is_leaf.result in omega (arith, c.loop-n.auto.n-end)

pub loop-n-preserved : goal.loop-n-preserved
loop-n-preserved c = count_next (λ n. uncut (record_read c.args.mesh.now n)) c.loop-n.n c.loop-n.total c.from-total.result c.loop-n.invariant (c.from-total.ensures ∙ ap bit c.is_leaf.ensures)

pub returns : goal.returns
unfolding leaves
returns c = c.loop-n.invariant ∙ ap (λ (n : ℕ). count_below n (λ n. uncut (record_read c.args.mesh.now n))) (le_antisymm c.loop-n.auto.n-end c.loop-n-test.false)
