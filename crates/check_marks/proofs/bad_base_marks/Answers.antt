-- `check_marks::bad_base_marks` has found no bad record before n.
-- Assumes nothing.
use mathlib.Core.Path.{sym, ◌∙◌}
use Rattle.laws.specs.Below.{any_none, any_next, any_is, any_end}
use Rattle.check_refusals.specs.Refusals.{bad_marks, bad_base_marks}
use Rattle.check_marks.proofs.bad_base_marks.Goals as goal
use Rattle.stored_entries.specs.Mesh.{record_read}

pub loop-n-init : goal.loop-n-init
loop-n-init c = any_none (λ n. bad_marks (record_read c.args.mesh.now n).piece)

pub returns-then-badly_marked : goal.returns-then-badly_marked
unfolding bad_base_marks
returns-then-badly_marked c = sym (any_is (λ n. bad_marks (record_read c.args.mesh.now n).piece) c.args.mesh.now.header.base_records c.loop-n.n c.loop-n-test.true (sym c.badly_marked.ensures ∙ c.if-badly_marked.true))

pub loop-n-preserved : goal.loop-n-preserved
loop-n-preserved c = any_next (λ n. bad_marks (record_read c.args.mesh.now n).piece) c.loop-n.n c.loop-n.invariant (sym c.badly_marked.ensures ∙ c.if-badly_marked.false)

pub returns : goal.returns
unfolding bad_base_marks
returns c = sym (any_end (λ n. bad_marks (record_read c.args.mesh.now n).piece) c.args.mesh.now.header.base_records c.loop-n.n c.loop-n-test.false c.loop-n.auto.n-end c.loop-n.invariant)
