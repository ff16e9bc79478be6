-- `check_inside::any_record` has found none before n.
-- Assumes nothing.
use mathlib.Core.Path.{sym, ◌∙◌}
use native.Mathlib.Omega.{arith}
use Rattle.laws.specs.Below.{any_none, any_next, any_is, any_end}
use Rattle.check_inside.proofs.any_record.Invariants.{hang}
use Rattle.check_inside.proofs.any_record.Goals as goal
use Rattle.stored_entries.specs.Mesh.{vertex_read, record_read}

pub loop-n-init : goal.loop-n-init
loop-n-init c = let a = c.args in (omega arith, λ some chain. any_none (hang (vertex_read a.mesh.now) (record_read a.mesh.now) a.vertices))

pub returns-then-record_hangs : goal.returns-then-record_hangs
returns-then-record_hangs c some chain =
    let a = c.args in
    sym (any_is (hang (vertex_read a.mesh.now) (record_read a.mesh.now) a.vertices) a.records c.loop-n.n c.loop-n-test.true (sym (c.record_hangs.ensures some chain) ∙ c.if-record_hangs.true))

pub loop-n-preserved : goal.loop-n-preserved
loop-n-preserved c =
    let a = c.args in (
      omega arith,
      λ some chain.
          any_next (hang (vertex_read a.mesh.now) (record_read a.mesh.now) a.vertices) c.loop-n.n (c.loop-n.invariant.1 some chain) (sym (c.record_hangs.ensures some chain) ∙ c.if-record_hangs.false),
    )

pub returns : goal.returns
returns c some chain =
    let a = c.args in
    sym (any_end (hang (vertex_read a.mesh.now) (record_read a.mesh.now) a.vertices) a.records c.loop-n.n c.loop-n-test.false c.loop-n.invariant.0 (c.loop-n.invariant.1 some chain))
