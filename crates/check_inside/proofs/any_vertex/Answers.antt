-- `check_inside::any_vertex` has found none before u that hangs on the piece.
-- Assumes nothing.
use mathlib.Core.Path.{sym, ◌∙◌}
use native.Mathlib.Omega.{arith}
use Rattle.laws.specs.Below.{any_none, any_next, any_is, any_end}
use Rattle.check_inside.proofs.any_vertex.Invariants.{hang}
use Rattle.check_inside.proofs.any_vertex.Goals as goal
use Rattle.stored_entries.specs.Mesh.{vertex_read}

pub loop-u-init : goal.loop-u-init
loop-u-init c = let a = c.args in (omega arith, any_none (hang (vertex_read a.mesh.now) a.q))

pub returns-then-hangs : goal.returns-then-hangs
returns-then-hangs c =
    let a = c.args in
    sym (any_is (hang (vertex_read a.mesh.now) a.q) a.count c.loop-u.u c.loop-u-test.true (sym c.hangs.ensures ∙ c.if-hangs.true))

pub loop-u-preserved : goal.loop-u-preserved
loop-u-preserved c =
    let a = c.args in
    (omega arith, any_next (hang (vertex_read a.mesh.now) a.q) c.loop-u.u c.loop-u.invariant.1 (sym c.hangs.ensures ∙ c.if-hangs.false))

pub returns : goal.returns
returns c =
    let a = c.args in
    sym (any_end (hang (vertex_read a.mesh.now) a.q) a.count c.loop-u.u c.loop-u-test.false c.loop-u.invariant.0 c.loop-u.invariant.1)
