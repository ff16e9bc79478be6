-- `check_faces::bad_linked` has passed no bad face before face i.
-- Assumes nothing.
use Prim.Native.Nat.{ℕ}
use mathlib.Core.Path.{◌≡◌, sym, ◌∙◌, ap}
use mathlib.Core.Bool.{Bool}
use native.Mathlib.Omega.{arith}
use lib.ListN.{get_or}
use Rattle.laws.specs.Below.{any_none, any_next, any_is, any_end}
use Rattle.check_faces.specs.Linked.{bad_along, bad_linked}
use Rattle.check_faces.proofs.bad_linked.Goals as goal
use Rattle.stored_entries.specs.Mesh.{record_read}

pub loop-i-init : goal.loop-i-init
loop-i-init c =
    let bad : ℕ → Bool = λ x. bad_along (record_read c.args.mesh.now) c.args.links.now.nexts.now (get_or c.args.links.now.heads.now (get_or c.args.own x 0) 0) c.args.q x in
    (omega arith, any_none (bad))

pub returns-then-bad_along : goal.returns-then-bad_along
unfolding bad_linked
returns-then-bad_along c =
    let bad : ℕ → Bool = λ x. bad_along (record_read c.args.mesh.now) c.args.links.now.nexts.now (get_or c.args.links.now.heads.now (get_or c.args.own x 0) 0) c.args.q x in
    let face_is : c.bad_along.result ≡ bad c.loop-i.i = c.bad_along.ensures
    ∙ ap (λ (m : ℕ). bad_along (record_read c.args.mesh.now) c.args.links.now.nexts.now m c.args.q c.loop-i.i) c.head.ensures in
    sym (any_is (bad) 4 c.loop-i.i c.loop-i-test.true (sym (face_is) ∙ c.if-bad_along.true))

pub loop-i-preserved : goal.loop-i-preserved
loop-i-preserved c =
    let bad : ℕ → Bool = λ x. bad_along (record_read c.args.mesh.now) c.args.links.now.nexts.now (get_or c.args.links.now.heads.now (get_or c.args.own x 0) 0) c.args.q x in
    let face_is : c.bad_along.result ≡ bad c.loop-i.i = c.bad_along.ensures
    ∙ ap (λ (m : ℕ). bad_along (record_read c.args.mesh.now) c.args.links.now.nexts.now m c.args.q c.loop-i.i) c.head.ensures in
    (omega arith, any_next (bad) c.loop-i.i c.loop-i.invariant.1 (sym (face_is) ∙ c.if-bad_along.false))

pub returns : goal.returns
unfolding bad_linked
returns c =
    let bad : ℕ → Bool = λ x. bad_along (record_read c.args.mesh.now) c.args.links.now.nexts.now (get_or c.args.links.now.heads.now (get_or c.args.own x 0) 0) c.args.q x in
    sym (any_end (bad) 4 c.loop-i.i c.loop-i-test.false c.loop-i.invariant.0 c.loop-i.invariant.1)
