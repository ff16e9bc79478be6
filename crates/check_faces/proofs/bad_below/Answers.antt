-- `check_faces::bad_below` has found no bad record before n, and the faces of these are linked.
-- Assumes nothing.
use Prim.Native.Nat.{ℕ}
use mathlib.Core.Path.{refl, sym, ◌∙◌}
use native.Mathlib.Omega.{arith}
use Rattle.laws.specs.Below.{any_none, any_next, any_is, any_end}
use Rattle.chains.specs.Held.{links_in}
use Rattle.stored.specs.declared.Record.{Record}
use Rattle.check_refusals.specs.Refusals.{bad_faces}
use Rattle.check_faces.specs.Linked.{faces_long, none_linked, linked_is, record_pushed}
use Rattle.check_faces.proofs.bad_below.Goals as goal
use Rattle.stored_entries.specs.Mesh.{record_read}

pub loop-n-init : goal.loop-n-init
loop-n-init c =
    let record_at : ℕ → Record = record_read c.args.mesh.now in
    (omega arith, λ empty. (any_none (bad_faces record_at), none_linked record_at c.args.links.now.heads.now c.args.links.now.nexts.now empty), refl, refl)

pub bad_record-requires : goal.bad_record-requires
bad_record-requires c =
    let room = c.requires in
    let at = c.loop-n in
    record {
      keys = rw at.invariant.2 room.keys;
      places = rw at.invariant.3 (omega (arith, c.loop-n-test.true, room.places));
      fits = omega (arith, c.loop-n-test.true, room.fits);
    }

pub returns-then-bad_record : goal.returns-then-bad_record
returns-then-bad_record c empty =
    let record_at : ℕ → Record = record_read c.args.mesh.now in
    let at = c.loop-n in
    let is = linked_is record_at _ _ c.requires.keys at.n (links_in at.links) (at.invariant.1 empty).1 in
    sym (any_is (bad_faces record_at) c.args.count at.n c.loop-n-test.true (sym is ∙ sym c.bad_record.ensures.value ∙ c.if-bad_record.true))

pub loop-n-preserved : goal.loop-n-preserved
loop-n-preserved c =
    let record_at : ℕ → Record = record_read c.args.mesh.now in
    let at = c.loop-n in
    let links = links_in at.links in
    let turn = c.bad_record in
    let kept = faces_long _ _ _ _ turn.ensures.nexts_after in (
      omega arith,
      λ empty.
          let (none, on) = at.invariant.1 empty in
          let here = linked_is record_at _ _ c.requires.keys at.n links on in
          (any_next (bad_faces record_at) at.n none (sym here ∙ sym turn.ensures.value ∙ c.if-bad_record.false), rw turn.ensures.nexts_after (record_pushed record_at _ _ links at.n on (omega (arith, c.loop-n-test.true, c.requires.places)) (omega (arith, c.loop-n-test.true, c.requires.fits)))),
      kept.0 ∙ at.invariant.2,
      kept.1 ∙ at.invariant.3,
    )

pub returns : goal.returns
returns c empty =
    let record_at : ℕ → Record = record_read c.args.mesh.now in
    let at = c.loop-n in sym (any_end (bad_faces record_at) c.args.count at.n c.loop-n-test.false at.invariant.0 (at.invariant.1 empty).0)
