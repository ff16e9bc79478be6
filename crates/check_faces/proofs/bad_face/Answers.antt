-- `check_faces::bad_face`: each way out is one case of the definition, at what the calls return.
-- Assumes nothing.
use Prim.Native.Nat.{ℕ, ◌%◌}
use mathlib.Core.Path.{◌≡◌, sym, ◌∙◌}
use mathlib.Core.Bool.{Bool, true, ◌||◌}
use Rattle.check_shared.specs.Faces.{face_of, same_set}
use Rattle.check_faces.specs.Faces.{is_face, bad_face, bad_face_is}
use Rattle.check_faces.specs.Linked.{before_from}
use Rattle.check_faces.proofs.bad_face.Goals as goal
use Rattle.check_faces.proofs.bad_face.Goals.{then-not-same_edge, else-not-same_edge, Joined-not-same_edge}
use Rattle.stored_entries.specs.Mesh.{record_read}

-- Where the face is the same: the marks differ, or the rest is the same, or a record before has the face.
same_found : (c : Joined-not-same_edge) →
    let before = before_from (record_read c.args.mesh.now) c.args.links.now.nexts.now c.args.face in
    bad_face (record_read c.args.mesh.now) before c.args.q c.args.i c.args.face c.args.f ≡ (c.if-not-same_edge.value || before c.args.f)
same_found c =
    let before : ℕ → Bool = before_from (record_read c.args.mesh.now) c.args.links.now.nexts.now c.args.face in
    let same : same_set (face_of c.corners-p.result (c.args.f % 4)) c.args.face ≡ true = rw (← c.face_of.ensures) (sym c.same_face.ensures ∙ c.if-not-same_face.false) in
    rw (bad_face_is (record_read c.args.mesh.now) before c.args.q c.args.i c.args.face c.args.f _ _ _ c.corners-p.ensures c.mark.ensures c.mark_of.ensures, same)
    (elim c.if-not-same_edge.branch [
      | then-not-same_edge w ↦ rw (w.value-is, w.if-not-same_edge.true, sym c.same_edge.ensures ∙ w.if-not-same_edge.true)
      | else-not-same_edge w ↦ rw (w.value-is, w.same_rest.ensures, sym c.same_edge.ensures ∙ w.if-not-same_edge.false)
    ])

pub returns-then-not-same_face : goal.returns-then-not-same_face
unfolding bad_face is_face
returns-then-not-same_face c = rw (← c.corners-p.ensures, ← c.face_of.ensures, sym c.same_face.ensures ∙ c.if-not-same_face.true)

pub returns-then-same_rest : goal.returns-then-same_rest
returns-then-same_rest c = rw (same_found (goal.at.returns-then-same_rest c).Joined-not-same_edge, c.if-same_rest.true)

pub returns-else-same_rest : goal.returns-else-same_rest
unfolding before_from
returns-else-same_rest c = rw (same_found (goal.at.returns-else-same_rest c).Joined-not-same_edge, c.if-same_rest.false, ← c.link.ensures) c.before_along.ensures
