-- `refine_service::finish`: 19, 20, or the mesh.
-- Assumes nothing.
use mathlib.Core.Path.{sym, ap, ◌∙◌}
use native.Mathlib.Omega.{arith}
use lib.Seq.{sets}
use Rattle.stored.specs.declared.Header.{Header}
use Rattle.stored.specs.Layout.{assembled}
use Rattle.refine_service.specs.Storing.{stored_19, stored_20, stored_0}
use Rattle.refine_service.proofs.finish.Goals as goal

pub returns-then-exceeds : goal.returns-then-exceeds
returns-then-exceeds c =
    let a = c.args in
    let both = stored_19 a.k a.h a.vertices.now a.records.now a.out.now c.requires (sym c.exceeds.ensures ∙ c.if-exceeds.true) in record { value = both.0; out_after = both.1 }

pub returns-then-out-mesh_length : goal.returns-then-out-mesh_length
returns-then-out-mesh_length c =
    let a = c.args in
    let both = stored_20 a.k a.h a.vertices.now a.records.now a.out.now c.requires (sym c.exceeds.ensures ∙ c.if-exceeds.false) (omega (arith, c.if-out-mesh_length.true, c.mesh_length.ensures)) in record { value = both.0; out_after = both.1 }

pub returns : goal.returns
returns c =
    let a = c.args in
    let s = stored_0 a.k a.h a.vertices.now a.records.now a.out.now c.requires (sym c.exceeds.ensures ∙ c.if-exceeds.false) (omega (arith, c.if-out-mesh_length.false, c.mesh_length.ensures)) in
    record { value = s.0; out_after = c.put_mesh.ensures ∙ ap (λ (h : Header). sets a.out.now 0 (assembled a.k.format h a.vertices.now a.records.now)) c.next_round.ensures ∙ s.1 }
