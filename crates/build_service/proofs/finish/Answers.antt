-- `build_service::finish`: refused by a rule, refused for want of room, or stored.
-- Assumes nothing.
use Prim.Native.Nat.{ℕ, ◌<◌, ◌≤◌}
use mathlib.Core.Path.{◌≡◌, refl, sym, ◌∙◌, ap}
use mathlib.Core.Bool.{Bool}
use mathlib.Core.List.{List}
use native.Mathlib.Omega.{arith}
use lib.ListN.{length}
use lib.Seq.{sets}
use borrow.Author.Tests.{eqb-false}
use Rattle.std.proofs.lemmas.Result.{err_from_is_err_and}
use Rattle.stored.specs.declared.Format.{Format}
use Rattle.stored.specs.declared.Header.{Header}
use Rattle.stored.specs.declared.Layout.{Layout}
use Rattle.stored.specs.Layout.{version1, kind1, right1, working, mesh_length, assembled, stored1}
use Rattle.stored.specs.Worked.{assembled_length}
use Rattle.mesh_tables.specs.Tables.{tables, tables_of}
use Rattle.mesh_tables.specs.Assembled.{tables_assembled}
use Rattle.check_refusals.specs.Outcomes.{some_number}
use Rattle.build_service.specs.Storing.{Ready, judged_number, refused_number, refused_bytes, full_number, full_bytes, stored_number_lem, stored_bytes}
use Rattle.build_service.proofs.finish.Goals as goal

-- What is found of the tables in their work areas is found of the mesh that is assembled from them.
found : (given : Bool) (h : Header) (v r out : List ℕ) → Ready h v r out → {f : Format} → f ≡ version1 → {l : Layout} → l ≡ working f h.vertices h.records → {n : ℕ} →
    n ≡ judged_number given (tables h l v r) → n ≡ judged_number given (tables_of (stored1 (assembled version1 h v r)))
found given h v r out ready format layout e =
    e
    ∙ ap (judged_number given) (ap (λ (l : Layout). tables h l v r) (layout ∙ ap (λ (f : Format). working f h.vertices h.records) format)
    ∙ tables_assembled kind1 right1 refl h ready.fits v r ready.vertices_there ready.records_there)

-- The length that is asked of the buffer is that of the mesh.
whole : (h : Header) (v r out : List ℕ) → Ready h v r out → {f : Format} → f ≡ version1 → {n : ℕ} → n ≡ mesh_length f h.vertices h.records → n ≡ length (assembled version1 h v r)
whole h v r out ready format e =
    e
    ∙ ap (λ (f : Format). mesh_length f h.vertices h.records) format
    ∙ sym (assembled_length version1 h v r ready.vertices_there ready.records_there)

pub returns-in_err-judged : goal.returns-in_err-judged
returns-in_err-judged c =
    let a = c.args in
    let s = assembled version1 a.h a.vertices.now a.records.now in
    let is = found a.bad_given a.h a.vertices.now a.records.now a.out.now c.requires c.version_1-format.ensures c.working_layout.ensures c.in_err-judged.ensures in
    let some = eqb-false _ _ (some_number c.in_err-judged.field-0.0) in
    let p = err_from_is_err_and c.from_residual.result c.from_residual.ensures.1 in
    record {
      number = rw (p.1, p.2) (refused_number a.bad_given s (length a.out.now) _ is some);
      out_after = c.requires.clear ∙ refused_bytes a.bad_given s (length a.out.now) _ is some;
    }

pub returns-then-out-mesh_length : goal.returns-then-out-mesh_length
returns-then-out-mesh_length c =
    let a = c.args in
    let s = assembled version1 a.h a.vertices.now a.records.now in
    let room = length a.out.now in
    let none = sym (found a.bad_given a.h a.vertices.now a.records.now a.out.now c.requires c.version_1-format.ensures c.working_layout.ensures c.in_ok-judged.ensures) in
    let short : room < length s = omega (arith, c.if-out-mesh_length.true, whole a.h a.vertices.now a.records.now a.out.now c.requires c.version_1-format.ensures c.mesh_length.ensures) in
    record { number = sym (full_number a.bad_given s room none short); out_after = c.requires.clear ∙ full_bytes a.bad_given s room none short }

pub returns : goal.returns
returns c =
    let a = c.args in
    let s = assembled version1 a.h a.vertices.now a.records.now in
    let room = length a.out.now in
    let none = sym (found a.bad_given a.h a.vertices.now a.records.now a.out.now c.requires c.version_1-format.ensures c.working_layout.ensures c.in_ok-judged.ensures) in
    let fits : length s ≤ room = omega (arith, c.if-out-mesh_length.false, whole a.h a.vertices.now a.records.now a.out.now c.requires c.version_1-format.ensures c.mesh_length.ensures) in
    record {
      number = sym (stored_number_lem a.bad_given s room none fits);
      out_after =
          c.put_mesh.ensures
          ∙ ap (λ (f : Format). sets a.out.now 0 (assembled f a.h a.vertices.now a.records.now)) c.version_1-format.ensures
          ∙ ap (λ (t : List ℕ). sets t 0 s) c.requires.clear
          ∙ stored_bytes a.bad_given s room none fits;
    }
