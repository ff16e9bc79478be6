-- `build_service::judged_with`: each way out is one case of the definition, at what the calls return; what is lent has room, so each rule is what it is.
-- Assumes nothing.
use native.Mathlib.Omega.{arith}
use mathlib.Core.Path.{refl, ◌∙◌}
use borrow.Author.Tests.{le-ltb}
use Rattle.mesh_tables.specs.Tables.{tables_read}
use Rattle.check_refusals.specs.Lent.{fit_not_short, where_lent}
use Rattle.build_service.specs.Storing.{judged_4, judged_5, judged_7, judged_8, judged_23, judged_0}
use Rattle.build_service.proofs.judged_with.Goals as goal

pub returns-then-bad_vertices : goal.returns-then-bad_vertices
returns-then-bad_vertices c =
    let is_4 = where_lent (c.bad_vertices.ensures.value c.requires.heads_empty) (fit_not_short _ _ _ _ _ refl refl c.requires.lent_to_base.vertices) in
    let a = c.args in judged_4 a.bad_given (tables_read a.mesh.now) (is_4 ∙ c.if-bad_vertices.true)

pub returns-then-bad_given : goal.returns-then-bad_given
returns-then-bad_given c =
    let is_4 = where_lent (c.bad_vertices.ensures.value c.requires.heads_empty) (fit_not_short _ _ _ _ _ refl refl c.requires.lent_to_base.vertices) in
    let a = c.args in
    judged_5 a.bad_given (tables_read a.mesh.now) (is_4 ∙ c.if-bad_vertices.false) c.if-bad_given.true

pub returns-then-bad_base_faces : goal.returns-then-bad_base_faces
returns-then-bad_base_faces c =
    let is_4 = where_lent (c.bad_vertices.ensures.value c.requires.heads_empty) (fit_not_short _ _ _ _ _ refl refl c.requires.lent_to_base.vertices) in
    let is_7 = where_lent (c.bad_base_faces.ensures.value c.requires.face_heads_empty) (fit_not_short _ _ _ _ _ refl (omega arith) c.requires.lent_to_base.faces) in
    let a = c.args in
    judged_7 a.bad_given (tables_read a.mesh.now) (is_4 ∙ c.if-bad_vertices.false)
    c.if-bad_given.false (is_7 ∙ c.if-bad_base_faces.true)

pub returns-then-unused_vertices : goal.returns-then-unused_vertices
returns-then-unused_vertices c =
    let is_4 = where_lent (c.bad_vertices.ensures.value c.requires.heads_empty) (fit_not_short _ _ _ _ _ refl refl c.requires.lent_to_base.vertices) in
    let is_7 = where_lent (c.bad_base_faces.ensures.value c.requires.face_heads_empty) (fit_not_short _ _ _ _ _ refl (omega arith) c.requires.lent_to_base.faces) in
    let is_8 = where_lent c.unused_vertices.ensures (le-ltb _ _ c.requires.lent_to_base.each_base_vertex) in
    let a = c.args in
    judged_8 a.bad_given (tables_read a.mesh.now) (is_4 ∙ c.if-bad_vertices.false)
    c.if-bad_given.false (is_7 ∙ c.if-bad_base_faces.false) (is_8 ∙ c.if-unused_vertices.true)

pub returns-then-hanging_vertices : goal.returns-then-hanging_vertices
returns-then-hanging_vertices c =
    let is_4 = where_lent (c.bad_vertices.ensures.value c.requires.heads_empty) (fit_not_short _ _ _ _ _ refl refl c.requires.lent_to_base.vertices) in
    let is_7 = where_lent (c.bad_base_faces.ensures.value c.requires.face_heads_empty) (fit_not_short _ _ _ _ _ refl (omega arith) c.requires.lent_to_base.faces) in
    let is_8 = where_lent c.unused_vertices.ensures (le-ltb _ _ c.requires.lent_to_base.each_base_vertex) in
    let is_23 = where_lent c.hanging_vertices.ensures.value (fit_not_short _ _ _ _ _ (omega arith) (omega arith) c.requires.lent_to_base.base_vertices_lem) in
    let a = c.args in
    judged_23 a.bad_given (tables_read a.mesh.now) (is_4 ∙ c.if-bad_vertices.false)
    c.if-bad_given.false (is_7 ∙ c.if-bad_base_faces.false) (is_8 ∙ c.if-unused_vertices.false) (is_23 ∙ c.if-hanging_vertices.true)

pub returns : goal.returns
returns c =
    let is_4 = where_lent (c.bad_vertices.ensures.value c.requires.heads_empty) (fit_not_short _ _ _ _ _ refl refl c.requires.lent_to_base.vertices) in
    let is_7 = where_lent (c.bad_base_faces.ensures.value c.requires.face_heads_empty) (fit_not_short _ _ _ _ _ refl (omega arith) c.requires.lent_to_base.faces) in
    let is_8 = where_lent c.unused_vertices.ensures (le-ltb _ _ c.requires.lent_to_base.each_base_vertex) in
    let is_23 = where_lent c.hanging_vertices.ensures.value (fit_not_short _ _ _ _ _ (omega arith) (omega arith) c.requires.lent_to_base.base_vertices_lem) in
    let a = c.args in
    judged_0 a.bad_given (tables_read a.mesh.now) (is_4 ∙ c.if-bad_vertices.false)
    c.if-bad_given.false (is_7 ∙ c.if-bad_base_faces.false) (is_8 ∙ c.if-unused_vertices.false) (is_23 ∙ c.if-hanging_vertices.false)
