-- `check_service::judged_base`: each way out is the first rule broken, at what the calls return; what is lent has room, so each rule is what it is.
-- Assumes nothing.
use Rattle.std.specs.Prelude.{◌≡◌, Bool, ◌||◌, List, ℕ, length}
use native.Mathlib.Omega.{arith}
use mathlib.Core.Path.{refl, sym, ◌∙◌}
use borrow.Author.Tests.{le-ltb, eqb-false}
use Rattle.std.proofs.lemmas.Result.{err_from_is_err_and}
use Rattle.laws.specs.Links.{short}
use Rattle.laws.specs.Order.{first_broken}
use Rattle.mesh_tables.specs.Tables.{tables_read}
use Rattle.check_refusals.specs.Outcomes.{some_number}
use Rattle.check_refusals.specs.Lent.{LinksFit, fit_not_short, where_lent}
use Rattle.check_pieces.specs.Pieces.{pieces_none, pieces_some}
use Rattle.check_service.specs.Order.{base_number}
use Rattle.check_service.proofs.judged_base.Goals as goal

-- In lists that fit the links, what is found is the rule alone.
where_fit : (heads nexts : List ℕ) {keys places n : ℕ} {rule found : Bool} → found ≡ (short heads nexts n || rule) → length heads ≡ keys → length nexts ≡ places → LinksFit keys places n → rule ≡ found
where_fit heads nexts e h t f = where_lent e (fit_not_short heads nexts _ _ _ h t f)

pub returns-then-bad_vertices : goal.returns-then-bad_vertices
unfolding base_number first_broken
returns-then-bad_vertices c =
    let is_4 = where_fit _ _ (c.bad_vertices.ensures.value c.requires.heads_empty) refl refl c.requires.lent_to_base.vertices in
    rw (is_4 ∙ c.if-bad_vertices.true)

pub returns-in_err-judged_pieces : goal.returns-in_err-judged_pieces
unfolding base_number first_broken
returns-in_err-judged_pieces c =
    let is_4 = where_fit _ _ (c.bad_vertices.ensures.value c.requires.heads_empty) refl refl c.requires.lent_to_base.vertices in
    let p = err_from_is_err_and c.from_residual.result c.from_residual.ensures.1 in
    rw (p.1, p.2, is_4 ∙ c.if-bad_vertices.false) (pieces_some (tables_read c.args.mesh.now) c.in_err-judged_pieces.ensures (eqb-false _ _ (some_number _)) _)

pub returns-then-bad_base_marks : goal.returns-then-bad_base_marks
unfolding base_number first_broken
returns-then-bad_base_marks c =
    let is_4 = where_fit _ _ (c.bad_vertices.ensures.value c.requires.heads_empty) refl refl c.requires.lent_to_base.vertices in
    let (bad, left) = pieces_none (tables_read c.args.mesh.now) c.in_ok-judged_pieces.ensures refl in
    rw (is_4 ∙ c.if-bad_vertices.false, bad, left, sym c.bad_base_marks.ensures ∙ c.if-bad_base_marks.true)

pub returns-then-bad_base_faces : goal.returns-then-bad_base_faces
unfolding base_number first_broken
returns-then-bad_base_faces c =
    let is_4 = where_fit _ _ (c.bad_vertices.ensures.value c.requires.heads_empty) refl refl c.requires.lent_to_base.vertices in
    let is_7 = where_fit _ _ (c.bad_base_faces.ensures.value c.requires.face_heads_empty) refl (omega arith) c.requires.lent_to_base.faces in
    let (bad, left) = pieces_none (tables_read c.args.mesh.now) c.in_ok-judged_pieces.ensures refl in
    rw (is_4 ∙ c.if-bad_vertices.false, bad, left, sym c.bad_base_marks.ensures ∙ c.if-bad_base_marks.false, is_7 ∙ c.if-bad_base_faces.true)

pub returns-then-unused_vertices : goal.returns-then-unused_vertices
unfolding base_number first_broken
returns-then-unused_vertices c =
    let is_4 = where_fit _ _ (c.bad_vertices.ensures.value c.requires.heads_empty) refl refl c.requires.lent_to_base.vertices in
    let is_7 = where_fit _ _ (c.bad_base_faces.ensures.value c.requires.face_heads_empty) refl (omega arith) c.requires.lent_to_base.faces in
    let is_8 = where_lent c.unused_vertices.ensures (le-ltb _ _ c.requires.lent_to_base.each_base_vertex) in
    let (bad, left) = pieces_none (tables_read c.args.mesh.now) c.in_ok-judged_pieces.ensures refl in
    rw (
      is_4 ∙ c.if-bad_vertices.false,
      bad,
      left,
      sym c.bad_base_marks.ensures ∙ c.if-bad_base_marks.false,
      is_7 ∙ c.if-bad_base_faces.false,
      is_8 ∙ c.if-unused_vertices.true,
    )

pub returns-then-hanging_vertices : goal.returns-then-hanging_vertices
unfolding base_number first_broken
returns-then-hanging_vertices c =
    let is_4 = where_fit _ _ (c.bad_vertices.ensures.value c.requires.heads_empty) refl refl c.requires.lent_to_base.vertices in
    let is_7 = where_fit _ _ (c.bad_base_faces.ensures.value c.requires.face_heads_empty) refl (omega arith) c.requires.lent_to_base.faces in
    let is_8 = where_lent c.unused_vertices.ensures (le-ltb _ _ c.requires.lent_to_base.each_base_vertex) in
    let is_23 = where_fit _ _ c.hanging_vertices.ensures.value (omega arith) (omega arith) c.requires.lent_to_base.base_vertices_lem in
    let (bad, left) = pieces_none (tables_read c.args.mesh.now) c.in_ok-judged_pieces.ensures refl in
    rw (
      is_4 ∙ c.if-bad_vertices.false,
      bad,
      left,
      sym c.bad_base_marks.ensures ∙ c.if-bad_base_marks.false,
      is_7 ∙ c.if-bad_base_faces.false,
      is_8 ∙ c.if-unused_vertices.false,
      is_23 ∙ c.if-hanging_vertices.true,
    )

pub returns : goal.returns
unfolding base_number first_broken
returns c =
    let is_4 = where_fit _ _ (c.bad_vertices.ensures.value c.requires.heads_empty) refl refl c.requires.lent_to_base.vertices in
    let is_7 = where_fit _ _ (c.bad_base_faces.ensures.value c.requires.face_heads_empty) refl (omega arith) c.requires.lent_to_base.faces in
    let is_8 = where_lent c.unused_vertices.ensures (le-ltb _ _ c.requires.lent_to_base.each_base_vertex) in
    let is_23 = where_fit _ _ c.hanging_vertices.ensures.value (omega arith) (omega arith) c.requires.lent_to_base.base_vertices_lem in
    let (bad, left) = pieces_none (tables_read c.args.mesh.now) c.in_ok-judged_pieces.ensures refl in
    rw (
      is_4 ∙ c.if-bad_vertices.false,
      bad,
      left,
      sym c.bad_base_marks.ensures ∙ c.if-bad_base_marks.false,
      is_7 ∙ c.if-bad_base_faces.false,
      is_8 ∙ c.if-unused_vertices.false,
      is_23 ∙ c.if-hanging_vertices.false,
    )
