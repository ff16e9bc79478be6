-- `takeback_service::take_back`: the rules in their order; the buffer is cleared before the first.
-- The outcome rests on the number in the verdict's report alone, the edge on the whole report.
-- Assumes nothing.
use mathlib.Core.Path.{◌≡◌, sym, ap, subst, ◌∙◌}
use mathlib.Core.List.{List, []}
use Prim.Native.Nat.{ℕ}
use lib.ListN.{length}
use Rattle.std.specs.Prelude.{Ok, Err}
use Rattle.std.proofs.lemmas.Result.{err_from_is_err_and}
use Rattle.laws.specs.Lists.{clear_itself, clear_long}
use Rattle.stored.specs.declared.Kind.{Kind}
use Rattle.stored.specs.declared.Layout.{Layout}
use Rattle.stored.specs.declared.Header.{Header}
use Rattle.stored.specs.Layout.{kind1, header_from, layout_of, stored1, selection_in, selection1}
use Rattle.mesh_tables.specs.Tables.{tables, tables_of}
use Rattle.check_refusals.specs.declared.Report.{Report}
use Rattle.check_refusals.specs.Check.{check_number}
use Rattle.check_refusals.specs.Outcomes.{some_number}
use Rattle.check_service.specs.Verdict.{names_none}
use Rattle.refine_service.specs.Order.{number_told}
use Rattle.takeback_service.specs.TakeBack.{left}
use Rattle.takeback_service.specs.Order.{request_number, room_number, later_bytes, judged_refused, request_refused, later, later_bytes_lem}
use Rattle.takeback_service.specs.Storing.{Ready, ready}
use Rattle.takeback_service.specs.Answer.{request_not_10, room_not_10}
use Rattle.takeback_service.proofs.take_back.Goals as goal

-- The tables that are judged with the request are those that the mesh holds.
tables_found : (k : Kind) (h : Header) (l : Layout) (mesh request : List ℕ) → k ≡ kind1 → h ≡ header_from k.format mesh → l ≡ layout_of k h →
    request_number (tables h l mesh []) (selection_in l.format request) ≡ request_number (tables_of (stored1 mesh)) (selection1 request)
unfolding tables_of
tables_found k h l mesh request is read laid =
    ap (λ (x : Layout). request_number (tables h x mesh []) (selection_in x.format request)) laid
    ∙ ap (λ (g : Header). request_number (tables g (layout_of k g) mesh []) (selection_in k.format request)) read
    ∙ ap (λ (j : Kind). request_number (tables (header_from j.format mesh) (layout_of j (header_from j.format mesh)) mesh []) (selection_in j.format request)) is

pub returns-in_err-verdict-clause-outcome : goal.returns-in_err-verdict-clause-outcome
returns-in_err-verdict-clause-outcome c =
    let a = c.args in
    let mesh = stored1 a.mesh.now in
    let request = selection1 a.request.now in
    let p = err_from_is_err_and c.from_residual.result c.from_residual.ensures.1 in
    let found = number_told mesh (Err _) (ap (λ (r : Report). r.number) c.in_err-verdict.ensures) in
    let r = judged_refused mesh request (length a.out.now) (rw (← found) (some_number _)) in
    rw (p.1, p.2) (record { number = found ∙ r.0; bytes = c.fill.ensures.after (λ y e. e) ∙ r.1 })

pub returns-in_err-verdict-clause-edge : goal.returns-in_err-verdict-clause-edge
returns-in_err-verdict-clause-edge c =
    let p = err_from_is_err_and c.from_residual.result c.from_residual.ensures.1 in
    rw (p.1, p.2) (λ ten. c.in_err-verdict.ensures)

pub returns-in_err-requested : goal.returns-in_err-requested
returns-in_err-requested c =
    let a = c.args in
    let mesh = stored1 a.mesh.now in
    let request = selection1 a.request.now in
    let p = err_from_is_err_and c.from_residual-in_err-requested.result c.from_residual-in_err-requested.ensures.1 in
    let none : check_number mesh ≡ 0 = sym (number_told mesh (Ok tt) (ap (λ (r : Report). r.number) c.in_ok-verdict.ensures)) in
    let found = c.in_err-requested.ensures ∙ tables_found _ _ _ _ _ c.kind_1-k.ensures c.header_from-h.ensures c.layout_of.ensures in
    let r = request_refused mesh request (length a.out.now) none (rw (← found) (some_number _)) in
    rw (p.1, p.2)
    (record {
      outcome = record { number = found ∙ r.0; bytes = c.fill.ensures.after (λ y e. e) ∙ r.1 };
      edge = names_none mesh (Err _) _ found (request_not_10 (tables_of mesh) request);
    })

pub store-requires : goal.store-requires
store-requires c =
    let a = c.args in
    let mesh = stored1 a.mesh.now in
    let out = c.fill.new.self in
    let none : check_number mesh ≡ 0 = sym (number_told mesh (Ok tt) (ap (λ (r : Report). r.number) c.in_ok-verdict.ensures)) in
    let header = c.header_from-h.ensures ∙ ap (λ (k : Kind). header_from k.format a.mesh.now) c.kind_1-k.ensures in
    subst (λ (h : Header). Ready h mesh out) (sym header) (ready mesh out none (clear_itself out (length a.out.now) (c.fill.ensures.after (λ y e. e))))

pub returns : goal.returns
returns c =
    let a = c.args in
    let mesh = stored1 a.mesh.now in
    let request = selection1 a.request.now in
    let room = length a.out.now in
    let none : check_number mesh ≡ 0 = sym (number_told mesh (Ok tt) (ap (λ (r : Report). r.number) c.in_ok-verdict.ensures)) in
    let right = sym (c.in_ok-requested.ensures ∙ tables_found _ _ _ _ _ c.kind_1-k.ensures c.header_from-h.ensures c.layout_of.ensures) in
    let long = clear_long c.fill.new.self room (c.fill.ensures.after (λ y e. e)) in
    let found = c.store.ensures.value ∙ ap (room_number kind1 (left mesh request).header) long in
    record {
      outcome =
          record {
            number = found ∙ later mesh request room none right;
            bytes = c.store.ensures.out_after ∙ ap (later_bytes mesh request) long ∙ later_bytes_lem mesh request room none right;
          };
      edge = names_none mesh _ _ found (room_not_10 kind1 (left mesh request).header room);
    }
