-- `check_service::verdict`: the rules on the bytes, then the tables.
-- Assumes nothing.
use mathlib.Core.Path.{◌≡◌, sym, ap, ◌∙◌}
use Rattle.std.specs.Prelude.{Bool}
use mathlib.Core.List.{List, []}
use Prim.Native.Nat.{ℕ}
use Rattle.stored.specs.declared.Kind.{Kind}
use Rattle.stored.specs.declared.Layout.{Layout}
use Rattle.stored.specs.declared.Header.{Header}
use Rattle.stored.specs.Layout.{version1, limits, kind1, right_length, right_mark, header_from, layout_of, stored1}
use Rattle.check_refusals.specs.Refusals.{wrong_counts}
use Rattle.check_refusals.specs.Bounded.{bounded}
use Rattle.check_service.specs.Order.{judged_report, verdict_1, verdict_2, verdict_3, verdict_rest}
use Rattle.mesh_tables.specs.Tables.{tables, tables_of}
use Rattle.check_service.proofs.verdict.Goals as goal

-- What is found of the kind held is so of kind1, which that is.
of_kind : (test : Kind → Bool) {k : Kind} {found is : Bool} → k ≡ kind1 → found ≡ test k → found ≡ is → test kind1 ≡ is
of_kind test same e is = sym (ap test same) ∙ sym e ∙ is

-- And what is found of the counts of the header read.
of_counts : (mesh : List ℕ) {k : Kind} {h : Header} {found is : Bool} → k ≡ kind1 → h ≡ header_from k.format mesh → found ≡ wrong_counts k.limits h → found ≡ is → wrong_counts limits (header_from version1 mesh) ≡ is
of_counts mesh {k} same read e is = of_kind (λ j. wrong_counts j.limits (header_from j.format mesh)) same (e ∙ ap (wrong_counts k.limits) read) is

-- The tables are those that the mesh holds.
found : (k : Kind) (h : Header) (l : Layout) (mesh : List ℕ) → k ≡ kind1 → h ≡ header_from k.format mesh → l ≡ layout_of k h → tables h l mesh [] ≡ tables_of (stored1 mesh)
unfolding tables_of
found k h l mesh is read laid = ap (λ (x : Layout). tables h x mesh []) laid ∙ ap (λ (g : Header). tables g (layout_of k g) mesh []) read ∙ ap (λ (j : Kind). tables (header_from j.format mesh) (layout_of j (header_from j.format mesh)) mesh []) is

pub returns-then-not-right_length : goal.returns-then-not-right_length
returns-then-not-right_length c =
    let mesh = c.args.mesh.now in
    verdict_1 (stored1 mesh) (of_kind (λ k. right_length k mesh []) c.kind_1-kind.ensures c.right_length.ensures c.if-not-right_length.true)

pub returns-then-not-right_mark : goal.returns-then-not-right_mark
returns-then-not-right_mark c =
    let mesh = c.args.mesh.now in
    verdict_2 (stored1 mesh)
    (of_kind (λ k. right_length k mesh []) c.kind_1-kind.ensures c.right_length.ensures c.if-not-right_length.false)
    (of_kind (λ k. right_mark k.format mesh) c.kind_1-kind.ensures c.right_mark.ensures c.if-not-right_mark.true)

pub returns-then-wrong_counts : goal.returns-then-wrong_counts
returns-then-wrong_counts c =
    let mesh = c.args.mesh.now in
    verdict_3 (stored1 mesh)
    (of_kind (λ k. right_length k mesh []) c.kind_1-kind.ensures c.right_length.ensures c.if-not-right_length.false)
    (of_kind (λ k. right_mark k.format mesh) c.kind_1-kind.ensures c.right_mark.ensures c.if-not-right_mark.false)
    (of_counts mesh c.kind_1-kind.ensures c.header_from-header.ensures c.wrong_counts.ensures c.if-wrong_counts.true)

pub judged-requires : goal.judged-requires
judged-requires c =
    let header = c.header_from-header.result in
    bounded limits header (of_kind (λ k. wrong_counts k.limits header) c.kind_1-kind.ensures c.wrong_counts.ensures c.if-wrong_counts.false)

pub returns : goal.returns
returns c =
    let mesh = c.args.mesh.now in
    c.judged.ensures
    ∙ ap judged_report (found c.kind_1-kind.result c.header_from-header.result c.layout_of.result mesh c.kind_1-kind.ensures c.header_from-header.ensures c.layout_of.ensures)
    ∙ verdict_rest (stored1 mesh)
    (of_kind (λ k. right_length k mesh []) c.kind_1-kind.ensures c.right_length.ensures c.if-not-right_length.false)
    (of_kind (λ k. right_mark k.format mesh) c.kind_1-kind.ensures c.right_mark.ensures c.if-not-right_mark.false)
    (of_counts mesh c.kind_1-kind.ensures c.header_from-header.ensures c.wrong_counts.ensures c.if-wrong_counts.false)
