-- `takeback_service::store`: 20, or the mesh that is left, by the tables that are filled.
-- Assumes nothing.
use mathlib.Core.Path.{◌≡◌, ap, ◌∙◌}
use mathlib.Core.List.{List, []}
use Prim.Native.Nat.{ℕ}
use native.Mathlib.Omega.{arith}
use lib.ListN.{replicate}
use Rattle.laws.specs.Counts.{marked}
use Rattle.stored.specs.declared.Kind.{Kind}
use Rattle.stored.specs.Layout.{limits, mesh_length, layout_of, stored1, selection_in, selection1, selection_of}
use Rattle.mesh_tables.specs.Tables.{tables}
use Rattle.refine_pass.specs.Chosen.{table_of}
use Rattle.takeback_remains.specs.Left.{left_of, cramped, left_within}
use Rattle.takeback_closed.specs.Closed.{closed_put}
use Rattle.takeback_service.specs.Storing.{lent_whole, left_20, left_0}
use Rattle.takeback_service.proofs.store.Goals as goal

-- What is lent, as it was made.
abbrev heads : List ℕ
heads = replicate 8192 0

abbrev each_vertex : List ℕ
each_vertex = replicate limits.vertices 0

abbrev each_record : List ℕ
each_record = replicate limits.records 0

pub returns-then-out-mesh_length : goal.returns-then-out-mesh_length
returns-then-out-mesh_length c =
    let a = c.args in
    let mesh = a.mesh.now in
    let request = a.request.now in
    let kind = c.kind_1-k.ensures in
    let laid = c.layout_of.ensures ∙ ap (λ (k : Kind). layout_of k a.h) kind in
    let heading = c.selection_of-s.ensures ∙ ap (λ (k : Kind). selection_of (selection_in k.format request)) kind in
    let named : c.choose_named.new.chosen ≡ table_of limits.records (selection1 request) (selection_of (selection1 request)).count = c.choose_named.ensures ∙ (λ i. table_of limits.records (selection_in (kind i).format request) (heading i).count) in
    let is = c.remaining-with.ensures.value ∙ (λ i. left_within (cramped a.h heads each_vertex each_record each_vertex each_record) (tables a.h (laid i) mesh []) (marked (named i)) (left_of a.h each_vertex each_record)) in
    let size = c.mesh_length.ensures ∙ ap (λ (k : Kind). mesh_length k.format c.remaining-with.result.vertices c.remaining-with.result.records) kind in
    let both = left_20 (stored1 mesh) (selection1 request) a.out.now a.h c.requires heads each_vertex each_record each_vertex each_record (lent_whole a.h c.requires.within) _ is (omega (arith, size, c.if-out-mesh_length.true)) in record { value = both.0; out_after = both.1 }

pub returns : goal.returns
returns c =
    let a = c.args in
    let mesh = a.mesh.now in
    let request = a.request.now in
    let kind = c.kind_1-k.ensures in
    let laid = c.layout_of.ensures ∙ ap (λ (k : Kind). layout_of k a.h) kind in
    let heading = c.selection_of-s.ensures ∙ ap (λ (k : Kind). selection_of (selection_in k.format request)) kind in
    let named : c.choose_named.new.chosen ≡ table_of limits.records (selection1 request) (selection_of (selection1 request)).count = c.choose_named.ensures ∙ (λ i. table_of limits.records (selection_in (kind i).format request) (heading i).count) in
    let is = c.remaining-with.ensures.value ∙ (λ i. left_within (cramped a.h heads each_vertex each_record each_vertex each_record) (tables a.h (laid i) mesh []) (marked (named i)) (left_of a.h each_vertex each_record)) in
    let size = c.mesh_length.ensures ∙ ap (λ (k : Kind). mesh_length k.format c.remaining-with.result.vertices c.remaining-with.result.records) kind in
    let r = left_0 (stored1 mesh) (selection1 request) a.out.now a.h c.requires heads each_vertex each_record each_vertex each_record (lent_whole a.h c.requires.within) _ is (omega (arith, size, c.if-out-mesh_length.false)) in
    let left = c.remaining-with.new in
    let put = c.put_closed.ensures ∙ (λ i. closed_put (laid i).format (tables a.h (laid i) mesh []) left.vertices left.records (c.next_round-next.ensures i) a.out.now) in
    record { value = r.0; out_after = put ∙ r.1 }
