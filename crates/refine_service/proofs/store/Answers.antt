-- `refine_service::store`: the tables are copied, worked on and stored.
-- Assumes nothing.
use mathlib.Core.Path.{◌≡◌, sym, ap, subst, ◌∙◌}
use mathlib.Core.Bool.{false}
use mathlib.Core.List.{List}
use Prim.Native.Nat.{ℕ, ◌+◌, ◌*◌}
use Rattle.std.proofs.Common.{arith, rules}
use lib.ListN.{length, replicate}
use lib.Seq.{sets}
use Rattle.laws.specs.Lists.{Bytes}
use Rattle.stored.specs.declared.Kind.{Kind}
use Rattle.stored.specs.declared.Header.{Header}
use Rattle.stored.specs.declared.Selection.{Selection}
use Rattle.stored.specs.Layout.{version1, limits, kind1, vertex_width, record_width, vertex_part, record_part, stored1, selection_in, selection1, selection_of, named_in}
use Rattle.refine_selection.specs.Selected.{is_named}
use Rattle.refine_cut.specs.Slices.{Slices, slices}
use Rattle.refine_pass.specs.Puts.{refined_within}
use Rattle.refine_service.specs.Storing.{Copied, Assembled, stored_number, stored_bytes, copied_vertices, copied_records, worked_assembled, later_number_lem, later_bytes_lem}
use Rattle.refine_service.proofs.store.Goals as goal

-- The passes are made on the tables that were copied, by the selection's count.
passes : (k : Kind) (s : Selection) (mesh selection out vertices records : List ℕ) (h : Header) (pre : Copied h (stored1 mesh) out) (t : Slices) → k ≡ kind1 → s ≡ selection_of (selection_in k.format selection) →
    vertices ≡ sets (replicate (vertex_width version1 * (limits.vertices + 1)) 0) 0 (vertex_part k.format h mesh) → records ≡ sets (replicate (record_width version1 * (limits.records + 2)) 0) 0 (record_part k.format h mesh) →
    t ≡ refined_within kind1 false (is_named s.count (named_in (selection1 selection))) (slices h vertices records) →
    t ≡ refined_within kind1 false (is_named (selection_of (selection1 selection)).count (named_in (selection1 selection))) (slices h (copied_vertices (stored1 mesh) (selection1 selection) out h pre) (copied_records (stored1 mesh) (selection1 selection) out h pre))
passes k s mesh selection out vertices records h pre t kind heading base grown is = rw (heading, base, grown, kind) at is

pub finish-requires : goal.finish-requires
finish-requires c =
    let kind = c.kind_1-k.ensures in
    let copied = c.copy_tables.ensures in
    let worked = c.refined-with in
    let bytes : Bytes c.args.mesh.now = record { byte = λ k. search rules } in
    let is = passes _ _ _ _ _ _ _ _ c.requires _ kind c.selection_of-s.ensures copied.base_after copied.grown_after worked.ensures in
    subst (λ (k : Kind). Assembled k worked.result worked.new.vertices worked.new.records c.args.out.now) (sym kind) (worked_assembled _ _ _ _ c.requires bytes _ _ _ is (omega arith) (omega arith))

pub returns : goal.returns
returns c =
    let kind = c.kind_1-k.ensures in
    let copied = c.copy_tables.ensures in
    let worked = c.refined-with in
    let room = length c.args.out.now in
    let bytes : Bytes c.args.mesh.now = record { byte = λ k. search rules } in
    let is = passes _ _ _ _ _ _ _ _ c.requires _ kind c.selection_of-s.ensures copied.base_after copied.grown_after worked.ensures in record {
      value = c.finish.ensures.value ∙ ap (λ (k : Kind). stored_number k worked.result room) kind ∙ later_number_lem _ _ _ _ c.requires bytes _ _ _ is (omega arith) (omega arith) room;
      out_after = c.finish.ensures.out_after ∙ ap (λ (k : Kind). stored_bytes k worked.result worked.new.vertices worked.new.records room) kind ∙ later_bytes_lem _ _ _ _ c.requires bytes _ _ _ is (omega arith) (omega arith) room;
    }
