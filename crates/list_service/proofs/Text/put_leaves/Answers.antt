-- `list_service::Text::put_leaves` has put the leaves below n.
-- Assumes nothing.
use Prim.Native.Nat.{◌^◌, ◌<◌}
use mathlib.Core.Path.{◌≡◌, ◌∙◌, ap}
use mathlib.Core.List.{[]}
use native.Mathlib.Nat.{le_antisymm}
use native.Mathlib.Omega.{arith}
use Rattle.laws.specs.Lists.{Bytes, bytes_none}
use Rattle.stored.specs.Layout.{stored1, header_of, layout_of, record_in}
use Rattle.list_service.specs.Lengths.{leaf_fits}
use Rattle.stored.specs.Fitting.{record_fits}
use Rattle.mesh_tables.specs.Tables.{tables, tables_of}
use Rattle.list_service.specs.Listing.{leaf_lines, text_of}
use Rattle.list_service.specs.declared.Text.{Text}
use Rattle.list_service.specs.Putting.{followed_none, followed_then, leaves_none}
use Rattle.list_service.proofs.Putting.{leaves_next, leaves_long}
use Rattle.list_service.proofs.Text.put_leaves.Goals as goal

pub loop-n-init : goal.loop-n-init
loop-n-init c = rw (leaves_none _) (followed_none _)

pub put_record-requires : goal.put_record-requires
put_record-requires c =
    let mesh = c.args.mesh.now in
    let l = c.layout_of.result in
    let loop = c.loop-n in
    let bytes : Bytes mesh = record { byte = λ k. omega (arith, c.shared_slice_known-1.given k) } in
    let few : loop.n < 10 ^ 10 = omega (arith, c.loop-n-test.true, c.struct_known-1.given) in
    let long = leaves_long (tables (header_of (stored1 mesh)) l mesh []) l.format (record_fits l mesh [] bytes bytes_none) loop.n (omega arith) in
    record {
      fits = leaf_fits l.format loop.n (record_in l mesh [] loop.n) few (record_fits l mesh [] bytes bytes_none loop.n);
      room = omega (arith, c.requires.0, ap (λ (w : Text). w.length) loop.invariant, long);
    }

pub loop-n-preserved : goal.loop-n-preserved
loop-n-preserved c = rw (leaves_next _ _) (followed_then _ _ _ c.loop-n.invariant c.put_record.ensures)

pub returns : goal.returns
unfolding tables_of
returns c =
    let a = c.args in
    let mesh = a.mesh.now in
    let loop = c.loop-n in
    let layout = c.layout_of.ensures ∙ (λ i. layout_of (c.kind_1.ensures i) (c.requires.1 i)) in
    let all : text_of (leaf_lines (tables (header_of (stored1 mesh)) c.layout_of.result mesh []) loop.n) ≡ text_of (leaf_lines (tables_of (stored1 mesh)) a.h.records) =
    λ i. text_of (leaf_lines (tables (header_of (stored1 mesh)) (layout i) mesh []) (le_antisymm loop.auto.n-end c.loop-n-test.false i)) in
    rw (← all) loop.invariant
