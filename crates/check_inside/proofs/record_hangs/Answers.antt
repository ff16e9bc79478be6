-- `check_inside::record_hangs`: a piece that is right-handed asks its cells, unless there are too many; any other asks all.
-- Assumes nothing.
use borrow.Author.Tests.{eqb-false}
use mathlib.Core.Path.{sym, ap, ◌∙◌}
use lib.IntN.{pos, nat_abs}
use lib.Signed.{◌<ℤ◌}
use mir.Syntax.{w64}
use mir.Facts.{to_z-of_z}
use Rattle.grid_volume.specs.Volume.{signed_of, is_flat, is_negative}
use Rattle.grid_volume.specs.Handed.{positive}
use Rattle.stored_entries.specs.Mesh.{vertex_read, record_read}
use Rattle.check_inside.specs.declared.PieceBox.{PieceBox}
use Rattle.check_inside.specs.Cells.{standing}
use Rattle.check_inside.specs.Search.{all_asked, cells_asked}
use Rattle.check_inside.proofs.record_hangs.Goals as goal

pub returns-then-is_flat : goal.returns-then-is_flat
returns-then-is_flat c some chain =
    let g = c.args in
    c.any_vertex.ensures ∙ all_asked (vertex_read g.mesh.now) (record_read g.mesh.now g.n).piece g.count c.asking_of-q.ensures

pub returns-then-too_many : goal.returns-then-too_many
returns-then-too_many c some chain =
    let g = c.args in
    c.any_vertex-then-too_many.ensures ∙ all_asked (vertex_read g.mesh.now) (record_read g.mesh.now g.n).piece g.count c.asking_of-q.ensures

pub returns : goal.returns
returns c some chain =
    let right : pos 0 <ℤ signed_of (standing c.asking_of-q.result) = let z = signed_of (standing c.asking_of-q.result) in
    let held = to_z-of_z {w = w64} {z = c.signed-signed.result} (record { sfits = c.signed-signed.type_inv }) ∙ c.signed-signed.ensures in
    positive z (eqb-false (nat_abs z) 0 (sym (c.is_flat.ensures ∙ ap is_flat held) ∙ c.if-is_flat.false)) (sym (c.is_negative.ensures ∙ ap is_negative held) ∙ c.if-is_negative.false) in
    let g = c.args in
    c.any_in_block.ensures
    ∙ cells_asked (vertex_read g.mesh.now) (record_read g.mesh.now g.n).piece g.count g.width g.links.now.heads.now g.links.now.nexts.now
    c.asking_of-q.ensures some chain (right)
    (ap (λ (box : PieceBox). box.low) c.box_of-space.ensures)
    (ap (λ (box : PieceBox). box.high) c.box_of-space.ensures)
    c.slabs_of.ensures
    c.slabs_of-2.ensures
