-- `build_service::store`: the work areas hold the plain mesh's tables, which are judged and stored.
-- Assumes nothing.
use Prim.Native.Nat.{ℕ, ◌*◌, ◌≤◌}
use mathlib.Core.Path.{◌≡◌, sym, ◌∙◌, ap, subst}
use mathlib.Core.Bool.{false}
use mathlib.Core.List.{List}
use native.Mathlib.Omega.{arith}
use lib.IntN.{ℤ}
use lib.ListN.{length, replicate, length-replicate}
use Rattle.stored.specs.declared.Header.{Header}
use Rattle.stored.specs.Layout.{version1, limits, vertex_width, record_width, assembled}
use Rattle.stored.specs.Fitting.{HeaderFits}
use Rattle.check_refusals.specs.Refusals.{wrong_counts}
use Rattle.check_refusals.specs.Bounded.{Bounded, bounded}
use Rattle.build_service.specs.Build.{plain_header, plain_bytes}
use Rattle.build_service.specs.Storing.{vertices_put, records_put, header_fits, vertices_held, records_held, plain_assembled, given_pieces, later_number, later_bytes}
use Rattle.build_service.proofs.store.Goals as goal

-- The work areas as they are made.
abbrev vertices_made : List ℕ
vertices_made = replicate (vertex_width version1 * limits.vertices) 0

abbrev records_made : List ℕ
records_made = replicate (record_width version1 * limits.records) 0

-- Once the vertices are put and then the records, the work areas hold both, and the plain mesh is what is assembled from them.
held : (job : ℕ) (coordinates : List ℤ) (corners : List ℕ) → wrong_counts limits (plain_header job coordinates corners) ≡ false →
    (h : Header) → h ≡ plain_header job coordinates corners → {base grown vertices records : List ℕ} →
    base ≡ vertices_put vertices_made coordinates h.vertices → grown ≡ records_made →
    vertices ≡ base → records ≡ records_put grown coordinates corners h.records →
    (vertex_width version1 * h.vertices ≤ length vertices) × (record_width version1 * h.records ≤ length records) × (assembled version1 h vertices records ≡ plain_bytes job coordinates corners)
held job coordinates corners right h is {grown} {vertices} {records} put made same then =
    let room = length-replicate {A = ℕ} (vertex_width version1 * limits.vertices) 0 in
    let deep = ap length made ∙ length-replicate {A = ℕ} (record_width version1 * limits.records) 0 in
    let first = same ∙ put in (
      vertices_held job coordinates corners right h is vertices_made grown vertices records room deep first then,
      records_held job coordinates corners right h is vertices_made grown vertices records room deep first then,
      plain_assembled job coordinates corners right h is vertices_made grown vertices records room deep first then,
    )

pub plain_header-h-requires : goal.plain_header-h-requires
plain_header-h-requires c = c.requires.counts_fit

pub finish-requires : goal.finish-requires
finish-requires c =
    let a = c.args in
    let coordinates = a.plain.now.coordinates.now in
    let corners = a.plain.now.corners.now in
    let right = c.requires.counts_fit in
    let h = c.plain_header-h in
    let first = c.put_vertices.ensures in
    let then = c.put_records.ensures in
    let areas = held a.job coordinates corners right h.result h.ensures first.base_after first.grown_unchanged then.base_unchanged then.grown_after in
    record {
      bounded = subst (Bounded limits) (sym h.ensures) (bounded limits _ right);
      fits = subst (HeaderFits version1) (sym h.ensures) (header_fits a.job coordinates corners right (omega (arith, c.ranges.job)));
      vertices_there = areas.0;
      records_there = areas.1;
      clear = c.requires.out_cleared;
    }

pub returns : goal.returns
returns c =
    let a = c.args in
    let coordinates = a.plain.now.coordinates.now in
    let corners = a.plain.now.corners.now in
    let h = c.plain_header-h in
    let first = c.put_vertices.ensures in
    let then = c.put_records.ensures in
    let areas = held a.job coordinates corners c.requires.counts_fit h.result h.ensures first.base_after first.grown_unchanged then.base_unchanged then.grown_after in
    let room = length a.out.now in
    let given = c.bad_given_pieces-bad_given.ensures ∙ given_pieces a.job coordinates corners h.result h.ensures in
    record {
      number = c.finish.ensures.number ∙ (λ i. later_number (given i) (areas.2 i) room);
      out_after = c.finish.ensures.out_after ∙ (λ i. later_bytes (given i) (areas.2 i) room);
    }
