-- What refusal 3 leaves of the counts.
use Rattle.std.specs.Prelude.{◌≡◌, false, ◌||◌, ◌≤◌, ltb}
use Rattle.std.proofs.Common.{ltb-false}
use Rattle.laws.specs.Below.{or_left_false, or_right_false}
use Rattle.stored.specs.declared.Limits.{Limits}
use Rattle.stored.specs.declared.Header.{Header}
use Rattle.check_refusals.specs.Refusals.{wrong_counts}

-- "At most 1,024 vertices and 3,072 records", or what other limits have it, and base at most all.
pub record Bounded (most : Limits) (h : Header) : Type 0 where
  pub vertices : h.vertices ≤ most.vertices
  pub records : h.records ≤ most.records
  pub base_limit : h.base_records ≤ most.base_records
  pub base_vertices : h.base_vertices ≤ h.vertices
  pub base_records : h.base_records ≤ h.records

pub bounded : (most : Limits) (h : Header) → wrong_counts most h ≡ false → Bounded most h
unfolding wrong_counts
bounded most h e =
    let a = ltb most.vertices h.vertices in
    let b = ltb most.records h.records in
    let m = ltb most.base_records h.base_records in
    let c = ltb h.base_vertices 4 in
    let d = ltb h.base_records 1 in
    let f = ltb h.vertices h.base_vertices in
    let g = ltb h.records h.base_records in
    let abmcdf = or_left_false (a || b || m || c || d || f) g e in
    let abmcd = or_left_false (a || b || m || c || d) f abmcdf in
    let abm = or_left_false (a || b || m) c (or_left_false (a || b || m || c) d abmcd) in
    let ab = or_left_false (a || b) m abm in
    record {
      vertices = ltb-false most.vertices h.vertices (or_left_false a b ab);
      records = ltb-false most.records h.records (or_right_false a b ab);
      base_limit = ltb-false most.base_records h.base_records (or_right_false (a || b) m abm);
      base_vertices = ltb-false h.vertices h.base_vertices (or_right_false (a || b || m || c || d) f abmcdf);
      base_records = ltb-false h.records h.base_records (or_right_false (a || b || m || c || d || f) g e);
    }
