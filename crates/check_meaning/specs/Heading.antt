-- Rules 1 to 3: the bytes' length, the mark and the counts.
use Rattle.std.specs.Prelude.{◌+◌, ◌*◌, ◌≤◌, length}
use Rattle.stored.specs.declared.Limits.{Limits}
use Rattle.stored.specs.Layout.{Stored, header_of, header_width, base_length, grown_length, number_width, version_of, byte_at, u16_at, marked, right_mark, right_length}
use Rattle.mesh_tables.specs.Tables.{tables_of, base_records}
use Rattle.check_refusals.specs.Refusals.{wrong_length, wrong_mark, wrong_counts}
use Rattle.check_meaning.specs.Tests.{Fails, reads, equal, at_most, not_below, not_fails, and_passes, or_fails}
use Rattle.check_meaning.specs.Accepted.{RightLength, RightMark, Within, RightCounts}

pub rule1_holds : (s : Stored) → Fails (wrong_length s) (RightLength s)
unfolding wrong_length right_length
rule1_holds s =
    let k = s.kind in
    reads
    (not_fails
    (and_passes (at_most (header_width k.format) (length s.base)) (and_passes (equal (length s.grown) (grown_length k (header_of s))) (equal (length s.base) (base_length k (header_of s))))))
    (λ h. record { header = h.0; exact = h.1.1; exact_grown = h.1.0 })
    (λ r. (r.header, (r.exact_grown, r.exact)))

pub rule2_holds : (s : Stored) → Fails (wrong_mark s) (RightMark s)
unfolding wrong_mark right_mark marked
rule2_holds s =
    reads
    (not_fails
    (and_passes
    (and_passes (and_passes (and_passes (equal (byte_at s.base 0) 84) (equal (byte_at s.base 1) 77)) (equal (byte_at s.base 2) 66)) (equal (u16_at s.base 3) (version_of s.kind.format)))
    (equal (byte_at s.base (11 + number_width s.kind.format * 4)) 0)))
    (λ h. record { T = h.0.0.0.0; M = h.0.0.0.1; B = h.0.0.1; version = h.0.1; zero_byte = h.1 })
    (λ r. ((((r.T, r.M), r.B), r.version), r.zero_byte))

pub rule3_holds : (most : Limits) (s : Stored) → Fails (wrong_counts most (header_of s)) (Within most (tables_of s) × (base_records (tables_of s) ≤ most.base_records) × RightCounts (tables_of s))
unfolding wrong_counts tables_of
rule3_holds most s =
    let h = header_of s in
    reads
    (or_fails
    (or_fails
    (or_fails
    (or_fails
    (or_fails (or_fails (not_below most.vertices h.vertices) (not_below most.records h.records)) (not_below most.base_records h.base_records))
    (not_below h.base_vertices 4))
    (not_below h.base_records 1))
    (not_below h.vertices h.base_vertices))
    (not_below h.records h.base_records))
    (λ h. (
      record { vertices = h.0.0.0.0.0.0; records = h.0.0.0.0.0.1 },
      h.0.0.0.0.1,
      record { base_vertices_lem = h.0.0.0.1; base_records_lem = h.0.0.1; vertices_within = h.0.1; records_within = h.1 },
    ))
    (λ r. ((((((r.0.vertices, r.0.records), r.1), r.2.base_vertices_lem), r.2.base_records_lem), r.2.vertices_within), r.2.records_within))
