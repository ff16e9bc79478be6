-- What the writers leave, of tables read as functions of the number: the entry that was written is there, every other entry of both
-- tables is as it was, and so are the slices' lengths.
use Rattle.std.specs.Prelude.{◌≡◌, refl, ℕ, ◌+◌, ◌-◌, ◌*◌, ◌≤◌, ◌<◌, List, length}
use Rattle.std.proofs.Common.{ap, ◌∙◌, mul-suc, mul-le-mul_left, arith}
use Rattle.laws.specs.Below.{put_at, put_is}
use Rattle.stored.specs.declared.Format.{Format}
use Rattle.stored.specs.declared.Table.{Table}
use Rattle.stored.specs.declared.Layout.{Layout}
use Rattle.stored.specs.declared.Vertex.{Vertex}
use Rattle.stored.specs.declared.Record.{Record}
use Rattle.stored.specs.Layout.{vertex_width, record_width, vertex_from, vertex_bytes, record_from, record_bytes, held_in, base_into, grown_into, vertex_in, record_in, working}
use Rattle.stored.specs.Held.{Room, Before, held_same, held_other, held_before, held_after, base_length_lem, growth_length}
use Rattle.stored.specs.Fitting.{VertexFits, RecordFits}
use Rattle.stored.specs.Entries.{vertex_wide_lem, vertex_again_lem, record_wide_lem, record_again_lem}

-- The slices hold the two tables of a layout: vertices and records have their format's widths, each entry lies within its slice, and the
-- vertices stand before the records.
pub record Holds (l : Layout) (base grown : List ℕ) : Type 0 where
  pub vertex_wide : vertex_width l.format ≡ l.vertices.width
  pub record_wide : record_width l.format ≡ l.records.width
  pub vertices : Room l.vertices base grown
  pub records : Room l.records base grown
  pub apart : Before l.vertices l.records

-- Nothing but the slices' lengths is asked of them.
room_kept : (t : Table) (base grown base' grown' : List ℕ) → length base' ≡ length base → length grown' ≡ length grown → Room t base grown → Room t base' grown'
room_kept t base grown base' grown' b g r =
    record {
      in_base = λ i e c. let l = r.in_base i e c in omega arith;
      in_growth = λ i e c. let l = r.in_growth i e c in omega arith;
    }

next : (w i n : ℕ) → i < n → w * i + w ≤ w * n
next w i n l = rw (← mul-suc w i) (mul-le-mul_left w l)

-- Tables to work on are held by slices that are long enough.
pub working_holds : (f : Format) (vertices records : ℕ) (base grown : List ℕ) → vertex_width f * vertices ≤ length base → record_width f * records ≤ length grown → Holds (working f vertices records) base grown
working_holds f vertices records base grown b g =
    record {
      vertex_wide = refl;
      record_wide = refl;
      vertices = record {
        in_base = λ i e c. let n = next (vertex_width f) i vertices e in omega arith;
        in_growth = λ i e c. absurd (omega arith);
      };
      records = record {
        in_base = λ i e c. absurd (omega arith);
        in_growth = λ i e c. let n = next (record_width f) i records e in let none_before : i - 0 ≡ i = omega arith in rw none_before (omega arith);
      };
      apart = record {
        in_base = λ i e c. let n = next (vertex_width f) i vertices e in omega arith;
        in_growth = λ i e c. absurd (omega arith);
      };
    }

-- ---- an entry is written

module _ (t : Table) (base grown : List ℕ) (i : ℕ) (bytes : List ℕ) where
  entry_put_lem : {A : Type 0} (from : List ℕ → A) (x : A) → from bytes ≡ x → length bytes ≡ t.width → Room t base grown → i < t.end →
      (λ j. from (held_in t (base_into t base i bytes) (grown_into t grown i bytes) j)) ≡ put_at i x (λ j. from (held_in t base grown j))
  entry_put_lem from x reads wide room e =
      put_is i x (λ j. from (held_in t base grown j)) (λ j. from (held_in t (base_into t base i bytes) (grown_into t grown i bytes) j))
      (ap from (held_same t base grown i bytes wide room e) ∙ reads)
      (λ j ne. ap from (held_other t base grown i bytes wide j ne))

  entry_put_holds : (l : Layout) → Holds l base grown → Holds l (base_into t base i bytes) (grown_into t grown i bytes)
  entry_put_holds l h =
      let kept : (u : Table) → Room u base grown → Room u (base_into t base i bytes) (grown_into t grown i bytes) =
      λ u. room_kept u base grown _ _ (base_length_lem t base i bytes) (growth_length t grown i bytes) in
      record {
        vertex_wide = h.vertex_wide;
        record_wide = h.record_wide;
        vertices = kept l.vertices h.vertices;
        records = kept l.records h.records;
        apart = h.apart;
      }

module _ (l : Layout) (base grown : List ℕ) (h : Holds l base grown) (i : ℕ) (v : Vertex) where
  abbrev vertex_base : List ℕ
  vertex_base = base_into l.vertices base i (vertex_bytes l.format v)

  abbrev vertex_growth : List ℕ
  vertex_growth = grown_into l.vertices grown i (vertex_bytes l.format v)

  wide_vertex : length (vertex_bytes l.format v) ≡ l.vertices.width
  wide_vertex = vertex_wide_lem l.format v ∙ h.vertex_wide

  pub vertex_put_lem : VertexFits l.format v → i < l.vertices.end → vertex_in l vertex_base vertex_growth ≡ put_at i v (vertex_in l base grown)
  unfolding vertex_in
  vertex_put_lem f = entry_put_lem l.vertices base grown i (vertex_bytes l.format v) (vertex_from l.format) v (vertex_again_lem l.format v f) wide_vertex h.vertices

  pub vertex_put_records : record_in l vertex_base vertex_growth ≡ record_in l base grown
  unfolding record_in
  vertex_put_records =
      λ k j. record_from l.format (held_after l.vertices l.records h.apart base grown i (vertex_bytes l.format v) wide_vertex j k)

  pub vertex_put_holds : Holds l vertex_base vertex_growth
  vertex_put_holds = entry_put_holds l.vertices base grown i (vertex_bytes l.format v) l h

module _ (l : Layout) (base grown : List ℕ) (h : Holds l base grown) (i : ℕ) (r : Record) where
  abbrev record_base : List ℕ
  record_base = base_into l.records base i (record_bytes l.format r)

  abbrev record_growth : List ℕ
  record_growth = grown_into l.records grown i (record_bytes l.format r)

  wide_record : length (record_bytes l.format r) ≡ l.records.width
  wide_record = record_wide_lem l.format r ∙ h.record_wide

  pub record_put_lem : RecordFits l.format r → i < l.records.end → record_in l record_base record_growth ≡ put_at i r (record_in l base grown)
  unfolding record_in
  record_put_lem f = entry_put_lem l.records base grown i (record_bytes l.format r) (record_from l.format) r (record_again_lem l.format r f) wide_record h.records

  pub record_put_vertices : vertex_in l record_base record_growth ≡ vertex_in l base grown
  unfolding vertex_in
  record_put_vertices =
      λ k j. vertex_from l.format (held_before l.vertices l.records h.apart base grown i (record_bytes l.format r) j k)

  pub record_put_holds : Holds l record_base record_growth
  record_put_holds = entry_put_holds l.records base grown i (record_bytes l.format r) l h
