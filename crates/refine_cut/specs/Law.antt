-- The cut in two slices is the cut of their tables.
use Rattle.std.specs.Prelude.{◌≡◌, refl, Bool, true, false, cond, ℕ, ◌+◌, ◌≤◌, ◌<◌, eqb}
use Rattle.std.proofs.Common.{sym, ◌∙◌, subst, arith}
use Rattle.std.proofs.Math.Path.{ap}
use Rattle.std.proofs.Math.Logic.{inr}
use borrow.Author.Tests.{lt-ltb}
use Rattle.laws.specs.Below.{put_at, first_at_most}
use Rattle.laws.specs.Lists.{Bytes}
use Rattle.piece.specs.declared.Ends.{Ends}
use Rattle.piece.specs.Ends.{lower_end, higher_end, ends_of}
use Rattle.piece_cut.specs.Cut.{cut_of}
use Rattle.stored.specs.declared.Layout.{Layout}
use Rattle.stored.specs.declared.Vertex.{Vertex}
use Rattle.stored.specs.declared.Record.{Record}
use Rattle.stored.specs.Layout.{stored_none, vertex_bytes, record_bytes, vertex_in, record_in}
use Rattle.stored.specs.Fitting.{OrNone, VertexFits, RecordFits, into_base_bytes, into_growth_bytes, vertex_fits, record_fits}
use Rattle.stored.specs.Entries.{vertex_is_bytes, record_is_bytes}
use Rattle.stored.specs.Tables.{Holds, vertex_put_lem, vertex_put_records, vertex_put_holds, record_put_holds}
use Rattle.mesh_tables.specs.Tables.{Tables, has_parents, vertex_with, refinement_ends}
use Rattle.refine_cut.specs.Cut.{midpoint_of, one_vertex_more, with_midpoint, cut_record, leaf_record}
use Rattle.refine_cut.specs.Slices.{Slices, tables_in, vertex_put, record_put, headed, midpoint_put, children_put, has_room, cut_with, cut_put}
use Rattle.refine_cut.specs.Fits.{cut_record_fits, children_fit, midpoint_fits}

-- What a cut asks of the slices: they hold the layout's tables, which have room for one vertex and two records more and no number that
-- would read as none; and record n is there.
pub record Ready (l : Layout) (s : Slices) (n : ℕ) : Type 0 where
  pub holds : Holds l s.base s.grown
  pub base_bytes : Bytes s.base
  pub grown_bytes : Bytes s.grown
  pub vertex_room : s.header.vertices < l.vertices.end
  pub record_room : s.header.records + 1 < l.records.end
  pub few_vertices : l.vertices.end ≤ stored_none l.format
  pub few_records : l.records.end ≤ stored_none l.format
  pub there : n < s.header.records

-- ---- one record written

module _ (l : Layout) (s : Slices) (h : Holds l s.base s.grown) (i : ℕ) (r : Record) where
  put_holds : Holds l (record_put l s i r).base (record_put l s i r).grown
  unfolding record_put
  put_holds = record_put_holds l s.base s.grown h i r

module _ (l : Layout) (s : Slices) (i : ℕ) (r : Record) (f : RecordFits l.format r) where
  put_base_bytes : Bytes s.base → Bytes (record_put l s i r).base
  unfolding record_put
  put_base_bytes b = into_base_bytes l.records s.base i (record_bytes l.format r) b (record_is_bytes l.format r f)

  put_growth_bytes : Bytes s.grown → Bytes (record_put l s i r).grown
  unfolding record_put
  put_growth_bytes b = into_growth_bytes l.records s.grown i (record_bytes l.format r) b (record_is_bytes l.format r f)

-- ---- the two children

module _ (l : Layout) (s : Slices) (h : Holds l s.base s.grown) (n w : ℕ) (f : RecordFits l.format (record_in l s.base s.grown n)) (small : OrNone l.format w)
    (room : s.header.records + 1 < l.records.end) (few : l.records.end ≤ stored_none l.format) (there : n < s.header.records) where
  abbrev pub r : Record
  r = record_in l s.base s.grown n

  abbrev pub first : ℕ
  first = s.header.records

  abbrev pub cut : Slices
  cut = record_put l s n (cut_record r.piece first)

  abbrev pub one : Slices
  one = record_put l cut first (leaf_record (cut_of r.piece w).first)

  pub cut_holds : Holds l cut.base cut.grown
  cut_holds = put_holds l s h n (cut_record r.piece first)

  pub one_holds : Holds l one.base one.grown
  one_holds = put_holds l cut cut_holds first (leaf_record (cut_of r.piece w).first)

  children_holds : Holds l (children_put l s n r w).base (children_put l s n r w).grown
  unfolding children_put
  children_holds = put_holds l one one_holds (first + 1) (leaf_record (cut_of r.piece w).second)

  children_bytes : Bytes s.base × Bytes s.grown → Bytes (children_put l s n r w).base × Bytes (children_put l s n r w).grown
  unfolding children_put
  children_bytes b =
      let fc = cut_record_fits l.format r first f (inr (omega arith)) in
      let fo = (children_fit l.format r f w small).0 in
      let ft = (children_fit l.format r f w small).1 in (
        put_base_bytes l one (first + 1) (leaf_record (cut_of r.piece w).second) ft (put_base_bytes l cut first (leaf_record (cut_of r.piece w).first) fo (put_base_bytes l s n (cut_record r.piece first) fc b.0)),
        put_growth_bytes l one (first + 1) (leaf_record (cut_of r.piece w).second) ft (put_growth_bytes l cut first (leaf_record (cut_of r.piece w).first) fo (put_growth_bytes l s n (cut_record r.piece first) fc b.1)),
      )

-- ---- the midpoint

-- The slices with the midpoint: their tables, that they hold them, and what the cut goes on with.
pub record Midway (l : Layout) (s t : Slices) (ends : Ends) : Type 0 where
  pub same : tables_in l t ≡ with_midpoint (tables_in l s) ends
  pub holds : Holds l t.base t.grown
  pub records : record_in l t.base t.grown ≡ record_in l s.base s.grown
  pub counted : t.header.records ≡ s.header.records
  pub bytes : Bytes s.base × Bytes s.grown → Bytes t.base × Bytes t.grown

module _ (l : Layout) (s : Slices) (h : Holds l s.base s.grown) (ends : Ends) (f : VertexFits l.format (midpoint_of (vertex_in l s.base s.grown) ends))
    (room : s.header.vertices < l.vertices.end) where
  midway : Midway l s (midpoint_put l s ends (vertex_with (tables_in l s) ends)) ends
  unfolding midpoint_put with_midpoint vertex_put
  midway =
      let r = go (eqb (vertex_with (tables_in l s) ends) s.header.vertices) in
      record { same = r.0; holds = r.1; records = r.2; counted = r.3; bytes = r.4 }
    where
      v : Vertex
      v = midpoint_of (vertex_in l s.base s.grown) ends

      more : Slices
      more = headed (one_vertex_more s.header) (vertex_put l s s.header.vertices v)

      appended : Tables
      appended = record { header = one_vertex_more s.header; vertex_at = put_at s.header.vertices v (vertex_in l s.base s.grown); record_at = record_in l s.base s.grown }

      more_records : record_in l more.base more.grown ≡ record_in l s.base s.grown
      more_records = vertex_put_records l s.base s.grown h s.header.vertices v

      more_vertices : vertex_in l more.base more.grown ≡ put_at s.header.vertices v (vertex_in l s.base s.grown)
      more_vertices = vertex_put_lem l s.base s.grown h s.header.vertices v f room

      more_same : tables_in l more ≡ appended
      more_same = λ k. record { header = one_vertex_more s.header; vertex_at = more_vertices k; record_at = more_records k }

      more_holds : Holds l more.base more.grown
      more_holds = vertex_put_holds l s.base s.grown h s.header.vertices v

      more_bytes : Bytes s.base × Bytes s.grown → Bytes more.base × Bytes more.grown
      more_bytes b = (
        into_base_bytes l.vertices s.base s.header.vertices (vertex_bytes l.format v) b.0 (vertex_is_bytes l.format v),
        into_growth_bytes l.vertices s.grown s.header.vertices (vertex_bytes l.format v) b.1 (vertex_is_bytes l.format v),
      )

      go : (b : Bool) → (tables_in l (cond b more s) ≡ cond b appended (tables_in l s)) × (Holds l (cond b more s).base (cond b more s).grown) × (record_in l (cond b more s).base (cond b more s).grown ≡ record_in l s.base s.grown) × ((cond b more s).header.records ≡ s.header.records) × (Bytes s.base × Bytes s.grown → Bytes (cond b more s).base × Bytes (cond b more s).grown)
      go true = (more_same, more_holds, more_records, refl, more_bytes)
      go false = (refl, h, refl, refl, λ b. b)

-- ---- the whole cut

module _ (l : Layout) (s : Slices) (n : ℕ) (ready : Ready l s n) where
  abbrev pub record_n : Record
  record_n = record_in l s.base s.grown n

  abbrev pub ends_n : Ends
  ends_n = refinement_ends record_n.piece

  abbrev pub w_n : ℕ
  w_n = vertex_with (tables_in l s) ends_n

  abbrev pub with_midpoint_lem : Slices
  with_midpoint_lem = midpoint_put l s ends_n w_n

  pub half : Midway l s with_midpoint_lem ends_n
  unfolding ends_of
  half =
      let stored = record_fits l s.base s.grown ready.base_bytes ready.grown_bytes n in
      midway l s ready.holds ends_n
      (midpoint_fits l.format (vertex_in l s.base s.grown) ends_n
      (vertex_fits l s.base s.grown ready.base_bytes ready.grown_bytes ends_n.lower)
      (vertex_fits l s.base s.grown ready.base_bytes ready.grown_bytes ends_n.higher)
      (stored.corners (lower_end record_n.piece record_n.piece.edge))
      (stored.corners (higher_end record_n.piece record_n.piece.edge)))
      ready.vertex_room

  pub small : OrNone l.format w_n
  unfolding vertex_with
  small = inr (omega (arith, first_at_most (has_parents (tables_in l s) ends_n) s.header.vertices, ready.vertex_room, ready.few_vertices))

  pub same_record : record_in l with_midpoint_lem.base with_midpoint_lem.grown n ≡ record_n
  same_record = λ k. half.records k n

  pub record_is_stored : RecordFits l.format (record_in l with_midpoint_lem.base with_midpoint_lem.grown n)
  record_is_stored = subst (RecordFits l.format) (sym same_record) (record_fits l s.base s.grown ready.base_bytes ready.grown_bytes n)

  pub room_left : with_midpoint_lem.header.records + 1 < l.records.end
  room_left = omega (arith, half.counted, ready.record_room)

  pub still_there : n < with_midpoint_lem.header.records
  still_there = omega (arith, half.counted, ready.there)

  pub cut_is : cut_put l s n ≡ children_put l with_midpoint_lem n record_n w_n
  unfolding cut_put cut_with has_room
  cut_is = rw (lt-ltb s.header.vertices l.vertices.end ready.vertex_room, lt-ltb (s.header.records + 1) l.records.end ready.record_room)

  -- The slices still hold the layout's tables.
  pub cut_holds_on : Holds l (cut_put l s n).base (cut_put l s n).grown
  cut_holds_on =
      subst (λ (t : Slices). Holds l t.base t.grown)
      (sym (cut_is ∙ ap (λ (r : Record). children_put l with_midpoint_lem n r w_n) (sym same_record)))
      (children_holds l with_midpoint_lem half.holds n w_n record_is_stored small room_left ready.few_records still_there)

  -- They still are bytes.
  pub cut_bytes : Bytes (cut_put l s n).base × Bytes (cut_put l s n).grown
  cut_bytes =
      subst (λ (t : Slices). Bytes t.base × Bytes t.grown)
      (sym (cut_is ∙ ap (λ (r : Record). children_put l with_midpoint_lem n r w_n) (sym same_record)))
      (children_bytes l with_midpoint_lem half.holds n w_n record_is_stored small room_left ready.few_records still_there (half.bytes (ready.base_bytes, ready.grown_bytes)))
