-- What check reads from the bytes of a numbered set of cuts: the tables hold just what was numbered. Assumes nothing.
use Rattle.std.specs.Prelude.{◌≡◌, refl, [], ℕ, zero, suc, ◌-◌, ◌≤◌, ◌<◌, get_or, nat_abs}
use Rattle.std.proofs.Common.{sym, ap, ◌∙◌, subst, inl, inr, ⊎_elim, arith, lt-ltb, le-ltb}
use Rattle.laws.specs.Below.{either, list_length, list_at}
use Rattle.laws.specs.Lists.{bytes_none, bytes_cons}
use Rattle.algebra.specs.Absolute.{difference_is, abs_difference_is}
use Rattle.piece.specs.declared.Piece as Declared
use Rattle.piece.specs.Shape.{Shape, mark, flag_fits, Valid}
use Rattle.grid.specs.declared.Place.{Place}
use Rattle.grid.specs.Places.{coordinate, point_of, halfway_of, shift}
use Rattle.grid.specs.PlaceLaws.{Held}
use Rattle.grid.specs.Corners.{Midpoint}
use Rattle.grid.specs.GridTheorems.{halfway_exactly, halfway_only}
use Rattle.stored.specs.declared.Kind.{Kind}
use Rattle.stored.specs.Layout.{RightKind, stored_as}
use Rattle.stored.specs.Fitting.{OrNone, VertexFits, MaterialFits, RecordFits, U16, U32}
use Rattle.stored.specs.Meshes.{base_within, Counted, MeshFits, mesh_header, mesh_vertex, mesh_record}
use Rattle.mesh_tables.specs.Tables.{tables_of}
use Rattle.check_meaning.specs.Tests.{equal, and_passes, or_passes}
use Rattle.check_meaning.specs.Accepted.{OnGrid, RightMarks}
use Rattle.check_meaning.specs.Bases.{valid_is}
use Rattle.check_meaning.proofs.Bases.{valid_marks}
use Rattle.cuts_names.specs.Pieces.{generation, piece_at}
use Rattle.cuts_names.proofs.Macro.{node_valid}
use Rattle.cuts.specs.Sets.{Cuts}
use Rattle.cuts.specs.Depth.{there_rooted}
use Rattle.cuts.specs.Smaller.{by_smaller}
use Rattle.cuts.specs.LinkNames.{base_or_beyond}
use Rattle.demands_words.specs.Words.{BaseMesh, named, ProperlyMarked, Numbering, VerticesNumbered, RecordsNumbered, vertex_of, record_of, header_for, written, RightSet}
use Rattle.demands_proofs.specs.Holds.{Holds}
use Rattle.demands_proofs.specs.MarkedBase.{properly_marked}
use Rattle.demands_proofs.specs.Counts.{vertices_within, records_within}

-- ---- places

-- A coordinate on the grid stands at a place that a u16 holds.
grid_held : (p : ℕ) → OnGrid (coordinate p) → p ≤ 65535
unfolding coordinate
grid_held p g =
    ⊎_elim
    (λ l. omega arith)
    (λ l. let far : nat_abs (coordinate p) ≡ p - shift = ap nat_abs (difference_is p shift) ∙ abs_difference_is p shift l in omega (arith, g.within))
    (base_or_beyond p shift)

-- So does what stands halfway between two that are held.
halfway_held : (w a c : Place) → Midpoint (point_of w) (point_of a) (point_of c) → Held a → Held c → Held w
unfolding halfway_of
halfway_held w a c m ha hc =
    subst Held (sym (halfway_only w a c ((halfway_exactly w a c).1 m)))
    (record { x = omega (arith, ha.x, hc.x); y = omega (arith, ha.y, hc.y); z = omega (arith, ha.z, hc.z) })

-- ---- shapes

-- A valid shape has edge codes for its edge and marks, and a flag of 0 or 1.
record Small (s : Shape) : Type 0 where
  edge : s.edge < 6
  marks : (i : ℕ) → i < 4 → mark s i < 6
  flag : s.flag ≤ 1

valid_small : (s : Shape) → Valid s → Small s
unfolding flag_fits
valid_small s v =
    let p : Declared.Piece = record { corners = []; edge = s.edge; marks = s.marks; flag = s.flag; generation = 0; material = 0 } in
    let r : RightMarks p = valid_marks p v in
    record {
      edge = r.edge;
      marks = λ i l. (r.marks i l).code;
      flag = ⊎_elim (λ e. omega arith) (λ e. omega arith) ((or_passes (equal s.flag 0) (and_passes (equal s.flag 1) (λ t. t, λ t. t))).0 ((valid_is s).0 v.valid).1.1);
    }

module _ (b : BaseMesh) (C : Cuts b.pieces) (N : Numbering) (marked : ProperlyMarked b) where
  -- Every place is held.
  places_held : VerticesNumbered b C N → (v : ℕ) → v < N.vertices → Held (N.place_at v)
  places_held nv v h = by_smaller (λ v. v < N.vertices → Held (N.place_at v)) step v h
    where
      step : (v : ℕ) → ((u : ℕ) → u < v → u < N.vertices → Held (N.place_at u)) → v < N.vertices → Held (N.place_at v)
      step v below h =
          ⊎_elim
          (λ l.
          let (x, y, z) = marked.on_grid_lem v l in
          subst Held (sym (nv.base_place v l)) (record { x = grid_held _ x; y = grid_held _ y; z = grid_held _ z }))
          (λ l.
          let m = nv.made v l h in
          halfway_held (N.place_at v) (N.place_at (N.p_at v)) (N.place_at (N.q_at v)) m.halfway
          (below (N.p_at v) (omega (arith, m.p<q, m.q<v)) (omega (arith, m.p<q, m.q<v)))
          (below (N.q_at v) m.q<v (omega (arith, m.q<v))))
          (base_or_beyond v b.vertices)

  -- The piece of every record is validly marked.
  pub record_valid : RecordsNumbered b C N → (r : ℕ) → r < N.records → Valid (piece_at (named b) (N.node_at r)).shape
  record_valid nr r h = node_valid (properly_marked b marked) (N.node_at r) (there_rooted C (N.node_at r) (nr.there r h))

module _ (k : Kind) (k_right : RightKind k) (job round : ℕ) (b : BaseMesh) (C : Cuts b.pieces) (right : RightSet k.limits b C) (N : Numbering) (nv : VerticesNumbered b C N) (nr : RecordsNumbered b C N) (job_fits : U32 job) (round_fits : U16 round) where
  few_vertices : N.vertices ≤ k.limits.vertices
  few_vertices = vertices_within k.limits b C right.fits N nv

  few_records : N.records ≤ k.limits.records
  few_records = records_within k.limits b C right.fits N nr

  vertex_fits : (v : ℕ) → v < N.vertices → VertexFits k.format (vertex_of b N v)
  vertex_fits v h =
      let held = places_held b C N right.marked nv v h in
      record {
        x = omega (arith, held.x);
        y = omega (arith, held.y);
        z = omega (arith, held.z);
        p = ⊎_elim (λ l. inl (rw (lt-ltb v b.vertices l))) (λ l. inr (rw (le-ltb v b.vertices l) (let m = nv.made v l h in omega (arith, few_vertices, m.p<q, m.q<v, k_right.vertices)))) (base_or_beyond v b.vertices);
        q = ⊎_elim (λ l. inl (rw (lt-ltb v b.vertices l))) (λ l. inr (rw (le-ltb v b.vertices l) (let m = nv.made v l h in omega (arith, few_vertices, m.q<v, k_right.vertices)))) (base_or_beyond v b.vertices);
      }

  -- Its header's numbers fit, and its tables are as long as these say.
  pub written_counted : Counted k (written job round b N)
  written_counted =
      record {
        header = record {
          job = job_fits;
          round = round_fits;
          base_vertices = omega (arith, few_vertices, nv.base_first, k_right.vertices);
          vertices = omega (arith, few_vertices, k_right.vertices);
          base_records = omega (arith, few_records, nr.base_first, k_right.records);
          records = omega (arith, few_records, k_right.records);
        };
        vertex_count = list_length (vertex_of b N) N.vertices;
        record_count = list_length (record_of b N) N.records;
        within = base_within k (header_for job round b N) nv.base_first nr.base_first;
      }

  -- The header that is read is the one that was written.
  pub header_read : (tables_of (stored_as k k_right (written job round b N))).header ≡ header_for job round b N
  unfolding tables_of stored_as
  header_read = mesh_header k k_right (written job round b N) written_counted

  module _ (materials : (r : ℕ) → r < b.pieces → MaterialFits k.format.material (b.material_at r)) where
    record_fits : (r : ℕ) → r < N.records → RecordFits k.format (record_of b N r)
    record_fits r h =
        let s = (piece_at (named b) (N.node_at r)).shape in
        let small = valid_small s (record_valid b C N right.marked nr r h) in
        let byte : (i : ℕ) → i < 4 → mark s i < 256 = λ i l. omega (arith, small.marks i l) in
        record {
          four_corners = refl;
          corners = corner;
          edge = omega (arith, small.edge);
          four_marks = refl;
          marks = bytes_cons (byte 0 (omega arith)) (bytes_cons (byte 1 (omega arith)) (bytes_cons (byte 2 (omega arith)) (bytes_cons (byte 3 (omega arith)) bytes_none)));
          flag = omega (arith, small.flag);
          generation = omega (arith, right.shallow (N.node_at r) (nr.there r h));
          first_child = ⊎_elim (λ c. let cut = nr.cut r h c in inr (omega (arith, cut.there, few_records, k_right.records))) (λ f. inl (nr.uncut r h f)) (either (C.has (N.node_at r)));
          material = materials (N.node_at r).root (there_rooted C (N.node_at r) (nr.there r h));
        }
      where
        below : (j : ℕ) → j < 4 → OrNone k.format (N.corner_at r j)
        below j l = inr (omega (arith, nr.corner_there r h j l, few_vertices, k_right.vertices))

        corner : (j : ℕ) → OrNone k.format (get_or (record_of b N r).piece.corners j 0)
        corner zero = below 0 (omega arith)
        corner (suc zero) = below 1 (omega arith)
        corner (suc (suc zero)) = below 2 (omega arith)
        corner (suc (suc (suc zero))) = below 3 (omega arith)
        corner (suc (suc (suc (suc j)))) = inr (omega (arith, k_right.vertices))

    -- Every number of the mesh fits its stored width.
    pub written_fits : MeshFits k (written job round b N)
    written_fits =
        let vertices = list_length (vertex_of b N) N.vertices in
        let records = list_length (record_of b N) N.records in
        record {
          counts = written_counted;
          vertices = λ j d l. let h : j < N.vertices = omega arith in subst (VertexFits k.format) (sym (list_at (vertex_of b N) N.vertices j d h)) (vertex_fits j h);
          records = λ j d l. let h : j < N.records = omega arith in subst (RecordFits k.format) (sym (list_at (record_of b N) N.records j d h)) (record_fits j h);
        }

    -- The tables that are read hold what was numbered.
    pub written_holds : Holds (tables_of (stored_as k k_right (written job round b N))) b N
    unfolding tables_of stored_as
    written_holds =
        record {
          base_vertices_lem = λ i. (header_read i).base_vertices;
          vertices = λ i. (header_read i).vertices;
          base_records_lem = λ i. (header_read i).base_records;
          records = λ i. (header_read i).records;
          vertex_at =
              λ v h.
              mesh_vertex k k_right (written job round b N) written_fits v (vertex_of b N v) (rw (list_length (vertex_of b N) N.vertices) h)
              ∙ list_at (vertex_of b N) N.vertices v (vertex_of b N v) h;
          record_at =
              λ r h.
              mesh_record k k_right (written job round b N) written_fits r (record_of b N r) (rw (list_length (record_of b N) N.records) h)
              ∙ list_at (record_of b N) N.records r (record_of b N r) h;
        }
