-- Tables that have grown from a base hold their own numbering, and the bytes that refine writes of them store the set to which they have grown.
-- Assumes nothing.
use Rattle.std.specs.Prelude.{◌≡◌, refl, [], ◌∷◌, ℕ, ◌<◌, ltb}
use Rattle.std.proofs.Common.{sym, ◌∙◌, ⊎_elim, ltb-true}
use Rattle.std.proofs.Math.Path.{ap}
use Rattle.stored.specs.Fitting.{U16, U32, MaterialFits}
use Rattle.laws.specs.Below.{either, list_below, list_same}
use Rattle.laws.specs.Lists.{four_of}
use Rattle.piece.specs.Shape.{mark}
use Rattle.piece.specs.Ends.{corner_at}
use Rattle.stored.specs.declared.Kind.{Kind}
use Rattle.stored.specs.Layout.{none, RightKind, Mesh, stored_as}
use Rattle.mesh_tables.specs.Tables as Check
use Rattle.mesh_tables.specs.Tables.{base_vertices, all_vertices, base_records, all_records, piece_at}
use Rattle.check_meaning.specs.Accepted.{parent_p, parent_q}
use Rattle.check_meaning.specs.Cuts.{Four}
use Rattle.refine_service.specs.Refine.{result_of}
use Rattle.cuts.specs.Sets.{Cuts}
use Rattle.cuts.specs.LinkNodes.{linked}
use Rattle.cuts.specs.LinkGrown.{Grown}
use Rattle.demands_words.specs.Words.{BaseMesh, named, Numbering, VerticesNumbered, vertex_of, record_of, written, Stores}
use Rattle.demands_proofs.specs.Link.{link}
use Rattle.demands_proofs.specs.BaseOf.{numbers_of, record_alike}
use Rattle.demands_proofs.specs.Holds.{Holds}
use Rattle.demands_proofs.specs.Materials.{Materials, material_of_base}
use Rattle.demands_proofs.specs.Numbered.{grown_records_lem}

-- ---- entries

module _ (m : Check.Tables) (b : BaseMesh) (D : Cuts b.pieces) (g : Grown (named b) (link m) D) (base_vertices_lem : base_vertices m ≡ b.vertices) where
  -- A vertex of the numbering is the vertex in the table: in the base both parents are none.
  vertex_same : ((v : ℕ) → v < b.vertices → (parent_p m v ≡ none) × (parent_q m v ≡ none)) → (v : ℕ) → m.vertex_at v ≡ vertex_of b (numbers_of m) v
  vertex_same parents v =
      ⊎_elim
      (λ t. let x = parents v (ltb-true v b.vertices t) in rw t (λ i. record { place = (m.vertex_at v).place; p = x.0 i; q = x.1 i }))
      (λ f. rw f refl)
      (either (ltb v b.vertices))

  -- A record of the numbering is the record in the table.
  record_same : Materials m b → (r : ℕ) → r < all_records m → Four (piece_at m r) → m.record_at r ≡ record_of b (numbers_of m) r
  record_same materials r h four =
      let p = piece_at m r in
      let shape = (record_alike m b D g r h).shape in
      let generation = (linked (link m) g.lawful r h).generation in
      let material = material_of_base m b D g materials r h in
      let corners = sym (four_of p.corners 0 four.corners) in
      let marks = sym (four_of p.marks 0 four.marks) in
      let first = (m.record_at r).first_child in
      (λ i.
      record { piece = record { corners = corners i; edge = p.edge; marks = marks i; flag = p.flag; generation = p.generation; material = p.material }; first_child = first })
      ∙ (λ i.
      record {
        piece = record {
          corners = corner_at p 0 ∷ corner_at p 1 ∷ corner_at p 2 ∷ corner_at p 3 ∷ [];
          edge = (shape i).edge;
          marks = mark (shape i) 0 ∷ mark (shape i) 1 ∷ mark (shape i) 2 ∷ mark (shape i) 3 ∷ [];
          flag = (shape i).flag;
          generation = generation i;
          material = material i;
        };
        first_child = first;
      })

  -- The tables hold their own numbering.
  pub grown_holds : ((v : ℕ) → v < b.vertices → (parent_p m v ≡ none) × (parent_q m v ≡ none)) → ((n : ℕ) → n < all_records m → Four (piece_at m n)) → Materials m b → Holds m b (numbers_of m)
  grown_holds parents four materials =
      record {
        base_vertices_lem = base_vertices_lem;
        vertices = refl;
        base_records_lem = sym g.represents.bases;
        records = refl;
        vertex_at = λ v h. vertex_same parents v;
        record_at = λ r h. record_same materials r h (four r h);
      }

-- ---- the whole mesh

-- The tables as a mesh, for a job and a round.
abbrev pub mesh_for : ℕ → ℕ → Check.Tables → Mesh
mesh_for job round m =
    record {
      header = record { job = job; round = round; base_vertices = base_vertices m; vertices = all_vertices m; base_records = base_records m; records = all_records m };
      vertices = list_below (all_vertices m) m.vertex_at;
      records = list_below (all_records m) m.record_at;
    }

module _ (m : Check.Tables) (b : BaseMesh) (N : Numbering) (holds : Holds m b N) where
  -- Tables that hold a numbering are the mesh that is written of it.
  pub holds_written : (job round : ℕ) → mesh_for job round m ≡ written job round b N
  holds_written job round =
      let vertices = holds.vertices in
      let records = holds.records in
      let base_vertices_lem = holds.base_vertices_lem in
      let base_records_lem = holds.base_records_lem in
      (λ i.
      record {
        header = record { job = job; round = round; base_vertices = base_vertices_lem i; vertices = vertices i; base_records = base_records_lem i; records = records i };
        vertices = list_below (vertices i) m.vertex_at;
        records = list_below (records i) m.record_at;
      })
      ∙ (λ i.
      record {
        header = record { job = job; round = round; base_vertices = b.vertices; vertices = N.vertices; base_records = b.pieces; records = N.records };
        vertices = list_same N.vertices m.vertex_at (vertex_of b N) holds.vertex_at i;
        records = list_same N.records m.record_at (record_of b N) holds.record_at i;
      })

  -- The mesh that refine writes of them is that of the numbering, for the job and the round of its header.
  pub grown_written : (job round : ℕ) → (result_of m).header.job ≡ job → (result_of m).header.round ≡ round → result_of m ≡ written job round b N
  unfolding result_of
  grown_written job round is_job is_round =
      (λ i. mesh_for (is_job i) (is_round i) m) ∙ holds_written job round

-- ---- the set that they store

module _ (m : Check.Tables) (b : BaseMesh) (D : Cuts b.pieces) (g : Grown (named b) (link m) D) (base_vertices_lem : base_vertices m ≡ b.vertices) where
  -- What refine writes of grown tables stores their set, for the job and the round of its header.
  pub grown_stores : (k : Kind) (k_right : RightKind k) (job round : ℕ) → U32 job → U16 round → (result_of m).header.job ≡ job → (result_of m).header.round ≡ round →
      ((v : ℕ) → v < b.vertices → (parent_p m v ≡ none) × (parent_q m v ≡ none)) → ((n : ℕ) → n < all_records m → Four (piece_at m n)) →
      Materials m b → ((r : ℕ) → r < b.pieces → MaterialFits k.format.material (b.material_at r)) →
      VerticesNumbered b D (numbers_of m) → Stores (stored_as k k_right (result_of m)) job round b D
  unfolding stored_as
  grown_stores k k_right job round job_fits round_fits is_job is_round parents four materials fit vertices =
      record {
        job_fits = job_fits;
        round_fits = round_fits;
        materials = fit;
        numbers = numbers_of m;
        vertices_numbered = vertices;
        records_numbered = grown_records_lem m b D g base_vertices_lem;
        bytes = ap (stored_as k k_right) (grown_written m b (numbers_of m) (grown_holds m b D g base_vertices_lem parents four materials) job round is_job is_round);
      }
