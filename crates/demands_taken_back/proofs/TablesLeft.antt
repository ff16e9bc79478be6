-- Of specs/TablesLeft.antt, the theorems that an edit of a definition breaks, and what only they need.
use Rattle.std.specs.Prelude.{◌≡◌, Bool, true, false, cond, [], ◌∷◌, ℕ, ◌+◌, ◌≤◌, ◌<◌, ltb}
use Rattle.std.proofs.Common.{sym, ap, ◌∙◌, subst, ⊎_elim, arith, le-ltb, ltb-true, ltb-false}
use Rattle.laws.specs.Below.{either, count_below}
use Rattle.laws.specs.Lists.{four_of}
use Rattle.laws_remaining.specs.Remaining.{old_below, old_there, old_first}
use Rattle.piece.specs.Ends.{corner_at}
use Rattle.stored.specs.declared.Vertex.{Vertex}
use Rattle.stored.specs.declared.Record.{Record}
use Rattle.stored.specs.Layout.{none}
use Rattle.mesh_tables.specs.Tables as Check
use Rattle.mesh_tables.specs.Tables.{all_vertices, all_records}
use Rattle.cuts_names.specs.Lists.{not_so, both_ways}
use Rattle.cuts.specs.Sets.{Cuts, There, CutsWithin}
use Rattle.demands_words.specs.Words.{BaseMesh, ProperlyMarked, Numbering, VerticesNumbered, RecordsNumbered, vertex_of, record_of}
use Rattle.demands_proofs.specs.Holds.{Holds}
use Rattle.demands_proofs.specs.HeldEntries.{corner_at_lem}
use Rattle.demands_taken_back.specs.Renumbered.{StillThere, numbers_left, base_vertex_stays, made_before, parents_stay, corners_stay}
use Rattle.demands_taken_back.specs.TablesLeft.{VertexLeft, RecordLeft, TablesLeft}

module _ (b : BaseMesh) (marked : ProperlyMarked b) (C D : Cuts b.pieces) (inside : CutsWithin D C) (N : Numbering) (nv : VerticesNumbered b C N) (nr : RecordsNumbered b C N)
    (vertex_stays record_stays : ℕ → Bool) (still : StillThere b D N vertex_stays record_stays)
    (vertices_below : (v : ℕ) → vertex_stays v ≡ true → v < N.vertices) (records_below : (r : ℕ) → record_stays r ≡ true → r < N.records)
    (few_vertices : N.vertices ≤ none) (few_records : N.records ≤ none)
    (m m' : Check.Tables) (holds : Holds m b N) (left : TablesLeft m m' vertex_stays record_stays)
  where
    abbrev N' : Numbering
    N' = numbers_left b D N vertex_stays record_stays

    -- None does not remain.
    no_vertex : vertex_stays none ≡ false
    no_vertex = not_so (vertex_stays none) (λ t. let l = vertices_below none t in omega arith)

    no_record : record_stays none ≡ false
    no_record = not_so (record_stays none) (λ t. let l = records_below none t in omega arith)

    count : all_vertices m' ≡ N'.vertices
    count = left.vertices ∙ ap (λ (n : ℕ). count_below n vertex_stays) holds.vertices

    record_count_lem : all_records m' ≡ N'.records
    record_count_lem = left.records ∙ ap (λ (n : ℕ). count_below n record_stays) holds.records

    -- ---- vertices

    module _ (k : ℕ) (h : k < N'.vertices) where
      abbrev v : ℕ
      v = old_below N.vertices vertex_stays k

      older : (v < N.vertices) × (vertex_stays v ≡ true) × (count_below v vertex_stays ≡ k)
      older = old_there vertex_stays N.vertices k h

      entry : VertexLeft vertex_stays (vertex_of b N v) (m'.vertex_at k)
      entry =
          let e = left.vertex_at k (omega (arith, h, count)) in
          subst (λ (u : Vertex). VertexLeft vertex_stays u (m'.vertex_at k)) (ap (λ (n : ℕ). m.vertex_at (old_below n vertex_stays k)) holds.vertices ∙ holds.vertex_at v older.0) e

      vertex_left : m'.vertex_at k ≡ vertex_of b N' k
      vertex_left = ⊎_elim base made (either (ltb k b.vertices))
        where
          base : ltb k b.vertices ≡ true → m'.vertex_at k ≡ vertex_of b N' k
          base t =
              let same : v ≡ k = old_first vertex_stays N.vertices b.vertices nv.base_first (base_vertex_stays b marked C D inside N nv nr vertex_stays record_stays still) k (ltb-true k b.vertices t) in
              let was : ltb v b.vertices ≡ true = ap (λ (n : ℕ). ltb n b.vertices) same ∙ t in
              let p_gone : vertex_stays (vertex_of b N v).p ≡ false = ap (λ (x : Bool). vertex_stays (cond x none (N.p_at v))) was ∙ no_vertex in
              let q_gone : vertex_stays (vertex_of b N v).q ≡ false = ap (λ (x : Bool). vertex_stays (cond x none (N.q_at v))) was ∙ no_vertex in
              let p = entry.p.gone p_gone ∙ ap (λ (x : Bool). cond x none (N'.p_at k)) (sym t) in
              let q = entry.q.gone q_gone ∙ ap (λ (x : Bool). cond x none (N'.q_at k)) (sym t) in
              λ i. record { place = entry.place i; p = p i; q = q i }

          made : ltb k b.vertices ≡ false → m'.vertex_at k ≡ vertex_of b N' k
          made f =
              let (below, stays, new) = older in
              let beyond = made_before b marked C D inside N nv nr vertex_stays record_stays still k (ltb-false k b.vertices f) h in
              let was : ltb v b.vertices ≡ false = le-ltb v b.vertices beyond in
              let (p_stays, q_stays) = parents_stay b marked C D inside N nv nr vertex_stays record_stays still v beyond below stays in
              let at_p : (vertex_of b N v).p ≡ N.p_at v = ap (λ (x : Bool). cond x none (N.p_at v)) was in
              let at_q : (vertex_of b N v).q ≡ N.q_at v = ap (λ (x : Bool). cond x none (N.q_at v)) was in
              let p = entry.p.remains (ap vertex_stays at_p ∙ p_stays) ∙ ap (λ (n : ℕ). count_below n vertex_stays) at_p ∙ ap (λ (x : Bool). cond x none (N'.p_at k)) (sym f) in
              let q = entry.q.remains (ap vertex_stays at_q ∙ q_stays) ∙ ap (λ (n : ℕ). count_below n vertex_stays) at_q ∙ ap (λ (x : Bool). cond x none (N'.q_at k)) (sym f) in
              λ i. record { place = entry.place i; p = p i; q = q i }

    -- ---- records

    module _ (k : ℕ) (h : k < N'.records) where
      abbrev r : ℕ
      r = old_below N.records record_stays k

      was_there : (r < N.records) × (record_stays r ≡ true) × (count_below r record_stays ≡ k)
      was_there = old_there record_stays N.records k h

      record_entry : RecordLeft vertex_stays record_stays (record_of b N r) (m'.record_at k)
      record_entry =
          let e = left.record_at k (omega (arith, h, record_count_lem)) in
          subst (λ (u : Record). RecordLeft vertex_stays record_stays u (m'.record_at k)) (ap (λ (n : ℕ). m.record_at (old_below n record_stays k)) holds.records ∙ holds.record_at r was_there.0) e

      -- The first child of a record that stays cut stays, and that of another does not.
      first_left : (m'.record_at k).first_child ≡ N'.first_at k
      first_left = ⊎_elim stays_cut_lem uncut (either (D.has (N.node_at r)))
        where
          stays_cut_lem : D.has (N.node_at r) ≡ true → (m'.record_at k).first_child ≡ N'.first_at k
          stays_cut_lem t =
              let c = nr.cut r was_there.0 (inside (N.node_at r) t) in
              let f = N.first_at r in
              let next : f + 1 < N.records = c.there in
              let first_stays : record_stays f ≡ true = (still.records f (omega arith)).1 (subst (There D) (sym c.first) t) in
              record_entry.first.remains first_stays ∙ ap (λ (x : Bool). cond x (count_below f record_stays) none) (sym t)

          gone : D.has (N.node_at r) ≡ false → record_stays (N.first_at r) ≡ false
          gone u =
              ⊎_elim
              (λ t.
              let c = nr.cut r was_there.0 t in
              let next : N.first_at r + 1 < N.records = c.there in
              not_so (record_stays (N.first_at r)) (λ y. both_ways (subst (There D) c.first ((still.records (N.first_at r) (omega arith)).0 y)) u))
              (λ f. ap record_stays (nr.uncut r was_there.0 f) ∙ no_record)
              (either (C.has (N.node_at r)))

          uncut : D.has (N.node_at r) ≡ false → (m'.record_at k).first_child ≡ N'.first_at k
          uncut u = record_entry.first.gone (gone u) ∙ ap (λ (x : Bool). cond x (count_below (N.first_at r) record_stays) none) (sym u)

      record_left : m'.record_at k ≡ record_of b N' k
      record_left =
          let e = record_entry in
          let (below, stays, new) = was_there in
          let p = (m'.record_at k).piece in
          let corner : (j : ℕ) → j < 4 → corner_at p j ≡ N'.corner_at k j = λ j l. (e.corner j l).remains (ap vertex_stays (corner_is j l) ∙ corners_stay b marked C D inside N nv nr vertex_stays record_stays still r below stays j l) ∙ ap (λ (n : ℕ). count_below n vertex_stays) (corner_is j l) in
          let corners : p.corners ≡ (N'.corner_at k 0 ∷ N'.corner_at k 1 ∷ N'.corner_at k 2 ∷ N'.corner_at k 3 ∷ []) =
          sym (four_of p.corners 0 e.four) ∙ (λ i. corner 0 (omega arith) i ∷ corner 1 (omega arith) i ∷ corner 2 (omega arith) i ∷ corner 3 (omega arith) i ∷ []) in
          λ i.
          record {
            piece = record { corners = corners i; edge = e.edge i; marks = e.marks i; flag = e.flag i; generation = e.generation i; material = e.material i };
            first_child = first_left i;
          }
        where
          -- the corners that the numbering's record lists
          corner_is : (j : ℕ) → j < 4 → corner_at (record_of b N r).piece j ≡ N.corner_at r j
          corner_is j l = ap (λ (u : Record). corner_at u.piece j) (sym (holds.record_at r was_there.0)) ∙ corner_at_lem m b C N holds r was_there.0 j l

    -- They hold it.
    pub left_holds : Holds m' b N'
    left_holds =
        record {
          base_vertices_lem = left.base_vertices_lem ∙ holds.base_vertices_lem;
          vertices = count;
          base_records_lem = left.base_records_lem ∙ holds.base_records_lem;
          records = record_count_lem;
          vertex_at = vertex_left;
          record_at = record_left;
        }
