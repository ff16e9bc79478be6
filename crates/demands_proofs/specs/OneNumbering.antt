-- A byte string stores one job, one round and one numbering only. Assumes nothing.
use Rattle.std.specs.Prelude.{◌≡◌, [], ◌∷◌, ℕ, zero, suc, ◌<◌}
use Rattle.std.proofs.Common.{sym, ap, ◌∙◌, arith, le-ltb}
use Rattle.stored.specs.declared.Vertex.{Vertex}
use Rattle.stored.specs.declared.Record.{Record}
use Rattle.stored.specs.Layout.{Stored}
use Rattle.mesh_tables.specs.Tables.{tables_of}
use Rattle.cuts.specs.Tables.{name_of}
use Rattle.demands_words.specs.Words.{vertex_of, record_of, StoredMesh, SameNumbering}
use Rattle.demands_proofs.specs.Link.{link}
use Rattle.demands_proofs.specs.HoldsGrown.{name_is}
use Rattle.demands_proofs.specs.FromStored as From

-- Four in a list are the same, slot by slot.
each_slot_lem : (f g : ℕ → ℕ) → (f 0 ∷ f 1 ∷ f 2 ∷ f 3 ∷ []) ≡ (g 0 ∷ g 1 ∷ g 2 ∷ g 3 ∷ []) → (k : ℕ) → k < 4 → f k ≡ g k
each_slot_lem f g e zero l = cc
each_slot_lem f g e (suc zero) l = cc
each_slot_lem f g e (suc (suc zero)) l = cc
each_slot_lem f g e (suc (suc (suc zero))) l = cc
each_slot_lem f g e (suc (suc (suc (suc k)))) l = absurd (omega arith)

-- A vertex's name is the one that the tables give it.
stored_name : (s : Stored) (x : StoredMesh s) (v : ℕ) → v < x.stores.numbers.vertices → name_of (link (tables_of s)) v ≡ x.stores.numbers.name_at v
stored_name s x =
    let y = x.stores in
    name_is (tables_of s) x.base x.cuts y.numbers (From.holds s x) y.vertices_numbered y.records_numbered (From.marks_four s x) (From.few s x) (From.lawful s x)

module _ (s : Stored) (x x' : StoredMesh s) where
  pub stored_one_job : x.job ≡ x'.job
  stored_one_job = sym (From.stored_job s x) ∙ From.stored_job s x'

  pub stored_one_round : x.round ≡ x'.round
  stored_one_round = sym (From.stored_round s x) ∙ From.stored_round s x'

  -- The tables hold both.
  pub stored_one_numbering : SameNumbering x.base x.stores.numbers x'.stores.numbers
  stored_one_numbering =
      let N = x.stores.numbers in
      let N' = x'.stores.numbers in
      let holds = From.holds s x in
      let holds' = From.holds s x' in
      let vertices : N.vertices ≡ N'.vertices = sym holds.vertices ∙ holds'.vertices in
      let records : N.records ≡ N'.records = sym holds.records ∙ holds'.records in
      let base : x.base.vertices ≡ x'.base.vertices = sym holds.base_vertices_lem ∙ holds'.base_vertices_lem in
      let vertex : (v : ℕ) → v < N.vertices → vertex_of x.base N v ≡ vertex_of x'.base N' v = λ v h. sym (holds.vertex_at v h) ∙ holds'.vertex_at v (omega arith) in
      let entry : (r : ℕ) → r < N.records → record_of x.base N r ≡ record_of x'.base N' r = λ r h. sym (holds.record_at r h) ∙ holds'.record_at r (omega arith) in
      record {
        vertices = vertices;
        records = records;
        name_at = λ v h. sym (stored_name s x v h) ∙ stored_name s x' v (omega arith);
        place_at = λ v h. ap (λ (t : Vertex). t.place) (vertex v h);
        p_at = λ v l h. rw (le-ltb v x.base.vertices l, le-ltb v x'.base.vertices (omega arith)) at (ap (λ (t : Vertex). t.p) (vertex v h));
        q_at = λ v l h. rw (le-ltb v x.base.vertices l, le-ltb v x'.base.vertices (omega arith)) at (ap (λ (t : Vertex). t.q) (vertex v h));
        node_at = λ r h. sym (From.stored_node s x r h) ∙ From.stored_node s x' r (omega arith);
        corner_at = λ r h. each_slot_lem (N.corner_at r) (N'.corner_at r) (ap (λ (t : Record). t.piece.corners) (entry r h));
        first_at = λ r h. ap (λ (t : Record). t.first_child) (entry r h);
      }
