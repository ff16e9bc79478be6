-- Of specs/One.antt, the theorems that an edit of a definition breaks, and what only they need.
use Rattle.std.specs.Prelude.{◌≡◌, cond, List, [], ◌∷◌, ℕ, ◌+◌, ◌≤◌, ◌<◌, ltb}
use Rattle.std.proofs.Common.{sym, ap, ap₂, ◌∙◌, inl, inr, ⊎_elim, arith, lt-ltb, le-ltb}
use Rattle.laws.specs.Below.{either, list_below, list_same}
use Rattle.laws.specs.Pairs.{pair_in_order}
use Rattle.laws_remaining.specs.InOrder.{same_things, same_count}
use Rattle.piece_edges.specs.Edges.{low_slot, high_slot, slots_small}
use Rattle.piece.specs.Shape.{mark}
use Rattle.grid.specs.Places.{halfway_of}
use Rattle.grid.specs.GridTheorems.{halfway_exactly, halfway_only}
use Rattle.stored.specs.Layout.{none, Stored, of_kind, stored_as, StoredSelection}
use Rattle.cuts_names.proofs.Names.{mid_injective_lem}
use Rattle.cuts_names.specs.Pieces.{Node, generation, high, low, kid, piece_at}
use Rattle.cuts.specs.Sets.{Cuts, CutsWithin}
use Rattle.cuts.specs.Smaller.{by_smaller}
use Rattle.cuts.specs.LinkNames.{base_or_beyond}
use Rattle.cuts_coarser.specs.Remaining.{remains_one}
use Rattle.cuts_coarser.proofs.Remaining.{none_named}
use Rattle.demands_words.specs.Words.{BaseMesh, named, Numbering, VerticesNumbered, RecordsNumbered, first_side, vertex_of, record_of, written, StoredMesh, SameNumbering, count_in}
use Rattle.demands_proofs.specs.MarkedBase.{before_or_same}
use Rattle.demands_taken_back.specs.Words.{NamedPiece, SameOrder, TakenBackFrom}
use Rattle.demands_taken_back.specs.One.{record_in_lem}
use Rattle.demands_taken_back.specs.One as Specs

-- Every vertex of a numbering of D has a number in every numbering of a set that holds D.
vertex_in_lem : (b : BaseMesh) (D C : Cuts b.pieces) → CutsWithin D C → (N M : Numbering) → VerticesNumbered b D N → VerticesNumbered b C M → (v : ℕ) → v < N.vertices → (u : ℕ) × (u < M.vertices) × (M.name_at u ≡ N.name_at v)
vertex_in_lem b D C inside N M nv mv v h =
    ⊎_elim
    (λ l. (v, omega (arith, l, mv.base_first), mv.base_name v l ∙ sym (nv.base_name v l)))
    (λ l. let m = nv.made v l h in let (u, lu, e) = mv.every m.cut (inside m.cut m.is_cut_lem) in (u, lu, e ∙ m.made_by_lem))
    (base_or_beyond v b.vertices)

-- Two numberings that keep the order of a third, which numbers all their things, have one order.
one_order : {A : Type 0} (n n₁ n₂ : ℕ) (at at₁ at₂ : ℕ → A) →
    ((i j : ℕ) → i < n → j < n → at i ≡ at j → i ≡ j) → ((i j : ℕ) → i < n₁ → j < n₁ → at₁ i ≡ at₁ j → i ≡ j) →
    ((i : ℕ) → i < n₁ → (j : ℕ) × (j < n) × (at j ≡ at₁ i)) →
    ((i j i' j' : ℕ) → i < n → j < n → i' < n₁ → j' < n₁ → at i ≡ at₁ i' → at j ≡ at₁ j' → i < j → i' < j') →
    ((i j i' j' : ℕ) → i < n → j < n → i' < n₂ → j' < n₂ → at i ≡ at₂ i' → at j ≡ at₂ j' → i < j → i' < j') →
    (i j i' j' : ℕ) → i < n₁ → j < n₁ → i' < n₂ → j' < n₂ → at₁ i ≡ at₂ i' → at₁ j ≡ at₂ j' → i < j → i' < j'
one_order n n₁ n₂ at at₁ at₂ once once₁ in₁ order₁ order₂ i j i' j' hi hj hi' hj' ei ej l =
    let (u, lu, eu) = in₁ i hi in
    let (v, lv, ev) = in₁ j hj in
    ⊎_elim
    (λ (less : u < v). order₂ u v i' j' lu lv hi' hj' (eu ∙ ei) (ev ∙ ej) less)
    (⊎_elim
    (λ (same : u ≡ v). let z = once₁ i j hi hj (sym eu ∙ ap at same ∙ ev) in absurd (omega arith))
    (λ (more : v < u). let z = order₁ v u j i lv lu hj hi ev eu more in absurd (omega arith)))
    (before_or_same u v)

module _ (b : BaseMesh) (D D' : Cuts b.pieces) (same : (n : Node) → D.has n ≡ D'.has n) (N N' : Numbering)
    (nv : VerticesNumbered b D N) (nr : RecordsNumbered b D N) (nv' : VerticesNumbered b D' N') (nr' : RecordsNumbered b D' N') (order : SameOrder N N')
  where
    -- As specs/ has them.
    abbrev into : CutsWithin D D'
    into = Specs.into b D D' same N N' nv nr nv' nr' order

    abbrev back : CutsWithin D' D
    back = Specs.back b D D' same N N' nv nr nv' nr' order

    abbrev records : N.records ≡ N'.records
    records = Specs.records b D D' same N N' nv nr nv' nr' order

    vertices : N.vertices ≡ N'.vertices
    vertices = same_count N.vertices N'.vertices N.name_at N'.name_at nv.once nv'.once (vertex_in_lem b D D' into N N' nv nv') (vertex_in_lem b D' D back N' N nv' nv) order.vertices

    names : (v : ℕ) → v < N.vertices → N.name_at v ≡ N'.name_at v
    names = same_things N.vertices N'.vertices N.name_at N'.name_at nv.once nv'.once (vertex_in_lem b D D' into N N' nv nv') (vertex_in_lem b D' D back N' N nv' nv) order.vertices

    nodes : (r : ℕ) → r < N.records → N.node_at r ≡ N'.node_at r
    nodes = same_things N.records N'.records N.node_at N'.node_at nr.once nr'.once (record_in_lem b D D' into N N' nr nr') (record_in_lem b D' D back N' N nr' nr) order.records

    -- Numbers of the same name, or of the same node, are one.
    one_vertex : (u v : ℕ) → u < N.vertices → v < N.vertices → N.name_at u ≡ N'.name_at v → u ≡ v
    one_vertex u v hu hv e = nv.once u v hu hv (e ∙ sym (names v hv))

    one_record : (q r : ℕ) → q < N.records → r < N.records → N.node_at q ≡ N'.node_at r → q ≡ r
    one_record q r hq hr e = nr.once q r hq hr (e ∙ sym (nodes r hr))

    parents : (v : ℕ) → b.vertices ≤ v → v < N.vertices → (N.p_at v ≡ N'.p_at v) × (N.q_at v ≡ N'.q_at v)
    parents v beyond h =
        let m = nv.made v beyond h in
        let m' = nv'.made v beyond (omega (arith, h, vertices)) in
        let below : N.q_at v < v = m.q<v in
        let below' : N'.q_at v < v = m'.q<v in
        let p<q : N.p_at v < N.q_at v = m.p<q in
        let p<q' : N'.p_at v < N'.q_at v = m'.p<q in
        let one : (i j : ℕ) → i < v → j < v → N.name_at i ≡ N'.name_at j → i ≡ j = λ i j hi hj. one_vertex i j (omega arith) (omega arith) in
        pair_in_order
        (⊎_elim
        (λ s. inl (one _ _ (omega arith) (omega arith) s.0, one _ _ (omega arith) (omega arith) s.1))
        (λ s. inr (one _ _ (omega arith) (omega arith) s.0, one _ _ (omega arith) (omega arith) s.1))
        (mid_injective_lem (N.name_at (N.p_at v)) (N.name_at (N.q_at v)) (N'.name_at (N'.p_at v)) (N'.name_at (N'.q_at v)) (sym m.name ∙ names v h ∙ m'.name)))
        (omega arith) (omega arith)

    places : (v : ℕ) → v < N.vertices → N.place_at v ≡ N'.place_at v
    places = by_smaller (λ v. v < N.vertices → N.place_at v ≡ N'.place_at v) step
      where
        halved : (b : BaseMesh) (C : Cuts b.pieces) (M : Numbering) → VerticesNumbered b C M → (v : ℕ) → b.vertices ≤ v → v < M.vertices → M.place_at v ≡ halfway_of (M.place_at (M.p_at v)) (M.place_at (M.q_at v))
        halved b C M mv v beyond h =
            halfway_only (M.place_at v) (M.place_at (M.p_at v)) (M.place_at (M.q_at v))
            ((halfway_exactly (M.place_at v) (M.place_at (M.p_at v)) (M.place_at (M.q_at v))).1 (mv.made v beyond h).halfway)

        step : (v : ℕ) → ((u : ℕ) → u < v → u < N.vertices → N.place_at u ≡ N'.place_at u) → v < N.vertices → N.place_at v ≡ N'.place_at v
        step v below h =
            ⊎_elim
            (λ l. nv.base_place v l ∙ sym (nv'.base_place v l))
            (λ beyond.
            let m = nv.made v beyond h in
            let (p, q) = parents v beyond h in
            halved b D N nv v beyond h
            ∙ ap₂ halfway_of
            (below (N.p_at v) (omega (arith, m.p<q, m.q<v)) (omega (arith, m.p<q, m.q<v)) ∙ ap N'.place_at p)
            (below (N.q_at v) m.q<v (omega (arith, m.q<v)) ∙ ap N'.place_at q)
            ∙ sym (halved b D' N' nv' v beyond (omega (arith, h, vertices))))
            (base_or_beyond v b.vertices)

    corners : (r : ℕ) → r < N.records → (k : ℕ) → k < 4 → N.corner_at r k ≡ N'.corner_at r k
    corners r h k l =
        let h' : r < N'.records = omega (arith, h, records) in
        one_vertex (N.corner_at r k) (N'.corner_at r k) (nr.corner_there r h k l) (omega (arith, nr'.corner_there r h' k l, vertices))
        (nr.corner r h k l ∙ ap (λ (n : Node). (piece_at (named b) n).corner k) (nodes r h) ∙ sym (nr'.corner r h' k l))

    -- The first children are on the same side.
    sides : (r : ℕ) → r < N.records → first_side N b r ≡ first_side N' b r
    sides r h =
        let e = (piece_at (named b) (N.node_at r)).shape.edge in
        let ends = slots_small e in
        ap₂ (λ (i j : ℕ). cond (ltb i j) high low) (corners r h (low_slot e) ends.0) (corners r h (high_slot e) ends.1)
        ∙ ap (λ (n : Node). let d = (piece_at (named b) n).shape.edge in cond (ltb (N'.corner_at r (low_slot d)) (N'.corner_at r (high_slot d))) high low) (nodes r h)

    firsts : (r : ℕ) → r < N.records → N.first_at r ≡ N'.first_at r
    firsts r h =
        let h' : r < N'.records = omega (arith, h, records) in
        let has : D.has (N.node_at r) ≡ D'.has (N'.node_at r) = same (N.node_at r) ∙ ap D'.has (nodes r h) in
        ⊎_elim
        (λ t.
        let c = nr.cut r h t in
        let c' = nr'.cut r h' (sym has ∙ t) in
        one_record (N.first_at r) (N'.first_at r) (omega (arith, c.there)) (omega (arith, c'.there, records))
        (c.first ∙ ap₂ kid (nodes r h) (sides r h) ∙ sym c'.first))
        (λ f. nr.uncut r h f ∙ sym (nr'.uncut r h' (sym has ∙ f)))
        (either (D.has (N.node_at r)))

    -- They say the same of every number.
    pub one_numbering : SameNumbering b N N'
    one_numbering =
        record {
          vertices = vertices;
          records = records;
          name_at = names;
          place_at = places;
          p_at = λ v beyond h. (parents v beyond h).0;
          q_at = λ v beyond h. (parents v beyond h).1;
          node_at = nodes;
          corner_at = corners;
          first_at = firsts;
        }

-- ---- numberings that say the same are written the same

module _ (b : BaseMesh) (N N' : Numbering) (same : SameNumbering b N N') where
  same_vertex : (v : ℕ) → v < N.vertices → vertex_of b N v ≡ vertex_of b N' v
  same_vertex v h =
      ⊎_elim
      (λ (l : v < b.vertices). rw (lt-ltb v b.vertices l) (λ i. record { place = same.place_at v h i; p = none; q = none }))
      (λ (l : b.vertices ≤ v). rw (le-ltb v b.vertices l) (λ i. record { place = same.place_at v h i; p = same.p_at v l h i; q = same.q_at v l h i }))
      (base_or_beyond v b.vertices)

  same_record : (r : ℕ) → r < N.records → record_of b N r ≡ record_of b N' r
  same_record r h =
      let at : (k : ℕ) → k < 4 → N.corner_at r k ≡ N'.corner_at r k = same.corner_at r h in
      let node = same.node_at r h in
      let first = same.first_at r h in
      let c0 = at 0 (omega arith) in
      let c1 = at 1 (omega arith) in
      let c2 = at 2 (omega arith) in
      let c3 = at 3 (omega arith) in
      λ i.
      let s = (piece_at (named b) (node i)).shape in
      record {
        piece = record { corners = c0 i ∷ c1 i ∷ c2 i ∷ c3 i ∷ []; edge = s.edge; marks = mark s 0 ∷ mark s 1 ∷ mark s 2 ∷ mark s 3 ∷ []; flag = s.flag; generation = generation (node i); material = b.material_at (node i).root };
        first_child = first i;
      }

  pub same_written : (job round : ℕ) → written job round b N ≡ written job round b N'
  same_written job round =
      let vertices = same.vertices in
      let records = same.records in
      (λ i.
      record {
        header = record { job = job; round = round; base_vertices = b.vertices; vertices = N.vertices; base_records = b.pieces; records = N.records };
        vertices = list_same N.vertices (vertex_of b N) (vertex_of b N') same_vertex i;
        records = list_same N.records (record_of b N) (record_of b N') same_record i;
      })
      ∙ (λ i.
      record {
        header = record { job = job; round = round; base_vertices = b.vertices; vertices = vertices i; base_records = b.pieces; records = records i };
        vertices = list_below (vertices i) (vertex_of b N');
        records = list_below (records i) (record_of b N');
      })

-- ---- one mesh

-- For a stored mesh and a request there is one mesh of its kind that is taken back.
pub one_taken_back : (s : Stored) (x : StoredMesh s) (request : StoredSelection) (base grown base' grown' : List ℕ) → TakenBackFrom x request (of_kind s base grown) → TakenBackFrom x request (of_kind s base' grown') →
    of_kind s base grown ≡ of_kind s base' grown'
one_taken_back s x request base grown base' grown' t t' =
    let b = x.base in
    let N = x.stores.numbers in
    let y = t.stores in
    let y' = t'.stores in
    let inside = t.remains.within in
    let order : SameOrder y.numbers y'.numbers =
    record {
      vertices =
          one_order N.vertices y.numbers.vertices y'.numbers.vertices N.name_at y.numbers.name_at y'.numbers.name_at x.stores.vertices_numbered.once y.vertices_numbered.once
          (vertex_in_lem b t.set x.cuts inside y.numbers N y.vertices_numbered x.stores.vertices_numbered) t.in_order.vertices t'.in_order.vertices;
      records =
          one_order N.records y.numbers.records y'.numbers.records N.node_at y.numbers.node_at y'.numbers.node_at x.stores.records_numbered.once y.records_numbered.once
          (record_in_lem b t.set x.cuts inside y.numbers N y.records_numbered x.stores.records_numbered) t.in_order.records t'.in_order.records;
    } in
    let same = remains_one (named b) x.cuts (NamedPiece N request) t.set t'.set t.remains t'.remains in
    y.bytes
    ∙ ap (stored_as s.kind s.right) (same_written b y.numbers y'.numbers (one_numbering b t.set t'.set same y.numbers y'.numbers y.vertices_numbered y.records_numbered y'.vertices_numbered y'.records_numbered order) x.job (x.round + 1))
    ∙ sym y'.bytes

-- ---- where nothing goes

module _ (s : Stored) (x : StoredMesh s) (request : StoredSelection) (base grown : List ℕ) (t : TakenBackFrom x request (of_kind s base grown)) where
  -- Where all cuts remain, the round alone changes.
  pub nothing_gone : ((n : Node) → t.set.has n ≡ x.cuts.has n) → of_kind s base grown ≡ stored_as s.kind s.right (written x.job (x.round + 1) x.base x.stores.numbers)
  nothing_gone all =
      let y = t.stores in
      let z = x.stores in
      y.bytes
      ∙ ap (stored_as s.kind s.right)
      (sym
      (same_written x.base z.numbers y.numbers
      (one_numbering x.base x.cuts t.set (λ n. sym (all n)) z.numbers y.numbers z.vertices_numbered z.records_numbered y.vertices_numbered y.records_numbered t.in_order)
      x.job (x.round + 1)))

  -- So it does for an empty request.
  pub empty_request : count_in request ≡ 0 → of_kind s base grown ≡ stored_as s.kind s.right (written x.job (x.round + 1) x.base x.stores.numbers)
  empty_request none =
      nothing_gone
      (none_named (named x.base) x.cuts (NamedPiece x.stores.numbers request) (λ n c (i, l, e). omega (arith, l, none)) t.set t.remains)
