-- The numbering of what remains: of a numbered set C and a set D within it, the vertices and the records that are still there in D close up in their order.
use Rattle.std.specs.Prelude.{◌≡◌, refl, Bool, true, cond, ◌⊎◌, ◌↔◌, List, [], ◌∷◌, ℕ, ◌≤◌, ◌<◌, ltb, eqb}
use Rattle.std.proofs.Common.{sym, ap, ap₂, ◌∙◌, subst, inl, inr, ⊎_elim, arith, ltb-true, ltb-false}
use Rattle.laws.specs.Below.{either, count_below}
use Rattle.laws_remaining.specs.Remaining.{old_below, count_rises, count_above, first_stay, old_there, old_new, old_first}
use Rattle.piece_edges.specs.Edges.{low_slot, high_slot, slots_small}
use Rattle.grid.specs.Places.{point_of}
use Rattle.grid.specs.Corners.{Midpoint}
use Rattle.stored.specs.Layout.{none}
use Rattle.cuts_names.specs.Lists.{either_has}
use Rattle.cuts_names.specs.Names as Names
use Rattle.cuts_names.specs.Names.{Name, mid, mid_not_base_lem}
use Rattle.cuts_names.proofs.Names.{mid_injective_lem}
use Rattle.cuts_names.specs.Pieces.{Side, end_at, child_with, child, makes, Node, piece_down, piece_at}
use Rattle.cuts.specs.Sets.{Cuts, There, CutsWithin}
use Rattle.cuts.specs.Depth.{cut_there_lem}
use Rattle.demands_words.specs.Words.{BaseMesh, named, ProperlyMarked, Numbering, MadeVertexNumbered, VerticesNumbered, RecordsNumbered}

-- ---- what is still there

-- The vertex of this name is there: it is a base vertex, or a cut makes it.
abbrev pub VertexThere : (b : BaseMesh) → Cuts b.pieces → Name → Type 0
VertexThere b D x = ((v : ℕ) × (v < b.vertices) × (x ≡ Names.base v)) ⊎ ((n : Node) × (D.has n ≡ true) × (makes (piece_at (named b) n) ≡ x))

-- Of the numbers of N, these tests find the vertices and the records that are still there in D.
pub record StillThere (b : BaseMesh) (D : Cuts b.pieces) (N : Numbering) (vertex_stays record_stays : ℕ → Bool) : Type 0 where
  pub vertices : (v : ℕ) → v < N.vertices → (vertex_stays v ≡ true) ↔ VertexThere b D (N.name_at v)
  pub records : (r : ℕ) → r < N.records → (record_stays r ≡ true) ↔ There D (N.node_at r)

-- "Records and vertices that remain close up in their order": what is number k now was number `old_below k`, and parents, corners and first children have their new
-- numbers, how many below them remain. A record whose children go is a leaf again.
abbrev pub numbers_left : (b : BaseMesh) → Cuts b.pieces → Numbering → (ℕ → Bool) → (ℕ → Bool) → Numbering
numbers_left b D N vertex_stays record_stays =
    let vertex = old_below N.vertices vertex_stays in
    let entry = old_below N.records record_stays in
    record {
      vertices = count_below N.vertices vertex_stays;
      records = count_below N.records record_stays;
      name_at = λ k. N.name_at (vertex k);
      place_at = λ k. N.place_at (vertex k);
      p_at = λ k. count_below (N.p_at (vertex k)) vertex_stays;
      q_at = λ k. count_below (N.q_at (vertex k)) vertex_stays;
      node_at = λ k. N.node_at (entry k);
      corner_at = λ k j. count_below (N.corner_at (entry k) j) vertex_stays;
      first_at = λ k. cond (D.has (N.node_at (entry k))) (count_below (N.first_at (entry k)) record_stays) none;
    }

-- ---- corners of what is there are there

-- Nothing that stays refers to a vertex that goes: a corner of a piece that is there is there.
pub corner_stays : (b : BaseMesh) → ProperlyMarked b → (D : Cuts b.pieces) (n : Node) → There D n → (j : ℕ) → j < 4 → VertexThere b D ((piece_at (named b) n).corner j)
unfolding piece_at piece_down child child_with
corner_stays b marked D n t j l = down n.root n.path t j l
  where
    down : (r : ℕ) (path : List Side) → There D (record { root = r; path = path }) → (j : ℕ) → j < 4 → VertexThere b D ((piece_down (named b r) path).corner j)
    down r [] t j l = inl (b.corner_at r j, (marked.pieces r t).corners j l, refl)
    down r (side ∷ path) t j l =
        let n : Node = record { root = r; path = path } in
        let p = piece_down (named b r) path in
        either_has (VertexThere b D) (eqb j (end_at p.shape side)) (makes p) (p.corner j) (inr (n, t, refl)) (down r path (cut_there_lem D n t) j l)

-- ---- the numbering

module _ (b : BaseMesh) (marked : ProperlyMarked b) (C D : Cuts b.pieces) (inside : CutsWithin D C) (N : Numbering) (nv : VerticesNumbered b C N) (nr : RecordsNumbered b C N)
    (vertex_stays record_stays : ℕ → Bool) (still : StillThere b D N vertex_stays record_stays)
  where
    abbrev pub N' : Numbering
    N' = numbers_left b D N vertex_stays record_stays

    abbrev old_vertex : ℕ → ℕ
    old_vertex = old_below N.vertices vertex_stays

    abbrev pub new_vertex : ℕ → ℕ
    new_vertex v = count_below v vertex_stays

    abbrev pub old_record : ℕ → ℕ
    old_record = old_below N.records record_stays

    abbrev pub new_record : ℕ → ℕ
    new_record r = count_below r record_stays

    -- ---- vertices

    -- Base vertices stay.
    pub base_vertex_stays : (v : ℕ) → v < b.vertices → vertex_stays v ≡ true
    base_vertex_stays v h = (still.vertices v (omega (arith, h, nv.base_first))).1 (inl (v, h, nv.base_name v h))

    -- What is made now was made before.
    pub made_before : (v : ℕ) → b.vertices ≤ v → v < N'.vertices → b.vertices ≤ old_vertex v
    made_before v beyond h =
        let (below, stays, new) = old_there vertex_stays N.vertices v h in
        ⊎_elim
        (λ t. let l = ltb-true (old_vertex v) b.vertices t in absurd (omega (arith, new, first_stay vertex_stays b.vertices base_vertex_stays (old_vertex v) (omega arith))))
        (λ f. ltb-false (old_vertex v) b.vertices f)
        (either (ltb (old_vertex v) b.vertices))

    -- A made vertex that stays is made by a cut that stays: no midpoint is a base vertex.
    still_made : (v : ℕ) → b.vertices ≤ v → v < N.vertices → vertex_stays v ≡ true → (n : Node) × (D.has n ≡ true) × (makes (piece_at (named b) n) ≡ N.name_at v)
    still_made v beyond h stays =
        ⊎_elim
        (λ x. let (u, l, e) = x in absurd (mid_not_base_lem (N.name_at (N.p_at v)) (N.name_at (N.q_at v)) u (sym (nv.made v beyond h).name ∙ e)))
        (λ made. made)
        ((still.vertices v h).0 stays)

    -- Its parents are corners of the piece that is cut; so they stay.
    pub parents_stay : (v : ℕ) → b.vertices ≤ v → v < N.vertices → vertex_stays v ≡ true → (vertex_stays (N.p_at v) ≡ true) × (vertex_stays (N.q_at v) ≡ true)
    parents_stay v beyond h stays =
        let m = nv.made v beyond h in
        let (n, t, e) = still_made v beyond h stays in
        let p = piece_at (named b) n in
        let d = p.shape.edge in
        let ends = slots_small d in
        let at_low = corner_stays b marked D n (cut_there_lem D n t) (low_slot d) ends.0 in
        let at_high = corner_stays b marked D n (cut_there_lem D n t) (high_slot d) ends.1 in
        let by_p : VertexThere b D (N.name_at (N.p_at v)) → vertex_stays (N.p_at v) ≡ true = (still.vertices (N.p_at v) (omega (arith, m.p<q, m.q<v, h))).1 in
        let by_q : VertexThere b D (N.name_at (N.q_at v)) → vertex_stays (N.q_at v) ≡ true = (still.vertices (N.q_at v) (omega (arith, m.q<v, h))).1 in
        ⊎_elim
        (λ s. (by_p (subst (VertexThere b D) (sym s.0) at_low), by_q (subst (VertexThere b D) (sym s.1) at_high)))
        (λ s. (by_p (subst (VertexThere b D) (sym s.0) at_high), by_q (subst (VertexThere b D) (sym s.1) at_low)))
        (mid_injective_lem (N.name_at (N.p_at v)) (N.name_at (N.q_at v)) (p.corner (low_slot d)) (p.corner (high_slot d)) (sym m.name ∙ sym e))

    made_vertex : (v : ℕ) → b.vertices ≤ v → v < N'.vertices → MadeVertexNumbered b D N' v
    made_vertex v beyond h =
        let (below, stays, new) = old_there vertex_stays N.vertices v h in
        let u = old_vertex v in
        let older = made_before v beyond h in
        let m = nv.made u older below in
        let (p_stays, q_stays) = parents_stay u older below stays in
        let p_same : old_vertex (new_vertex (N.p_at u)) ≡ N.p_at u = old_new vertex_stays N.vertices (N.p_at u) (omega (arith, m.p<q, m.q<v, below)) p_stays in
        let q_same : old_vertex (new_vertex (N.q_at u)) ≡ N.q_at u = old_new vertex_stays N.vertices (N.q_at u) (omega (arith, m.q<v, below)) q_stays in
        let (n, t, e) = still_made u older below stays in
        record {
          p<q = count_above vertex_stays (N.p_at u) (N.q_at u) m.p<q p_stays;
          q<v = omega (arith, new, count_above vertex_stays (N.q_at u) u m.q<v q_stays);
          name = m.name ∙ ap₂ mid (ap N.name_at (sym p_same)) (ap N.name_at (sym q_same));
          halfway =
              subst (λ (k : ℕ). Midpoint (point_of (N.place_at u)) (point_of (N.place_at k)) (point_of (N.place_at (old_vertex (new_vertex (N.q_at u)))))) (sym p_same)
              (subst (λ (k : ℕ). Midpoint (point_of (N.place_at u)) (point_of (N.place_at (N.p_at u))) (point_of (N.place_at k))) (sym q_same) m.halfway);
          cut = n;
          is_cut_lem = t;
          made_by_lem = e;
        }

    pub vertices_renumbered : VerticesNumbered b D N'
    vertices_renumbered =
        record {
          base_first = omega (arith, first_stay vertex_stays b.vertices base_vertex_stays b.vertices (omega arith), count_rises vertex_stays b.vertices N.vertices nv.base_first);
          base_name = λ v h. ap N.name_at (same v h) ∙ nv.base_name v h;
          base_place = λ v h. ap N.place_at (same v h) ∙ nv.base_place v h;
          made = made_vertex;
          every = every;
          once = once;
        }
      where
        same : (v : ℕ) → v < b.vertices → old_vertex v ≡ v
        same = old_first vertex_stays N.vertices b.vertices nv.base_first base_vertex_stays

        every : (n : Node) → D.has n ≡ true → (v : ℕ) × (v < N'.vertices) × (N'.name_at v ≡ makes (piece_at (named b) n))
        every n t =
            let (v, h, e) = nv.every n (inside n t) in
            let stays = (still.vertices v h).1 (inr (n, t, sym e)) in
            (new_vertex v, count_above vertex_stays v N.vertices h stays, ap N.name_at (old_new vertex_stays N.vertices v h stays) ∙ e)

        once : (u v : ℕ) → u < N'.vertices → v < N'.vertices → N'.name_at u ≡ N'.name_at v → u ≡ v
        once u v hu hv e =
            let (bu, su, nu) = old_there vertex_stays N.vertices u hu in
            let (bv, sv, nw) = old_there vertex_stays N.vertices v hv in
            sym nu ∙ ap new_vertex (nv.once (old_vertex u) (old_vertex v) bu bv e) ∙ nw

    -- ---- records

    -- The corners of a record that stays are vertices that stay.
    pub corners_stay : (r : ℕ) → r < N.records → record_stays r ≡ true → (j : ℕ) → j < 4 → vertex_stays (N.corner_at r j) ≡ true
    corners_stay r h stays j l =
        (still.vertices (N.corner_at r j) (nr.corner_there r h j l)).1
        (subst (VertexThere b D) (sym (nr.corner r h j l)) (corner_stays b marked D (N.node_at r) ((still.records r h).0 stays) j l))

    module _ (k : ℕ) (h : k < N'.records) where
      abbrev pub r : ℕ
      r = old_record k

      -- Its number before.
      pub older : (r < N.records) × (record_stays r ≡ true) × (new_record r ≡ k)
      older = old_there record_stays N.records k h
