-- What is taken away, by numbers: tests over the numbers of a numbered set that say which record is cut at which vertex, which is freed and what remains find just the
-- vertices and records that are still there in the set that remains.
use Rattle.std.specs.Prelude.{◌≡◌, refl, Bool, true, false, not, cond, ◌&&◌, ◌⊎◌, ◌↔◌, List, [], ◌∷◌, ℕ, ◌+◌, ◌≤◌, ◌<◌, eqb, ltb}
use Rattle.std.proofs.Common.{sym, ap, ap₂, ◌∙◌, subst, inl, inr, ⊎_elim, arith, eqb-true, eq-eqb}
use Rattle.std.proofs.lemmas.Bool.{not-true}
use Rattle.laws.specs.Below.{either, and_left, and_right, any_below, any_where, any_fails_at}
use Rattle.piece_edges.specs.Edges.{low_slot, high_slot}
use Rattle.stored.specs.Layout.{none, StoredSelection, named_in}
use Rattle.cuts_names.specs.Lists.{both_ways, not_so}
use Rattle.cuts_names.specs.Names.{mid_not_base_lem}
use Rattle.cuts_names.specs.Pieces.{Side, low, high, makes, Node, kid, piece_at}
use Rattle.cuts.specs.Sets.{Cuts, There}
use Rattle.cuts.specs.Depth.{cut_there_lem}
use Rattle.cuts_coarser.specs.TakenAway.{LeafChildren, CutAt, TakenAway, Remains}
use Rattle.demands_words.specs.Words.{BaseMesh, named, Numbering, VerticesNumbered, first_side, second_side, RecordsNumbered, count_in}
use Rattle.demands_taken_back.specs.Words.{NamedPiece}
use Rattle.demands_taken_back.specs.Renumbered.{VertexThere, StillThere}

-- The request names record r.
abbrev pub NamedNumber : StoredSelection → ℕ → Type 0
NamedNumber request r = (i : ℕ) × (i < count_in request) × (named_in request i ≡ r)

-- A cut record that is cut at vertex v and is not freed: it holds v.
pub record Holder (b : BaseMesh) (C : Cuts b.pieces) (N : Numbering) (cut_vertex : ℕ → ℕ) (freed : ℕ → Bool) (v : ℕ) : Type 0 where
  pub holder : ℕ
  pub there : holder < N.records
  pub is_cut_lem : C.has (N.node_at holder) ≡ true
  pub cut_at : cut_vertex holder ≡ v
  pub not_freed : freed holder ≡ false

-- A cut record whose vertex remains, of which c is a child.
pub record ParentStays (b : BaseMesh) (C : Cuts b.pieces) (N : Numbering) (cut_vertex : ℕ → ℕ) (vertex_stays : ℕ → Bool) (c : ℕ) : Type 0 where
  pub parent : ℕ
  pub there : parent < N.records
  pub is_cut_lem : C.has (N.node_at parent) ≡ true
  pub stays : vertex_stays (cut_vertex parent) ≡ true
  pub child : (c ≡ N.first_at parent) ⊎ (c ≡ N.first_at parent + 1)

-- The sentence by numbers.
pub record ByNumbers (b : BaseMesh) (C : Cuts b.pieces) (N : Numbering) (request : StoredSelection) (cut_vertex : ℕ → ℕ) (freed vertex_stays record_stays : ℕ → Bool) : Type 0 where
  -- the vertex that a cut record is cut at
  pub cut_below : (r : ℕ) → r < N.records → C.has (N.node_at r) ≡ true → cut_vertex r < N.vertices
  pub cut_at : (r : ℕ) → r < N.records → C.has (N.node_at r) ≡ true → N.name_at (cut_vertex r) ≡ makes (piece_at (named b) (N.node_at r))
  -- a cut record is freed where it is named and "has two leaves as children"
  pub freed_exactly : (r : ℕ) → r < N.records → C.has (N.node_at r) ≡ true →
      (freed r ≡ true) ↔ (NamedNumber request r × ((N.first_at (N.first_at r) ≡ none) × (N.first_at (N.first_at r + 1) ≡ none)))
  -- base vertices remain, and those that some cut record holds
  pub vertices : (v : ℕ) → v < N.vertices → (vertex_stays v ≡ true) ↔ ((v < b.vertices) ⊎ Holder b C N cut_vertex freed v)
  -- base records remain, and the children of cut records whose vertex remains
  pub records : (c : ℕ) → c < N.records → (record_stays c ≡ true) ↔ ((c < b.pieces) ⊎ ParentStays b C N cut_vertex vertex_stays c)

-- ---- a numbered set

module _ (b : BaseMesh) (C : Cuts b.pieces) (N : Numbering) (nv : VerticesNumbered b C N) (nr : RecordsNumbered b C N) where
  -- ---- leaves and children by numbers

  module _ (few : N.records ≤ none) where
    -- A record is a leaf where it has no first child.
    leaf_record_lem : (c : ℕ) → c < N.records → (C.has (N.node_at c) ≡ false) ↔ (N.first_at c ≡ none)
    leaf_record_lem c h = (nr.uncut c h, λ e. not_so (C.has (N.node_at c)) (λ t. let k = nr.cut c h t in omega (arith, k.there, e, few)))

    module _ (r : ℕ) (h : r < N.records) (t : C.has (N.node_at r) ≡ true) where
      -- The child on each side of a cut record has a number, the first child's or the next.
      child_number_lem : (side : Side) → (c : ℕ) × (c < N.records) × (N.node_at c ≡ kid (N.node_at r) side) × ((c ≡ N.first_at r) ⊎ (c ≡ N.first_at r + 1))
      child_number_lem side =
          let k = nr.cut r h t in
          let e = (piece_at (named b) (N.node_at r)).shape.edge in
          pick (ltb (N.corner_at r (low_slot e)) (N.corner_at r (high_slot e))) k.there k.first k.second side
        where
          pick : (x : Bool) → N.first_at r + 1 < N.records → N.node_at (N.first_at r) ≡ kid (N.node_at r) (cond x high low) → N.node_at (N.first_at r + 1) ≡ kid (N.node_at r) (cond x low high) →
              (side : Side) → (c : ℕ) × (c < N.records) × (N.node_at c ≡ kid (N.node_at r) side) × ((c ≡ N.first_at r) ⊎ (c ≡ N.first_at r + 1))
          pick true l a b low = (N.first_at r + 1, l, b, inr refl)
          pick true l a b high = (N.first_at r, omega arith, a, inl refl)
          pick false l a b low = (N.first_at r, omega arith, a, inl refl)
          pick false l a b high = (N.first_at r + 1, l, b, inr refl)

      -- Each of these two numbers is that of a child.
      number_child : (c : ℕ) → (c ≡ N.first_at r) ⊎ (c ≡ N.first_at r + 1) → (side : Side) × (N.node_at c ≡ kid (N.node_at r) side)
      number_child c which =
          let k = nr.cut r h t in
          ⊎_elim (λ e. (first_side N b r, ap N.node_at e ∙ k.first)) (λ e. (second_side N b r, ap N.node_at e ∙ k.second)) which

      -- It "has two leaves as children", by numbers.
      leaf_children_lem : LeafChildren C (N.node_at r) ↔ ((N.first_at (N.first_at r) ≡ none) × (N.first_at (N.first_at r + 1) ≡ none))
      leaf_children_lem = (
        λ leaves.
            let k = nr.cut r h t in
            let next : N.first_at r + 1 < N.records = k.there in (
              (leaf_record_lem (N.first_at r) (omega arith)).0 (ap C.has k.first ∙ (leaves (first_side N b r)).uncut),
              (leaf_record_lem (N.first_at r + 1) next).0 (ap C.has k.second ∙ (leaves (second_side N b r)).uncut),
            ),
        λ (first, second). λ side.
            let (c, l, is, which) = child_number_lem side in
            record {
              there = t;
              uncut = ap C.has (sym is) ∙ (leaf_record_lem c l).1 (⊎_elim (λ e. ap N.first_at e ∙ first) (λ e. ap N.first_at e ∙ second) which);
            },
      )

    -- ---- what remains

    module _ (request : StoredSelection) (there : (i : ℕ) → i < count_in request → named_in request i < N.records) (D : Cuts b.pieces) (remains : Remains (named b) C (NamedPiece N request) D)
        (cut_vertex : ℕ → ℕ) (freed vertex_stays record_stays : ℕ → Bool) (by : ByNumbers b C N request cut_vertex freed vertex_stays record_stays)
      where
        -- A record's piece is named where its number is.
        named_number_lem : (r : ℕ) → r < N.records → NamedPiece N request (N.node_at r) ↔ NamedNumber request r
        named_number_lem r h = (
          λ (i, l, e). (i, l, nr.once (named_in request i) r (there i l) h e),
          λ (i, l, e). (i, l, ap N.node_at e),
        )

        freed_is : (r : ℕ) → r < N.records → C.has (N.node_at r) ≡ true → (freed r ≡ true) ↔ (NamedPiece N request (N.node_at r) × LeafChildren C (N.node_at r))
        freed_is r h t = (
          λ f. let (name, leaves) = (by.freed_exactly r h t).0 f in ((named_number_lem r h).1 name, (leaf_children_lem r h t).1 leaves),
          λ (name, leaves). (by.freed_exactly r h t).1 ((named_number_lem r h).0 name, (leaf_children_lem r h t).0 leaves),
        )

        -- A vertex that is held is made by a cut that remains.
        held_there : (v : ℕ) → Holder b C N cut_vertex freed v → VertexThere b D (N.name_at v)
        held_there v a =
            let r = a.holder in
            let n = N.node_at r in
            let same : makes (piece_at (named b) n) ≡ N.name_at v = sym (by.cut_at r a.there a.is_cut_lem) ∙ ap N.name_at a.cut_at in
            ⊎_elim
            (λ t. inr (n, t, same))
            (λ f.
            let taken = (remains.gone n a.is_cut_lem).0 f in
            let own : CutAt (named b) C (makes (piece_at (named b) n)) n = record { is_cut_lem = a.is_cut_lem; makes_it = refl } in
            absurd (both_ways ((freed_is r a.there a.is_cut_lem).1 (taken.named n own, taken.leaf_children_lem n own)) a.not_freed))
            (either (D.has n))

        module _ (v : ℕ) (h : v < N.vertices) where
          -- Record r is cut at v, and is not freed.
          abbrev holds : ℕ → Bool
          holds r = C.has (N.node_at r) && (eqb (cut_vertex r) v && not (freed r))

          found : any_below N.records holds ≡ true → Holder b C N cut_vertex freed v
          found a =
              let (r, l, q) = any_where holds N.records a in
              let rest = and_right (C.has (N.node_at r)) _ q in
              record {
                holder = r;
                there = l;
                is_cut_lem = and_left (C.has (N.node_at r)) _ q;
                cut_at = eqb-true (cut_vertex r) v (and_left (eqb (cut_vertex r) v) _ rest);
                not_freed = not-true (freed r) (and_right (eqb (cut_vertex r) v) _ rest);
              }

          -- Where none is, every piece that is cut at v is named and has leaves as children.
          all_freed : any_below N.records holds ≡ false → (m : Node) → CutAt (named b) C (N.name_at v) m → NamedPiece N request m × LeafChildren C m
          all_freed f m a =
              let (r, l, is) = nr.every m (cut_there_lem C m a.is_cut_lem) in
              let cut : C.has (N.node_at r) ≡ true = ap C.has is ∙ a.is_cut_lem in
              let at : cut_vertex r ≡ v = nv.once (cut_vertex r) v (by.cut_below r l cut) h (by.cut_at r l cut ∙ ap (λ (k : Node). makes (piece_at (named b) k)) is ∙ a.makes_it) in
              let free : freed r ≡ true =
              ⊎_elim (λ y. y)
              (λ y. absurd (both_ways (ap₂ ◌&&◌ cut (ap₂ ◌&&◌ (eq-eqb (cut_vertex r) v at) (ap not y))) (any_fails_at holds N.records r f l)))
              (either (freed r)) in
              subst (λ (k : Node). NamedPiece N request k × LeafChildren C k) is ((freed_is r l cut).0 free)

          -- So a vertex that a cut makes that remains is held.
          made_held : (n : Node) → D.has n ≡ true → makes (piece_at (named b) n) ≡ N.name_at v → Holder b C N cut_vertex freed v
          made_held n t e =
              ⊎_elim found
              (λ f.
              let taken : TakenAway (named b) C (NamedPiece N request) (N.name_at v) =
              record {
                cut = n;
                made = record { is_cut_lem = remains.within n t; makes_it = e };
                leaf_children_lem = λ m a. (all_freed f m a).1;
                named = λ m a. (all_freed f m a).0;
              } in
              absurd (both_ways t ((remains.gone n (remains.within n t)).1 (subst (TakenAway (named b) C (NamedPiece N request)) (sym e) taken))))
              (either (any_below N.records holds))

        vertex_still : (v : ℕ) → v < N.vertices → (vertex_stays v ≡ true) ↔ VertexThere b D (N.name_at v)
        vertex_still v h = (
          λ t. ⊎_elim (λ l. inl (v, l, nv.base_name v l)) (held_there v) ((by.vertices v h).0 t),
          λ x.
              (by.vertices v h).1
              (⊎_elim
              (λ (u, l, e). inl (let same : v ≡ u = nv.once v u h (omega (arith, l, nv.base_first)) (e ∙ sym (nv.base_name u l)) in omega arith))
              (λ (n, t, e). inr (made_held v h n t e))
              x),
        )

        -- A cut record whose vertex remains stays cut.
        stays_cut_lem : (r : ℕ) → r < N.records → C.has (N.node_at r) ≡ true → vertex_stays (cut_vertex r) ≡ true → D.has (N.node_at r) ≡ true
        stays_cut_lem r h t stays =
            let n = N.node_at r in
            let at = by.cut_at r h t in
            ⊎_elim (λ y. y)
            (λ f.
            let taken = (remains.gone n t).0 f in
            absurd
            (⊎_elim
            (λ (u, l, e). mid_not_base_lem _ _ u (sym at ∙ e))
            (λ (m, y, e). both_ways y ((remains.gone m (remains.within m y)).1 (subst (TakenAway (named b) C (NamedPiece N request)) (sym at ∙ sym e) taken)))
            ((vertex_still (cut_vertex r) (by.cut_below r h t)).0 stays)))
            (either (D.has n))

        record_still : (c : ℕ) → c < N.records → (record_stays c ≡ true) ↔ There D (N.node_at c)
        record_still c h = (
          λ t.
              ⊎_elim
              (λ l. subst (There D) (sym (nr.base_node c l)) l)
              (λ a.
              let (side, is) = number_child a.parent a.there a.is_cut_lem c a.child in
              subst (There D) (sym is) (stays_cut_lem a.parent a.there a.is_cut_lem a.stays))
              ((by.records c h).0 t),
          λ t. (by.records c h).1 (from (N.node_at c).root (N.node_at c).path refl t),
        )
          where
            from : (q : ℕ) (path : List Side) → N.node_at c ≡ record { root = q; path = path } → There D (record { root = q; path = path }) → (c < b.pieces) ⊎ ParentStays b C N cut_vertex vertex_stays c
            from q [] is t = inl (let same : c ≡ q = nr.once c q h (omega (arith, t, nr.base_first)) (is ∙ sym (nr.base_node q t)) in omega arith)
            from q (side ∷ path) is t =
                let n : Node = record { root = q; path = path } in
                let cut : C.has n ≡ true = remains.within n t in
                let (r, l, e) = nr.every n (cut_there_lem C n cut) in
                let cut_r : C.has (N.node_at r) ≡ true = ap C.has e ∙ cut in
                let (k, below, kid_is, which) = child_number_lem r l cut_r side in
                let same : c ≡ k = nr.once c k h below (is ∙ ap (λ (m : Node). kid m side) (sym e) ∙ sym kid_is) in
                let at = by.cut_at r l cut_r in
                inr
                (record {
                  parent = r;
                  there = l;
                  is_cut_lem = cut_r;
                  stays = (vertex_still (cut_vertex r) (by.cut_below r l cut_r)).1 (inr (n, t, sym (at ∙ ap (λ (m : Node). makes (piece_at (named b) m)) e)));
                  child = ⊎_elim (λ w. inl (same ∙ w)) (λ w. inr (same ∙ w)) which;
                })

        -- The tests by numbers find what is still there.
        pub by_numbers_still : StillThere b D N vertex_stays record_stays
        by_numbers_still = record { vertices = vertex_still; records = record_still }
