-- What rules 9 and 10 ask of tables that hold a numbered set of cuts: their cuts are proper, and no edge hangs. Assumes nothing.
use Rattle.std.specs.Prelude.{◌≡◌, refl, Bool, true, false, cond, ◌⊎◌, List, [], ◌∷◌, ℕ, suc, ◌+◌, ◌≤◌, ◌<◌, ltb, eqb}
use Rattle.std.proofs.Common.{sym, ap₂, ◌∙◌, subst, inl, inr, ⊎_elim, arith, ext_get_or}
use Rattle.std.proofs.Math.Path.{ap}
use Rattle.laws.specs.Below.{either}
use Rattle.laws.specs.Pairs.{SamePair, pair_through, pair_turned, pair_in_order}
use Rattle.piece.specs.declared.Piece as Declared
use Rattle.piece_edges.specs.Edges.{low_slot, high_slot, slots_small}
use Rattle.piece.specs.Shape.{Shape, shape_of, slot_a, slot_b}
use Rattle.piece.specs.Ends.{corner_at, ends_of, lower_end, higher_end}
use Rattle.piece_cut.specs.Cut.{child_shape, child_of, cut_of}
use Rattle.stored.specs.declared.Record.{Record}
use Rattle.stored.specs.Layout.{none}
use Rattle.mesh_tables.specs.Tables as Check
use Rattle.mesh_tables.specs.Tables.{Tables}
use Rattle.check_meaning.specs.Accepted as Accepted
use Rattle.check_meaning.specs.Accepted.{HasParents, RightCut, RightCuts, ChildOf, ExactlyOne}
use Rattle.check_meaning.specs.Cuts.{Four, child_four}
use Rattle.check_meaning.specs.Descent.{child_corner, lower_is_end, higher_is_end}
use Rattle.build_meaning.specs.Edges.{ends_are}
use Rattle.cuts_names.specs.Names.{Name, mid, mid_not_base_lem}
use Rattle.cuts_names.proofs.Names.{mid_injective_lem}
use Rattle.cuts_names.specs.Pieces.{Piece, Side, low, high, end_at, child_with, mid_of, makes, child, Node, generation, kid, piece_at, piece_kid_lem}
use Rattle.cuts.specs.Sets.{Cuts, There, NoneHangs}
use Rattle.cuts.specs.Depth.{cut_there_lem}
use Rattle.cuts.specs.LinkNames.{base_or_beyond}
use Rattle.cuts.specs.LinkNodes.{same_kid}
use Rattle.demands_words.specs.Words.{BaseMesh, named, ProperlyMarked, Shallow, Numbering, VerticesNumbered, RecordsNumbered, first_side, second_side}
use Rattle.demands_proofs.specs.MarkedBase.{pair_mid}
use Rattle.demands_proofs.specs.Holds.{Holds}
use Rattle.demands_proofs.specs.HeldEntries.{parents_at, made_beyond, beyond_made, corner_at_lem, generation_at, material_at_lem, first_at_lem, shape_at_lem}

-- Two pieces with four corners each, the same ones, with one shape, one generation and one material are one.
one_piece : (p q : Declared.Piece) → Four p → Four q → ((j : ℕ) → j < 4 → corner_at p j ≡ corner_at q j) → shape_of p ≡ shape_of q → p.generation ≡ q.generation → p.material ≡ q.material → p ≡ q
one_piece p q fp fq corner shape generation material =
    let corners : p.corners ≡ q.corners = ext_get_or 0 p.corners q.corners (fp.corners ∙ sym fq.corners) (λ j l. corner j (omega (arith, fp.corners))) in
    λ i. record { corners = corners i; edge = (shape i).edge; marks = (shape i).marks; flag = (shape i).flag; generation = generation i; material = material i }

-- A side is one of the two, whichever comes first.
either_side : (x : Bool) (side : Side) → (cond x high low ≡ side) ⊎ (cond x low high ≡ side)
either_side true low = inr refl
either_side true high = inl refl
either_side false low = inl refl
either_side false high = inr refl

-- The slot of a side that is chosen is the slot that is chosen.
side_high : (x : Bool) (s : Shape) → end_at s (cond x high low) ≡ cond x (high_slot s.edge) (low_slot s.edge)
unfolding slot_a slot_b
side_high true s = refl
side_high false s = refl

side_low : (x : Bool) (s : Shape) → end_at s (cond x low high) ≡ cond x (low_slot s.edge) (high_slot s.edge)
unfolding slot_a slot_b
side_low true s = refl
side_low false s = refl

module _ (t : Tables) (b : BaseMesh) (C : Cuts b.pieces) (N : Numbering) (h : Holds t b N) (marked : ProperlyMarked b) (shallow : Shallow b C) (nv : VerticesNumbered b C N) (nr : RecordsNumbered b C N) (few : N.records ≤ none) where
  -- The piece that record r holds, and its node's piece over names.
  abbrev held : ℕ → Declared.Piece
  held r = Check.piece_at t r

  abbrev over : ℕ → Piece Name
  over r = piece_at (named b) (N.node_at r)

  -- ---- cut or not

  cut_has : (r : ℕ) → r < N.records → Accepted.Cut t r → C.has (N.node_at r) ≡ true
  cut_has r l c = ⊎_elim (λ e. e) (λ f. absurd (c (first_at_lem t b C N h r l ∙ nr.uncut r l f))) (either (C.has (N.node_at r)))

  has_cut : (r : ℕ) → r < N.records → C.has (N.node_at r) ≡ true → Accepted.Cut t r
  has_cut r l c e = omega (arith, first_at_lem t b C N h r l, (nr.cut r l c).there)

  leaf_uncut_lem : (r : ℕ) → r < N.records → Accepted.Leaf t r → C.has (N.node_at r) ≡ false
  leaf_uncut_lem r l e = ⊎_elim (λ c. absurd (has_cut r l c e)) (λ f. f) (either (C.has (N.node_at r)))

  -- ---- midpoints

  -- The corners of a record are named as the node's.
  corner_small : (r : ℕ) → r < N.records → (k : ℕ) → k < 4 → corner_at (held r) k < N.vertices
  corner_small r l k m = omega (arith, corner_at_lem t b C N h r l k m, nr.corner_there r l k m)

  corner_name : (r : ℕ) → r < N.records → (k : ℕ) → k < 4 → N.name_at (corner_at (held r) k) ≡ (over r).corner k
  corner_name r l k m = ap N.name_at (corner_at_lem t b C N h r l k m) ∙ nr.corner r l k m

  edge_name : (r : ℕ) → r < N.records → (e : ℕ) → mid (N.name_at (corner_at (held r) (low_slot e))) (N.name_at (corner_at (held r) (high_slot e))) ≡ mid_of (over r) e
  edge_name r l e = ap₂ mid (corner_name r l (low_slot e) (slots_small e).0) (corner_name r l (high_slot e) (slots_small e).1)

  module _ (v : ℕ) (l : v < N.vertices) (r : ℕ) (lr : r < N.records) (e : ℕ) where
    -- A vertex that is named the midpoint of an edge is made.
    midpoint_made : N.name_at v ≡ mid_of (over r) e → b.vertices ≤ v
    midpoint_made q =
        ⊎_elim (λ o. absurd (mid_not_base_lem ((over r).corner (low_slot e)) ((over r).corner (high_slot e)) v (sym q ∙ nv.base_name v o))) (λ o. o) (base_or_beyond v b.vertices)

    -- It has the edge's ends as parents.
    midpoint_parents : N.name_at v ≡ mid_of (over r) e → HasParents t (ends_of (held r) e) v
    midpoint_parents q =
        let o = midpoint_made q in
        let m = nv.made v o l in
        let (p_is, q_is) = parents_at t b C N h v o l in
        let a = corner_at (held r) (low_slot e) in
        let c = corner_at (held r) (high_slot e) in
        let la = corner_small r lr (low_slot e) (slots_small e).0 in
        let lc = corner_small r lr (high_slot e) (slots_small e).1 in
        let lp : N.p_at v < N.vertices = omega (arith, m.p<q, m.q<v) in
        let lq : N.q_at v < N.vertices = omega (arith, m.q<v) in
        let numbers : SamePair (N.p_at v) (N.q_at v) a c =
        ⊎_elim
        (λ s. inl (nv.once _ _ lp la s.0, nv.once _ _ lq lc s.1))
        (λ s. inr (nv.once _ _ lp lc s.0, nv.once _ _ lq la s.1))
        (mid_injective_lem (N.name_at (N.p_at v)) (N.name_at (N.q_at v)) (N.name_at a) (N.name_at c) (sym m.name ∙ q ∙ sym (edge_name r lr e))) in
        let ends = ends_are (held r) e in
        let both = pair_in_order (pair_through (pair_turned numbers) (pair_turned ends.0)) (omega (arith, m.p<q)) ends.1 in
        record { p = p_is ∙ both.0; q = q_is ∙ both.1 }

    -- A made vertex that has an edge's ends as parents is named its midpoint.
    parents_midpoint : b.vertices ≤ v → HasParents t (ends_of (held r) e) v → N.name_at v ≡ mid_of (over r) e
    parents_midpoint o x =
        let m = nv.made v o l in
        let (p_is, q_is) = parents_at t b C N h v o l in
        let a = corner_at (held r) (low_slot e) in
        let c = corner_at (held r) (high_slot e) in
        m.name
        ∙ ap₂ (λ (p q : ℕ). mid (N.name_at p) (N.name_at q)) (sym p_is ∙ x.p) (sym q_is ∙ x.q)
        ∙ pair_mid (N.name_at (ends_of (held r) e).lower) (N.name_at (ends_of (held r) e).higher) (N.name_at a) (N.name_at c)
        (⊎_elim (λ s. inl (ap N.name_at s.0, ap N.name_at s.1)) (λ s. inr (ap N.name_at s.0, ap N.name_at s.1)) (ends_are (held r) e).0)
        ∙ edge_name r lr e

  -- ---- a cut record

  four : (r : ℕ) → r < N.records → Four (held r)
  four r l = subst (λ (x : Record). Four x.piece) (sym (h.record_at r l)) (record { corners = refl; marks = refl })

  edge_at_lem : (r : ℕ) → r < N.records → (held r).edge ≡ (over r).shape.edge
  edge_at_lem r l = ap (λ (s : Shape). s.edge) (shape_at_lem t b C N h marked nv nr r l)

  -- The vertex that a cut makes has the ends of the refinement edge as parents.
  pub makes_parents : (v : ℕ) → v < N.vertices → (r : ℕ) → r < N.records → N.name_at v ≡ makes (over r) → HasParents t (Check.refinement_ends (held r)) v
  makes_parents v l r lr q = subst (λ (e : ℕ). HasParents t (ends_of (held r) e) v) (sym (edge_at_lem r lr)) (midpoint_parents v l r lr (over r).shape.edge q)

  module _ (r : ℕ) (l : r < N.records) where
    -- The record of a child holds what cutting gives.
    child_held : (w : ℕ) → w < N.vertices → N.name_at w ≡ makes (over r) → (c : ℕ) → c < N.records → (side : Side) → N.node_at c ≡ kid (N.node_at r) side →
        (k : ℕ) → k < 4 → end_at (shape_of (held r)) side ≡ k → held c ≡ child_of (held r) w k
    unfolding child_of child child_with
    child_held w lw named_w c lc side node k small slot =
        one_piece (held c) (child_of (held r) w k) (four c lc) (child_four (held r) w k (four r l)) corner shape generations materials
      where
        piece : over c ≡ child (over r) side
        piece = ap (piece_at (named b)) node ∙ piece_kid_lem (named b) (N.node_at r) side

        same_shape : shape_of (held r) ≡ (over r).shape
        same_shape = shape_at_lem t b C N h marked nv nr r l

        slot_over : end_at (over r).shape side ≡ k
        slot_over = ap (λ (s : Shape). end_at s side) (sym same_shape) ∙ slot

        name : (j : ℕ) → j < 4 → N.name_at (corner_at (held c) j) ≡ cond (eqb j k) (makes (over r)) ((over r).corner j)
        name j lj =
            corner_name c lc j lj ∙ ap (λ (p : Piece Name). p.corner j) piece
            ∙ ap (λ (i : ℕ). cond (eqb j i) (makes (over r)) ((over r).corner j)) slot_over

        pick : (x : Bool) (j : ℕ) → j < 4 → N.name_at (corner_at (held c) j) ≡ cond x (makes (over r)) ((over r).corner j) → corner_at (held c) j ≡ cond x w (corner_at (held r) j)
        pick true j lj e = nv.once _ _ (corner_small c lc j lj) lw (e ∙ sym named_w)
        pick false j lj e = nv.once _ _ (corner_small c lc j lj) (corner_small r l j lj) (e ∙ sym (corner_name r l j lj))

        corner : (j : ℕ) → j < 4 → corner_at (held c) j ≡ corner_at (child_of (held r) w k) j
        corner j lj = pick (eqb j k) j lj (name j lj) ∙ sym (child_corner (held r) w k (four r l) small j)

        shape : shape_of (held c) ≡ child_shape (shape_of (held r)) k
        shape =
            shape_at_lem t b C N h marked nv nr c lc ∙ ap (λ (p : Piece Name). p.shape) piece
            ∙ ap₂ child_shape (sym same_shape) slot_over

        generations : (held c).generation ≡ (child_of (held r) w k).generation
        generations =
            let here = generation_at t b C N h c lc in
            let above = generation_at t b C N h r l in
            let deep = shallow (N.node_at c) (nr.there c lc) in
            let one_more : generation (N.node_at c) ≡ suc (generation (N.node_at r)) = ap generation node in
            omega arith

        materials : (held c).material ≡ (child_of (held r) w k).material
        materials = material_at_lem t b C N h c lc ∙ ap (λ (n : Node). b.material_at n.root) node ∙ sym (material_at_lem t b C N h r l)

    -- Of the refinement edge, the end of lower number is in the same slot by the tables as by the numbers.
    abbrev low_first : Bool
    low_first = ltb (corner_at (held r) (low_slot (held r).edge)) (corner_at (held r) (high_slot (held r).edge))

    same_order : low_first ≡ ltb (N.corner_at r (low_slot (over r).shape.edge)) (N.corner_at r (high_slot (over r).shape.edge))
    same_order =
        let e = (held r).edge in
        ap₂ ltb (corner_at_lem t b C N h r l (low_slot e) (slots_small e).0) (corner_at_lem t b C N h r l (high_slot e) (slots_small e).1)
        ∙ ap (λ (e : ℕ). ltb (N.corner_at r (low_slot e)) (N.corner_at r (high_slot e))) (edge_at_lem r l)

    first_slot : end_at (shape_of (held r)) (first_side N b r) ≡ higher_end (held r) (held r).edge
    unfolding higher_end
    first_slot = ap (λ (x : Bool). end_at (shape_of (held r)) (cond x high low)) (sym same_order) ∙ side_high low_first (shape_of (held r))

    second_slot : end_at (shape_of (held r)) (second_side N b r) ≡ lower_end (held r) (held r).edge
    unfolding lower_end
    second_slot = ap (λ (x : Bool). end_at (shape_of (held r)) (cond x low high)) (sym same_order) ∙ side_low low_first (shape_of (held r))

    right_cut : C.has (N.node_at r) ≡ true → RightCut t r
    unfolding cut_of
    right_cut c =
        let x = nr.cut r l c in
        let (w, lw, name) = nv.every (N.node_at r) c in
        let f = first_at_lem t b C N h r l in
        record {
          w = w;
          made = beyond_made t b C N h w (midpoint_made w lw r l (over r).shape.edge name) lw;
          parents = makes_parents w lw r l name;
          above = omega (arith, f, x.above);
          there = omega (arith, f, x.there, h.records);
          first =
              ap held f
              ∙ child_held w lw name (N.first_at r) (omega (arith, x.there)) (first_side N b r) x.first (higher_end (held r) (held r).edge) (higher_is_end (held r) (held r).edge).0 first_slot;
          second =
              ap (λ (n : ℕ). held (n + 1)) f
              ∙ child_held w lw name (N.first_at r + 1) x.there (second_side N b r) x.second (lower_end (held r) (held r).edge) (lower_is_end (held r) (held r).edge).0 second_slot;
        }

  -- ---- one parent

  -- A record beyond the base is a child of a cut node.
  kid_of : (c : ℕ) → b.pieces ≤ c → c < N.records → (n : Node) × (side : Side) × (C.has n ≡ true) × (N.node_at c ≡ kid n side)
  kid_of c o l = at (N.node_at c).root (N.node_at c).path (nr.there c l) refl
    where
      at : (r : ℕ) (path : List Side) → There C (record { root = r; path = path }) → N.node_at c ≡ record { root = r; path = path } → (n : Node) × (side : Side) × (C.has n ≡ true) × (N.node_at c ≡ kid n side)
      at r [] there e = absurd (omega (arith, nr.once c r l (omega arith) (e ∙ sym (nr.base_node r there))))
      at r (side ∷ path) there e = (record { root = r; path = path }, side, there, e)

  -- The node of a child is a child of its parent's node.
  child_node : (c k : ℕ) → k < N.records → ChildOf t c k → (side : Side) × (N.node_at c ≡ kid (N.node_at k) side)
  child_node c k l x =
      let y = nr.cut k l (cut_has k l x.cut) in
      let f = first_at_lem t b C N h k l in
      ⊎_elim
      (λ e. (first_side N b k, ap N.node_at (sym e ∙ f) ∙ y.first))
      (λ e. (second_side N b k, ap N.node_at (sym e ∙ ap (λ (n : ℕ). n + 1) f) ∙ y.second))
      x.is

  one_parent_lem : (c : ℕ) → b.pieces ≤ c → c < N.records → ExactlyOne (Check.all_records t) (ChildOf t c)
  one_parent_lem c o l =
      let (n, side, has, node) = kid_of c o l in
      let (r, lr, e) = nr.every n (cut_there_lem C n has) in
      let cut : C.has (N.node_at r) ≡ true = ap C.has e ∙ has in
      let x = nr.cut r lr cut in
      let f = first_at_lem t b C N h r lr in
      let child : N.node_at c ≡ kid (N.node_at r) side = node ∙ ap (λ (m : Node). kid m side) (sym e) in
      record {
        it = r;
        there = omega (arith, h.records);
        holds = record {
          cut = has_cut r lr cut;
          is = ⊎_elim
              (λ s. inl (f ∙ nr.once (N.first_at r) c (omega (arith, x.there)) l (x.first ∙ ap (kid (N.node_at r)) s ∙ sym child)))
              (λ s. inr (ap (λ (n : ℕ). n + 1) f ∙ nr.once (N.first_at r + 1) c x.there l (x.second ∙ ap (kid (N.node_at r)) s ∙ sym child)))
              (either_side (ltb (N.corner_at r (low_slot (over r).shape.edge)) (N.corner_at r (high_slot (over r).shape.edge))) side);
        };
        only = λ k lk y. let lk' : k < N.records = omega (arith, h.records) in
            nr.once k r lk' lr (same_kid (sym (child_node c k lk' y).1 ∙ child)).0;
      }

  -- ---- 9 and 10

  in_records : (r : ℕ) → r < Check.all_records t → r < N.records
  in_records r l = omega (arith, h.records)

  pub held_cuts : RightCuts t
  held_cuts =
      record {
        cuts = λ r l c. let lr = in_records r l in right_cut r lr (cut_has r lr c);
        one_parent_lem = λ c o l. one_parent_lem c (omega (arith, h.base_records_lem)) (in_records c l);
        generations = λ r l. let lr = in_records r l in omega (arith, generation_at t b C N h r lr, shallow (N.node_at r) (nr.there r lr));
        midpoints = λ v d. let (o, l) = made_beyond t b C N h v d in
            let m = nv.made v o l in
            let (r, lr, e) = nr.every m.cut (cut_there_lem C m.cut m.is_cut_lem) in (
              r,
              omega (arith, h.records),
              has_cut r lr (ap C.has e ∙ m.is_cut_lem),
              makes_parents v l r lr (sym m.made_by_lem ∙ ap (λ (n : Node). makes (piece_at (named b) n)) (sym e)),
            );
      }

  pub held_rests : NoneHangs (named b) C → Accepted.NoneHangs t
  held_rests rests r l leaf e k v d x =
      let lr = in_records r l in
      let (o, lv) = made_beyond t b C N h v d in
      let m = nv.made v o lv in
      rests (N.node_at r) (record { there = nr.there r lr; uncut = leaf_uncut_lem r lr leaf })
      (e, record { edge = k; cut = m.cut; is_cut = m.is_cut_lem; halfway = m.made_by_lem ∙ parents_midpoint v lv r lr e o x })
