-- Lawful tables that hold a numbered set of cuts represent it, with the numbering's own names and nodes: so they hold no other set. Assumes
-- nothing.
use Rattle.std.specs.Prelude.{◌≡◌, refl, Bool, true, false, not, List, [], ◌∷◌, ℕ, zero, suc, ◌≤◌, ◌<◌, ltb, eqb, length, get_or}
use Rattle.std.proofs.Common.{sym, ap, subst, ◌∙◌, ⊎_elim, add-one, arith, le-ltb, ne_eqb, eq-eqb}
use Rattle.std.proofs.Math.Path.{ap₂}
use Rattle.std.proofs.Math.Bool.{cond}
use Rattle.laws.specs.Below.{either}
use Rattle.laws.specs.Lists.{four_of}
use Rattle.piece_edges.specs.Edges.{low_slot, high_slot, slots_small}
use Rattle.piece.specs.Shape.{shape_of, mark}
use Rattle.piece.specs.Ends.{corner_at}
use Rattle.stored.specs.declared.Vertex.{Vertex}
use Rattle.stored.specs.declared.Record.{Record}
use Rattle.stored.specs.Layout.{none}
use Rattle.mesh_tables.specs.Tables as Check
use Rattle.mesh_tables.specs.Tables.{piece_at}
use Rattle.cuts_names.specs.Names.{Name, mid}
use Rattle.cuts_names.specs.Pieces as Pieces
use Rattle.cuts_names.specs.Pieces.{Piece, Side, low, high, Node, kid, piece_root_lem}
use Rattle.cuts_names.specs.Lists.{both_ways}
use Rattle.cuts_names.specs.Macro.{Alike}
use Rattle.cuts.specs.Sets.{Cuts}
use Rattle.cuts.specs.Depth.{cut_there_lem}
use Rattle.cuts.specs.Smaller.{by_smaller}
use Rattle.cuts.specs.Tables.{Tables, Lawful, low_first, child_on, name_of, piece_of, node_of, Represents}
use Rattle.cuts.specs.LinkNames.{base_or_beyond, name_base, name_made}
use Rattle.cuts.specs.LinkNodes.{node_root, node_kid, every_record}
use Rattle.cuts.specs.LinkGrown.{Grown}
use Rattle.demands_words.specs.Words.{BaseMesh, named, Numbering, VerticesNumbered, RecordsNumbered, second_side}
use Rattle.demands_proofs.specs.Link.{link}
use Rattle.demands_proofs.specs.Holds.{Holds}

-- The number of the child on a side, and that its node is that child's.
abbrev child_number : Bool → ℕ → Side → ℕ
child_number c f low = cond c (suc f) f
child_number c f high = cond c f (suc f)

numbered_child : (node : ℕ → Node) (f : ℕ) (n : Node) (c : Bool) → node f ≡ kid n (cond c high low) → node (suc f) ≡ kid n (cond c low high) → (side : Side) → node (child_number c f side) ≡ kid n side
numbered_child node f n true x y low = y
numbered_child node f n true x y high = x
numbered_child node f n false x y low = x
numbered_child node f n false x y high = y

module _ (m : Check.Tables) (b : BaseMesh) (C : Cuts b.pieces) (N : Numbering) (holds : Holds m b N) (vertices : VerticesNumbered b C N) (records : RecordsNumbered b C N) (four : (r : ℕ) → r < b.pieces → length (b.shape_at r).marks ≡ 4) (small : N.records ≤ none) (lawful : Lawful (link m)) where
  abbrev t : Tables
  t = link m

  -- ---- names

  pub name_is : (v : ℕ) → v < N.vertices → name_of t v ≡ N.name_at v
  name_is = by_smaller (λ v. v < N.vertices → name_of t v ≡ N.name_at v) step
    where
      step : (v : ℕ) → ((u : ℕ) → u < v → u < N.vertices → name_of t u ≡ N.name_at u) → v < N.vertices → name_of t v ≡ N.name_at v
      step v below h =
          ⊎_elim
          (λ l. name_base t lawful v (omega (arith, l, holds.base_vertices_lem)) ∙ sym (vertices.base_name v l))
          (λ l.
          let made = vertices.made v l h in
          let p : t.p v ≡ N.p_at v = ap (λ (x : Vertex). x.p) (holds.vertex_at v h) ∙ ap (λ (c : Bool). cond c none (N.p_at v)) (le-ltb v b.vertices l) in
          let q : t.q v ≡ N.q_at v = ap (λ (x : Vertex). x.q) (holds.vertex_at v h) ∙ ap (λ (c : Bool). cond c none (N.q_at v)) (le-ltb v b.vertices l) in
          name_made t lawful v (omega (arith, l, holds.base_vertices_lem), omega (arith, h, holds.vertices))
          ∙ ap₂ (λ (x y : ℕ). mid (name_of t x) (name_of t y)) p q
          ∙ ap₂ mid (below (N.p_at v) (omega (arith, made.p<q, made.q<v)) (omega (arith, made.p<q, made.q<v))) (below (N.q_at v) made.q<v (omega (arith, made.q<v)))
          ∙ sym made.name)
          (base_or_beyond v b.vertices)

  -- ---- cut records

  first_is : (r : ℕ) → r < N.records → t.first r ≡ N.first_at r
  first_is r h = ap (λ (x : Record). x.first_child) (holds.record_at r h)

  has_cut : (r : ℕ) → r < N.records → t.cut r ≡ true → C.has (N.node_at r) ≡ true
  has_cut r h c =
      ⊎_elim (λ y. y)
      (λ n. absurd (both_ways c (ap (λ (f : ℕ). not (eqb f none)) (first_is r h) ∙ ap not (eq-eqb (N.first_at r) none (records.uncut r h n)))))
      (either (C.has (N.node_at r)))

  cut_has : (r : ℕ) → r < N.records → C.has (N.node_at r) ≡ true → t.cut r ≡ true
  cut_has r h c =
      let x = records.cut r h c in
      ap (λ (f : ℕ). not (eqb f none)) (first_is r h) ∙ ap not (ne_eqb (N.first_at r) none (λ e. omega (arith, e, x.there, small)))

  edge_is : (r : ℕ) → r < N.records → (t.shape r).edge ≡ (Pieces.piece_at (named b) (N.node_at r)).shape.edge
  edge_is r h = ap (λ (x : Record). x.piece.edge) (holds.record_at r h)

  corner_is : (r : ℕ) → r < N.records → (k : ℕ) → k < 4 → t.corner r k ≡ N.corner_at r k
  corner_is r h k l = ap (λ (x : Record). get_or x.piece.corners k 0) (holds.record_at r h) ∙ listed (N.corner_at r) k l
    where
      listed : (f : ℕ → ℕ) (k : ℕ) → k < 4 → get_or (f 0 ∷ f 1 ∷ f 2 ∷ f 3 ∷ []) k 0 ≡ f k
      listed f zero l = refl
      listed f (suc zero) l = refl
      listed f (suc (suc zero)) l = refl
      listed f (suc (suc (suc zero))) l = refl
      listed f (suc (suc (suc (suc k)))) l = absurd (omega arith)

  -- Of the refinement edge the end in the first slot is the one of lower number, in the tables and in the numbering alike.
  lower_alike : (r : ℕ) → r < N.records →
      let e = (Pieces.piece_at (named b) (N.node_at r)).shape.edge in
      low_first t r ≡ ltb (N.corner_at r (low_slot e)) (N.corner_at r (high_slot e))
  lower_alike r h =
      let e = (Pieces.piece_at (named b) (N.node_at r)).shape.edge in
      ap (λ (x : ℕ). ltb (t.corner r (low_slot x)) (t.corner r (high_slot x))) (edge_is r h)
      ∙ ap₂ ltb (corner_is r h (low_slot e) (slots_small e).0) (corner_is r h (high_slot e) (slots_small e).1)

  -- ---- nodes

  child_is : (r : ℕ) → r < N.records → (side : Side) →
      let e = (Pieces.piece_at (named b) (N.node_at r)).shape.edge in
      child_on t r side ≡ child_number (ltb (N.corner_at r (low_slot e)) (N.corner_at r (high_slot e))) (N.first_at r) side
  unfolding child_on
  child_is r h low = ap₂ (λ (c : Bool) (f : ℕ). cond c (suc f) f) (lower_alike r h) (first_is r h)
  child_is r h high = ap₂ (λ (c : Bool) (f : ℕ). cond c f (suc f)) (lower_alike r h) (first_is r h)

  child_node : (r : ℕ) → r < N.records → C.has (N.node_at r) ≡ true → (side : Side) → N.node_at (child_on t r side) ≡ kid (N.node_at r) side
  child_node r h c side =
      let e = (Pieces.piece_at (named b) (N.node_at r)).shape.edge in
      let x = records.cut r h c in
      ap N.node_at (child_is r h side)
      ∙ numbered_child N.node_at (N.first_at r) (N.node_at r) (ltb (N.corner_at r (low_slot e)) (N.corner_at r (high_slot e))) x.first
      (subst (λ (k : ℕ). N.node_at k ≡ kid (N.node_at r) (second_side N b r)) (add-one (N.first_at r)) x.second) side

  pub node_is : (r : ℕ) → r < N.records → node_of t r ≡ N.node_at r
  node_is r h = every_record t lawful (λ c. c < N.records → node_of t c ≡ N.node_at c) at_base at_child_lem r (omega (arith, h, holds.records)) h
    where
      at_base : (c : ℕ) → c < t.base_records → c < N.records → node_of t c ≡ N.node_at c
      at_base c l _ = node_root t lawful c l ∙ sym (records.base_node c (omega (arith, l, holds.base_records_lem)))

      at_child_lem : (c : ℕ) → c < t.records → t.cut c ≡ true → (c < N.records → node_of t c ≡ N.node_at c) → (side : Side) → child_on t c side < N.records → node_of t (child_on t c side) ≡ N.node_at (child_on t c side)
      at_child_lem c l cut same side _ =
          let h : c < N.records = omega (arith, l, holds.records) in
          node_kid t lawful c l cut side ∙ ap (λ (n : Node). kid n side) (same h) ∙ sym (child_node c h (has_cut c h cut) side)

  -- ---- the set

  pub represents : Represents t C
  represents =
      record {
        bases = sym holds.base_records_lem;
        has = λ r h c. let l : r < N.records = omega (arith, h, holds.records) in ap C.has (node_is r l) ∙ has_cut r l c;
        only = λ n c.
            let (r, l, e) = records.every n (cut_there_lem C n c) in
            (r, omega (arith, l, holds.records), cut_has r l (ap C.has e ∙ c), node_is r l ∙ e);
      }

  base_alike : (r : ℕ) → r < b.pieces → Alike (piece_of t r) (named b r)
  base_alike r h =
      let l : r < N.records = omega (arith, h, records.base_first) in
      let p : Pieces.piece_at (named b) (N.node_at r) ≡ named b r = ap (Pieces.piece_at (named b)) (records.base_node r h) ∙ piece_root_lem (named b) r in
      record {
        shape =
            ap (λ (x : Record). shape_of x.piece) (holds.record_at r l)
            ∙ ap (λ (x : Piece Name). record { edge = x.shape.edge; marks = mark x.shape 0 ∷ mark x.shape 1 ∷ mark x.shape 2 ∷ mark x.shape 3 ∷ []; flag = x.shape.flag }) p
            ∙ ap (λ (marks : List ℕ). record { edge = (b.shape_at r).edge; marks = marks; flag = (b.shape_at r).flag }) (four_of (b.shape_at r).marks 0 (four r h));
        corner = λ k s. ap (name_of t) (corner_is r l k s) ∙ name_is (N.corner_at r k) (records.corner_there r l k s) ∙ records.corner r l k s ∙ ap (λ (x : Piece Name). x.corner k) p;
      }

  -- The tables have grown from the base to the set.
  pub grown : Grown (named b) t C
  grown = record { lawful = lawful; represents = represents; alike = base_alike }
