-- The leaves, the depth and the volume that check reports of lawful tables that hold a numbered set of cuts are those of the set. Assumes nothing.
use Rattle.std.specs.Prelude.{◌≡◌, refl, Bool, true, false, ◌⊎◌, List, [], ◌∷◌, ℕ, zero, suc, ◌+◌, ◌≤◌, ◌<◌, max, length}
use Rattle.std.proofs.Common.{sym, ap₂, ◌∙◌, inl, inr, le_antisymm, arith}
use Rattle.std.proofs.Math.Path.{ap, subst, fun_ext}
use Rattle.std.proofs.Math.Bool.{not, cond}
use Rattle.std.proofs.lemmas.Bool.{false≢true, not-true, not-false}
use Rattle.std.proofs.Math.Logic.{⊎_elim}
use Rattle.laws.specs.Below.{either, or_second, sum_below, sum_same, sum_none, sum_suc, count_below, count_none, count_suc, greatest_below, greatest_none, greatest_suc}
use Rattle.grid.specs.Places.{point_of, halfway_of}
use Rattle.grid.specs.GridTheorems.{halfway_exactly, halfway_only}
use Rattle.build_meaning.specs.Righted.{sixfold_four}
use Rattle.stored.specs.declared.Vertex.{Vertex}
use Rattle.stored.specs.Layout.{none}
use Rattle.mesh_tables.specs.Tables as Check
use Rattle.mesh_tables.specs.Tables.{all_records, piece_at, is_leaf}
use Rattle.check_refusals.specs.Check.{leaves, leaf_generation, deepest, leaf_sixfold, sixfold}
use Rattle.cuts_names.specs.Lists.{both_ways, not_so, among, Distinct, without, among_head, among_tail, without_keeps, without_within, without_gone, without_distinct, no_longer}
use Rattle.cuts_names.specs.Names as Names
use Rattle.cuts_names.specs.Pieces as Pieces
use Rattle.cuts_names.specs.Pieces.{Node, generation}
use Rattle.cuts.specs.Sets.{Cuts, Leaf}
use Rattle.cuts.specs.Least.{same_node, node_equality}
use Rattle.cuts.specs.Count.{LeafList}
use Rattle.cuts.specs.Smaller.{by_smaller}
use Rattle.cuts.specs.Tables.{Tables, Lawful, piece_of, node_of, Represents}
use Rattle.cuts.specs.LinkAlike.{alike_then, nodes_alike}
use Rattle.cuts.specs.LinkLists.{list_where, where_length}
use Rattle.cuts.specs.LinkNames.{base_or_beyond}
use Rattle.cuts.specs.LinkNodes.{linked}
use Rattle.cuts.specs.LinkSets.{leaf_nodes, uncut_leaf_lem, leaf_uncut_lem, leaves_listed_lem, uncut_count_lem}
use Rattle.demands_words.specs.Words.{BaseMesh, named, ProperlyMarked, Numbering, VerticesNumbered, RecordsNumbered, place_of, sixfold_at, sum_of, Figures}
use Rattle.demands_proofs.specs.Link.{link}
use Rattle.demands_proofs.specs.Holds.{Holds}
use Rattle.demands_proofs.specs.Exact.{place_mid}
use Rattle.demands_proofs.specs.HoldsGrown.{name_is, represents, grown}

-- ---- lists with the same elements

-- The sum of a list is that of one of its elements and of the others.
sum_without : (f : Node → ℕ) (x : Node) (l : List Node) → among same_node x l ≡ true → sum_of f l ≡ f x + sum_of f (without same_node x l)
unfolding sum_of
sum_without f x [] t = absurd (false≢true t)
sum_without f x (y ∷ l) t =
    ⊎_elim
    (λ (e : same_node x y ≡ true). rw e (ap (λ (z : Node). f z + sum_of f l) (sym (node_equality.only x y e))))
    (λ (d : same_node x y ≡ false). rw d (omega (arith, sum_without f x l (or_second (same_node x y) (among same_node x l) d t))))
    (either (same_node x y))

-- Two lists with the same elements, each once, have the same sum.
pub same_sum : (f : Node → ℕ) (l m : List Node) → Distinct same_node l → Distinct same_node m → ((x : Node) → among same_node x l ≡ true → among same_node x m ≡ true) → ((x : Node) → among same_node x m ≡ true → among same_node x l ≡ true) → sum_of f l ≡ sum_of f m
unfolding sum_of
same_sum f [] [] d e inside back = refl
same_sum f [] (y ∷ m) d e inside back = absurd (false≢true (back y (among_head node_equality y m)))
same_sum f (x ∷ l) m d e inside back =
    let apart : (y : Node) → among same_node y l ≡ true → same_node y x ≡ false =
    λ y t. not_so (same_node y x) (λ s. both_ways (subst (λ (z : Node). among same_node z l ≡ true) (node_equality.only y x s) t) d.0) in
    let other : (y : Node) → among same_node y (without same_node x m) ≡ true → same_node y x ≡ false =
    λ y t.
    not_so (same_node y x)
    (λ s. both_ways (subst (λ (z : Node). among same_node z (without same_node x m) ≡ true) (node_equality.only y x s) t) (without_gone node_equality x m e)) in
    let rest : sum_of f l ≡ sum_of f (without same_node x m) =
    same_sum f l (without same_node x m) d.1 (without_distinct node_equality x m e)
    (λ y t. without_keeps node_equality x y m (inside y (among_tail node_equality y x l t)) (apart y t))
    (λ y t. or_second (same_node y x) (among same_node y l) (other y t) (back y (without_within node_equality x y m t))) in
    omega (arith, rest, sum_without f x m (inside x (among_head node_equality x l)))

-- The sum of the values at the numbers that pass a test.
where_sum : (f : Node → ℕ) (test : ℕ → Bool) (g : ℕ → Node) (n : ℕ) → sum_of f (list_where test g n) ≡ sum_below n (λ k. cond (test k) (f (g k)) 0)
unfolding sum_of list_where
where_sum f test g zero = sym (sum_none (λ k. cond (test k) (f (g k)) 0))
where_sum f test g (suc n) =
    rw (sum_suc (λ k. cond (test k) (f (g k)) 0) n)
    (⊎_elim (λ e. rw e (omega (arith, where_sum f test g n))) (λ e. rw e (omega (arith, where_sum f test g n))) (either (test n)))

-- Two lists of all leaves have the same length and the same sum.
module _ {count : ℕ} (C : Cuts count) (l m : List Node) (a : LeafList C l) (b : LeafList C m) where
  leaves_length : length l ≡ length m
  leaves_length =
      le_antisymm (no_longer node_equality l m a.distinct (λ n t. b.all n (a.leaf n t))) (no_longer node_equality m l b.distinct (λ n t. a.all n (b.leaf n t)))

  leaves_sum : (f : Node → ℕ) → sum_of f l ≡ sum_of f m
  leaves_sum f = same_sum f l m a.distinct b.distinct (λ n t. b.all n (a.leaf n t)) (λ n t. a.all n (b.leaf n t))

-- ---- how many, and the greatest

not_not : (b : Bool) → not (not b) ≡ b
not_not true = refl
not_not false = refl

-- Where a test passes for some number, this one passes.
count_where : (P : ℕ → Bool) (n : ℕ) → 1 ≤ count_below n P → (k : ℕ) × (k < n) × (P k ≡ true)
count_where P zero h = absurd (omega (arith, h, count_none P))
count_where P (suc n) h =
    ⊎_elim
    (λ e. (n, omega arith, e))
    (λ (e : P n ≡ false).
    let next : count_below (suc n) P ≡ count_below n P = rw (count_suc P n, e) (omega arith) in
    let (k, l, t) = count_where P n (omega (arith, h, next)) in
    (k, omega arith, t))
    (either (P n))

-- No value is above the greatest.
greatest_at_least : (f : ℕ → ℕ) (n k : ℕ) → k < n → f k ≤ greatest_below n f
greatest_at_least f zero k h = absurd (omega arith)
greatest_at_least f (suc n) k h =
    rw greatest_suc
    (⊎_elim
    (λ (l : k < n). omega (arith, greatest_at_least f n k l))
    (λ (l : n ≤ k). let e : k ≡ n = omega arith in rw e (omega arith))
    (base_or_beyond k n))

-- The greatest value of the numbers that pass a test is 0, or one of them has it.
module _ (P : ℕ → Bool) (f : ℕ → ℕ) where
  abbrev picked : ℕ → ℕ
  picked k = cond (P k) (f k) 0

  abbrev Found : ℕ → Type 0
  Found n = (k : ℕ) × (k < n) × (P k ≡ true) × (f k ≡ greatest_below n picked)

  -- One more number.
  greatest_turn : (n : ℕ) → (greatest_below n picked ≡ 0) ⊎ Found n → (greatest_below (suc n) picked ≡ 0) ⊎ Found (suc n)
  greatest_turn n before =
      ⊎_elim
      (λ (t : P n ≡ true).
      let now : greatest_below (suc n) picked ≡ max (greatest_below n picked) (f n) = rw (greatest_suc picked n, t) in
      ⊎_elim
      (λ (l : f n < greatest_below n picked). stays (omega arith))
      (λ (l : greatest_below n picked ≤ f n). inr (n, omega arith, t, omega arith))
      (base_or_beyond (f n) (greatest_below n picked)))
      (λ (e : P n ≡ false). stays (rw (greatest_suc picked n, e) (omega arith)))
      (either (P n))
    where
      stays : greatest_below (suc n) picked ≡ greatest_below n picked → (greatest_below (suc n) picked ≡ 0) ⊎ Found (suc n)
      stays e = ⊎_elim (λ z. inl (e ∙ z)) (λ x. let (k, l, t, q) = x in inr (k, omega arith, t, q ∙ sym e)) before

  greatest_where : (n : ℕ) → (greatest_below n picked ≡ 0) ⊎ Found n
  greatest_where zero = inl (greatest_none picked)
  greatest_where (suc n) = greatest_turn n (greatest_where n)

  -- Where some number passes, one that passes has it.
  greatest_reached : (n s : ℕ) → s < n → P s ≡ true → Found n
  greatest_reached n s h t =
      ⊎_elim
      (λ z. let most : f s ≤ greatest_below n picked = rw t at (greatest_at_least picked n s h) in (s, h, t, omega arith))
      (λ x. x)
      (greatest_where n)

-- ---- places

-- A base vertex stands at its place.
base_place : (b : BaseMesh) (v : ℕ) → place_of b (Names.base v) ≡ b.place_at v
unfolding place_of
base_place b v = refl

-- ---- the tables

module _ (m : Check.Tables) (b : BaseMesh) (C : Cuts b.pieces) (N : Numbering) (holds : Holds m b N) (vertices : VerticesNumbered b C N) (records : RecordsNumbered b C N) (four : (r : ℕ) → r < b.pieces → length (b.shape_at r).marks ≡ 4) (small : N.records ≤ none) (lawful : Lawful (link m)) where
  abbrev t : Tables
  t = link m

  represented : Represents t C
  represented = represents m b C N holds vertices records four small lawful

  -- Every vertex stands where its name says.
  number_place : (v : ℕ) → v < N.vertices → N.place_at v ≡ place_of b (N.name_at v)
  number_place = by_smaller (λ v. v < N.vertices → N.place_at v ≡ place_of b (N.name_at v)) step
    where
      step : (v : ℕ) → ((u : ℕ) → u < v → u < N.vertices → N.place_at u ≡ place_of b (N.name_at u)) → v < N.vertices → N.place_at v ≡ place_of b (N.name_at v)
      step v below h =
          ⊎_elim
          (λ l. vertices.base_place v l ∙ sym (base_place b v) ∙ ap (place_of b) (sym (vertices.base_name v l)))
          (λ l.
          let made = vertices.made v l h in
          let p = N.p_at v in
          let q = N.q_at v in
          halfway_only (N.place_at v) (N.place_at p) (N.place_at q) ((halfway_exactly (N.place_at v) (N.place_at p) (N.place_at q)).1 made.halfway)
          ∙ ap₂ halfway_of (below p (omega (arith, made.p<q, made.q<v)) (omega (arith, made.p<q, made.q<v))) (below q made.q<v (omega (arith, made.q<v)))
          ∙ sym (place_mid b (N.name_at p) (N.name_at q))
          ∙ ap (place_of b) (sym made.name))
          (base_or_beyond v b.vertices)

  pub vertex_place : (v : ℕ) → v < N.vertices → (m.vertex_at v).place ≡ place_of b (N.name_at v)
  vertex_place v h = ap (λ (x : Vertex). x.place) (holds.vertex_at v h) ∙ number_place v h

  -- So the piece of a record stands where its node says.
  corner_place : (r : ℕ) → r < all_records m → (k : ℕ) → k < 4 → (m.vertex_at (t.corner r k)).place ≡ place_of b ((Pieces.piece_at (named b) (node_of t r)).corner k)
  corner_place r h k l =
      let x = linked t lawful r h in
      let v = t.corner r k in
      let there : v < N.vertices = omega (arith, x.corners k l, holds.vertices) in
      let g = grown m b C N holds vertices records four small lawful in
      let rooted : (node_of t r).root < b.pieces = omega (arith, x.rooted, holds.base_records_lem) in
      let like = alike_then x.piece (nodes_alike (piece_of t) (named b) g.alike (node_of t r) rooted) in
      vertex_place v there ∙ ap (place_of b) (sym (name_is m b C N holds vertices records four small lawful v there) ∙ like.corner k l)

  -- And it has the volume of its node.
  pub record_sixfold : (r : ℕ) → r < all_records m → Check.sixfold_at m.vertex_at (piece_at m r) ≡ sixfold_at b (node_of t r)
  unfolding Check.sixfold_at sixfold_at
  record_sixfold r h =
      sixfold_four (Check.corner_point m.vertex_at (piece_at m r)) (λ k. point_of (place_of b ((Pieces.piece_at (named b) (node_of t r)).corner k)))
      (λ k l. ap point_of (corner_place r h k l))

  -- ---- the figures

  listed : LeafList C (leaf_nodes t)
  listed = leaves_listed_lem t lawful C represented

  leaf_count : length (leaf_nodes t) ≡ leaves m
  unfolding leaves
  leaf_count = where_length (λ r. not (t.cut r)) (node_of t) t.records ∙ ap (count_below (all_records m)) (fun_ext (λ r. not_not (is_leaf m r)))

  leaf_sum : sum_of (sixfold_at b) (leaf_nodes t) ≡ sixfold m
  unfolding sixfold leaf_sixfold
  leaf_sum =
      where_sum (sixfold_at b) (λ r. not (t.cut r)) (node_of t) t.records
      ∙ sum_same (all_records m) (λ r. cond (not (t.cut r)) (sixfold_at b (node_of t r)) 0) (λ r. leaf_sixfold m.vertex_at (m.record_at r))
      (λ r h. ⊎_elim (λ e. rw e (sym (record_sixfold r h))) (λ e. rw e) (either (is_leaf m r)))

  -- A leaf, which there is as there is a base piece.
  some_leaf : 1 ≤ b.pieces → (r : ℕ) × (r < all_records m) × (is_leaf m r ≡ true)
  some_leaf some =
      let (r, h, u) = count_where (λ r. not (t.cut r)) t.records (omega (arith, uncut_count_lem t lawful, some, holds.base_records_lem)) in
      (r, h, not-false (is_leaf m r) (not-true (t.cut r) u))

  node_generation : (r : ℕ) → r < all_records m → generation (node_of t r) ≡ (piece_at m r).generation
  node_generation r h = sym (linked t lawful r h).generation

  deepest_leaf : 1 ≤ b.pieces → (n : Node) × Leaf C n × (generation n ≡ deepest m)
  unfolding deepest leaf_generation
  deepest_leaf some =
      let (s, hs, us) = some_leaf some in
      let (r, h, u, e) = greatest_reached (is_leaf m) (λ k. (piece_at m k).generation) (all_records m) s hs us in
      (node_of t r, uncut_leaf_lem t lawful C represented r h (ap not u), node_generation r h ∙ e)

  none_deeper : (n : Node) → Leaf C n → generation n ≤ deepest m
  unfolding deepest leaf_generation
  none_deeper n f =
      let (r, h, u, q) = leaf_uncut_lem t lawful C represented n f in
      let most : (piece_at m r).generation ≤ deepest m = rw (not-false (is_leaf m r) u) at (greatest_at_least (λ k. leaf_generation (m.record_at k)) (all_records m) r h) in
      subst (λ (x : Node). generation x ≤ deepest m) q (omega (arith, most, node_generation r h))

  -- What check reports of the tables are the figures of the set.
  pub figures_held : ProperlyMarked b → Figures b C (leaves m) (deepest m) (sixfold m)
  figures_held properly =
      record {
        list = leaf_nodes t;
        listed = listed;
        leaves_are = λ l x. leaves_length C l (leaf_nodes t) x listed ∙ leaf_count;
        deepest_reached = deepest_leaf properly.some_pieces;
        deepest_most = none_deeper;
        sixfold_is = λ l x. leaves_sum C l (leaf_nodes t) x listed (sixfold_at b) ∙ leaf_sum;
      }
