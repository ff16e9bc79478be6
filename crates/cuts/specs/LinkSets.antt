-- The set of cuts that lawful tables represent: its nodes, leaves, made vertices and hanging edges are those of the tables, and there is no other.
use Rattle.std.specs.Prelude.{◌≡◌, refl, Bool, true, false, not, ◌&&◌, List, [], ◌∷◌, ℕ, zero, suc, ◌+◌, ◌≤◌, ◌<◌, length, ltb}
use Rattle.std.proofs.Math.Path.{sym}
use Rattle.std.proofs.Common.{ap, ap₂, ◌∙◌, subst, inl, inr, ⊎_elim, arith, ltb-false, lt-ltb, le-ltb}
use Rattle.std.proofs.Math.Logic.{⊎_swap}
use Rattle.std.proofs.lemmas.Bool.{not-true}
use Rattle.laws.specs.Below.{same_tests, either, and_left, and_right, any_is, any_where, count_below, count_none, count_suc}
use Rattle.piece_edges.specs.Edges.{low_slot, high_slot, slots_small}
use Rattle.cuts_names.specs.Lists.{among}
use Rattle.cuts_names.specs.Names.{Name, same_name, name_equality}
use Rattle.cuts_names.proofs.Names.{mid_injective_lem}
use Rattle.cuts_names.specs.Pieces.{Side, Node, kid, piece_at, makes}
use Rattle.cuts.specs.Sets.{Cuts, There, Leaf, HangsAt}
use Rattle.cuts_names.specs.Macro.{mid_alike, makes_alike}
use Rattle.cuts.specs.Least.{same_node, node_equality}
use Rattle.cuts.specs.Count.{CutList, LeafList, MadeList, leaves_count_lem}
use Rattle.cuts.specs.Tables.{Tables, Made, Midpoint, Lawful, HangsIn, name_of, piece_of, child_on, node_of, cut_at, Represents}
use Rattle.cuts.specs.LinkNames.{base_or_beyond, pair_mid, name_made, names_distinct_lem}
use Rattle.cuts.specs.LinkNodes.{midpoint_name, same_kid, root_no_kid, child_inside, parent, node_root, node_kid, node_parent, linked, nodes_distinct_lem}
use Rattle.cuts.specs.LinkLists.{list_where, where_length, where_among, where_is, where_which, where_distinct}

-- ---- the set

-- The node of a cut record is found.
pub cut_found : (t : Tables) (r : ℕ) → r < t.records → t.cut r ≡ true → cut_at t (node_of t r) ≡ true
unfolding cut_at
cut_found t r h c = any_is (λ s. t.cut s && same_node (node_of t r) (node_of t s)) t.records r h (ap₂ ◌&&◌ c (node_equality.self (node_of t r)))

-- What is found is the node of a cut record.
pub found_cut : (t : Tables) (n : Node) → cut_at t n ≡ true → (r : ℕ) × (r < t.records) × (t.cut r ≡ true) × (node_of t r ≡ n)
unfolding cut_at
found_cut t n e =
    let (r, h, b) = any_where (λ s. t.cut s && same_node n (node_of t s)) t.records e in
    (r, h, and_left (t.cut r) _ b, sym (node_equality.only n (node_of t r) (and_right (t.cut r) (same_node n (node_of t r)) b)))

-- The set of cuts of lawful tables: the nodes of the cut records.
unfoldable pub cuts_of : (t : Tables) → Lawful t → Cuts t.base_records
cuts_of t l =
    record {
      has = cut_at t;
      rooted = λ n e. let (r, h, c, q) = found_cut t n e in subst (λ (m : Node). m.root < t.base_records) q (linked t l r h).rooted;
      closed =
          λ n side e.
          let (r, h, c, q) = found_cut t (kid n side) e in
          ⊎_elim
          (λ b. absurd (root_no_kid r n side (sym (node_root t l r b) ∙ q)))
          (λ b.
          let x = parent t l r b h in
          subst (λ (m : Node). cut_at t m ≡ true) (same_kid (sym (node_parent t l r x h) ∙ q)).0 (cut_found t x.number (omega (arith, x.below)) x.cut))
          (base_or_beyond r t.base_records);
    }

-- The tables represent it.
pub represented : (t : Tables) (l : Lawful t) → Represents t (cuts_of t l)
unfolding cuts_of
represented t l = record { bases = refl; has = cut_found t; only = found_cut t }

-- They represent no other: a set that they represent has just these cuts.
pub exactly_one : (t : Tables) (l : Lawful t) {count : ℕ} (C : Cuts count) → Represents t C → (n : Node) → C.has n ≡ (cuts_of t l).has n
unfolding cuts_of
exactly_one t l C rep n =
    same_tests (C.has n) (cut_at t n)
    (λ e. let (r, h, c, q) = rep.only n e in subst (λ (m : Node). cut_at t m ≡ true) q (cut_found t r h c))
    (λ e. let (r, h, c, q) = found_cut t n e in subst (λ (m : Node). C.has m ≡ true) q (rep.has r h c))

-- ---- lists

-- The nodes of the cut records, of the uncut ones, and the names of the made vertices.
abbrev pub cut_nodes : Tables → List Node
cut_nodes t = list_where t.cut (node_of t) t.records

abbrev pub leaf_nodes : Tables → List Node
leaf_nodes t = list_where (λ r. not (t.cut r)) (node_of t) t.records

abbrev pub made_names : Tables → List Name
made_names t = list_where (λ v. not (ltb v t.base_vertices)) (name_of t) t.vertices

-- Of the numbers below n, those that pass a test and those that do not are n.
pub count_both : (test : ℕ → Bool) (n : ℕ) → count_below n test + count_below n (λ k. not (test k)) ≡ n
count_both test zero = rw (count_none test, count_none (λ k. not (test k)))
count_both test (suc n) =
    rw (count_suc test n, count_suc (λ k. not (test k)) n)
    (⊎_elim (λ e. rw e (omega (arith, count_both test n))) (λ e. rw e (omega (arith, count_both test n))) (either (test n)))

-- Of the numbers below n, those that are not below b are all but b.
pub count_beyond : (b n : ℕ) → b ≤ n → b + count_below n (λ k. not (ltb k b)) ≡ n
count_beyond b zero h = rw (count_none (λ k. not (ltb k b))) (omega arith)
count_beyond b (suc n) h =
    rw (count_suc (λ k. not (ltb k b)) n)
    (⊎_elim
    (λ (i : b ≤ n). rw (le-ltb n b i) (omega (arith, count_beyond b n i)))
    (λ (i : n < b). rw (lt-ltb n b i, none n (omega arith)) (omega arith))
    (⊎_swap (base_or_beyond n b)))
  where
    none : (m : ℕ) → m ≤ b → count_below m (λ k. not (ltb k b)) ≡ 0
    none zero l = count_none (λ k. not (ltb k b))
    none (suc m) l = rw (count_suc (λ k. not (ltb k b)) m, none m (omega arith), lt-ltb m b l)

module _ (t : Tables) (l : Lawful t) where
  -- The midpoint of a record's refinement edge has the name that cutting its node makes.
  pub midpoint_makes : (w r : ℕ) → r < t.records → Midpoint t w r → name_of t w ≡ makes (piece_at (piece_of t) (node_of t r))
  midpoint_makes w r h m = name_made t l w m.made ∙ midpoint_name t r w m ∙ makes_alike (linked t l r h).piece

  -- There are as many names of made vertices as vertices beyond the base.
  pub made_count : t.base_vertices + length (made_names t) ≡ t.vertices
  made_count = rw (where_length (λ v. not (ltb v t.base_vertices)) (name_of t) t.vertices) (count_beyond t.base_vertices t.vertices l.vertex_counts)

module _ (t : Tables) (l : Lawful t) {count : ℕ} (C : Cuts count) (rep : Represents t C) where
  -- ---- nodes

  -- A record is cut just where its node is in the set.
  pub node_cut : (r : ℕ) → r < t.records → C.has (node_of t r) ≡ t.cut r
  node_cut r h =
      same_tests (C.has (node_of t r)) (t.cut r)
      (λ e. let (s, hs, c, q) = rep.only (node_of t r) e in subst (λ (x : ℕ). t.cut x ≡ true) (nodes_distinct_lem t l s r hs h q) c)
      (λ c. rep.has r h c)

  -- Every record's node is there.
  pub node_there : (c : ℕ) → c < t.records → There C (node_of t c)
  node_there c h =
      ⊎_elim
      (λ b. rw (node_root t l c b) (omega (arith, rep.bases)))
      (λ b. let x = parent t l c b h in rw (node_parent t l c x h) (rep.has x.number (omega (arith, x.below)) x.cut))
      (base_or_beyond c t.base_records)

  -- Every node that is there is a record's; no two records have it, by nodes-distinct.
  pub there_node : (n : Node) → There C n → (c : ℕ) × (c < t.records) × (node_of t c ≡ n)
  there_node n h = at n.root n.path h
    where
      at : (r : ℕ) (path : List Side) → There C (record { root = r; path = path }) → (c : ℕ) × (c < t.records) × (node_of t c ≡ record { root = r; path = path })
      at r [] h = (r, omega (arith, rep.bases, l.record_counts), node_root t l r (omega (arith, rep.bases)))
      at r (side ∷ path) h =
          let (s, hs, c, q) = rep.only (record { root = r; path = path }) h in
          (child_on t s side, (child_inside t l s hs c side).1, node_kid t l s hs c side ∙ ap (λ (m : Node). kid m side) q)

  -- The node of an uncut record is a leaf.
  pub uncut_leaf_lem : (c : ℕ) → c < t.records → t.cut c ≡ false → Leaf C (node_of t c)
  uncut_leaf_lem c h u = record { there = node_there c h; uncut = node_cut c h ∙ u }

  -- Every leaf is the node of an uncut record.
  pub leaf_uncut_lem : (n : Node) → Leaf C n → (c : ℕ) × (c < t.records) × (t.cut c ≡ false) × (node_of t c ≡ n)
  leaf_uncut_lem n f = let (c, h, q) = there_node n f.there in (c, h, sym (node_cut c h) ∙ ap C.has q ∙ f.uncut, q)

  -- ---- lists

  -- The cut records' nodes are a list of all cuts.
  pub cuts_listed_lem : CutList C (cut_nodes t)
  unfolding cuts_of cut_at
  cuts_listed_lem =
      record {
        distinct = where_distinct node_equality t.cut (node_of t) t.records (λ j k hj hk a b. nodes_distinct_lem t l j k hj hk);
        exact = λ n. where_among node_equality t.cut (node_of t) n t.records ∙ sym (exactly_one t l C rep n);
      }

  -- The uncut records' nodes are a list of all leaves.
  pub leaves_listed_lem : LeafList C (leaf_nodes t)
  leaves_listed_lem =
      record {
        distinct = where_distinct node_equality (λ r. not (t.cut r)) (node_of t) t.records (λ j k hj hk a b. nodes_distinct_lem t l j k hj hk);
        leaf =
            λ n e.
            let (c, h, u, q) = where_which node_equality (λ r. not (t.cut r)) (node_of t) n t.records e in
            subst (λ (m : Node). Leaf C m) q (uncut_leaf_lem c h (not-true (t.cut c) u));
        all =
            λ n f.
            let (c, h, u, q) = leaf_uncut_lem n f in
            subst (λ (m : Node). among same_node m (leaf_nodes t) ≡ true) q (where_is node_equality (λ r. not (t.cut r)) (node_of t) c t.records h (ap not u));
      }

  -- ---- made vertices

  -- Each made vertex is made by a cut of the set.
  pub made_by_lem : (v : ℕ) → Made t v → (n : Node) × (C.has n ≡ true) × (makes (piece_at (piece_of t) n) ≡ name_of t v)
  made_by_lem v m = let (r, h, c, x) = l.midpoint_of v m in (node_of t r, rep.has r h c, sym (midpoint_makes t l v r h x))

  -- Each cut of the set makes a made vertex.
  pub makes_made_lem : (n : Node) → C.has n ≡ true → (v : ℕ) × Made t v × (name_of t v ≡ makes (piece_at (piece_of t) n))
  makes_made_lem n e =
      let (r, h, c, q) = rep.only n e in
      let x = l.properly_cut r h c in
      (x.w, x.midpoint.made, midpoint_makes t l x.w r h x.midpoint ∙ ap (λ (m : Node). makes (piece_at (piece_of t) m)) q)

  -- The made vertices' names are a list of all vertices that the set makes.
  pub made_listed_lem : MadeList (piece_of t) C (made_names t)
  made_listed_lem =
      record {
        distinct = where_distinct name_equality beyond (name_of t) t.vertices (λ v w hv hw a b. names_distinct_lem t l v w hv hw);
        made =
            λ x e.
            let (v, h, b, q) = where_which name_equality beyond (name_of t) x t.vertices e in
            let (n, c, d) = made_by_lem v (ltb-false v t.base_vertices (not-true (ltb v t.base_vertices) b), h) in
            (n, c, d ∙ q);
        all =
            λ n e.
            let (v, m, q) = makes_made_lem n e in
            subst (λ (x : Name). among same_name x (made_names t) ≡ true) q (where_is name_equality beyond (name_of t) v t.vertices m.1 (ap not (le-ltb v t.base_vertices m.0)));
      }
    where
      beyond : ℕ → Bool
      beyond v = not (ltb v t.base_vertices)

  -- ---- hanging edges

  -- An edge of a record that hangs in the tables hangs at its node in the set.
  pub hangs_at_lem : (n : ℕ) → n < t.records → (e : ℕ) → HangsIn t n e → HangsAt (piece_of t) C (node_of t n) e
  hangs_at_lem n h e x =
      let (c, i, m) = made_by_lem x.vertex x.made in
      record {
        edge = x.edge;
        cut = c;
        is_cut = i;
        halfway =
            m
            ∙ name_made t l x.vertex x.made
            ∙ pair_mid t (t.p x.vertex) (t.q x.vertex) (t.corner n (low_slot e)) (t.corner n (high_slot e)) x.ends
            ∙ mid_alike (linked t l n h).piece e;
      }

  -- An edge that hangs at a record's node in the set hangs in the tables.
  pub hangs_in_lem : (n : ℕ) → n < t.records → (e : ℕ) → HangsAt (piece_of t) C (node_of t n) e → HangsIn t n e
  hangs_in_lem n h e x =
      let (v, m, q) = makes_made_lem x.cut x.is_cut in
      let o = l.parents v m in
      let ends = slots_small e in
      let a = t.corner n (low_slot e) in
      let b = t.corner n (high_slot e) in
      let same : (u w : ℕ) → u < v → w < t.vertices → name_of t u ≡ name_of t w → u ≡ w = λ u w i j. names_distinct_lem t l u w (omega arith) j in
      let at : (k : ℕ) → k < 4 → t.corner n k < t.vertices = (linked t l n h).corners in
      record {
        edge = x.edge;
        vertex = v;
        made = m;
        ends =
            ⊎_elim
            (λ s. inl (same (t.p v) a (omega arith) (at (low_slot e) ends.0) s.0, same (t.q v) b o.1 (at (high_slot e) ends.1) s.1))
            (λ s. inr (same (t.p v) b (omega arith) (at (high_slot e) ends.1) s.0, same (t.q v) a o.1 (at (low_slot e) ends.0) s.1))
            (mid_injective_lem (name_of t (t.p v)) (name_of t (t.q v)) (name_of t a) (name_of t b) (sym (name_made t l v m) ∙ q ∙ x.halfway ∙ sym (mid_alike (linked t l n h).piece e)));
      }

-- ---- how many

module _ (t : Tables) (l : Lawful t) where
  -- There are as many uncut records as base records and cut records together.
  pub uncut_count_lem : count_below t.records (λ r. not (t.cut r)) ≡ t.base_records + count_below t.records t.cut
  uncut_count_lem =
      let C = cuts_of t l in
      let rep = represented t l in
      sym (where_length (λ r. not (t.cut r)) (node_of t) t.records)
      ∙ leaves_count_lem C (cut_nodes t) (cuts_listed_lem t l C rep) (leaf_nodes t) (leaves_listed_lem t l C rep)
      ∙ ap (λ (n : ℕ). t.base_records + n) (where_length t.cut (node_of t) t.records)

  -- So the records are the base records and two for each cut.
  pub records_count : t.records ≡ t.base_records + (count_below t.records t.cut + count_below t.records t.cut)
  records_count = omega (arith, uncut_count_lem, count_both t.cut t.records)
