-- Cutting comes to an end: a sum over the leaves falls by one at each cut. So a closed set exists.
use Rattle.std.specs.Prelude.{◌≡◌, Bool, true, false, ◌||◌, ◌⊎◌, List, [], ◌∷◌, ℕ, suc, ◌+◌, ◌-◌, ◌^◌, ◌<◌, length}
use Rattle.std.proofs.Math.Path.{sym}
use Rattle.std.proofs.Common.{ap, ◌∙◌, subst, ⊎_elim, arith}
use Rattle.std.proofs.Math.Bool.{or_comm}
use Rattle.laws.specs.Below.{same_tests, any_below, or_second, either}
use Rattle.cuts_names.specs.Lists.{both_ways, not_so, among, without, any_of, among_head, among_tail, without_keeps, without_within, without_gone, without_distinct, any_of_where, any_of_is}
use Rattle.cuts_names.specs.Names.{Name, same_name, name_equality}
use Rattle.cuts_names.specs.Pieces.{Piece, Side, low, high, Node, generation, kid, piece_at, makes, mid_of}
use Rattle.cuts.specs.Sets.{Cuts, There, Leaf, CutsWithin, HangsAt, NoneHangs}
use Rattle.cuts.specs.Least.{same_node, node_equality, there_within, OneMore, more_keeps, more_has, more_only, Reaches, stop, cut, reached_keeps, reached_least}
use Rattle.cuts.specs.Count.{CutList, LeafList}

-- ---- the sum

-- How many cuts can be made below a node where all cuts have generations below B.
unfoldable pub cuts_under : ℕ → Node → ℕ
cuts_under B n = 2 ^ (B - generation n) - 1

-- And below the nodes of a list.
unfoldable pub cuts_left : ℕ → List Node → ℕ
cuts_left B [] = 0
cuts_left B (n ∷ l) = cuts_under B n + cuts_left B l

-- The leaves after a cut: the node's two children for the node.
abbrev pub split : Node → List Node → List Node
split n leaves = kid n low ∷ kid n high ∷ without same_node n leaves

-- ---- the lists after a cut

module _ {count : ℕ} (D : Cuts count) (n : Node) (E : Cuts count) (more : OneMore D n E) where
  -- The cuts are the old ones and the new one.
  pub cuts_after : (cuts : List Node) → CutList D cuts → D.has n ≡ false → CutList E (n ∷ cuts)
  cuts_after cuts listed uncut =
      record {
        distinct = (listed.exact n ∙ uncut, listed.distinct);
        exact = λ m. ap (λ (b : Bool). same_node m n || b) (listed.exact m) ∙ or_comm (same_node m n) (D.has m) ∙ sym (more m);
      }

  -- The leaves are the old ones with the node's children in its place.
  pub leaves_after : (leaves : List Node) → LeafList D leaves → Leaf D n → LeafList E (split n leaves)
  leaves_after leaves all l = record { distinct = (absent low, (absent high, without_distinct node_equality n leaves all.distinct)); leaf = leaf'; all = all' }
    where
      absent : (side : Side) → among same_node (kid n side) (without same_node n leaves) ≡ false
      absent side = not_so _ (λ t. both_ways (all.leaf (kid n side) (without_within node_equality n (kid n side) leaves t)).there l.uncut)

      kid_leaf : (side : Side) → Leaf E (kid n side)
      kid_leaf side =
          record {
            there = more_has D n E more;
            uncut =
                not_so (E.has (kid n side))
                (λ t.
                ⊎_elim
                (λ old. both_ways (D.closed n side old) l.uncut)
                (λ (q : kid n side ≡ n). let g : suc (generation n) ≡ generation n = ap (λ (m : Node). length m.path) q in omega arith)
                (more_only D n E more (kid n side) t));
          }

      old_leaf : (m : Node) → among same_node m (without same_node n leaves) ≡ true → Leaf E m
      old_leaf m a =
          let was = all.leaf m (without_within node_equality n m leaves a) in
          record {
            there = there_within D E (more_keeps D n E more) m was.there;
            uncut =
                not_so (E.has m)
                (λ t.
                ⊎_elim
                (λ old. both_ways old was.uncut)
                (λ (q : m ≡ n). both_ways (subst (λ (x : Node). among same_node x (without same_node n leaves) ≡ true) q a) (without_gone node_equality n leaves all.distinct))
                (more_only D n E more m t));
          }

      leaf' : (m : Node) → among same_node m (split n leaves) ≡ true → Leaf E m
      leaf' m t =
          ⊎_elim
          (λ e. subst (λ (x : Node). Leaf E x) (sym (node_equality.only m (kid n low) e)) (kid_leaf low))
          (λ f.
          let u : (same_node m (kid n high) || among same_node m (without same_node n leaves)) ≡ true = or_second (same_node m (kid n low)) _ f t in
          ⊎_elim
          (λ e. subst (λ (x : Node). Leaf E x) (sym (node_equality.only m (kid n high) e)) (kid_leaf high))
          (λ g. old_leaf m (or_second (same_node m (kid n high)) _ g u))
          (either (same_node m (kid n high))))
          (either (same_node m (kid n low)))

      kid_in : (side : Side) → among same_node (kid n side) (split n leaves) ≡ true
      kid_in low = among_head node_equality (kid n low) (kid n high ∷ without same_node n leaves)
      kid_in high = among_head node_equality (kid n high) (without same_node n leaves)

      stays : (m : Node) → There D m → E.has m ≡ false → among same_node m (split n leaves) ≡ true
      stays m t uncut =
          among_tail node_equality m (kid n low) (kid n high ∷ without same_node n leaves)
          (among_tail node_equality m (kid n high) (without same_node n leaves)
          (without_keeps node_equality n m leaves
          (all.all m (record { there = t; uncut = not_so (D.has m) (λ h. both_ways (more_keeps D n E more m h) uncut) }))
          (not_so (same_node m n) (λ e. both_ways (subst (λ (x : Node). E.has x ≡ true) (sym (node_equality.only m n e)) (more_has D n E more)) uncut))))

      all' : (m : Node) → Leaf E m → among same_node m (split n leaves) ≡ true
      all' m t = at m.root m.path t.there t.uncut
        where
          at : (r : ℕ) (path : List Side) → There E (record { root = r; path = path }) → E.has (record { root = r; path = path }) ≡ false → among same_node (record { root = r; path = path }) (split n leaves) ≡ true
          at r [] h uncut = stays (record { root = r; path = [] }) h uncut
          at r (side ∷ path) h uncut =
              let parent : Node = record { root = r; path = path } in
              ⊎_elim
              (λ was. stays (kid parent side) was uncut)
              (λ (q : parent ≡ n). subst (λ (x : Node). among same_node (kid x side) (split n leaves) ≡ true) (sym q) (kid_in side))
              (more_only D n E more parent h)

-- ---- how many cuts can be made

module _ (base : ℕ → Piece Name) (S : Node → Type 0) where
  -- How many cuts were made.
  unfoldable pub cuts_made : {count : ℕ} {C D : Cuts count} → Reaches base S C D → ℕ
  cuts_made stop = 0
  cuts_made (cut r n l why more) = suc (cuts_made r)

  -- As many cuts more are listed as were made.
  pub cuts_listed_lem : {count : ℕ} {C D : Cuts count} (r : Reaches base S C D) (cuts : List Node) → CutList C cuts → (after : List Node) × CutList D after × (length after ≡ length cuts + cuts_made r)
  unfolding cuts_made
  cuts_listed_lem stop cuts listed = (cuts, listed, omega arith)
  cuts_listed_lem (cut {D} {E} r n l why more) cuts listed =
      let (before, was, e) = cuts_listed_lem r cuts listed in (n ∷ before, cuts_after D n E more before was l.uncut, omega arith)

-- ---- a test for hanging

-- Some cut of the list makes the midpoint of edge e of the node.
unfoldable pub hangs_on : (ℕ → Piece Name) → List Node → Node → ℕ → Bool
hangs_on base cuts n e = any_of (λ c. same_name (makes (piece_at base c)) (mid_of (piece_at base n) e)) cuts

-- And so of one of its edges.
unfoldable pub hangs_in : (ℕ → Piece Name) → List Node → Node → Bool
hangs_in base cuts n = any_below 6 (hangs_on base cuts n)

module _ (base : ℕ → Piece Name) {count : ℕ} (C : Cuts count) (cuts : List Node) (listed : CutList C cuts) (n : Node) where
  -- An edge that hangs passes the test.
  pub edge_found : (e : ℕ) → HangsAt base C n e → hangs_on base cuts n e ≡ true
  unfolding hangs_on
  edge_found e x =
      any_of_is node_equality (λ c. same_name (makes (piece_at base c)) (mid_of (piece_at base n) e)) cuts x.cut (listed.exact x.cut ∙ x.is_cut)
      (rw x.halfway (name_equality.self (mid_of (piece_at base n) e)))

  -- An edge that passes the test hangs.
  pub found_edge : (e : ℕ) → e < 6 → hangs_on base cuts n e ≡ true → HangsAt base C n e
  unfolding hangs_on
  found_edge e l t =
      let (c, a, h) = any_of_where node_equality (λ c. same_name (makes (piece_at base c)) (mid_of (piece_at base n) e)) cuts t in
      record { edge = l; cut = c; is_cut = sym (listed.exact c) ∙ a; halfway = name_equality.only (makes (piece_at base c)) (mid_of (piece_at base n) e) h }

-- ---- a closed set exists

-- A closed set: it is reached from C, every selected piece is cut, and none hangs.
pub record Closing (base : ℕ → Piece Name) {count : ℕ} (C : Cuts count) (pick : Node → Bool) : Type 0 where
  pub set : Cuts count
  pub reached : Reaches base (λ n. pick n ≡ true) C set
  pub cuts : List Node
  pub listed : CutList set cuts
  pub selected : (n : Node) → pick n ≡ true → set.has n ≡ true
  pub rests : NoneHangs base set

module _ {base : ℕ → Piece Name} {count : ℕ} {C : Cuts count} {pick : Node → Bool} (c : Closing base C pick) where
  -- A closed set lies inside every set that holds the old cuts and the selected pieces and in which none hangs.
  pub closed_least_lem : (X : Cuts count) → CutsWithin C X → ((n : Node) → pick n ≡ true → X.has n ≡ true) → NoneHangs base X → CutsWithin c.set X
  closed_least_lem = reached_least base (λ n. pick n ≡ true) c.reached

-- So all closed sets are one, in whatever order the leaves were cut.
pub closed_unique_lem : {base : ℕ → Piece Name} {count : ℕ} {C : Cuts count} {pick : Node → Bool} (c d : Closing base C pick) → (n : Node) → c.set.has n ≡ d.set.has n
closed_unique_lem {base} {count} {C} {pick} c d n =
    let into : (c d : Closing base C pick) → CutsWithin c.set d.set =
    λ c d. closed_least_lem c d.set (reached_keeps base (λ n. pick n ≡ true) d.reached) d.selected d.rests in
    same_tests (c.set.has n) (d.set.has n) (into c d n) (into d c n)
