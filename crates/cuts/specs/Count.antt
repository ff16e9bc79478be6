-- How many: the cuts, the leaves and the made vertices of sets that are given by lists.
use Rattle.std.specs.Prelude.{◌≡◌, refl, Bool, true, false, not, ◌&&◌, ◌||◌, List, [], ◌∷◌, ◌++◌, map, ℕ, zero, suc, ◌+◌, ◌<◌, ◌≤◌, max, length, eqb}
use Rattle.std.proofs.Common.{sym, ap, ap₂, ◌∙◌, subst, ⊎_elim, arith, length-append, eqb-true}
use Rattle.std.proofs.lemmas.Bool.{false≢true, eqb-false, not-true}
use Rattle.laws.specs.Below.{and_left, and_right, or_true, or_second, either}
use Rattle.cuts_names.specs.Lists.{both_ways, not_so, among, Distinct, passing, among_append, distinct_append, no_longer, passing_among, passing_distinct, once, once_among, once_distinct, map_among, map_where}
use Rattle.cuts_names.specs.Names.{Name, same_name, name_equality}
use Rattle.cuts_names.specs.Pieces.{Piece, Side, low, high, Node, generation, kid, piece_at, makes}
use Rattle.cuts.specs.Sets.{Cuts, There, Leaf, CutsWithin}
use Rattle.cuts.specs.Depth.{CutsBelow, cut_there_lem}
use Rattle.cuts.specs.Least.{same_node, node_equality}

-- A list of all cuts.
pub record CutList {count : ℕ} (C : Cuts count) (l : List Node) : Type 0 where
  pub distinct : Distinct same_node l
  pub exact : (n : Node) → among same_node n l ≡ C.has n

-- A list of all leaves.
pub record LeafList {count : ℕ} (C : Cuts count) (l : List Node) : Type 0 where
  pub distinct : Distinct same_node l
  pub leaf : (n : Node) → among same_node n l ≡ true → Leaf C n
  pub all : (n : Node) → Leaf C n → among same_node n l ≡ true

-- A list of all made vertices.
pub record MadeList (base : ℕ → Piece Name) {count : ℕ} (C : Cuts count) (l : List Name) : Type 0 where
  pub distinct : Distinct same_name l
  pub made : (x : Name) → among same_name x l ≡ true → (n : Node) × (C.has n ≡ true) × (makes (piece_at base n) ≡ x)
  pub all : (n : Node) → C.has n ≡ true → among same_name (makes (piece_at base n)) l ≡ true

-- ---- the nodes that are there

abbrev root_node : ℕ → Node
root_node r = record { root = r; path = [] }

-- The base pieces below b.
abbrev pub roots : ℕ → List Node
roots zero = []
roots (suc b) = root_node b ∷ roots b

-- The children of the nodes of a list.
abbrev pub kids : List Node → List Node
kids [] = []
kids (c ∷ l) = kid c low ∷ kid c high ∷ kids l

-- The nodes that are there, of a set with these cuts.
abbrev pub nodes : ℕ → List Node → List Node
nodes count cuts = roots count ++ kids cuts

-- Of them, those that are not cut.
abbrev pub leaves_of : {count : ℕ} → Cuts count → List Node → List Node
leaves_of {count} C cuts = passing (λ n. not (C.has n)) (nodes count cuts)

root_among : (r b : ℕ) → r < b → among same_node (root_node r) (roots b) ≡ true
root_among r zero h = absurd (omega arith)
root_among r (suc b) h =
    ⊎_elim
    (λ (e : eqb r b ≡ true). rw e)
    (λ (f : eqb r b ≡ false). rw f (root_among r b (let d : r ≡ b → ⊥ = eqb-false r b f in omega arith)))
    (either (eqb r b))

among_root : (r b : ℕ) → among same_node (root_node r) (roots b) ≡ true → r < b
among_root r zero t = absurd (false≢true t)
among_root r (suc b) t =
    ⊎_elim
    (λ (e : eqb r b ≡ true). omega (arith, eqb-true r b e))
    (λ (f : eqb r b ≡ false). omega (arith, among_root r b (or_second (eqb r b) _ f t)))
    (either (eqb r b))

-- No child is a base piece.
kid_no_root : (n : Node) (side : Side) (b : ℕ) → among same_node (kid n side) (roots b) ≡ false
kid_no_root n side zero = refl
kid_no_root n side (suc b) = kid_no_root n side b

root_no_kid : (r : ℕ) (l : List Node) → among same_node (root_node r) (kids l) ≡ false
root_no_kid r [] = refl
root_no_kid r (c ∷ l) = root_no_kid r l

-- A child is among the children just where its parent is among the parents.
kid_among : (n : Node) (side : Side) (l : List Node) → among same_node (kid n side) (kids l) ≡ among same_node n l
kid_among n low [] = refl
kid_among n low (c ∷ l) = ap (λ (b : Bool). same_node n c || b) (kid_among n low l)
kid_among n high [] = refl
kid_among n high (c ∷ l) = ap (λ (b : Bool). same_node n c || b) (kid_among n high l)

roots_distinct : (b : ℕ) → Distinct same_node (roots b)
roots_distinct zero = tt
roots_distinct (suc b) = (not_so _ (λ t. let h = among_root b b t in omega arith), roots_distinct b)

kids_distinct : (l : List Node) → Distinct same_node l → Distinct same_node (kids l)
kids_distinct [] d = tt
kids_distinct (c ∷ l) d = (kid_among c low l ∙ d.0, (kid_among c high l ∙ d.0, kids_distinct l d.1))

roots_length : (b : ℕ) → length (roots b) ≡ b
roots_length zero = refl
roots_length (suc b) = ap suc (roots_length b)

kids_length : (l : List Node) → length (kids l) ≡ length l + length l
kids_length [] = refl
kids_length (c ∷ l) = omega (arith, kids_length l)

module _ {count : ℕ} (C : Cuts count) (cuts : List Node) (listed : CutList C cuts) where
  -- They are without repetition, and as many as the base pieces and twice the cuts.
  nodes_distinct_lem : Distinct same_node (nodes count cuts)
  nodes_distinct_lem = distinct_append node_equality (roots count) (kids cuts) (roots_distinct count) (kids_distinct cuts listed.distinct) (λ n t. at n.root n.path t)
    where
      at : (r : ℕ) (path : List Side) → among same_node (record { root = r; path = path }) (roots count) ≡ true → among same_node (record { root = r; path = path }) (kids cuts) ≡ false
      at r [] t = root_no_kid r cuts
      at r (side ∷ path) t = absurd (both_ways t (kid_no_root (record { root = r; path = path }) side count))

  nodes_length : length (nodes count cuts) ≡ count + (length cuts + length cuts)
  nodes_length = length-append (roots count) (kids cuts) ∙ ap₂ ◌+◌ (roots_length count) (kids_length cuts)

  -- They are just the nodes that are there.
  there_among : (n : Node) → There C n → among same_node n (nodes count cuts) ≡ true
  there_among n t = at n.root n.path t
    where
      at : (r : ℕ) (path : List Side) → There C (record { root = r; path = path }) → among same_node (record { root = r; path = path }) (nodes count cuts) ≡ true
      at r [] h = among_append node_equality (root_node r) (roots count) (kids cuts) ∙ ap (λ (b : Bool). b || among same_node (root_node r) (kids cuts)) (root_among r count h)
      at r (side ∷ path) h =
          let n : Node = record { root = r; path = path } in
          among_append node_equality (kid n side) (roots count) (kids cuts) ∙ ap₂ ◌||◌ (kid_no_root n side count) (kid_among n side cuts ∙ listed.exact n ∙ h)

  among_there : (n : Node) → among same_node n (nodes count cuts) ≡ true → There C n
  among_there n t = at n.root n.path (sym (among_append node_equality n (roots count) (kids cuts)) ∙ t)
    where
      at : (r : ℕ) (path : List Side) → (among same_node (record { root = r; path = path }) (roots count) || among same_node (record { root = r; path = path }) (kids cuts)) ≡ true → There C (record { root = r; path = path })
      at r [] h =
          ⊎_elim
          (λ t. among_root r count t)
          (λ f. absurd (both_ways (or_second (among same_node (root_node r) (roots count)) _ f h) (root_no_kid r cuts)))
          (either (among same_node (root_node r) (roots count)))
      at r (side ∷ path) h =
          let n : Node = record { root = r; path = path } in
          sym (listed.exact n) ∙ sym (kid_among n side cuts) ∙ or_second (among same_node (kid n side) (roots count)) _ (kid_no_root n side count) h

  -- Those of them that are not cut are a list of all leaves.
  pub leaves_listed_lem : LeafList C (leaves_of C cuts)
  leaves_listed_lem =
      record {
        distinct = passing_distinct node_equality (λ n. not (C.has n)) (nodes count cuts) nodes_distinct_lem;
        leaf =
            λ n t.
            let both : (among same_node n (nodes count cuts) && not (C.has n)) ≡ true = sym (passing_among node_equality (λ m. not (C.has m)) n (nodes count cuts)) ∙ t in
            record { there = among_there n (and_left (among same_node n (nodes count cuts)) _ both); uncut = not-true (C.has n) (and_right (among same_node n (nodes count cuts)) _ both) };
        all = λ n l. passing_among node_equality (λ m. not (C.has m)) n (nodes count cuts) ∙ ap₂ ◌&&◌ (there_among n l.there) (ap not l.uncut);
      }

  -- There are as many leaves as base pieces and cuts together.
  pub leaves_count_lem : (leaves : List Node) → LeafList C leaves → length leaves ≡ count + length cuts
  leaves_count_lem leaves all =
      let is_either : (n : Node) → among same_node n (leaves ++ cuts) ≡ (among same_node n leaves || C.has n) =
      λ n. among_append node_equality n leaves cuts ∙ ap (λ (b : Bool). among same_node n leaves || b) (listed.exact n) in
      let one = no_longer node_equality (leaves ++ cuts) (nodes count cuts)
      (distinct_append node_equality leaves cuts all.distinct listed.distinct (λ n t. listed.exact n ∙ (all.leaf n t).uncut))
      (λ n t.
      there_among n
      (⊎_elim
      (λ l. (all.leaf n l).there)
      (λ f. cut_there_lem C n (or_second (among same_node n leaves) (C.has n) f (sym (is_either n) ∙ t)))
      (either (among same_node n leaves)))) in
      let two = no_longer node_equality (nodes count cuts) (leaves ++ cuts) nodes_distinct_lem
      (λ n t.
      is_either n
      ∙ ⊎_elim
      (λ (c : C.has n ≡ true). rw c (or_true (among same_node n leaves)))
      (λ f. ap (λ (b : Bool). b || C.has n) (all.all n (record { there = among_there n t; uncut = f })))
      (either (C.has n))) in
      omega (arith, one, two, nodes_length, length-append leaves cuts)

-- A set with finitely many cuts has a bound on their generations.
pub cuts_bounded : {count : ℕ} (C : Cuts count) (cuts : List Node) → CutList C cuts → (M : ℕ) × CutsBelow M C
cuts_bounded C cuts listed = (highest cuts, λ n t. under n cuts (listed.exact n ∙ t))
  where
    highest : List Node → ℕ
    highest [] = 0
    highest (n ∷ l) = max (suc (generation n)) (highest l)

    under : (n : Node) (l : List Node) → among same_node n l ≡ true → generation n < highest l
    under n [] t = absurd (false≢true t)
    under n (m ∷ l) t =
        ⊎_elim
        (λ (e : same_node n m ≡ true). rw (node_equality.only n m e) (omega arith))
        (λ (f : same_node n m ≡ false). omega (arith, under n l (or_second (same_node n m) (among same_node n l) f t)))
        (either (same_node n m))

-- The vertices that these cuts make, each once.
abbrev pub made_of : (ℕ → Piece Name) → List Node → List Name
made_of base cuts = once same_name (map (λ n. makes (piece_at base n)) cuts)

-- They are a list of all made vertices.
pub made_listed_lem : (base : ℕ → Piece Name) {count : ℕ} (C : Cuts count) (cuts : List Node) → CutList C cuts → MadeList base C (made_of base cuts)
made_listed_lem base C cuts listed =
    let maker : Node → Name = λ n. makes (piece_at base n) in
    record {
      distinct = once_distinct name_equality (map maker cuts);
      made =
          λ x t.
          let (n, a, e) = map_where node_equality name_equality maker x cuts (sym (once_among name_equality x (map maker cuts)) ∙ t) in
          (n, sym (listed.exact n) ∙ a, e);
      all = λ n t. once_among name_equality (maker n) (map maker cuts) ∙ map_among node_equality name_equality maker n cuts (listed.exact n ∙ t);
    }

-- ---- a set inside another has no more of anything

module _ {count : ℕ} (C X : Cuts count) (inside : CutsWithin C X) where
  -- Fewer cuts, or as many.
  pub cuts_fewer_lem : (l m : List Node) → CutList C l → CutList X m → length l ≤ length m
  cuts_fewer_lem l m a b = no_longer node_equality l m a.distinct (λ n t. b.exact n ∙ inside n (sym (a.exact n) ∙ t))

  -- Fewer pieces, or as many.
  pub leaves_fewer_lem : (l m p q : List Node) → CutList C l → CutList X m → LeafList C p → LeafList X q → length p ≤ length q
  leaves_fewer_lem l m p q a b c d = omega (arith, cuts_fewer_lem l m a b, leaves_count_lem C l a p c, leaves_count_lem X m b q d)

  -- Fewer made vertices, or as many.
  pub made_fewer_lem : (base : ℕ → Piece Name) (l m : List Name) → MadeList base C l → MadeList base X m → length l ≤ length m
  made_fewer_lem base l m a b =
      no_longer name_equality l m a.distinct (λ x t. let (n, c, e) = a.made x t in subst (λ (y : Name). among same_name y m ≡ true) e (b.all n (inside n c)))
