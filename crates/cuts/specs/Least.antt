-- Cutting one leaf at a time, and why what closing gives lies inside every set that closes.
use Rattle.std.specs.Prelude.{◌≡◌, refl, Bool, true, false, ◌&&◌, ◌||◌, ◌⊎◌, List, [], ◌∷◌, ℕ, suc, ◌*◌, ◌<◌, ◌≤◌, eqb}
use Rattle.std.proofs.Common.{sym, ap, ap₂, ◌∙◌, subst, inl, inr, ⊎_elim, eqb-true, eq-eqb}
use Rattle.std.proofs.lemmas.Bool.{false≢true}
use Rattle.laws.specs.Below.{and_left, and_right, or_true, or_second, either}
use Rattle.cuts_names.specs.Names.{Name}
use Rattle.cuts_names.specs.Pieces.{Piece, Side, low, high, Node, generation, kid}
use Rattle.cuts.specs.Sets.{Cuts, There, Leaf, CutsWithin, HangsAt, Hangs, NoneHangs}
use Rattle.cuts_names.specs.Base.{Marked}
use Rattle.cuts.specs.Depth.{CutsBelow, there_rooted, there_below, cuts_below_leaves, hanging_below_lem}
use Rattle.cuts_names.specs.Lists.{Equality}

-- ---- equal nodes

abbrev same_side : Side → Side → Bool
same_side low low = true
same_side low high = false
same_side high low = false
same_side high high = true

abbrev same_path : List Side → List Side → Bool
same_path [] [] = true
same_path [] (t ∷ q) = false
same_path (s ∷ p) [] = false
same_path (s ∷ p) (t ∷ q) = same_side s t && same_path p q

-- Two nodes are the same.
abbrev pub same_node : Node → Node → Bool
same_node m n = same_path m.path n.path && eqb m.root n.root

-- That test holds of equal nodes and of no others.
pub node_equality : Equality same_node
node_equality = record { only = alike; self = λ n. ap₂ ◌&&◌ (path_self n.path) (eq-eqb n.root n.root refl) }
  where
    side_only : (s t : Side) → same_side s t ≡ true → s ≡ t
    side_only low low e = refl
    side_only low high e = absurd (false≢true e)
    side_only high low e = absurd (false≢true e)
    side_only high high e = refl

    path_only : (p q : List Side) → same_path p q ≡ true → p ≡ q
    path_only [] [] e = refl
    path_only [] (t ∷ q) e = absurd (false≢true e)
    path_only (s ∷ p) [] e = absurd (false≢true e)
    path_only (s ∷ p) (t ∷ q) e =
        ap₂ (λ (x : Side) (l : List Side). x ∷ l) (side_only s t (and_left (same_side s t) (same_path p q) e)) (path_only p q (and_right (same_side s t) (same_path p q) e))

    alike : (m n : Node) → same_node m n ≡ true → m ≡ n
    alike m n e =
        ap₂ (λ (r : ℕ) (p : List Side). record { root = r; path = p })
        (eqb-true m.root n.root (and_right (same_path m.path n.path) _ e))
        (path_only m.path n.path (and_left (same_path m.path n.path) _ e))

    side_self : (s : Side) → same_side s s ≡ true
    side_self low = refl
    side_self high = refl

    path_self : (p : List Side) → same_path p p ≡ true
    path_self [] = refl
    path_self (s ∷ p) = ap₂ ◌&&◌ (side_self s) (path_self p)

-- ---- larger sets

module _ {count : ℕ} (C X : Cuts count) (inside : CutsWithin C X) where
  -- A node that is there in a set is there in every larger one.
  pub there_within : (n : Node) → There C n → There X n
  there_within n t = at n.root n.path t
    where
      at : (r : ℕ) (path : List Side) → There C (record { root = r; path = path }) → There X (record { root = r; path = path })
      at r [] h = h
      at r (side ∷ path) h = inside (record { root = r; path = path }) h

  module _ (base : ℕ → Piece Name) where
    -- An edge that hangs in a set hangs in every larger one.
    pub hangs_within_lem : (n : Node) (e : ℕ) → HangsAt base C n e → HangsAt base X n e
    hangs_within_lem n e x = record { edge = x.edge; cut = x.cut; is_cut = inside x.cut x.is_cut; halfway = x.halfway }

    -- A leaf that hangs is cut in every larger set in which none hangs.
    pub hanging_is_cut_lem : (n : Node) → Leaf C n → Hangs base C n → NoneHangs base X → X.has n ≡ true
    hanging_is_cut_lem n l x rests =
        ⊎_elim
        (λ t. t)
        (λ f. absurd (rests n (record { there = there_within n l.there; uncut = f }) (x.0, hangs_within_lem n x.0 x.1)))
        (either (X.has n))

-- ---- one more cut

-- E is D with the node n cut too.
abbrev pub OneMore : {count : ℕ} → Cuts count → Node → Cuts count → Type 0
OneMore D n E = (m : Node) → E.has m ≡ (D.has m || same_node m n)

-- D with a node cut that is there.
unfoldable pub adding : {count : ℕ} (D : Cuts count) (n : Node) → There D n → Cuts count
adding {count} D n t = record { has = has'; rooted = rooted'; closed = closed' }
  where
    has' : Node → Bool
    has' m = D.has m || same_node m n

    rooted' : (m : Node) → has' m ≡ true → m.root < count
    rooted' m e =
        ⊎_elim
        (λ old. D.rooted m old)
        (λ new. rw (node_equality.only m n (or_second (D.has m) (same_node m n) new e)) (there_rooted D n t))
        (either (D.has m))

    closed' : (m : Node) (side : Side) → has' (kid m side) ≡ true → has' m ≡ true
    closed' m side e =
        ⊎_elim
        (λ old. ap (λ (b : Bool). b || same_node m n) (D.closed m side old))
        (λ new.
        let q = node_equality.only (kid m side) n (or_second (D.has (kid m side)) (same_node (kid m side) n) new e) in
        ap (λ (b : Bool). b || same_node m n) (subst (λ (x : Node). There D x) (sym q) t))
        (either (D.has (kid m side)))

-- It is that set.
pub adding_is : {count : ℕ} (D : Cuts count) (n : Node) (t : There D n) → OneMore D n (adding D n t)
unfolding adding
adding_is D n t m = refl

module _ {count : ℕ} (D : Cuts count) (n : Node) (E : Cuts count) (more : OneMore D n E) where
  -- The old cuts stay.
  pub more_keeps : CutsWithin D E
  more_keeps m t = more m ∙ ap (λ (b : Bool). b || same_node m n) t

  -- The new cut is one.
  pub more_has : E.has n ≡ true
  more_has = more n ∙ ap (λ (b : Bool). D.has n || b) (node_equality.self n) ∙ or_true (D.has n)

  -- There is no other.
  pub more_only : (m : Node) → E.has m ≡ true → (D.has m ≡ true) ⊎ (m ≡ n)
  more_only m t =
      ⊎_elim (λ old. inl old) (λ new. inr (node_equality.only m n (or_second (D.has m) (same_node m n) new (sym (more m) ∙ t)))) (either (D.has m))

-- ---- cutting one leaf at a time

module _ (base : ℕ → Piece Name) (S : Node → Type 0) where
  -- What cutting leaves, one at a time, can make of C: each is selected, or it hangs in the set so far.
  pub data Reaches {count : ℕ} (C : Cuts count) : Cuts count → Type 0 where
    stop : Reaches C C
    cut : {D E : Cuts count} → Reaches C D → (n : Node) → Leaf D n → S n ⊎ Hangs base D n → OneMore D n E → Reaches C E

  -- The old cuts stay.
  pub reached_keeps : {count : ℕ} {C D : Cuts count} → Reaches C D → CutsWithin C D
  reached_keeps stop m t = t
  reached_keeps (cut {D} {E} r n l why more) m t = more_keeps D n E more m (reached_keeps r m t)

  -- Whatever is reached lies inside every set that holds the old cuts and the selected pieces and in which none hangs.
  pub reached_least : {count : ℕ} {C D : Cuts count} → Reaches C D → (X : Cuts count) → CutsWithin C X → ((n : Node) → S n → X.has n ≡ true) → NoneHangs base X → CutsWithin D X
  reached_least stop X old selected rests = old
  reached_least (cut {D} {E} r n l why more) X old selected rests =
      let inside = reached_least r X old selected rests in
      let here : X.has n ≡ true = ⊎_elim (λ s. selected n s) (λ x. hanging_is_cut_lem D X inside base n l x rests) why in
      λ m t. ⊎_elim (λ was. inside m was) (λ q. rw q here) (more_only D n E more m t)

  -- Where the old cuts and the selected pieces have generations below 3K, all cuts that are reached have.
  pub reached_below : {count : ℕ} {C D : Cuts count} → Reaches C D → Marked count base → (K : ℕ) → CutsBelow (3 * K) C → ((n : Node) → S n → generation n < 3 * K) → CutsBelow (3 * K) D
  reached_below stop marked K old selected = old
  reached_below (cut {D} {E} r n l why more) marked K old selected =
      let below = reached_below r marked K old selected in
      let here : generation n < 3 * K = ⊎_elim (λ s. selected n s) (λ x. hanging_below_lem marked K D below n l x) why in
      λ m t. ⊎_elim (λ was. below m was) (λ q. rw q here) (more_only D n E more m t)

  -- So no piece is deeper than a multiple of three that reaches both the deepest piece before and the children of the selected ones.
  pub reached_depth : {count : ℕ} {C D : Cuts count} → Reaches C D → Marked count base → (K M : ℕ) → CutsBelow M C → ((n : Node) → Leaf C n → generation n ≤ 3 * K) → ((n : Node) → S n → suc (generation n) ≤ 3 * K) → (n : Node) → Leaf D n → generation n ≤ 3 * K
  reached_depth {count} {C} {D} r marked K M deepest old selected n l =
      there_below (3 * K) D (reached_below r marked K (cuts_below_leaves (3 * K) M C deepest old) selected) n l.there
