-- Shared faces carry one mark, and a node is determined by its four names.
use Rattle.std.specs.Prelude.{◌≡◌, refl, Bool, true, not, ◌&&◌, ◌||◌, ◌⊎◌, ◌≢◌, ◌↔◌, List, [], ◌∷◌, ◌++◌, ℕ, zero, suc, ◌+◌, ◌-◌, ◌*◌, ◌<◌, ◌≤◌, length, take, drop, eqb, ltb}
use Rattle.std.proofs.Common.{sym, ap, ap₂, ◌∙◌, subst, subst₂, inl, inr, ⊎_elim, arith, length-take, length-drop, take-append-drop, eqb-true, ne_eqb, ltb-true, ltb-false}
use Rattle.laws.specs.Below.{fold_below, all_below, all_at, or_second, either}
use Rattle.piece.specs.Every.{only_if, only_if_holds}
use Rattle.cuts_names.specs.Names.{Name, level}
use Rattle.cuts_names.specs.Pieces.{Piece, Side, child, Node, generation, piece_down, piece_at, piece_root_lem}
use Rattle.cuts_names.specs.Base.{Different, HasCorner, OnFace, SameCorners, SameFace, marked_at, Marked}
use Rattle.cuts_names.specs.Three.{formal, formal_down, Macro}
use Rattle.cuts_names.proofs.Macro.{node_macro, corner_level}
use Rattle.cuts_formal.specs.FacesFormal.{Kind, inherited, across, inside, Across, Inside, formal_across, formal_kind}
use Rattle.cuts.specs.FacesNames.{under_map, under_corner, across_under, inside_under, new_on, different_down, inherited_same, inherited_marked, below_one_path, below_one_mark, inside_last, last_one_mark}

-- ---- four corners among four

-- Every slot is one of these four.
slots_of : ℕ → ℕ → ℕ → ℕ → Bool
slots_of a b c d = all_below 4 λ y. eqb a y || (eqb b y || (eqb c y || eqb d y))

-- The four are different.
apart_of : ℕ → ℕ → ℕ → ℕ → Bool
apart_of a b c d = (not (eqb a b) && (not (eqb a c) && not (eqb a d))) && ((not (eqb b c) && not (eqb b d)) && not (eqb c d))

-- Four different slots are all four.
pigeon : (a b c d : ℕ) → a < 4 → b < 4 → c < 4 → d < 4 → apart_of a b c d ≡ true → (y : ℕ) → y < 4 → (a ≡ y) ⊎ ((b ≡ y) ⊎ ((c ≡ y) ⊎ (d ≡ y)))
unfolding all_below fold_below slots_of apart_of
pigeon a b c d ha hb hc hd apart y hy =
    let at₀ = all_at (λ a. all_below 4 λ b. all_below 4 λ c. all_below 4 λ d. only_if (apart_of a b c d) (slots_of a b c d)) 4 a refl ha in
    let at₁ = all_at (λ b. all_below 4 λ c. all_below 4 λ d. only_if (apart_of a b c d) (slots_of a b c d)) 4 b at₀ hb in
    let at₂ = all_at (λ c. all_below 4 λ d. only_if (apart_of a b c d) (slots_of a b c d)) 4 c at₁ hc in
    let at₃ = all_at (λ d. only_if (apart_of a b c d) (slots_of a b c d)) 4 d at₂ hd in
    let one = all_at (λ y. eqb a y || (eqb b y || (eqb c y || eqb d y))) 4 y (only_if_holds (apart_of a b c d) (slots_of a b c d) at₃ apart) hy in
    ⊎_elim
    (λ t. inl (eqb-true a y t))
    (λ f.
    let two = or_second (eqb a y) _ f one in
    inr (⊎_elim
    (λ t. inl (eqb-true b y t))
    (λ f.
    let three = or_second (eqb b y) _ f two in
    inr (⊎_elim (λ t. inl (eqb-true c y t)) (λ f. inr (eqb-true d y (or_second (eqb c y) _ f three))) (either (eqb c y))))
    (either (eqb b y))))
    (either (eqb a y))

-- Where the four different corners of p are corners of q, both have the same corners.
pub all_four : (p q : Piece Name) → Different p → ((x : Name) → HasCorner p x → HasCorner q x) → SameCorners p q
unfolding apart_of
all_four p q apart f x = (f x, back)
  where
    slot : (j : ℕ) → j < 4 → HasCorner q (p.corner j)
    slot j l = f (p.corner j) (j, l, refl)

    ne : (i j : ℕ) (hi : i < 4) (hj : j < 4) → i ≢ j → not (eqb (slot i hi).0 (slot j hj).0) ≡ true
    ne i j hi hj d =
        ap not (ne_eqb (slot i hi).0 (slot j hj).0 (λ e. d (apart i j hi hj (sym (slot i hi).2 ∙ ap q.corner e ∙ (slot j hj).2))))

    h₀ : 0 < 4
    h₀ = omega arith

    h₁ : 1 < 4
    h₁ = omega arith

    h₂ : 2 < 4
    h₂ = omega arith

    h₃ : 3 < 4
    h₃ = omega arith

    all : apart_of (slot 0 h₀).0 (slot 1 h₁).0 (slot 2 h₂).0 (slot 3 h₃).0 ≡ true
    all =
        ap₂ ◌&&◌
        (ap₂ ◌&&◌ (ne 0 1 h₀ h₁ (omega arith)) (ap₂ ◌&&◌ (ne 0 2 h₀ h₂ (omega arith)) (ne 0 3 h₀ h₃ (omega arith))))
        (ap₂ ◌&&◌ (ap₂ ◌&&◌ (ne 1 2 h₁ h₂ (omega arith)) (ne 1 3 h₁ h₃ (omega arith))) (ne 2 3 h₂ h₃ (omega arith)))

    found : (j : ℕ) (l : j < 4) (y : ℕ) → q.corner y ≡ x → (slot j l).0 ≡ y → HasCorner p x
    found j l y e s = (j, l, sym (slot j l).2 ∙ ap q.corner s ∙ e)

    back : HasCorner q x → HasCorner p x
    back h =
        let (y, l, e) = h in
        ⊎_elim (found 0 h₀ y e) (λ r. ⊎_elim (found 1 h₁ y e) (λ r. ⊎_elim (found 2 h₂ y e) (found 3 h₃ y e) r) r)
        (pigeon (slot 0 h₀).0 (slot 1 h₁).0 (slot 2 h₂).0 (slot 3 h₃).0 (slot 0 h₀).1 (slot 1 h₁).1 (slot 2 h₂).1 (slot 3 h₃).1 all y l)

-- ---- a piece as its face 4

-- A corner of the piece is one of its face 4, which leaves out no slot.
pub whole : (p : Piece Name) (x : Name) → HasCorner p x ↔ OnFace p 4 x
whole p x = (λ h. let (j, l, e) = h in (j, l, λ q. omega arith, e), λ h. let (j, l, d, e) = h in (j, l, e))

-- So pieces with the same corners share face 4.
pub whole_same : (p q : Piece Name) → SameCorners p q → SameFace p 4 q 4
whole_same p q f x = (λ h. (whole q x).0 ((f x).0 ((whole p x).1 h)), λ h. (whole p x).0 ((f x).1 ((whole q x).1 h)))

-- To be the same face is symmetric.
pub face_flip : (p : Piece Name) (i : ℕ) (q : Piece Name) (j : ℕ) → SameFace p i q j → SameFace q j p i
face_flip p i q j f x = ((f x).1, (f x).0)

-- To be the same face is transitive.
pub face_then : (p : Piece Name) (i : ℕ) (q : Piece Name) (j : ℕ) (r : Piece Name) (l : ℕ) → SameFace p i q j → SameFace q j r l → SameFace p i r l
face_then p i q j r l f g x = (λ h. (g x).0 ((f x).0 h), λ h. (f x).1 ((g x).1 h))

-- ---- a node and the piece that it is cut from

-- The last cuts go on from the piece that the first ones give.
pub down_append : (p : Piece Name) (steps rest : List Side) → piece_down p (steps ++ rest) ≡ piece_down (piece_down p rest) steps
unfolding piece_down
down_append p [] rest = refl
down_append p (side ∷ steps) rest = ap (λ (q : Piece Name). child q side) (down_append p steps rest)

-- Node n is one, two or three cuts below a node of generation 3k.
pub record Made (k : ℕ) (n : Node) : Type 0 where
  pub top : Node
  pub steps : List Side
  pub root : top.root ≡ n.root
  pub gen : generation top ≡ 3 * k
  pub some : 0 < length steps
  pub few : length steps ≤ 3
  pub is : n ≡ record { root = top.root; path = steps ++ top.path }

-- A node of generation 3k + 1, 3k + 2 or 3k + 3 is made so.
pub made_below : (k : ℕ) (n : Node) → 3 * k < generation n → generation n ≤ 3 * suc k → Made k n
made_below k n h l =
    let d = generation n - 3 * k in
    let top : length (drop d n.path) ≡ 3 * k = length-drop d n.path ∙ omega arith in
    let steps : length (take d n.path) ≡ d = length-take d n.path ∙ omega arith in
    record {
      top = record { root = n.root; path = drop d n.path };
      steps = take d n.path;
      root = refl;
      gen = top;
      some = omega arith;
      few = omega arith;
      is = ap (λ (path : List Side). record { root = n.root; path = path }) (sym (take-append-drop d n.path));
    }

-- Its piece is the steps taken from the piece above.
pub made_piece : (base : ℕ → Piece Name) (k : ℕ) (n : Node) (a : Made k n) → piece_at base n ≡ piece_down (piece_at base a.top) a.steps
unfolding piece_at
made_piece base k n a = ap (piece_at base) a.is ∙ down_append (base a.top.root) a.steps a.top.path

-- A node of generation at most 3k + 3 has generation at most 3k, or is made below one of generation 3k.
pub earlier_or_made : (k : ℕ) (n : Node) → generation n ≤ 3 * suc k → (generation n ≤ 3 * k) ⊎ Made k n
earlier_or_made k n l = ⊎_elim (λ t. inr (made_below k n (ltb-true (3 * k) (generation n) t) l)) (λ f. inl (ltb-false (3 * k) (generation n) f)) (either (ltb (3 * k) (generation n)))

-- A node of generation 0 is a base record's.
pub at_root : (base : ℕ → Piece Name) (n : Node) → generation n ≤ 0 → (n.path ≡ []) × (piece_at base n ≡ base n.root)
at_root base n h = go n.path h refl
  where
    go : (path : List Side) → length path ≤ 0 → n.path ≡ path → (n.path ≡ []) × (piece_at base n ≡ base n.root)
    go [] h e = (e, ap (λ (path : List Side). piece_at base (record { root = n.root; path = path })) e ∙ piece_root_lem base n.root)
    go (side ∷ path) h e = absurd (omega arith)

-- The formal piece of a made node.
abbrev pub formal_of : (base : ℕ → Piece Name) {k : ℕ} {n : Node} → Made k n → Piece ℕ
formal_of base a = formal_down (formal (piece_at base a.top).shape) a.steps

-- Where face i of node n comes from: it is a face of a node of generation at most 3k, with its mark; or n is made below a piece of which all
-- four corners lie under the face; or the face lies in one face of that piece.
pub data Origin (count : ℕ) (base : ℕ → Piece Name) (k : ℕ) (n : Node) (i : ℕ) : Type 0 where
  earlier : (t : Node) → t.root < count → generation t ≤ 3 * k → SameFace (piece_at base n) i (piece_at base t) i → marked_at (piece_at base n) i ≡ marked_at (piece_at base t) i → Origin count base k n i
  crossing : (a : Made k n) → Across (formal_of base a) i → Origin count base k n i
  lying : (a : Made k n) → Inside (piece_at base a.top).shape (formal_of base a) i → Origin count base k n i

module _ {count : ℕ} {base : ℕ → Piece Name} (marked : Marked count base) where
  -- Its root is the node's.
  pub top_rooted : {k : ℕ} {n : Node} → n.root < count → (a : Made k n) → a.top.root < count
  top_rooted h a = rw a.root h

  -- What holds of pieces of generation 3k holds of the piece above.
  pub top_macro : {k : ℕ} {n : Node} → n.root < count → (a : Made k n) → Macro k (piece_at base a.top)
  top_macro {k} h a = node_macro marked a.top (top_rooted h a) k a.gen

  -- ---- the corners of a node are different

  apart_to : (k : ℕ) (n : Node) → n.root < count → generation n ≤ 3 * k → Different (piece_at base n)
  apart_to zero n h l = rw (at_root base n (omega arith)).1 (marked.different n.root h)
  apart_to (suc k) n h l =
      ⊎_elim (λ e. apart_to k n h e)
      (λ a.
      rw (made_piece base k n a)
      (different_down k (piece_at base a.top) (top_macro h a) a.steps a.few (apart_to k a.top (top_rooted h a) (omega (arith, a.gen))) a.some))
      (earlier_or_made k n l)

  -- The four corners of a node are different names.
  pub corners_different_lem : (n : Node) → n.root < count → Different (piece_at base n)
  corners_different_lem n h = apart_to (generation n) n h (omega arith)

  -- Names on a node of generation at most 3k have level at most k.
  pub face_level : (k : ℕ) (n : Node) → n.root < count → generation n ≤ 3 * k → (i : ℕ) (x : Name) → OnFace (piece_at base n) i x → level x ≤ k
  face_level k n h l i x o = let (j, b, d, e) = o in rw (← e) (omega (arith, corner_level marked n h j b))

  module _ {k : ℕ} {n : Node} (h : n.root < count) (a : Made k n) where
    -- Its piece, from the piece above.
    abbrev pub cut : Piece Name
    cut = piece_down (piece_at base a.top) a.steps

    -- All corners of the piece above lie under it.
    pub all_under : Across (formal_of base a) 4
    all_under = let macro = top_macro h a in formal_across (piece_at base a.top).shape macro.valid macro.unset a.steps a.some a.few

    -- No face of it with a midpoint for a corner is one of a node of generation at most 3k.
    pub not_earlier : (i : ℕ) → ((c : ℕ) × (c < 4) × (c ≢ i) × (4 ≤ (formal_of base a).corner c)) → (m : Node) → m.root < count → generation m ≤ 3 * k → (j : ℕ) → SameFace (piece_at base n) i (piece_at base m) j → ⊥
    not_earlier i new m h' l j f =
        let (y, o, e) = new_on k (piece_at base a.top) (top_macro h a) a.steps a.few i new in
        omega (arith, face_level k m h' l j y ((f y).0 (rw (made_piece base k n a) o)))

  module _ {k : ℕ} {n m : Node} (h : n.root < count) (h' : m.root < count) (a : Made k n) (b : Made k m) where
    -- A face that the two share, as one of the pieces from the pieces above.
    pub below_same : (i j : ℕ) → SameFace (piece_at base n) i (piece_at base m) j → SameFace (cut h a) i (cut h' b) j
    below_same i j f = subst₂ (λ (p q : Piece Name). SameFace p i q j) (made_piece base k n a) (made_piece base k m b) f

    -- Where all corners of the piece above lie under a shared face, they are corners of the other piece above.
    pub tops_within : (i j : ℕ) → SameFace (piece_at base n) i (piece_at base m) j → Across (formal_of base a) i → (x : Name) → HasCorner (piece_at base a.top) x → HasCorner (piece_at base b.top) x
    tops_within i j f all x c =
        under_corner k (piece_at base b.top) (top_macro h' b) b.steps b.few j x
        (under_map k (OnFace (cut h a) i) (OnFace (cut h' b) j) (λ y. (below_same i j f y).0) x (across_under k (piece_at base a.top) (top_macro h a) a.steps a.few i all x c))

    -- Faces that lie in a face of the piece above lie in one and the same.
    pub tops_face : (i j : ℕ) → SameFace (piece_at base n) i (piece_at base m) j → (x : Inside (piece_at base a.top).shape (formal_of base a) i) (y : Inside (piece_at base b.top).shape (formal_of base b) j) → SameFace (piece_at base a.top) x.g (piece_at base b.top) y.g
    tops_face i j f x y z =
        let here = inside_under k (piece_at base a.top) (top_macro h a) a.steps a.few i x z in
        let there = inside_under k (piece_at base b.top) (top_macro h' b) b.steps b.few j y z in (
          λ o. there.1 (under_map k (OnFace (cut h a) i) (OnFace (cut h' b) j) (λ u. (below_same i j f u).0) z (here.0 o)),
          λ o. here.1 (under_map k (OnFace (cut h' b) j) (OnFace (cut h a) i) (λ u. (below_same i j f u).1) z (there.0 o)),
        )

    module _ (one : a.top ≡ b.top) where
      below_one : (i j : ℕ) → SameFace (piece_at base n) i (piece_at base m) j → SameFace (piece_down (piece_at base a.top) a.steps) i (piece_down (piece_at base a.top) b.steps) j
      below_one i j f = subst (λ (t : Node). SameFace (cut h a) i (piece_down (piece_at base t) b.steps) j) (sym one) (below_same i j f)

      apart_top : Different (piece_at base a.top)
      apart_top = corners_different_lem a.top (top_rooted h a)

      -- Two nodes below one node with the same corners are the same.
      one_node : SameCorners (piece_at base n) (piece_at base m) → n ≡ m
      one_node f =
          let steps = below_one_path k (piece_at base a.top) (top_macro h a) apart_top a.steps b.steps a.few b.few (below_one 4 4 (whole_same (piece_at base n) (piece_at base m) f)) in
          a.is ∙ ap₂ (λ (t : Node) (s : List Side). record { root = t.root; path = s ++ t.path }) one steps ∙ sym b.is

      -- A face shared by two nodes below one node carries one mark.
      one_mark : (i j : ℕ) → i < 4 → j < 4 → SameFace (piece_at base n) i (piece_at base m) j → marked_at (piece_at base n) i ≡ marked_at (piece_at base m) j
      one_mark i j l l' f =
          ap (λ (p : Piece Name). marked_at p i) (made_piece base k n a)
          ∙ below_one_mark k (piece_at base a.top) (top_macro h a) apart_top a.steps b.steps a.few b.few i j l l' (below_one i j f)
          ∙ ap (λ (t : Node). marked_at (piece_down (piece_at base t) b.steps) j) one
          ∙ sym (ap (λ (p : Piece Name). marked_at p j) (made_piece base k m b))

  -- ---- a node is determined by its corners

  node_to : (k : ℕ) (n m : Node) → n.root < count → m.root < count → generation n ≤ 3 * k → generation m ≤ 3 * k → SameCorners (piece_at base n) (piece_at base m) → n ≡ m
  node_to zero n m h h' l l' f =
      let (p, e) = at_root base n (omega arith) in
      let (q, d) = at_root base m (omega arith) in
      let root = marked.alone n.root m.root h h' (subst₂ (λ (p q : Piece Name). SameCorners p q) e d f) in
      ap₂ (λ (r : ℕ) (path : List Side). record { root = r; path = path }) root (p ∙ sym q)
  node_to (suc k) n m h h' l l' f =
      let same = whole_same (piece_at base n) (piece_at base m) f in
      let back = face_flip (piece_at base n) 4 (piece_at base m) 4 same in
      ⊎_elim
      (λ e.
      ⊎_elim (λ e'. node_to k n m h h' e e' f) (λ b. absurd (not_earlier h' b 4 (all_under h' b).new n h e 4 back))
      (earlier_or_made k m l'))
      (λ a.
      ⊎_elim (λ e'. absurd (not_earlier h a 4 (all_under h a).new m h' e' 4 same))
      (λ b.
      one_node h h' a b
      (node_to k a.top b.top (top_rooted h a) (top_rooted h' b) (omega (arith, a.gen)) (omega (arith, b.gen))
      (λ x. (tops_within h h' a b 4 4 same (all_under h a) x, tops_within h' h b a 4 4 back (all_under h' b) x))) f)
      (earlier_or_made k m l'))
      (earlier_or_made k n l)

  -- Two nodes with the same four corners are the same node.
  pub node_determined_lem : (n m : Node) → n.root < count → m.root < count → SameCorners (piece_at base n) (piece_at base m) → n ≡ m
  node_determined_lem n m h h' f = node_to (generation n + generation m) n m h h' (omega arith) (omega arith) f

  -- ---- a shared face carries one mark

  -- Two nodes share a face under which all corners of the piece above lie: then they are below one node.
  pub one_top : {k : ℕ} {n m : Node} (h : n.root < count) (h' : m.root < count) (a : Made k n) (b : Made k m) (i j : ℕ) → SameFace (piece_at base n) i (piece_at base m) j → Across (formal_of base a) i → a.top ≡ b.top
  one_top h h' a b i j f x =
      let r = top_rooted h a in
      node_determined_lem a.top b.top r (top_rooted h' b) (all_four (piece_at base a.top) (piece_at base b.top) (corners_different_lem a.top r) (tops_within h h' a b i j f x))

  -- Each face of a node of generation at most 3k + 3 has an origin.
  pub origin : (k : ℕ) (n : Node) → n.root < count → generation n ≤ 3 * suc k → (i : ℕ) → i < 4 → Origin count base k n i
  origin k n h l i b = ⊎_elim (λ e. earlier n h e (λ x. (λ o. o, λ o. o)) refl) (λ a. from a (kind a)) (earlier_or_made k n l)
    where
      kind : (a : Made k n) → Kind (piece_at base a.top).shape (formal_of base a) i
      kind a = let macro = top_macro h a in formal_kind (piece_at base a.top).shape macro.valid macro.unset a.steps a.some a.few i b

      from : (a : Made k n) → Kind (piece_at base a.top).shape (formal_of base a) i → Origin count base k n i
      from a (inherited x) =
          earlier a.top (top_rooted h a) (omega (arith, a.gen))
          (rw (made_piece base k n a) (inherited_same k (piece_at base a.top) (top_macro h a) a.steps a.few i b x))
          (rw (made_piece base k n a) (inherited_marked k (piece_at base a.top) (top_macro h a) a.steps a.few i b x))
      from a (across x) = crossing a x
      from a (inside x) = lying a x

  shared_to : (k : ℕ) (n m : Node) → n.root < count → m.root < count → generation n ≤ 3 * k → generation m ≤ 3 * k → (i j : ℕ) → i < 4 → j < 4 → SameFace (piece_at base n) i (piece_at base m) j → marked_at (piece_at base n) i ≡ marked_at (piece_at base m) j
  shared_to zero n m h h' l l' i j b b' f =
      let e = (at_root base n (omega arith)).1 in
      let d = (at_root base m (omega arith)).1 in
      ap (λ (p : Piece Name). marked_at p i) e
      ∙ marked.shared n.root m.root h h' i j b b' (subst₂ (λ (p q : Piece Name). SameFace p i q j) e d f)
      ∙ sym (ap (λ (p : Piece Name). marked_at p j) d)
  shared_to (suc k) n m h h' l l' i j b b' f = go (shared_to k) (origin k n h l i b) (origin k m h' l' j b')
    where
      back : SameFace (piece_at base m) j (piece_at base n) i
      back = face_flip (piece_at base n) i (piece_at base m) j f

      go : ((n m : Node) → n.root < count → m.root < count → generation n ≤ 3 * k → generation m ≤ 3 * k → (i j : ℕ) → i < 4 → j < 4 → SameFace (piece_at base n) i (piece_at base m) j → marked_at (piece_at base n) i ≡ marked_at (piece_at base m) j) →
          Origin count base k n i → Origin count base k m j → marked_at (piece_at base n) i ≡ marked_at (piece_at base m) j
      go before (earlier t r g s e) (earlier t' r' g' s' e') =
          e
          ∙ before t t' r r' g g' i j b b' (face_then (piece_at base t) i (piece_at base n) i (piece_at base t') j (face_flip (piece_at base n) i (piece_at base t) i s) (face_then (piece_at base n) i (piece_at base m) j (piece_at base t') j f s'))
          ∙ sym e'
      go before (earlier t r g s e) (crossing c y) = absurd (not_earlier h' c j y.new t r g i (face_then (piece_at base m) j (piece_at base n) i (piece_at base t) i back s))
      go before (earlier t r g s e) (lying c y) = absurd (not_earlier h' c j (y.t, y.slot, y.on, y.new) t r g i (face_then (piece_at base m) j (piece_at base n) i (piece_at base t) i back s))
      go before (crossing a x) (earlier t r g s e) = absurd (not_earlier h a i x.new t r g j (face_then (piece_at base n) i (piece_at base m) j (piece_at base t) j f s))
      go before (crossing a x) (crossing c y) = one_mark h h' a c (one_top h h' a c i j f x) i j b b' f
      go before (crossing a x) (lying c y) = one_mark h h' a c (one_top h h' a c i j f x) i j b b' f
      go before (lying a x) (earlier t r g s e) = absurd (not_earlier h a i (x.t, x.slot, x.on, x.new) t r g j (face_then (piece_at base n) i (piece_at base m) j (piece_at base t) j f s))
      go before (lying a x) (crossing c y) = sym (one_mark h' h c a (one_top h' h c a j i back y) j i b' b back)
      go before (lying a x) (lying c y) =
          let w = before a.top c.top (top_rooted h a) (top_rooted h' c) (omega (arith, a.gen)) (omega (arith, c.gen)) x.g y.g x.face y.face (tops_face h h' a c i j f x y) in
          let one = inside_last k (piece_at base a.top) (top_macro h a) a.steps a.some a.few (corners_different_lem a.top (top_rooted h a)) i b x in
          let two = inside_last k (piece_at base c.top) (top_macro h' c) c.steps c.some c.few (corners_different_lem c.top (top_rooted h' c)) j b' y in
          ap (λ (p : Piece Name). marked_at p i) (made_piece base k n a)
          ∙ last_one_mark (rw w at one) two (below_same h h' a c i j f)
          ∙ sym (ap (λ (p : Piece Name). marked_at p j) (made_piece base k m c))

  -- A face that two nodes share carries one mark.
  pub shared_face_one_mark : (n m : Node) → n.root < count → m.root < count → (i j : ℕ) → i < 4 → j < 4 → SameFace (piece_at base n) i (piece_at base m) j → marked_at (piece_at base n) i ≡ marked_at (piece_at base m) j
  shared_face_one_mark n m h h' i j b b' f = shared_to (generation n + generation m) n m h h' (omega arith) (omega arith) i j b b' f
