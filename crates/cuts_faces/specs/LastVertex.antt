-- Two nodes that share a face with the vertex that the last cut of each made: it is the same vertex.
use Rattle.std.specs.Prelude.{◌≡◌, refl, true, not, ◌||◌, ◌⊎◌, ◌≢◌, List, ◌∷◌, ◌++◌, ℕ, ◌+◌, ◌-◌, ◌*◌, ◌/◌, ◌<◌, ◌≤◌, length, take, drop, eqb, ltb}
use Rattle.std.proofs.Math.Path.{sym, ap}
use Rattle.std.proofs.Common.{◌∙◌, subst, arith, length-take, length-drop, take-append-drop, eqb-true, ne_eqb, ltb-true}
use Rattle.std.proofs.Math.Logic.{inl, inr, ⊎_elim}
use Rattle.std.proofs.lemmas.Bool.{eqb-false}
use Rattle.laws.specs.Below.{all_at, and_left, and_right, or_second, either}
use Rattle.piece_edges.specs.Edges.{low_slot, high_slot, on_face, opposite, slots_small}
use Rattle.piece.specs.Shape.{mark, set_p}
use Rattle.cuts_names.specs.Names.{Name, level}
use Rattle.cuts_names.proofs.Names.{mid_injective_lem}
use Rattle.cuts_names.specs.Pieces.{Piece, Side, renamed, makes, child, Node, generation, kid, piece_down, piece_at, piece_kid_lem}
use Rattle.cuts_names.specs.Base.{Different, SameFace, marked_at, Marked}
use Rattle.cuts_names.specs.Three.{formal, formal_down, stands_for, Macro}
use Rattle.cuts_names.specs.Macro.{edge_below, stands_mid}
use Rattle.cuts_names.proofs.Macro.{formal_small, formal_valid, down_stands, down_makes, node_valid, node_level, corner_level}
use Rattle.cuts_formal.specs.FacesFormal.{Across}
use Rattle.cuts.specs.FacesNames.{face_slots, corner_is, stands_injective, ends_beside_lem}
use Rattle.cuts.specs.Faces.{face_flip, down_append, Made, formal_of, top_rooted, top_macro, corners_different_lem, below_same, one_top, shared_face_one_mark}
use Rattle.cuts_faces.specs.Kid.{new_slot, stay_slot, new_slot_small, new_corner, old_corner, opposite_new}
use Rattle.cuts_faces.specs.LastFormal.{turn, formal_later, formal_new_across}

-- ---- faces marked opposite a corner

-- A shared face that both pieces mark alike, each on the edge opposite the corner in one slot: that corner is the same.
same_opposite : (p q : Piece Name) → Different p → (i j t u : ℕ) → j < 4 → t < 4 → u < 4 → t ≢ i → u ≢ j →
    opposite i t (mark p.shape i) ≡ true → opposite j u (mark q.shape j) ≡ true → SameFace p i q j → marked_at p i ≡ marked_at q j → p.corner t ≡ q.corner u
unfolding opposite on_face
same_opposite p q apart i j t u hj ht hu dt du o o' f marks =
    let e = mark p.shape i in
    let g = mark q.shape j in
    let ends = slots_small e in
    let off = face_slots e t (and_right (on_face e i) (on_face e t) o) in
    let on = and_left (on_face g j) (on_face g u) o' in
    let (c, l, d, s) = (f (p.corner t)).0 (t, ht, dt, refl) in
    let beside = ends_beside_lem j u g hj hu (ltb-true g 6 (and_left (ltb g 6) _ on)) du o' in
    let three = or_second (eqb c j) _ (ne_eqb c j d) (all_at (λ k. eqb k j || (eqb k u || (eqb k (low_slot g) || eqb k (high_slot g)))) 4 c (and_right (not (eqb (low_slot g) (high_slot g))) _ beside) l) in
    let is_low : p.corner t ≡ p.corner (low_slot e) → p.corner t ≡ q.corner u = λ x. absurd (off.0 (apart (low_slot e) t ends.0 ht (sym x))) in
    let is_high : p.corner t ≡ p.corner (high_slot e) → p.corner t ≡ q.corner u = λ x. absurd (off.1 (apart (high_slot e) t ends.1 ht (sym x))) in
    let pairs = mid_injective_lem (p.corner (low_slot e)) (p.corner (high_slot e)) (q.corner (low_slot g)) (q.corner (high_slot g)) marks in
    ⊎_elim
    (λ y. sym s ∙ ap q.corner (eqb-true c u y))
    (λ n.
    ⊎_elim
    (λ y.
    let x : p.corner t ≡ q.corner (low_slot g) = sym s ∙ ap q.corner (eqb-true c (low_slot g) y) in
    ⊎_elim (λ z. is_low (x ∙ sym z.0)) (λ z. is_high (x ∙ sym z.1)) pairs)
    (λ m.
    let x : p.corner t ≡ q.corner (high_slot g) = sym s ∙ ap q.corner (eqb-true c (high_slot g) (or_second (eqb c (low_slot g)) _ m (or_second (eqb c u) _ n three))) in
    ⊎_elim (λ z. is_high (x ∙ sym z.1)) (λ z. is_low (x ∙ sym z.0)) pairs)
    (either (eqb c (low_slot g))))
    (either (eqb c u))

-- ---- faces below one piece

module _ (k : ℕ) (p : Piece Name) (m : Macro k p) where
  -- The formal piece has the shape of the piece that it stands for.
  shape_is : (path : List Side) → length path ≤ 3 → (piece_down p path).shape ≡ (formal_down (formal p.shape) path).shape
  unfolding renamed
  shape_is path few = (down_stands p m.valid m.unset path few).shape

  -- All four corners of M lie under the new face that the cut of a P with the flag set makes.
  new_across_lem : (path : List Side) → length path < 3 → set_p (piece_down p path).shape ≡ true → (side : Side) → Across (formal_down (formal p.shape) (side ∷ path)) (stay_slot (piece_down p path) side)
  new_across_lem path few set side =
      let is = shape_is path (omega arith) in
      rw is (formal_new_across p.shape m.valid m.unset path few (rw is at set) side)

  module _ (apart : Different p) (path path' : List Side) (few : length path < 3) (few' : length path' < 3) where
    -- Where the vertex that one cut makes is a corner of a child that another gives, the other makes it too, or makes its own in a later turn.
    same_or_earlier : (side' : Side) (c : ℕ) → c < 4 → (piece_down p (side' ∷ path')).corner c ≡ makes (piece_down p path) →
        let q = formal_down (formal p.shape) path in
        let r = formal_down (formal p.shape) path' in
        (makes (piece_down p path) ≡ makes (piece_down p path')) ⊎ (turn p.shape (4 + q.shape.edge) < turn p.shape (4 + r.shape.edge))
    unfolding piece_down
    same_or_earlier side' c l e =
        let q = formal_down (formal p.shape) path in
        let r = formal_down (formal p.shape) path' in
        let t = new_slot (piece_down p path') side' in
        ⊎_elim
        (λ y. inl (sym e ∙ ap (child (piece_down p path') side').corner (eqb-true c t y) ∙ new_corner (piece_down p path') side'))
        (λ n.
        let stands : stands_for p (r.corner c) ≡ stands_for p (4 + q.shape.edge) =
        sym (corner_is k p m path' (omega arith) c l)
        ∙ sym (old_corner (piece_down p path') side' c (eqb-false c t n))
        ∙ e
        ∙ down_makes p m.valid m.unset path few
        ∙ sym (stands_mid p q.shape.edge) in
        let edge = edge_below q.shape (formal_valid p.shape m.valid path) in
        let is : r.corner c ≡ 4 + q.shape.edge =
        stands_injective k p m apart (r.corner c) (4 + q.shape.edge) (formal_small p.shape m.valid m.unset path' (omega arith) c l) (omega arith) stands in
        inr (rw (← is) (formal_later p.shape m.valid m.unset path' few' c l)))
        (either (eqb c t))

  -- Two faces with the same names, each with the last vertex: it is the same vertex.
  below_one_last : Different p → (path path' : List Side) → length path < 3 → length path' < 3 → (side side' : Side) (i j : ℕ) →
      i ≢ new_slot (piece_down p path) side → j ≢ new_slot (piece_down p path') side' → SameFace (piece_down p (side ∷ path)) i (piece_down p (side' ∷ path')) j →
      makes (piece_down p path) ≡ makes (piece_down p path')
  unfolding piece_down
  below_one_last apart path path' few few' side side' i j d d' f =
      let q = piece_down p path in
      let r = piece_down p path' in
      let (c, l, n, e) = (f (makes q)).0 (new_slot q side, new_slot_small q side, λ s. d (sym s), new_corner q side) in
      let (c', l', n', e') = (f (makes r)).1 (new_slot r side', new_slot_small r side', λ s. d' (sym s), new_corner r side') in
      ⊎_elim (λ y. y)
      (λ t. ⊎_elim (λ y. sym y) (λ t'. absurd (omega arith)) (same_or_earlier apart path' path few' few side c' l' e'))
      (same_or_earlier apart path path' few few' side' c l e)

-- ---- a node and the piece that it is cut from

-- Node p is at most two cuts below a node of generation 3k.
record Within (k : ℕ) (p : Node) : Type 0 where
  top : Node
  steps : List Side
  root : top.root ≡ p.root
  gen : generation top ≡ 3 * k
  few : length steps < 3
  is : p ≡ record { root = top.root; path = steps ++ top.path }

-- A node of generation 3k, 3k + 1 or 3k + 2 is so.
within : (k : ℕ) (p : Node) → generation p / 3 ≡ k → Within k p
within k p h =
    let d = generation p - 3 * k in
    let top : length (drop d p.path) ≡ 3 * k = length-drop d p.path ∙ omega arith in
    let steps : length (take d p.path) ≡ d = length-take d p.path ∙ omega arith in
    record {
      top = record { root = p.root; path = drop d p.path };
      steps = take d p.path;
      root = refl;
      gen = top;
      few = omega arith;
      is = ap (λ (path : List Side). record { root = p.root; path = path }) (sym (take-append-drop d p.path));
    }

-- Its child is made below that node.
abbrev made_kid : {k : ℕ} {p : Node} → Within k p → (side : Side) → Made k (kid p side)
made_kid a side =
    record {
      top = a.top;
      steps = side ∷ a.steps;
      root = a.root;
      gen = a.gen;
      some = omega arith;
      few = omega (arith, a.few);
      is = ap (λ (n : Node). kid n side) a.is;
    }

-- Its piece is the steps taken from the piece above.
within_piece : (base : ℕ → Piece Name) {k : ℕ} {p : Node} (a : Within k p) → piece_at base p ≡ piece_down (piece_at base a.top) a.steps
unfolding piece_at
within_piece base a = ap (piece_at base) a.is ∙ down_append (base a.top.root) a.steps a.top.path

-- A child's last vertex is the one that the cut of its parent made.
last_is : (base : ℕ → Piece Name) (p : Node) (side : Side) → (piece_at base (kid p side)).corner (new_slot (piece_at base p) side) ≡ makes (piece_at base p)
last_is base p side = ap (λ (r : Piece Name). r.corner (new_slot (piece_at base p) side)) (piece_kid_lem base p side) ∙ new_corner (piece_at base p) side

module _ {count : ℕ} {base : ℕ → Piece Name} (marked : Marked count base) where
  -- Where the vertex that the cut of p makes is on a face of q's child, q comes no earlier than p in threes of cuts.
  no_earlier : (p q : Node) → p.root < count → q.root < count → (side side' : Side) (i j : ℕ) → i ≢ new_slot (piece_at base p) side →
      SameFace (piece_at base (kid p side)) i (piece_at base (kid q side')) j → generation p / 3 ≤ generation q / 3
  no_earlier p q h h' side side' i j d f =
      let t = new_slot (piece_at base p) side in
      let (c, l, n, e) = (f (makes (piece_at base p))).0 (t, new_slot_small (piece_at base p) side, λ s. d (sym s), last_is base p side) in
      omega (arith, node_level marked p h, corner_level marked (kid q side') h' c l, ap level e)

  module _ {k : ℕ} {p : Node} (h : p.root < count) (a : Within k p) (side : Side) (i : ℕ) (d : i ≢ new_slot (piece_at base p) side) where
    -- A face of a child with the last vertex is marked on the edge opposite it, or all four corners of the piece above lie under it.
    face_kind : i < 4 → (opposite i (new_slot (piece_at base p) side) (mark (piece_at base (kid p side)).shape i) ≡ true) ⊎ Across (formal_of base (made_kid a side)) i
    face_kind l =
        ⊎_elim
        (λ o. inl (rw (piece_kid_lem base p side) o))
        (λ x.
        let is = within_piece base a in
        inr (rw (x.1, is) (new_across_lem k (piece_at base a.top) (top_macro marked h (made_kid a side)) a.steps a.few (rw is at x).0 side)))
        (opposite_new (piece_at base p) (node_valid marked p h) side i l d)

    -- Where another child has that face with its last vertex, and all four corners of the piece above lie under it, the last vertex is the same.
    across_last : {q : Node} (h' : q.root < count) (b : Within k q) (side' : Side) (j : ℕ) → j ≢ new_slot (piece_at base q) side' →
        SameFace (piece_at base (kid p side)) i (piece_at base (kid q side')) j → Across (formal_of base (made_kid a side)) i → makes (piece_at base p) ≡ makes (piece_at base q)
    across_last {q} h' b side' j d' f x =
        let above = made_kid a side in
        let above' = made_kid b side' in
        let one : a.top ≡ b.top = one_top marked h h' above above' i j f x in
        let is : piece_at base q ≡ piece_down (piece_at base a.top) b.steps = within_piece base b ∙ ap (λ (t : Node). piece_down (piece_at base t) b.steps) (sym one) in
        let same = subst (λ (t : Node). SameFace (piece_down (piece_at base a.top) (side ∷ a.steps)) i (piece_down (piece_at base t) (side' ∷ b.steps)) j) (sym one) (below_same marked h h' above above' i j f) in
        ap (λ (r : Piece Name). makes r) (within_piece base a)
        ∙ below_one_last k (piece_at base a.top) (top_macro marked h above) (corners_different_lem marked a.top (top_rooted marked h above)) a.steps b.steps a.few b.few side side' i j (rw (within_piece base a) at d) (rw is at d') same
        ∙ sym (ap (λ (r : Piece Name). makes r) is)

  -- Two nodes that share a face with the vertex that the last cut of each made: it is the same vertex.
  pub one_last : (p q : Node) → p.root < count → q.root < count → (side side' : Side) (i j : ℕ) → i < 4 → j < 4 →
      i ≢ new_slot (piece_at base p) side → j ≢ new_slot (piece_at base q) side' → SameFace (piece_at base (kid p side)) i (piece_at base (kid q side')) j →
      makes (piece_at base p) ≡ makes (piece_at base q)
  one_last p q h h' side side' i j l l' d d' f =
      let n = kid p side in
      let m = kid q side' in
      let t = new_slot (piece_at base p) side in
      let u = new_slot (piece_at base q) side' in
      let back = face_flip (piece_at base n) i (piece_at base m) j f in
      let a = within (generation p / 3) p refl in
      let b = within (generation p / 3) q (omega (arith, no_earlier p q h h' side side' i j d f, no_earlier q p h' h side' side j i d' back)) in
      ⊎_elim
      (λ o.
      ⊎_elim
      (λ o'.
      sym (last_is base p side)
      ∙ same_opposite (piece_at base n) (piece_at base m) (corners_different_lem marked n h) i j t u l' (new_slot_small (piece_at base p) side) (new_slot_small (piece_at base q) side') (λ e. d (sym e)) (λ e. d' (sym e)) o o' f
      (shared_face_one_mark marked n m h h' i j l l' f)
      ∙ last_is base q side')
      (λ x. sym (across_last h' b side' j d' h a side i d back x))
      (face_kind h' b side' j d' l'))
      (λ x. across_last h a side i d h' b side' j d' f x)
      (face_kind h a side i d l)
