-- Each face of a leaf has another leaf on it, or lies in a base face that is in one base piece only.
use Rattle.std.specs.Prelude.{◌≡◌, refl, true, false, ◌&&◌, ◌||◌, ◌⊎◌, ◌≢◌, List, [], ◌∷◌, eqb, ltb}
use Rattle.std.proofs.Math.Path.{sym, ap}
use Rattle.std.proofs.Common.{ap₂, ◌∙◌, inl, eqb-true, ltb-true}
use Rattle.std.proofs.Math.Bool.{Bool, not}
use Rattle.std.proofs.Math.Logic.{inr, ⊎_elim}
use Prim.Native.Nat.{ℕ, ◌<◌}
use Rattle.std.proofs.lemmas.Bool.{eqb-false, not-true}
use Rattle.laws.specs.Below.{any_below, all_of, any_where, any_is, and_left, and_right, either}
use Rattle.piece_edges.specs.Edges.{on_face}
use Rattle.piece.specs.Shape.{mark, Valid}
use Rattle.cuts_names.specs.Names.{Name, same_name, name_equality}
use Rattle.cuts_names.proofs.Names.{mid_injective_lem}
use Rattle.cuts_names.specs.Lists.{both_ways, not_so}
use Rattle.cuts_names.specs.Pieces.{Piece, Side, low, high, Node, kid, piece_at, makes, mid_of, child}
use Rattle.cuts_names.specs.Base.{Different, OnFace, SameFace, marked_at, Marked}
use Rattle.cuts_names.specs.Macro.{edge_below}
use Rattle.cuts_names.proofs.Macro.{node_valid}
use Rattle.cuts_formal.specs.FacesFormal.{some_slot, each_slot, some_slot_lem, is_some_slot, each_slot_lem}
use Rattle.cuts.specs.Sets.{Cuts, There, Leaf, NoneHangs}
use Rattle.cuts.specs.Depth.{there_rooted, cut_there_lem}
use Rattle.cuts.specs.FacesNames.{mark_on_face}
use Rattle.cuts.specs.Faces.{corners_different_lem, shared_face_one_mark, face_flip, face_then}
use Rattle.cuts_faces.specs.FaceToFace.{LiesIn, corner, midpoint, FaceLiesIn, Alone}
use Rattle.cuts_faces.specs.Apart.{other, After, Apart, after_self, after_kid, kids_apart, apart_down, roots_apart}
use Rattle.cuts_faces.specs.Kid.{new_slot, stay_slot, new_slot_small, makes_is, new_corner, old_corner, inherited_same, inherited_makes, refinement_face, new_same, mark_between}

-- ---- the same face, by a test

-- Each corner of face i of p is one of face j of q.
face_within : Piece Name → ℕ → Piece Name → ℕ → Bool
face_within p i q j = each_slot i (λ k. some_slot j (λ l. same_name (q.corner l) (p.corner k)))

-- What the test says of each corner.
within_holds : (p : Piece Name) (i : ℕ) (q : Piece Name) (j : ℕ) → face_within p i q j ≡ true → (x : Name) → OnFace p i x → OnFace q j x
unfolding face_within
within_holds p i q j e x o =
    let (k, l, d, s) = o in
    let (k', l', d', t) = some_slot_lem j (λ n. same_name (q.corner n) (p.corner k)) (each_slot_lem i (λ k. some_slot j (λ n. same_name (q.corner n) (p.corner k))) e k l d) in
    (k', l', d', name_equality.only (q.corner k') (p.corner k) t ∙ s)

-- It holds where each corner is one.
is_within_lem : (p : Piece Name) (i : ℕ) (q : Piece Name) (j : ℕ) → ((x : Name) → OnFace p i x → OnFace q j x) → face_within p i q j ≡ true
unfolding face_within
is_within_lem p i q j f = all_of (λ k. eqb k i || test k) 4 at
  where
    test : ℕ → Bool
    test k = some_slot j (λ n. same_name (q.corner n) (p.corner k))

    at : (k : ℕ) → k < 4 → (eqb k i || test k) ≡ true
    at k l =
        ⊎_elim (λ t. ap (λ (b : Bool). b || test k) t)
        (λ n.
        let (k', l', d', e) = f (p.corner k) (k, l, eqb-false k i n, refl) in
        ap (λ (b : Bool). b || test k) n ∙ is_some_slot j (λ n. same_name (q.corner n) (p.corner k)) k' l' d' (ap (same_name (q.corner k')) (sym e) ∙ name_equality.self (q.corner k')))
        (either (eqb k i))

-- Face i of p and face j of q have the same three corners.
is_same_face : Piece Name → ℕ → Piece Name → ℕ → Bool
is_same_face p i q j = face_within p i q j && face_within q j p i

-- ---- a face and its piece's refinement edge

-- Face i of p is the one that the child on this side inherits, or the one that the other child inherits, or it contains the refinement edge.
data Place (p : Piece Name) (side : Side) (i : ℕ) : Type 0 where
  inherited : i ≡ new_slot p side → Place p side i
  new : i ≡ stay_slot p side → Place p side i
  cut : i ≢ new_slot p side → i ≢ stay_slot p side → Place p side i

-- Each face is one of these.
place : (p : Piece Name) (side : Side) (i : ℕ) → Place p side i
place p side i =
    ⊎_elim (λ t. inherited (eqb-true i (new_slot p side) t))
    (λ f. ⊎_elim (λ t. new (eqb-true i (stay_slot p side) t)) (λ g. cut (eqb-false i (new_slot p side) f) (eqb-false i (stay_slot p side) g)) (either (eqb i (stay_slot p side))))
    (either (eqb i (new_slot p side)))

-- A face marked with the refinement edge contains its ends.
marked_ends_lem : (p : Piece Name) → Valid p.shape → Different p → (j : ℕ) → j < 4 → marked_at p j ≡ makes p → (side : Side) → j ≢ new_slot p side
marked_ends_lem p v apart j l e side q =
    let (a, b, on_a, on_b, d, m) = mark_between p v apart j l in
    ⊎_elim (λ s. end a on_a s.0) (λ s. end b on_b s.1)
    (mid_injective_lem a b (p.corner (new_slot p side)) (p.corner (stay_slot p side)) (sym m ∙ e ∙ makes_is p side))
  where
    end : (x : Name) → OnFace p j x → x ≡ p.corner (new_slot p side) → ⊥
    end x o s = let (k, b, d, r) = o in d (apart k (new_slot p side) b (new_slot_small p side) (r ∙ s) ∙ sym q)

-- Where both pieces are cut at one vertex and lose the same corner, what is on half of a face of the one is on half of that of the other.
half_within : (p q : Piece Name) (side side' : Side) (i j : ℕ) → Different p → makes p ≡ makes q → p.corner (new_slot p side) ≡ q.corner (new_slot q side') →
    j ≢ new_slot q side' → ((x : Name) → OnFace p i x → OnFace q j x) → (x : Name) → OnFace (child p side) i x → OnFace (child q side') j x
half_within p q side side' i j apart w lost on f x o =
    let (k, l, d, e) = o in
    ⊎_elim
    (λ t. (
      new_slot q side',
      new_slot_small q side',
      λ s. on (sym s),
      new_corner q side' ∙ sym w ∙ sym (new_corner p side) ∙ ap (child p side).corner (sym (eqb-true k (new_slot p side) t)) ∙ e,
    ))
    (λ n.
    let d₁ = eqb-false k (new_slot p side) n in
    let is : p.corner k ≡ x = sym (old_corner p side k d₁) ∙ e in
    let (k', l', d', e') = f x (k, l, d, is) in
    let stays : k' ≢ new_slot q side' = λ s. d₁ (apart k (new_slot p side) l (new_slot_small p side) (is ∙ sym e' ∙ ap q.corner s ∙ sym lost)) in
    (k', l', d', old_corner q side' k' stays ∙ e'))
    (either (eqb k (new_slot p side)))

module _ {count : ℕ} {base : ℕ → Piece Name} (marked : Marked count base) (C : Cuts count) (rests : NoneHangs base C) where
  -- A node apart from n that is there and has face i of n for its face j.
  pub record TwinOf (n : Node) (i : ℕ) : Type 0 where
    pub m : Node
    pub there : There C m
    pub apart : Apart n m
    pub j : ℕ
    pub face : j < 4
    pub same : SameFace (piece_at base n) i (piece_at base m) j

  -- Face i of n lies in a base face that is in one base piece only.
  pub record Outside (n : Node) (i : ℕ) : Type 0 where
    pub r : ℕ
    pub piece : r < count
    pub g : ℕ
    pub face : g < 4
    pub lies : FaceLiesIn (piece_at base n) i (base r) g
    pub alone : Alone count base r g

  -- A node that is there is valid, and its corners are different.
  valid_there : (n : Node) → There C n → Valid (piece_at base n).shape
  valid_there n t = node_valid marked n (there_rooted C n t)

  different_there : (n : Node) → There C n → Different (piece_at base n)
  different_there n t = corners_different_lem marked n (there_rooted C n t)

  -- A node that is there is cut if a cut makes the midpoint of an edge of it: were it a leaf, the edge would hang.
  edge_cut : (n : Node) → There C n → (e : ℕ) → e < 6 → (p : Node) → C.has p ≡ true → makes (piece_at base p) ≡ mid_of (piece_at base n) e → C.has n ≡ true
  edge_cut n t e l p c h =
      ⊎_elim (λ y. y) (λ f. absurd (rests n (record { there = t; uncut = f }) (e, record { edge = l; cut = p; is_cut = c; halfway = h }))) (either (C.has n))

  -- So it is if a cut makes the midpoint of a marked edge of it.
  mark_cut : (n : Node) → There C n → (i : ℕ) → i < 4 → (p : Node) → C.has p ≡ true → makes (piece_at base p) ≡ marked_at (piece_at base n) i → C.has n ≡ true
  unfolding on_face
  mark_cut n t i l p c h =
      let e = mark (piece_at base n).shape i in
      edge_cut n t e (ltb-true e 6 (and_left (ltb e 6) _ (mark_on_face (piece_at base n).shape (valid_there n t) i l))) p c h

  -- The child on this side has the face that it inherits.
  kid_same : (m : Node) (side : Side) (j : ℕ) → j ≡ new_slot (piece_at base m) side → SameFace (piece_at base m) j (piece_at base (kid m side)) j
  unfolding piece_at
  kid_same m side j e =
      rw e (face_flip (child (piece_at base m) side) (new_slot (piece_at base m) side) (piece_at base m) (new_slot (piece_at base m) side) (inherited_same (piece_at base m) side))

  -- The mark of that face is the child's refinement edge.
  kid_makes : (m : Node) → There C m → (side : Side) (j : ℕ) → j ≡ new_slot (piece_at base m) side → makes (piece_at base (kid m side)) ≡ marked_at (piece_at base m) j
  unfolding piece_at
  kid_makes m t side j e = inherited_makes (piece_at base m) (valid_there m t) side ∙ ap (marked_at (piece_at base m)) (sym e)

  -- ---- the node that halves a face

  -- m or a child of it is cut at w, has face j of m, and that face contains its refinement edge.
  record Halved (m : Node) (j : ℕ) (w : Name) : Type 0 where
    at : Node
    after : After m at
    is_cut : C.has at ≡ true
    halfway : makes (piece_at base at) ≡ w
    same : SameFace (piece_at base m) j (piece_at base at) j
    on : (side : Side) → j ≢ new_slot (piece_at base at) side

  -- A face of m, marked with an edge at whose midpoint p is cut.
  module _ (m : Node) (t : There C m) (j : ℕ) (l : j < 4) (p : Node) (c : C.has p ≡ true) (e : makes (piece_at base p) ≡ marked_at (piece_at base m) j) where
    -- Then m is cut.
    m_cut : C.has m ≡ true
    m_cut = mark_cut m t j l p c e

    -- Where a child of m inherits the face, the child is cut there.
    by_kid : (side : Side) → j ≡ new_slot (piece_at base m) side → Halved m j (makes (piece_at base p))
    by_kid side q =
        let n = kid m side in
        let w = kid_makes m t side j q in
        let f = kid_same m side j q in
        let one = shared_face_one_mark marked m n (there_rooted C m t) (there_rooted C m t) j j l l f in
        record {
          at = n;
          after = after_kid m m side (after_self m);
          is_cut = edge_cut n m_cut (piece_at base n).shape.edge (edge_below (piece_at base n).shape (valid_there n m_cut)) p c (e ∙ sym w);
          halfway = w ∙ sym e;
          same = f;
          on = marked_ends_lem (piece_at base n) (valid_there n m_cut) (different_there n m_cut) j l (sym one ∙ sym w);
        }

    -- So m or a child of it halves the face.
    halved : Halved m j (makes (piece_at base p))
    halved = from (place (piece_at base m) low j)
      where
        from : Place (piece_at base m) low j → Halved m j (makes (piece_at base p))
        from (inherited q) = by_kid low q
        from (new q) = by_kid high q
        from (cut a b) =
            let one = refinement_face (piece_at base m) (valid_there m t) low j l a b in
            record {
              at = m;
              after = after_self m;
              is_cut = m_cut;
              halfway = sym one ∙ sym e;
              same = λ x. (λ o. o, λ o. o);
              on = marked_ends_lem (piece_at base m) (valid_there m t) (different_there m t) j l one;
            }

  -- ---- the faces of a child, by those of its parent

  module _ (p : Node) (c : C.has p ≡ true) (side : Side) (i : ℕ) (l : i < 4) where
    abbrev parent : Piece Name
    parent = piece_at base p

    parent_there : There C p
    parent_there = cut_there_lem C p c

    -- The inherited face is the parent's face.
    from_inherited : i ≡ new_slot parent side → TwinOf p i ⊎ Outside p i → TwinOf (kid p side) i ⊎ Outside (kid p side) i
    from_inherited e (inl a) =
        inl (record {
          m = a.m;
          there = a.there;
          apart = apart_down p a.m (kid p side) a.m a.apart (after_kid p p side (after_self p)) (after_self a.m);
          j = a.j;
          face = a.face;
          same = face_then (piece_at base (kid p side)) i parent i (piece_at base a.m) a.j (face_flip parent i (piece_at base (kid p side)) i (kid_same p side i e)) a.same;
        })
    from_inherited e (inr a) =
        inr (record { r = a.r; piece = a.piece; g = a.g; face = a.face; lies = λ x o. a.lies x ((kid_same p side i e x).1 o); alone = a.alone })

    -- The new face is in both children.
    from_new : i ≡ stay_slot parent side → TwinOf (kid p side) i
    unfolding piece_at
    from_new e =
        record {
          m = kid p (other side);
          there = c;
          apart = kids_apart p side;
          j = new_slot parent side;
          face = new_slot_small parent side;
          same = rw e (new_same parent (valid_there p parent_there) side);
        }

    module _ (a : i ≢ new_slot parent side) (b : i ≢ stay_slot parent side) where
      -- Half of a face is in a child of the node that halves it on the other side.
      half_twin : TwinOf p i → TwinOf (kid p side) i
      unfolding piece_at
      half_twin o =
          let one = shared_face_one_mark marked p o.m (there_rooted C p parent_there) (there_rooted C o.m o.there) i o.j l o.face o.same in
          let h = halved o.m o.there o.j o.face p c (sym (refinement_face parent (valid_there p parent_there) side i l a b) ∙ one) in
          let q = piece_at base h.at in
          let f = face_then parent i (piece_at base o.m) o.j q o.j o.same h.same in
          let (s, lost) = lost_side q h.halfway in
          record {
            m = kid h.at s;
            there = h.is_cut;
            apart = apart_down p o.m (kid p side) (kid h.at s) o.apart (after_kid p p side (after_self p)) (after_kid o.m h.at s h.after);
            j = o.j;
            face = o.face;
            same =
                λ x. (
                  half_within parent q side s i o.j (different_there p parent_there) (sym h.halfway) lost (h.on s) (λ y. (f y).0) x,
                  half_within q parent s side o.j i (different_there h.at (cut_there_lem C h.at h.is_cut)) h.halfway (sym lost) a (λ y. (f y).1) x,
                );
          }
        where
          -- The side on which a piece with the same refinement edge loses the same corner.
          lost_side : (q : Piece Name) → makes q ≡ makes parent → (s : Side) × (parent.corner (new_slot parent side) ≡ q.corner (new_slot q s))
          lost_side q w =
              ⊎_elim (λ e. (low, e.0)) (λ e. (high, e.0))
              (mid_injective_lem (parent.corner (new_slot parent side)) (parent.corner (stay_slot parent side)) (q.corner (new_slot q low)) (q.corner (new_slot q high))
              (sym (makes_is parent side) ∙ sym w ∙ makes_is q low))

      -- Half of a face lies in what the face lies in.
      half_outside : Outside p i → Outside (kid p side) i
      unfolding piece_at
      half_outside o = record { r = o.r; piece = o.piece; g = o.g; face = o.face; lies = lies; alone = o.alone }
        where
          end : (s : Side) → i ≢ new_slot parent s → LiesIn (base o.r) o.g (parent.corner (new_slot parent s))
          end s d = o.lies (parent.corner (new_slot parent s)) (new_slot parent s, new_slot_small parent s, λ e. d (sym e), refl)

          lies : FaceLiesIn (child parent side) i (base o.r) o.g
          lies x h =
              let (k, l, d, e) = h in
              ⊎_elim
              (λ y. midpoint (end side a) (end (other side) b) (sym e ∙ ap (child parent side).corner (eqb-true k (new_slot parent side) y) ∙ new_corner parent side ∙ makes_is parent side))
              (λ n. o.lies x (k, l, d, sym (old_corner parent side k (eqb-false k (new_slot parent side) n)) ∙ e))
              (either (eqb k (new_slot parent side)))

    -- Each face of a child, from the parent's.
    twin_step : TwinOf p i ⊎ Outside p i → TwinOf (kid p side) i ⊎ Outside (kid p side) i
    twin_step o = from (place parent side i)
      where
        from : Place parent side i → TwinOf (kid p side) i ⊎ Outside (kid p side) i
        from (inherited e) = from_inherited e o
        from (new e) = inl (from_new e)
        from (cut a b) = ⊎_elim (λ x. inl (half_twin a b x)) (λ x. inr (half_outside a b x)) o

  -- ---- the faces of a base piece

  -- A face of a base piece is in another base piece, or in no other.
  twin_root : (r : ℕ) → r < count → (i : ℕ) → i < 4 → TwinOf (record { root = r; path = [] }) i ⊎ Outside (record { root = r; path = [] }) i
  unfolding piece_at is_same_face
  twin_root r h i l = ⊎_elim found (λ n. inr (none n)) (either (any_below count other_with))
    where
      other_with : ℕ → Bool
      other_with s = not (eqb s r) && any_below 4 (λ j. is_same_face (base r) i (base s) j)

      found : any_below count other_with ≡ true → TwinOf (record { root = r; path = [] }) i ⊎ Outside (record { root = r; path = [] }) i
      found e =
          let (s, hs, both) = any_where other_with count e in
          let (j, hj, same) = any_where (λ j. is_same_face (base r) i (base s) j) 4 (and_right (not (eqb s r)) _ both) in
          let d = eqb-false s r (not-true (eqb s r) (and_left (not (eqb s r)) _ both)) in
          inl (record {
            m = record { root = s; path = [] };
            there = hs;
            apart = roots_apart r s (λ q. d (sym q));
            j = j;
            face = hj;
            same =
                λ x. (
                  within_holds (base r) i (base s) j (and_left (face_within (base r) i (base s) j) _ same) x,
                  within_holds (base s) j (base r) i (and_right (face_within (base r) i (base s) j) _ same) x,
                );
          })

      none : any_below count other_with ≡ false → Outside (record { root = r; path = [] }) i
      none n =
          record {
            r = r;
            piece = h;
            g = i;
            face = l;
            lies = λ x o. corner o;
            alone =
                λ s hs j hj f.
                ⊎_elim (λ y. eqb-true s r y)
                (λ d.
                let same : is_same_face (base r) i (base s) j ≡ true =
                ap₂ ◌&&◌ (is_within_lem (base r) i (base s) j (λ x. (f x).0)) (is_within_lem (base s) j (base r) i (λ x. (f x).1)) in
                absurd (both_ways (any_is other_with count s hs (ap₂ ◌&&◌ (ap not d) (any_is (λ j. is_same_face (base r) i (base s) j) 4 j hj same))) n))
                (either (eqb s r));
          }

  -- ---- every node

  -- Each face of a node that is there is in another one apart from it, or lies in a base face that is in one base piece only.
  pub twin : (n : Node) → There C n → (i : ℕ) → i < 4 → TwinOf n i ⊎ Outside n i
  twin n t i l = at n.root n.path t
    where
      at : (r : ℕ) (path : List Side) → There C (record { root = r; path = path }) → TwinOf (record { root = r; path = path }) i ⊎ Outside (record { root = r; path = path }) i
      at r [] t = twin_root r t i l
      at r (side ∷ path) t =
          let p : Node = record { root = r; path = path } in
          twin_step p t side i l (at r path (cut_there_lem C p t))

  -- ---- leaves

  -- Of a leaf's face, the node on the other side is a leaf or has a child that is one and inherits the face.
  pub leaf_twin : (n : Node) → Leaf C n → (i : ℕ) → i < 4 → TwinOf n i → (t : TwinOf n i) × Leaf C t.m
  leaf_twin n leaf i l t = ⊎_elim cut_one (λ f. (t, record { there = t.there; uncut = f })) (either (C.has t.m))
    where
      q : Piece Name
      q = piece_at base t.m

      one : marked_at (piece_at base n) i ≡ marked_at q t.j
      one = shared_face_one_mark marked n t.m (there_rooted C n leaf.there) (there_rooted C t.m t.there) i t.j l t.face t.same

      by_kid : C.has t.m ≡ true → (side : Side) → t.j ≡ new_slot q side → (t : TwinOf n i) × Leaf C t.m
      by_kid c side e =
          let o = kid t.m side in (
            record {
              m = o;
              there = c;
              apart = apart_down n t.m n o t.apart (after_self n) (after_kid t.m t.m side (after_self t.m));
              j = t.j;
              face = t.face;
              same = face_then (piece_at base n) i q t.j (piece_at base o) t.j t.same (kid_same t.m side t.j e);
            },
            record {
              there = c;
              uncut = not_so (C.has o) (λ y. both_ways (mark_cut n leaf.there i l o y (kid_makes t.m t.there side t.j e ∙ sym one)) leaf.uncut);
            },
          )

      cut_one : C.has t.m ≡ true → (t : TwinOf n i) × Leaf C t.m
      cut_one c = from (place q low t.j)
        where
          from : Place q low t.j → (t : TwinOf n i) × Leaf C t.m
          from (inherited e) = by_kid c low e
          from (new e) = by_kid c high e
          from (cut a b) = absurd (both_ways (mark_cut n leaf.there i l t.m c (sym (refinement_face q (valid_there t.m t.there) low t.j t.face a b) ∙ sym one)) leaf.uncut)
