-- No face is in three nodes that are apart, and none that lies in a base face of one base piece is in two.
use Rattle.std.specs.Prelude.{◌≡◌, refl, ◌⊎◌, ◌≢◌, ℕ, zero, suc, ◌<◌, eqb}
use Rattle.std.proofs.Math.Path.{sym, subst}
use Rattle.std.proofs.Common.{ap, ap₂, ◌∙◌, inl, inr, arith, eqb-true, eq-eqb, ne_eqb}
use Rattle.std.proofs.Math.Logic.{⊎_elim}
use mathlib.Core.List.{List, [], ◌∷◌}
use Rattle.std.proofs.lemmas.Bool.{eqb-false}
use Rattle.laws.specs.Below.{either}
use Rattle.cuts_names.specs.Names.{Name, mid, mid_not_base_lem}
use Rattle.cuts_names.specs.Pieces.{Piece, Side, low, high, put, makes, Node, generation, kid, piece_at}
use Rattle.cuts_names.specs.Base.{HasCorner, OnFace, Different, SameFace, Marked}
use Rattle.cuts_names.proofs.Macro.{node_valid}
use Rattle.cuts.specs.Faces.{all_four, face_flip, face_then, corners_different_lem}
use Rattle.cuts_faces.specs.FaceToFace.{ProperlyMarked, LiesIn, FaceLiesIn, Alone}
use Rattle.cuts_faces.specs.Lies.{lies_corner, lies_parents}
use Rattle.cuts_faces.specs.Apart.{other, this_or_other, After, Apart, after_kid, after_split, apart_flip, apart_up, apart_not_same}
use Rattle.cuts_faces.specs.Kid.{new_slot, stay_slot, new_slot_small, slots_differ, makes_is, new_corner, old_corner, inherited_same}
use Rattle.cuts_faces.specs.CutAway.{cut_away}
use Rattle.cuts_faces.specs.Step.{Step, half, new, step}

-- A properly marked base is a marked one.
pub proper_marked : {count : ℕ} {base : ℕ → Piece Name} → ProperlyMarked count base → Marked count base
proper_marked b = record { valid = b.valid; unset = b.unset; corners = b.corners; different = b.different; alone = b.alone; shared = b.one_mark }

-- ---- slots and sides

-- Two slots are the same or not.
slot_or : (j k : ℕ) → (j ≡ k) ⊎ (j ≢ k)
slot_or j k = ⊎_elim (λ t. inl (eqb-true j k t)) (λ f. inr (eqb-false j k f)) (either (eqb j k))

-- Of three sides two are the same.
two_alike : (s t u : Side) → (s ≡ t) ⊎ ((s ≡ u) ⊎ (t ≡ u))
two_alike low low u = inl refl
two_alike low high low = inr (inl refl)
two_alike low high high = inr (inr refl)
two_alike high low low = inr (inr refl)
two_alike high low high = inr (inl refl)
two_alike high high u = inl refl

-- ---- three corners among three

module _ (w : Name) where
  -- The piece with w in slot i.
  abbrev instead : Piece Name → ℕ → Piece Name
  instead p i = record { shape = p.shape; corner = put w i p.corner }

  -- w is its corner in slot i, and the others are as they were.
  instead_at : (p : Piece Name) (i j : ℕ) → j ≡ i → (instead p i).corner j ≡ w
  instead_at p i j e = rw (eq-eqb j i e)

  instead_off : (p : Piece Name) (i j : ℕ) → j ≢ i → (instead p i).corner j ≡ p.corner j
  instead_off p i j d = rw (ne_eqb j i d)

  -- Its corners are different if w was not on face i.
  instead_different : (p : Piece Name) (i : ℕ) → Different p → (OnFace p i w → ⊥) → Different (instead p i)
  instead_different p i apart none j k hj hk e =
      ⊎_elim
      (λ (a : j ≡ i). ⊎_elim (λ (b : k ≡ i). a ∙ sym b) (λ (d : k ≢ i). absurd (none (k, hk, d, sym (instead_off p i k d) ∙ sym e ∙ instead_at p i j a))) (slot_or k i))
      (λ (c : j ≢ i).
      ⊎_elim (λ (b : k ≡ i). absurd (none (j, hj, c, sym (instead_off p i j c) ∙ e ∙ instead_at p i k b)))
      (λ (d : k ≢ i). apart j k hj hk (sym (instead_off p i j c) ∙ e ∙ instead_off p i k d))
      (slot_or k i))
      (slot_or j i)

  -- A corner of a face is a corner of the piece with w in the slot that the face is without; and all others but w are so.
  instead_has : (p : Piece Name) (i : ℕ) (x : Name) → OnFace p i x → HasCorner (instead p i) x
  instead_has p i x o = let (k, h, d, e) = o in (k, h, instead_off p i k d ∙ e)

  instead_only : (p : Piece Name) (i : ℕ) (x : Name) → HasCorner (instead p i) x → (x ≡ w) ⊎ OnFace p i x
  instead_only p i x c =
      let (k, h, e) = c in
      ⊎_elim (λ (a : k ≡ i). inl (sym e ∙ instead_at p i k a)) (λ (d : k ≢ i). inr (k, h, d, sym (instead_off p i k d) ∙ e)) (slot_or k i)

  -- Where the three different corners of face i of p are corners of face g of q, the two faces are the same.
  three_same : (p q : Piece Name) (i g : ℕ) → g < 4 → Different p → (OnFace q g w → ⊥) → ((x : Name) → OnFace p i x → OnFace q g x) → SameFace p i q g
  three_same p q i g hg apart none f x = (f x, back)
    where
      within : (y : Name) → HasCorner (instead p i) y → HasCorner (instead q g) y
      within y c =
          ⊎_elim (λ (e : y ≡ w). (g, hg, instead_at q g g refl ∙ sym e)) (λ o. instead_has q g y (f y o)) (instead_only p i y c)

      back : OnFace q g x → OnFace p i x
      back o =
          ⊎_elim (λ (e : x ≡ w). absurd (none (subst (OnFace q g) e o))) (λ u. u)
          (instead_only p i x ((all_four (instead p i) (instead q g) (instead_different p i apart (λ u. none (f w u))) within x).1 (instead_has q g x o)))

-- The four different corners of p are not all on one face of q.
never_four : (p q : Piece Name) (g : ℕ) → g < 4 → Different p → Different q → ((x : Name) → HasCorner p x → OnFace q g x) → ⊥
never_four p q g hg apart apart' f =
    let same = all_four p q apart (λ x c. let (k, h, d, e) = f x c in (k, h, e)) (q.corner g) in
    let (k, h, d, e) = f (q.corner g) (same.1 (g, hg, refl)) in
    d (apart' k g h hg e)

module _ {count : ℕ} {base : ℕ → Piece Name} (proper : ProperlyMarked count base) where
  -- The base, as a marked one.
  marked : Marked count base
  marked = proper_marked proper

  -- ---- two nodes that share a face

  -- Two nodes of the base that are apart: face i of the one is face j of the other.
  record Share (n m : Node) (i j : ℕ) : Type 0 where
    first : n.root < count
    second : m.root < count
    apart : Apart n m
    here : i < 4
    there : j < 4
    same : SameFace (piece_at base n) i (piece_at base m) j

  -- To share a face is symmetric.
  share_flip : {n m : Node} {i j : ℕ} → Share n m i j → Share m n j i
  share_flip {n} {m} {i} {j} s =
      record { first = s.second; second = s.first; apart = apart_flip n m s.apart; here = s.there; there = s.here; same = face_flip (piece_at base n) i (piece_at base m) j s.same }

  -- The corner that stays on one side of a cut is on each face of the parent but one, and what comes after the other child does not have it.
  stays_away : (p : Node) → p.root < count → (side : Side) (i : ℕ) → i ≢ stay_slot (piece_at base p) side → (m : Node) (j : ℕ) → SameFace (piece_at base p) i (piece_at base m) j → After (kid p (other side)) m → ⊥
  stays_away p h side i d m j f a =
      let s = stay_slot (piece_at base p) side in
      let (k, b, u, e) = (f ((piece_at base p).corner s)).0 (s, new_slot_small (piece_at base p) (other side), λ q. d (sym q), refl) in
      cut_away marked p h (other side) m a (k, b, e)

  -- ---- from a node up to the one that first has the face

  -- Node t has face i of n, and is apart from each node with that face that is apart from n.
  record Top (n : Node) (i : ℕ) (t : Node) : Type 0 where
    rooted : t.root < count
    same : SameFace (piece_at base n) i (piece_at base t) i
    apart : (m : Node) (j : ℕ) → Apart n m → SameFace (piece_at base n) i (piece_at base m) j → Apart t m

  -- Face i of n is one of a base piece.
  record Root (n : Node) (i : ℕ) : Type 0 where
    r : ℕ
    top : Top n i (record { root = r; path = [] })

  -- It is one that the cut of p made, with the new vertex for a corner.
  record Fresh (n : Node) (i : ℕ) : Type 0 where
    p : Node
    side : Side
    less : generation p < generation n
    on : i ≢ new_slot (piece_at base p) side
    top : Top n i (kid p side)

  -- A node has its own faces.
  top_self : (n : Node) → n.root < count → (i : ℕ) → Top n i n
  top_self n h i = record { rooted = h; same = λ x. (λ o. o, λ o. o); apart = λ m j a f. a }

  -- The face without the new vertex is the parent's.
  inherited : (p : Node) (side : Side) → SameFace (piece_at base (kid p side)) (new_slot (piece_at base p) side) (piece_at base p) (new_slot (piece_at base p) side)
  unfolding piece_at
  inherited p side = inherited_same (piece_at base p) side

  -- What has the parent's face has the face that a child inherits.
  top_up : (p : Node) (side : Side) → p.root < count → (i : ℕ) → i ≡ new_slot (piece_at base p) side → (t : Node) → Top p i t → Top (kid p side) i t
  top_up p side h i e t a =
      record {
        rooted = a.rooted;
        same = face_then (piece_at base (kid p side)) i (piece_at base p) i (piece_at base t) i up a.same;
        apart = λ m j b f. let g = face_then (piece_at base p) i (piece_at base (kid p side)) i (piece_at base m) j (face_flip (piece_at base (kid p side)) i (piece_at base p) i up) f in
            a.apart m j (apart_up p m side b (stays_away p h side i (λ q. slots_differ (piece_at base p) (node_valid marked p h) side (sym e ∙ q)) m j g)) g;
      }
    where
      up : SameFace (piece_at base (kid p side)) i (piece_at base p) i
      up = subst (λ (k : ℕ). SameFace (piece_at base (kid p side)) k (piece_at base p) k) (sym e) (inherited p side)

  -- So an inherited face is one of a base piece where the parent's is.
  root_up : (p : Node) (side : Side) → p.root < count → (i : ℕ) → i ≡ new_slot (piece_at base p) side → Root p i → Root (kid p side) i
  root_up p side h i e a = record { r = a.r; top = top_up p side h i e (record { root = a.r; path = [] }) a.top }

  -- It is one that a cut made where the parent's is.
  fresh_up : (p : Node) (side : Side) → p.root < count → (i : ℕ) → i ≡ new_slot (piece_at base p) side → Fresh p i → Fresh (kid p side) i
  fresh_up p side h i e a =
      record { p = a.p; side = a.side; less = omega (arith, a.less); on = a.on; top = top_up p side h i e (kid a.p a.side) a.top }

  -- A child's face is inherited or has the new vertex.
  climb_one : (p : Node) (side : Side) → p.root < count → (i : ℕ) → Root p i ⊎ Fresh p i → Root (kid p side) i ⊎ Fresh (kid p side) i
  climb_one p side h i above =
      ⊎_elim
      (λ e. ⊎_elim (λ a. inl (root_up p side h i e a)) (λ a. inr (fresh_up p side h i e a)) above)
      (λ d. inr (record { p = p; side = side; less = omega arith; on = d; top = top_self (kid p side) h i }))
      (slot_or i (new_slot (piece_at base p) side))

  -- The cuts of a node, from the last one up.
  climb_path : (path : List Side) (r : ℕ) → r < count → (i : ℕ) → Root (record { root = r; path = path }) i ⊎ Fresh (record { root = r; path = path }) i
  climb_path [] r h i = inl (record { r = r; top = top_self (record { root = r; path = [] }) h i })
  climb_path (side ∷ path) r h i = climb_one (record { root = r; path = path }) side h i (climb_path path r h i)

  -- Each face of a node is one of a base piece, or one that a cut above it made.
  climb : (n : Node) → n.root < count → (i : ℕ) → Root n i ⊎ Fresh n i
  climb n h i = climb_path n.path n.root h i

  -- The nodes that first have a shared face share it.
  tops_share : (n m t u : Node) (i j : ℕ) → Top n i t → Top m j u → Share n m i j → Share t u i j
  tops_share n m t u i j a b s =
      let f = face_then (piece_at base t) i (piece_at base n) i (piece_at base m) j (face_flip (piece_at base n) i (piece_at base t) i a.same) s.same in
      record {
        first = a.rooted;
        second = b.rooted;
        apart = apart_flip u t (b.apart t i (apart_flip t m (a.apart m j s.apart s.same)) (face_flip (piece_at base t) i (piece_at base m) j f));
        here = s.here;
        there = s.there;
        same = face_then (piece_at base t) i (piece_at base m) j (piece_at base u) j f b.same;
      }

  -- ---- the new vertex

  -- The new vertex is on each face of a child but the inherited one.
  new_on : (p : Node) (side : Side) (i : ℕ) → i ≢ new_slot (piece_at base p) side → OnFace (piece_at base (kid p side)) i (makes (piece_at base p))
  unfolding piece_at
  new_on p side i d = (new_slot (piece_at base p) side, new_slot_small (piece_at base p) side, λ q. d (sym q), new_corner (piece_at base p) side)

  -- The corners that a child keeps are on its faces.
  kept_on : (p : Node) (side : Side) (i k : ℕ) → k < 4 → k ≢ i → k ≢ new_slot (piece_at base p) side → OnFace (piece_at base (kid p side)) i ((piece_at base p).corner k)
  unfolding piece_at
  kept_on p side i k h d e = (k, h, d, old_corner (piece_at base p) side k e)

  -- No face of a base piece has a new vertex.
  root_fresh : (r : ℕ) (p : Node) (side : Side) (i j : ℕ) → j ≢ new_slot (piece_at base p) side → Share (record { root = r; path = [] }) (kid p side) i j → ⊥
  unfolding piece_at
  root_fresh r p side i j d s =
      let (k, h, u, e) = (s.same (makes (piece_at base p))).1 (new_on p side j d) in
      let (b, z) = proper.corners r s.first k h in
      mid_not_base_lem ((piece_at base p).corner (new_slot (piece_at base p) side)) ((piece_at base p).corner (stay_slot (piece_at base p) side)) b (sym (makes_is (piece_at base p) side) ∙ sym e ∙ z)

  -- ---- from two children to their parents

  -- Where the face is half of one that the parents share, no parent comes after the other.
  half_not_after : (p q : Node) (side side' : Side) (i j : ℕ) → p.root < count → Apart (kid p side) (kid q side') → i ≢ stay_slot (piece_at base p) side → SameFace (piece_at base p) i (piece_at base q) j →
      (piece_at base p).corner (new_slot (piece_at base p) side) ≡ (piece_at base q).corner (new_slot (piece_at base q) side') → After p q → ⊥
  half_not_after p q side side' i j h apart d f e a =
      ⊎_elim same
      (λ (b : (s : Side) × After (kid p s) q).
      let (s, c) = b in
      ⊎_elim (λ (u : s ≡ side). apart.0 (after_kid (kid p side) q side' (subst (λ (t : Side). After (kid p t) q) u c)))
      (λ (u : s ≡ other side). stays_away p h side i d q j f (subst (λ (t : Side). After (kid p t) q) u c))
      (this_or_other side s))
      (after_split p q a)
    where
      -- Were they the same, the same corner would be cut away from it on the same side.
      slot : (t : Side) → t ≡ other side → new_slot (piece_at base p) side ≡ new_slot (piece_at base p) t → ⊥
      slot t u v = slots_differ (piece_at base p) (node_valid marked p h) side (v ∙ ap (new_slot (piece_at base p)) u)

      one : q ≡ p → new_slot (piece_at base p) side ≡ new_slot (piece_at base p) side'
      one z =
          corners_different_lem marked p h (new_slot (piece_at base p) side) (new_slot (piece_at base p) side') (new_slot_small (piece_at base p) side) (new_slot_small (piece_at base p) side')
          (e ∙ ap (λ (t : Node). (piece_at base t).corner (new_slot (piece_at base t) side')) z)

      same : q ≡ p → ⊥
      same z =
          ⊎_elim (λ (u : side' ≡ side). apart_not_same (kid p side) (kid q side') apart (ap₂ kid (sym z) (sym u))) (λ (u : side' ≡ other side). slot side' u (one z))
          (this_or_other side side')

  -- Two children that share a face with their new vertices: their parents share it, or are one and the face is the new one.
  data Parents (p q : Node) (side side' : Side) (i j : ℕ) : Type 0 where
    share : i ≢ stay_slot (piece_at base p) side → j ≢ stay_slot (piece_at base q) side' → Share p q i j → Parents p q side side' i j
    one : p ≡ q → i ≡ stay_slot (piece_at base p) side → j ≡ stay_slot (piece_at base q) side' → Parents p q side side' i j

  -- One of the two is the case.
  parents : (p q : Node) (side side' : Side) (i j : ℕ) → i ≢ new_slot (piece_at base p) side → j ≢ new_slot (piece_at base q) side' → Share (kid p side) (kid q side') i j → Parents p q side side' i j
  parents p q side side' i j d d' s = go (step marked p q s.first s.second side side' i j s.here s.there d d' s.same)
    where
      go : Step base p q side side' i j → Parents p q side side' i j
      go (half a b f e) =
          share a b
          (record {
            first = s.first;
            second = s.second;
            apart = (
              half_not_after p q side side' i j s.first s.apart a f e,
              half_not_after q p side' side j i s.second (apart_flip (kid p side) (kid q side') s.apart) b (face_flip (piece_at base p) i (piece_at base q) j f) (sym e),
            );
            here = s.here;
            there = s.there;
            same = f;
          })
      go (new e a b) = one e a b

  -- ---- never three

  -- No three nodes share a face, where the first has a generation below N.
  abbrev Three : ℕ → Type 0
  Three N = (n m o : Node) (i j l : ℕ) → generation n < N → Share n m i j → Share n o i l → Share m o j l → ⊥

  -- Three base pieces.
  three_roots : (r s t i j l : ℕ) → Share (record { root = r; path = [] }) (record { root = s; path = [] }) i j → Share (record { root = r; path = [] }) (record { root = t; path = [] }) i l → Share (record { root = s; path = [] }) (record { root = t; path = [] }) j l → ⊥
  unfolding piece_at
  three_roots r s t i j l a b c =
      ⊎_elim (λ (e : r ≡ s). differ r s a.apart e) (⊎_elim (λ (e : r ≡ t). differ r t b.apart e) (λ (e : s ≡ t). differ s t c.apart e))
      (proper.in_two r s t a.first a.second b.second i j l a.here a.there b.there a.same b.same)
    where
      differ : (x y : ℕ) → Apart (record { root = x; path = [] }) (record { root = y; path = [] }) → x ≡ y → ⊥
      differ x y d e = apart_not_same (record { root = x; path = [] }) (record { root = y; path = [] }) d (ap (λ (z : ℕ). record { root = z; path = [] }) e)

  -- Three children of one parent.
  three_kids : (p q u : Node) (s t v : Side) → p ≡ q → p ≡ u → Apart (kid p s) (kid q t) → Apart (kid p s) (kid u v) → Apart (kid q t) (kid u v) → ⊥
  three_kids p q u s t v e f a b c =
      ⊎_elim (λ (z : s ≡ t). apart_not_same (kid p s) (kid q t) a (ap₂ kid e z))
      (⊎_elim (λ (z : s ≡ v). apart_not_same (kid p s) (kid u v) b (ap₂ kid f z)) (λ (z : t ≡ v). apart_not_same (kid q t) (kid u v) c (ap₂ kid (sym e ∙ f) z)))
      (two_alike s t v)

  -- Three children with their new vertices on the face.
  three_fresh : (N : ℕ) → Three N → (p q u : Node) (s t v : Side) (i j l : ℕ) → generation p < N →
      Share (kid p s) (kid q t) i j → Share (kid p s) (kid u v) i l → Share (kid q t) (kid u v) j l →
      Parents p q s t i j → Parents p u s v i l → Parents q u t v j l → ⊥
  three_fresh N before p q u s t v i j l h a b c (share d d' x) (share e e' y) (share f f' z) = before p q u i j l h x y z
  three_fresh N before p q u s t v i j l h a b c (share d d' x) (share e e' y) (one f g g') = d' g
  three_fresh N before p q u s t v i j l h a b c (share d d' x) (one e f f') z = d f
  three_fresh N before p q u s t v i j l h a b c (one d e e') (share f f' y) z = f e
  three_fresh N before p q u s t v i j l h a b c (one d e e') (one f g g') z = three_kids p q u s t v d f a.apart b.apart c.apart

  -- The three nodes are replaced by those that first have the face.
  three_tops : (N : ℕ) → Three N → (n m o : Node) (i j l : ℕ) → generation n < suc N → Share n m i j → Share n o i l → Share m o j l → Root n i ⊎ Fresh n i → Root m j ⊎ Fresh m j → Root o l ⊎ Fresh o l → ⊥
  three_tops N before n m o i j l h a b c (inl x) (inl y) (inl z) =
      three_roots x.r y.r z.r i j l (tops_share n m _ _ i j x.top y.top a) (tops_share n o _ _ i l x.top z.top b) (tops_share m o _ _ j l y.top z.top c)
  three_tops N before n m o i j l h a b c (inl x) (inl y) (inr z) = root_fresh x.r z.p z.side i l z.on (tops_share n o _ _ i l x.top z.top b)
  three_tops N before n m o i j l h a b c (inl x) (inr y) z = root_fresh x.r y.p y.side i j y.on (tops_share n m _ _ i j x.top y.top a)
  three_tops N before n m o i j l h a b c (inr x) (inl y) z = root_fresh y.r x.p x.side j i x.on (share_flip (tops_share n m _ _ i j x.top y.top a))
  three_tops N before n m o i j l h a b c (inr x) (inr y) (inl z) = root_fresh z.r x.p x.side l i x.on (share_flip (tops_share n o _ _ i l x.top z.top b))
  three_tops N before n m o i j l h a b c (inr x) (inr y) (inr z) =
      let one = tops_share n m (kid x.p x.side) (kid y.p y.side) i j x.top y.top a in
      let two = tops_share n o (kid x.p x.side) (kid z.p z.side) i l x.top z.top b in
      let three = tops_share m o (kid y.p y.side) (kid z.p z.side) j l y.top z.top c in
      three_fresh N before x.p y.p z.p x.side y.side z.side i j l (omega (arith, x.less)) one two three
      (parents x.p y.p x.side y.side i j x.on y.on one)
      (parents x.p z.p x.side z.side i l x.on z.on two)
      (parents y.p z.p y.side z.side j l y.on z.on three)

  -- Where none do below generation N, none do at N.
  three_step : (N : ℕ) → Three N → Three (suc N)
  three_step N before n m o i j l h a b c = three_tops N before n m o i j l h a b c (climb n a.first i) (climb m a.second j) (climb o b.second l)

  -- So none do at any generation.
  three_all : (N : ℕ) → Three N
  three_all zero = λ n m o i j l h a b c. omega arith
  three_all (suc N) = three_step N (three_all N)

  -- No face is in three nodes that are apart.
  pub never_three : (n m o : Node) → n.root < count → m.root < count → o.root < count → Apart n m → Apart n o → Apart m o → (i j l : ℕ) → i < 4 → j < 4 → l < 4 →
      SameFace (piece_at base n) i (piece_at base m) j → SameFace (piece_at base n) i (piece_at base o) l → ⊥
  never_three n m o h₁ h₂ h₃ a b c i j l hi hj hl f g =
      three_all (suc (generation n)) n m o i j l (omega arith)
      (record { first = h₁; second = h₂; apart = a; here = hi; there = hj; same = f })
      (record { first = h₁; second = h₃; apart = b; here = hi; there = hl; same = g })
      (record { first = h₂; second = h₃; apart = c; here = hj; there = hl; same = face_then (piece_at base m) j (piece_at base n) i (piece_at base o) l (face_flip (piece_at base n) i (piece_at base m) j f) g })

  -- ---- never beyond

  module _ (r g : ℕ) (hr : r < count) (hg : g < 4) where
    -- A corner of a base piece that lies in it is one of its corners.
    root_lies : (s : ℕ) → s < count → (k : ℕ) → k < 4 → (x : Name) → (base s).corner k ≡ x → LiesIn (base r) g x → OnFace (base r) g x
    root_lies s h k l x e lies = let (b, z) = proper.corners s h k l in lies_corner (base r) g b lies (sym e ∙ z)

    -- Where the new vertex lies in it, and each corner that a child keeps, so does each corner of the parent.
    corner_lies : (p : Node) (side : Side) (k : ℕ) → LiesIn (base r) g (makes (piece_at base p)) → (k ≢ new_slot (piece_at base p) side → k ≢ stay_slot (piece_at base p) side → LiesIn (base r) g ((piece_at base p).corner k)) → LiesIn (base r) g ((piece_at base p).corner k)
    corner_lies p side k w kept =
        let (x, y) = lies_parents (base r) g (proper.corners r hr) ((piece_at base p).corner (new_slot (piece_at base p) side)) ((piece_at base p).corner (stay_slot (piece_at base p) side)) w (makes_is (piece_at base p) side) in
        ⊎_elim (λ (e : k ≡ new_slot (piece_at base p) side). subst (λ (t : ℕ). LiesIn (base r) g ((piece_at base p).corner t)) (sym e) x)
        (λ (d : k ≢ new_slot (piece_at base p) side).
        ⊎_elim (λ (e : k ≡ stay_slot (piece_at base p) side). subst (λ (t : ℕ). LiesIn (base r) g ((piece_at base p).corner t)) (sym e) y) (λ d'. kept d d')
        (slot_or k (stay_slot (piece_at base p) side)))
        (slot_or k (new_slot (piece_at base p) side))

    -- All four corners of a node lie in it.
    abbrev Four : Node → Type 0
    Four n = (k : ℕ) → k < 4 → LiesIn (base r) g ((piece_at base n).corner k)

    -- Where those of a child do, those of its parent do.
    four_up : (p : Node) (side : Side) → Four (kid p side) → Four p
    unfolding piece_at
    four_up p side all k h =
        let s = new_slot (piece_at base p) side in
        corner_lies p side k (subst (LiesIn (base r) g) (new_corner (piece_at base p) side) (all s (new_slot_small (piece_at base p) side)))
        (λ d d'. subst (LiesIn (base r) g) (old_corner (piece_at base p) side k d) (all k h))

    -- Those of a base piece do not.
    four_root : (s : ℕ) → s < count → Four (record { root = s; path = [] }) → ⊥
    unfolding piece_at
    four_root s h all =
        never_four (base s) (base r) g hg (proper.different s h) (proper.different r hr)
        (λ x c. let (k, l, e) = c in root_lies s h k l x e (subst (LiesIn (base r) g) e (all k l)))

    -- So those of no node do.
    four_path : (path : List Side) (s : ℕ) → s < count → Four (record { root = s; path = path }) → ⊥
    four_path [] s h all = four_root s h all
    four_path (side ∷ path) s h all = four_path path s h (four_up (record { root = s; path = path }) side all)

    -- Where half of a face lies in it, so does the face.
    half_lies : (p : Node) (side : Side) (i : ℕ) → i ≢ new_slot (piece_at base p) side → FaceLiesIn (piece_at base (kid p side)) i (base r) g → FaceLiesIn (piece_at base p) i (base r) g
    half_lies p side i d lies x o =
        let (k, h, u, e) = o in
        subst (LiesIn (base r) g) e
        (corner_lies p side k (lies (makes (piece_at base p)) (new_on p side i d)) (λ v v'. lies ((piece_at base p).corner k) (kept_on p side i k h u v)))

    -- Where the new face of a cut lies in it, all four corners of the parent do.
    new_lies : (p : Node) (side : Side) (i : ℕ) → i ≢ new_slot (piece_at base p) side → i ≡ stay_slot (piece_at base p) side → FaceLiesIn (piece_at base (kid p side)) i (base r) g → Four p
    new_lies p side i d e lies k h =
        corner_lies p side k (lies (makes (piece_at base p)) (new_on p side i d)) (λ v v'. lies ((piece_at base p).corner k) (kept_on p side i k h (λ q. v' (q ∙ e)) v))

    -- Where the face lies in it, so it does as a face of the node that first has it.
    top_lies : (n t : Node) (i : ℕ) → Top n i t → FaceLiesIn (piece_at base n) i (base r) g → FaceLiesIn (piece_at base t) i (base r) g
    top_lies n t i a lies x o = lies x ((a.same x).1 o)

    module _ (alone : Alone count base r g) where
      -- No two nodes share a face that lies in the base face, where the first has a generation below N.
      abbrev Beyond : ℕ → Type 0
      Beyond N = (n m : Node) (i j : ℕ) → generation n < N → Share n m i j → FaceLiesIn (piece_at base n) i (base r) g → ⊥

      -- Two base pieces.
      beyond_roots : (s t i j : ℕ) → Share (record { root = s; path = [] }) (record { root = t; path = [] }) i j → FaceLiesIn (piece_at base (record { root = s; path = [] })) i (base r) g → ⊥
      unfolding piece_at
      beyond_roots s t i j a lies =
          let w = mid ((base r).corner 0) ((base r).corner 0) in
          let none : OnFace (base r) g w → ⊥ = λ o. let (k, h, d, e) = o in let (b, z) = proper.corners r hr k h in mid_not_base_lem ((base r).corner 0) ((base r).corner 0) b (sym e ∙ z) in
          let on : (x : Name) → OnFace (base s) i x → OnFace (base r) g x = λ x o. let (k, h, d, e) = o in root_lies s a.first k h x e (lies x o) in
          let f = face_flip (base s) i (base r) g (three_same w (base s) (base r) i g hg (proper.different s a.first) none on) in
          let one = alone s a.first i a.here f in
          let two = alone t a.second j a.there (face_then (base r) g (base s) i (base t) j f a.same) in
          apart_not_same (record { root = s; path = [] }) (record { root = t; path = [] }) a.apart (ap (λ (z : ℕ). record { root = z; path = [] }) (one ∙ sym two))

      -- Two children with their new vertices on the face.
      beyond_fresh : (N : ℕ) → Beyond N → (p q : Node) (s t : Side) (i j : ℕ) → generation p < N → i ≢ new_slot (piece_at base p) s → Share (kid p s) (kid q t) i j →
          FaceLiesIn (piece_at base (kid p s)) i (base r) g → Parents p q s t i j → ⊥
      beyond_fresh N before p q s t i j h d a lies (share e e' x) = before p q i j h x (half_lies p s i d lies)
      beyond_fresh N before p q s t i j h d a lies (one e f f') = four_path p.path p.root a.first (new_lies p s i d f lies)

      -- The two nodes are replaced by those that first have the face.
      beyond_tops : (N : ℕ) → Beyond N → (n m : Node) (i j : ℕ) → generation n < suc N → Share n m i j → FaceLiesIn (piece_at base n) i (base r) g → Root n i ⊎ Fresh n i → Root m j ⊎ Fresh m j → ⊥
      beyond_tops N before n m i j h a lies (inl x) (inl y) = beyond_roots x.r y.r i j (tops_share n m _ _ i j x.top y.top a) (top_lies n _ i x.top lies)
      beyond_tops N before n m i j h a lies (inl x) (inr y) = root_fresh x.r y.p y.side i j y.on (tops_share n m _ _ i j x.top y.top a)
      beyond_tops N before n m i j h a lies (inr x) (inl y) = root_fresh y.r x.p x.side j i x.on (share_flip (tops_share n m _ _ i j x.top y.top a))
      beyond_tops N before n m i j h a lies (inr x) (inr y) =
          let one = tops_share n m (kid x.p x.side) (kid y.p y.side) i j x.top y.top a in
          beyond_fresh N before x.p y.p x.side y.side i j (omega (arith, x.less)) x.on one (top_lies n (kid x.p x.side) i x.top lies)
          (parents x.p y.p x.side y.side i j x.on y.on one)

      -- Where none do below generation N, none do at N.
      beyond_step : (N : ℕ) → Beyond N → Beyond (suc N)
      beyond_step N before n m i j h a lies = beyond_tops N before n m i j h a lies (climb n a.first i) (climb m a.second j)

      -- So none do at any generation.
      beyond_all : (N : ℕ) → Beyond N
      beyond_all zero = λ n m i j h a lies. omega arith
      beyond_all (suc N) = beyond_step N (beyond_all N)

  -- No face that lies in a base face of one base piece is in two nodes that are apart.
  pub never_beyond : (n m : Node) → n.root < count → m.root < count → Apart n m → (i j : ℕ) → i < 4 → j < 4 → SameFace (piece_at base n) i (piece_at base m) j →
      (r g : ℕ) → r < count → g < 4 → FaceLiesIn (piece_at base n) i (base r) g → Alone count base r g → ⊥
  never_beyond n m h h' a i j hi hj f r g hr hg lies alone =
      beyond_all r g hr hg alone (suc (generation n)) n m i j (omega arith) (record { first = h; second = h'; apart = a; here = hi; there = hj; same = f }) lies
