-- From formal faces to faces over names: what the names of a face at most three cuts below a piece M of generation 3k say of M.
use Rattle.std.specs.Prelude.{◌≡◌, refl, Bool, not, ◌&&◌, ◌||◌, ◌⊎◌, ◌≢◌, ◌↔◌, List, length, ltb}
use Rattle.std.proofs.Math.Path.{sym, ap}
use Rattle.std.proofs.Common.{ap₂, ◌∙◌, subst, true≢false, arith}
use Rattle.std.proofs.Math.Bool.{true}
use Rattle.std.proofs.Math.Logic.{inl, inr, ⊎_elim}
use Prim.Native.Nat.{ℕ, suc, ◌-◌, ◌<◌, ◌≤◌}
use Rattle.std.proofs.Math.Dec.{eqb}
use borrow.Author.Tests.{eqb-true, eqb-false, eq-eqb, ne_eqb, ltb-true, ltb-false, not-true}
use Rattle.laws.specs.Below.{same_tests, fold_below, all_below, first_below, all_at, and_left, and_right, or_second, or_left_false, or_right_false, either}
use Rattle.laws.specs.Pairs.{SamePair}
use Rattle.piece_edges.specs.Edges.{low_slot, high_slot, has_slot, joins, edge_between, on_face, opposite, slots_small}
use Rattle.piece_edges.specs.Tables.{has_slot_lem, has_low, has_high}
use Rattle.piece.specs.Shape.{Shape, mark, mark_fits, flag_fits, valid_shape, Valid}
use Rattle.piece.specs.Every.{only_if, only_if_holds}
use Rattle.cuts_names.specs.Names.{Name, mid, level}
use Rattle.cuts_names.proofs.Names.{mid_sym, mid_injective_lem}
use Rattle.cuts_names.specs.Pieces.{Piece, Side, renamed, mid_of, piece_down}
use Rattle.cuts_names.specs.Base.{Different, HasCorner, OnFace, SameFace, marked_at}
use Rattle.cuts_names.specs.Three.{formal, formal_down, stands_for, Macro}
use Rattle.cuts_names.specs.Macro.{stands_corner, stands_past, stands_mid, old_level, new_level, mid_alike}
use Rattle.cuts_names.proofs.Macro.{down_stands, formal_small}
use Rattle.cuts_formal.specs.FacesFormal.{some_slot_lem, is_some_slot, on_formal, lies, lies_old, lies_new, under, code, code_same, Inherited, Across, Inside, formal_different, formal_one_path, formal_one_mark}

-- x lies under the names S, seen from level k: it is one of them, or they have a midpoint of level k + 1 with x for a parent.
abbrev pub Under : ℕ → (Name → Type 0) → Name → Type 0
Under k S x = (S x × (level x ≤ k)) ⊎ ((y : Name) × S (mid x y) × (level (mid x y) ≡ suc k))

-- What lies under some names lies under more names.
pub under_map : (k : ℕ) (S T : Name → Type 0) → ((x : Name) → S x → T x) → (x : Name) → Under k S x → Under k T x
under_map k S T f x u = ⊎_elim (λ a. inl (f x a.0, a.1)) (λ b. inr (b.0, f (mid x b.0) b.1, b.2)) u

-- ---- edges by their ends

-- An edge is the one between its ends, either way round.
between : (e : ℕ) → e < 6 → (edge_between (low_slot e) (high_slot e) ≡ e) × (edge_between (high_slot e) (low_slot e) ≡ e)
unfolding all_below fold_below first_below edge_between joins has_slot low_slot high_slot
between e l = (
  eqb-true (edge_between (low_slot e) (high_slot e)) e (all_at (λ e. eqb (edge_between (low_slot e) (high_slot e)) e) 6 e refl l),
  eqb-true (edge_between (high_slot e) (low_slot e)) e (all_at (λ e. eqb (edge_between (high_slot e) (low_slot e)) e) 6 e refl l),
)

-- Edges with the same ends are the same.
pub edge_by_ends : (e d : ℕ) → e < 6 → d < 6 → SamePair (low_slot e) (high_slot e) (low_slot d) (high_slot d) → e ≡ d
edge_by_ends e d l l' same =
    ⊎_elim
    (λ p. sym (between e l).0 ∙ ap₂ edge_between p.0 p.1 ∙ (between d l').0)
    (λ p. sym (between e l).0 ∙ ap₂ edge_between p.0 p.1 ∙ (between d l').1)
    same

-- An edge of face i has ends other than slot i.
pub face_slots : (e i : ℕ) → on_face e i ≡ true → (low_slot e ≢ i) × (high_slot e ≢ i)
unfolding on_face has_slot
face_slots e i t =
    let none = not-true (has_slot e i) (and_right (ltb e 6) (not (has_slot e i)) t) in
    (eqb-false (low_slot e) i (or_left_false (eqb (low_slot e) i) (eqb (high_slot e) i) none), eqb-false (high_slot e) i (or_right_false (eqb (low_slot e) i) (eqb (high_slot e) i) none))

-- A mark of a valid shape is an edge of its face.
pub mark_on_face : (s : Shape) → Valid s → (i : ℕ) → i < 4 → on_face (mark s i) i ≡ true
unfolding valid_shape mark_fits
mark_on_face s v i l =
    let marks = and_left (all_below 4 (λ i. mark_fits s.edge (mark s i) i)) (flag_fits s) (and_right (ltb s.edge 6) _ v.valid) in
    and_left (on_face (mark s i) i) _ (all_at (λ i. mark_fits s.edge (mark s i) i) 4 i marks l)

-- ---- what formal corners stand for

module _ (k : ℕ) (p : Piece Name) (m : Macro k p) where
  -- Different formal corners stand for different names.
  pub stands_injective : Different p → (a b : ℕ) → a < 10 → b < 10 → stands_for p a ≡ stands_for p b → a ≡ b
  stands_injective apart a b ha hb e =
      ⊎_elim
      (λ t.
      let la = ltb-true a 4 t in
      ⊎_elim
      (λ t'. let lb = ltb-true b 4 t' in apart a b la lb (sym (stands_corner p a la) ∙ e ∙ stands_corner p b lb))
      (λ f'. absurd (omega (arith, old_level k p m a la, new_level k p m b hb (ltb-false b 4 f'), ap level e)))
      (either (ltb b 4)))
      (λ f.
      let ga = ltb-false a 4 f in
      ⊎_elim
      (λ t'. absurd (omega (arith, old_level k p m b (ltb-true b 4 t'), new_level k p m a ha ga, ap level e)))
      (λ f'.
      let gb = ltb-false b 4 f' in
      let x = slots_small (a - 4) in
      let y = slots_small (b - 4) in
      let one : a - 4 ≡ b - 4 =
      edge_by_ends (a - 4) (b - 4) (omega arith) (omega arith)
      (⊎_elim
      (λ s. inl (apart (low_slot (a - 4)) (low_slot (b - 4)) x.0 y.0 s.0, apart (high_slot (a - 4)) (high_slot (b - 4)) x.1 y.1 s.1))
      (λ s. inr (apart (low_slot (a - 4)) (high_slot (b - 4)) x.0 y.1 s.0, apart (high_slot (a - 4)) (low_slot (b - 4)) x.1 y.0 s.1))
      (mid_injective_lem (p.corner (low_slot (a - 4))) (p.corner (high_slot (a - 4))) (p.corner (low_slot (b - 4))) (p.corner (high_slot (b - 4)))
      (sym (stands_past p a ga) ∙ e ∙ stands_past p b gb))) in
      omega arith)
      (either (ltb b 4)))
      (either (ltb a 4))

  module _ (path : List Side) (few : length path ≤ 3) where
    -- The formal piece, and the piece that it stands for.
    abbrev pub shadow : Piece ℕ
    shadow = formal_down (formal p.shape) path

    abbrev pub piece : Piece Name
    piece = piece_down p path

    -- Each corner is what the formal corner stands for.
    pub corner_is : (j : ℕ) → j < 4 → piece.corner j ≡ stands_for p (shadow.corner j)
    unfolding renamed
    corner_is j l = (down_stands p m.valid m.unset path few).corner j l

    corner_small : (j : ℕ) → j < 4 → shadow.corner j < 10
    corner_small = formal_small p.shape m.valid m.unset path few

    -- The mark of a face, by its formal ends.
    pub marked_stands : (i : ℕ) → let e = mark shadow.shape i in marked_at piece i ≡ mid (stands_for p (shadow.corner (low_slot e))) (stands_for p (shadow.corner (high_slot e)))
    unfolding renamed
    marked_stands i =
        let a = down_stands p m.valid m.unset path few in
        ap (λ (s : Shape). mid_of piece (mark s i)) a.shape ∙ mid_alike a (mark shadow.shape i)

    -- A corner of M that lies under a formal face lies under its names.
    pub under_down : (i x : ℕ) → x < 4 → under shadow i x ≡ true → Under k (OnFace piece i) (p.corner x)
    unfolding under
    under_down i x b e =
        let (j, l, d, t) = some_slot_lem i (λ j. lies (shadow.corner j) x) e in
        let c = shadow.corner j in
        let on : (y : Name) → stands_for p c ≡ y → OnFace piece i y = λ y q. (j, l, d, corner_is j l ∙ q) in
        ⊎_elim
        (λ y.
        let h = ltb-true c 4 y in
        let same : c ≡ x = eqb-true c x (sym (lies_old c x h) ∙ t) in
        inl (on (p.corner x) (stands_corner p c h ∙ ap p.corner same), m.corners x b))
        (λ n.
        let h = ltb-false c 4 n in
        let high : level (mid_of p (c - 4)) ≡ suc k = m.midpoints (c - 4) (omega (arith, corner_small j l)) in
        ⊎_elim
        (λ a.
        let is : mid_of p (c - 4) ≡ mid (p.corner x) (p.corner (high_slot (c - 4))) = ap (λ (z : ℕ). mid (p.corner z) (p.corner (high_slot (c - 4)))) a in
        inr (p.corner (high_slot (c - 4)), on (mid (p.corner x) (p.corner (high_slot (c - 4)))) (stands_past p c h ∙ is), ap level (sym is) ∙ high))
        (λ a.
        let is : mid_of p (c - 4) ≡ mid (p.corner x) (p.corner (low_slot (c - 4))) =
        mid_sym (p.corner (low_slot (c - 4))) (p.corner (high_slot (c - 4))) ∙ ap (λ (z : ℕ). mid (p.corner z) (p.corner (low_slot (c - 4)))) a in
        inr (p.corner (low_slot (c - 4)), on (mid (p.corner x) (p.corner (low_slot (c - 4)))) (stands_past p c h ∙ is), ap level (sym is) ∙ high))
        (has_slot_lem (c - 4) x (sym (lies_new c x h) ∙ t)))
        (either (ltb c 4))

    -- What lies under the names of a face is a corner of M that lies under the formal face.
    pub under_up : (i : ℕ) (y : Name) → Under k (OnFace piece i) y → (x : ℕ) × (x < 4) × (p.corner x ≡ y) × (under shadow i x ≡ true)
    unfolding under
    under_up i y u = ⊎_elim itself parent u
      where
        holds : (j x : ℕ) → j < 4 → j ≢ i → lies (shadow.corner j) x ≡ true → under shadow i x ≡ true
        holds j x l d t = is_some_slot i (λ j. lies (shadow.corner j) x) j l d t

        itself : OnFace piece i y × (level y ≤ k) → (x : ℕ) × (x < 4) × (p.corner x ≡ y) × (under shadow i x ≡ true)
        itself a =
            let (j, l, d, e) = a.0 in
            let c = shadow.corner j in
            let is : stands_for p c ≡ y = sym (corner_is j l) ∙ e in
            ⊎_elim
            (λ t. let h = ltb-true c 4 t in (c, h, sym (stands_corner p c h) ∙ is, holds j c l d (lies_old c c h ∙ eq-eqb c c refl)))
            (λ f. absurd (omega (arith, new_level k p m c (corner_small j l) (ltb-false c 4 f), ap level is, a.1)))
            (either (ltb c 4))

        parent : ((z : Name) × OnFace piece i (mid y z) × (level (mid y z) ≡ suc k)) → (x : ℕ) × (x < 4) × (p.corner x ≡ y) × (under shadow i x ≡ true)
        parent a =
            let z = a.0 in
            let (j, l, d, e) = a.1 in
            let c = shadow.corner j in
            let is : stands_for p c ≡ mid y z = sym (corner_is j l) ∙ e in
            let ends = slots_small (c - 4) in
            ⊎_elim
            (λ t. absurd (omega (arith, old_level k p m c (ltb-true c 4 t), ap level is, a.2)))
            (λ f.
            let h = ltb-false c 4 f in
            let end : (x : ℕ) → x < 4 → p.corner x ≡ y → has_slot (c - 4) x ≡ true → (x : ℕ) × (x < 4) × (p.corner x ≡ y) × (under shadow i x ≡ true) =
            λ x b q t. (x, b, q, holds j x l d (lies_new c x h ∙ t)) in
            ⊎_elim
            (λ s. end (low_slot (c - 4)) ends.0 s.0 (has_low (c - 4)))
            (λ s. end (high_slot (c - 4)) ends.1 s.1 (has_high (c - 4)))
            (mid_injective_lem (p.corner (low_slot (c - 4))) (p.corner (high_slot (c - 4))) y z (sym (stands_past p c h) ∙ is)))
            (either (ltb c 4))

    -- What lies under the names of a face is a corner of M.
    pub under_corner : (i : ℕ) (y : Name) → Under k (OnFace piece i) y → HasCorner p y
    under_corner i y u = let (x, b, e, t) = under_up i y u in (x, b, e)

    -- Where all corners of M lie under a formal face, they lie under its names.
    pub across_under : (i : ℕ) → Across shadow i → (y : Name) → HasCorner p y → Under k (OnFace piece i) y
    across_under i a y h = let (x, b, e) = h in subst (Under k (OnFace piece i)) e (under_down i x b (a.all x b))

    -- Where a formal face lies in face g of M, what lies under its names are the corners of face g.
    pub inside_under : (i : ℕ) (a : Inside p.shape shadow i) (y : Name) → OnFace p a.g y ↔ Under k (OnFace piece i) y
    inside_under i a y = (
      λ h. let (x, b, d, e) = h in subst (Under k (OnFace piece i)) e (under_down i x b (a.within x b d)),
      λ u.
          let (x, b, e, t) = under_up i y u in
          (x, b, λ g. true≢false (sym t ∙ ap (under shadow i) g ∙ a.without), e),
    )

    -- A midpoint among the formal corners of a face is a name of level k + 1 on it.
    pub new_on : (i : ℕ) → ((j : ℕ) × (j < 4) × (j ≢ i) × (4 ≤ shadow.corner j)) → (y : Name) × OnFace piece i y × (level y ≡ suc k)
    new_on i n =
        let (j, l, d, h) = n in
        (piece.corner j, (j, l, d, refl), ap level (corner_is j l) ∙ new_level k p m (shadow.corner j) (corner_small j l) h)

    -- The corners of the piece are different, as those of M are.
    pub different_down : Different p → 0 < length path → Different piece
    different_down apart some j l hj hl e =
        formal_different p.shape m.valid m.unset path some few j l hj hl
        (stands_injective apart (shadow.corner j) (shadow.corner l) (corner_small j hj) (corner_small l hl) (sym (corner_is j hj) ∙ e ∙ corner_is l hl))

    module _ (i : ℕ) (h : i < 4) (a : Inherited p.shape shadow i) where
      stays : (j : ℕ) → j < 4 → j ≢ i → stands_for p (shadow.corner j) ≡ p.corner j
      stays j l d = ap (stands_for p) (a.corners j l d) ∙ stands_corner p j l

      -- An inherited face has the names of M's face.
      pub inherited_same : SameFace piece i p i
      inherited_same y = (
        λ o. let (j, l, d, e) = o in (j, l, d, sym (corner_is j l ∙ stays j l d) ∙ e),
        λ o. let (j, l, d, e) = o in (j, l, d, corner_is j l ∙ stays j l d ∙ e),
      )

      -- An inherited face has the mark of M's face.
      pub inherited_marked : marked_at piece i ≡ marked_at p i
      inherited_marked =
          let e = mark p.shape i in
          let off = face_slots e i (mark_on_face p.shape m.valid i h) in
          let ends = slots_small e in
          marked_stands i
          ∙ ap (λ (d : ℕ). mid (stands_for p (shadow.corner (low_slot d))) (stands_for p (shadow.corner (high_slot d)))) a.marked
          ∙ ap₂ mid (stays (low_slot e) ends.0 off.0) (stays (high_slot e) ends.1 off.1)

-- ---- two faces below one piece

module _ (k : ℕ) (p : Piece Name) (m : Macro k p) (apart : Different p) where
  -- Names on both faces are formal corners of both.
  formal_on : (path path' : List Side) → length path ≤ 3 → length path' ≤ 3 → (i j : ℕ) → ((x : Name) → OnFace (piece_down p path) i x → OnFace (piece_down p path') j x) →
      (c : ℕ) → c < 10 → on_formal (formal_down (formal p.shape) path) i c ≡ true → on_formal (formal_down (formal p.shape) path') j c ≡ true
  unfolding on_formal
  formal_on path path' few few' i j f c b t =
      let q = formal_down (formal p.shape) path in
      let r = formal_down (formal p.shape) path' in
      let (n, l, d, e) = some_slot_lem i (λ n. eqb (q.corner n) c) t in
      let (n', l', d', e') = f (stands_for p c) (n, l, d, corner_is k p m path few n l ∙ ap (stands_for p) (eqb-true (q.corner n) c e)) in
      let same : r.corner n' ≡ c = stands_injective k p m apart (r.corner n') c (corner_small k p m path' few' n' l') b (sym (corner_is k p m path' few' n' l') ∙ e') in
      is_some_slot j (λ n. eqb (r.corner n) c) n' l' d' (eq-eqb (r.corner n') c same)

  module _ (path path' : List Side) (few : length path ≤ 3) (few' : length path' ≤ 3) where
    same_code : (i j : ℕ) → SameFace (piece_down p path) i (piece_down p path') j → code (formal_down (formal p.shape) path) i ≡ code (formal_down (formal p.shape) path') j
    same_code i j f =
        code_same (formal_down (formal p.shape) path) i (formal_down (formal p.shape) path') j
        (λ c b. same_tests (on_formal (formal_down (formal p.shape) path) i c) (on_formal (formal_down (formal p.shape) path') j c)
        (formal_on path path' few few' i j (λ x. (f x).0) c b) (formal_on path' path few' few j i (λ x. (f x).1) c b))

    -- Two pieces at most three cuts below M with the same four names are the same.
    pub below_one_path : SameFace (piece_down p path) 4 (piece_down p path') 4 → path ≡ path'
    below_one_path f = formal_one_path p.shape m.valid m.unset path path' few few' (same_code 4 4 f)

    -- Two faces at most three cuts below M with the same three names carry one mark.
    pub below_one_mark : (i j : ℕ) → i < 4 → j < 4 → SameFace (piece_down p path) i (piece_down p path') j → marked_at (piece_down p path) i ≡ marked_at (piece_down p path') j
    below_one_mark i j l l' f =
        let q = formal_down (formal p.shape) path in
        let r = formal_down (formal p.shape) path' in
        let e = mark q.shape i in
        let d = mark r.shape j in
        let s = stands_for p in
        marked_stands k p m path few i
        ∙ ⊎_elim
        (λ x. ap₂ mid (ap s x.0) (ap s x.1))
        (λ x. ap₂ mid (ap s x.0) (ap s x.1) ∙ mid_sym (s (r.corner (high_slot d))) (s (r.corner (low_slot d))))
        (formal_one_mark p.shape m.valid m.unset path path' few few' i j l l' (same_code i j f))
        ∙ sym (marked_stands k p m path' few' j)

-- ---- a face that lies in a face of M

-- The ends of e are the two slots of face i other than t.
abbrev pub ends_beside : ℕ → ℕ → ℕ → Bool
ends_beside i t e =
    not (eqb (low_slot e) (high_slot e)) && all_below 4 (λ k. eqb k i || (eqb k t || (eqb k (low_slot e) || eqb k (high_slot e))))

pub ends_beside_lem : (i t e : ℕ) → i < 4 → t < 4 → e < 6 → t ≢ i → opposite i t e ≡ true → ends_beside i t e ≡ true
unfolding all_below fold_below opposite on_face has_slot low_slot high_slot
ends_beside_lem i t e hi ht he d o =
    let at₀ = all_at (λ i. all_below 4 λ t. all_below 6 λ e. only_if (not (eqb t i) && opposite i t e) (ends_beside i t e)) 4 i refl hi in
    let at₁ = all_at (λ t. all_below 6 λ e. only_if (not (eqb t i) && opposite i t e) (ends_beside i t e)) 4 t at₀ ht in
    let at₂ = all_at (λ e. only_if (not (eqb t i) && opposite i t e) (ends_beside i t e)) 6 e at₁ he in
    only_if_holds (not (eqb t i) && opposite i t e) (ends_beside i t e) at₂ (ap₂ ◌&&◌ (ap not (ne_eqb t i d)) o)

-- A face with the names last, a and b, marked with ab: last has level k + 1, and any other of that level is w.
pub record Last (k : ℕ) (q : Piece Name) (i : ℕ) (w : Name) : Type 0 where
  pub last : Name
  pub a : Name
  pub b : Name
  pub on_last : OnFace q i last
  pub on_a : OnFace q i a
  pub on_b : OnFace q i b
  pub a_not_last : a ≢ last
  pub b_not_last : b ≢ last
  pub a_not_b : a ≢ b
  pub only : (y : Name) → OnFace q i y → (y ≡ last) ⊎ ((y ≡ a) ⊎ (y ≡ b))
  pub high : level last ≡ suc k
  pub others : (y : Name) → OnFace q i y → level y ≡ suc k → (y ≡ last) ⊎ (y ≡ w)
  pub marked : marked_at q i ≡ mid a b

module _ (k : ℕ) (p : Piece Name) (m : Macro k p) (path : List Side) (some : 0 < length path) (few : length path ≤ 3) (apart : Different p) (i : ℕ) (h : i < 4) (x : Inside p.shape (shadow k p m path few) i) where
  -- So is a face that lies in face g of M, and w is the midpoint of the marked edge of that.
  pub inside_last : Last k (piece_down p path) i (marked_at p x.g)
  unfolding opposite on_face
  inside_last =
      let q = piece_down p path in
      let r = shadow k p m path few in
      let e = mark r.shape i in
      let on_i = and_left (on_face e i) (on_face e x.t) x.opposed in
      let on_t = and_right (on_face e i) (on_face e x.t) x.opposed in
      let off_i = face_slots e i on_i in
      let off_t = face_slots e x.t on_t in
      let beside = ends_beside_lem i x.t e h x.slot (ltb-true e 6 (and_left (ltb e 6) _ on_i)) x.on x.opposed in
      let ends = slots_small e in
      let differ = different_down k p m path few apart some in
      let is = corner_is k p m path few in
      record {
        last = q.corner x.t;
        a = q.corner (low_slot e);
        b = q.corner (high_slot e);
        on_last = (x.t, x.slot, x.on, refl);
        on_a = (low_slot e, ends.0, off_i.0, refl);
        on_b = (high_slot e, ends.1, off_i.1, refl);
        a_not_last = λ s. off_t.0 (differ (low_slot e) x.t ends.0 x.slot s);
        b_not_last = λ s. off_t.1 (differ (high_slot e) x.t ends.1 x.slot s);
        a_not_b = λ s. eqb-false (low_slot e) (high_slot e) (not-true (eqb (low_slot e) (high_slot e)) (and_left (not (eqb (low_slot e) (high_slot e))) _ beside)) (differ (low_slot e) (high_slot e) ends.0 ends.1 s);
        only =
            λ y o.
            let (j, l, d, s) = o in
            let three = or_second (eqb j i) _ (ne_eqb j i d) (all_at (λ k. eqb k i || (eqb k x.t || (eqb k (low_slot e) || eqb k (high_slot e)))) 4 j (and_right (not (eqb (low_slot e) (high_slot e))) _ beside) l) in
            ⊎_elim
            (λ t. inl (sym s ∙ ap q.corner (eqb-true j x.t t)))
            (λ f.
            inr (⊎_elim (λ t. inl (sym s ∙ ap q.corner (eqb-true j (low_slot e) t))) (λ g. inr (sym s ∙ ap q.corner (eqb-true j (high_slot e) (or_second (eqb j (low_slot e)) _ g (or_second (eqb j x.t) _ f three)))))
            (either (eqb j (low_slot e)))))
            (either (eqb j x.t));
        high = ap level (is x.t x.slot) ∙ new_level k p m (r.corner x.t) (corner_small k p m path few x.t x.slot) x.new;
        others =
            λ y o n.
            let (j, l, d, s) = o in
            ⊎_elim
            (λ t. inl (sym s ∙ ap q.corner (eqb-true j x.t t)))
            (λ f.
            ⊎_elim
            (λ c. absurd (omega (arith, old_level k p m (r.corner j) c, ap level (sym (is j l) ∙ s))))
            (λ w.
            inr (sym s ∙ is j l ∙ ap (stands_for p) w ∙ stands_mid p (mark p.shape x.g)))
            (x.others j l d (eqb-false j x.t f)))
            (either (eqb j x.t));
        marked = marked_stands k p m path few i ∙ sym (ap₂ mid (is (low_slot e) ends.0) (is (high_slot e) ends.1));
      }

-- Two such faces with the same names and the same w carry one mark.
pub last_one_mark : {k : ℕ} {p q : Piece Name} {i j : ℕ} {w : Name} → Last k p i w → Last k q j w → SameFace p i q j → marked_at p i ≡ marked_at q j
last_one_mark {k} {p} {q} {i} {j} {w} x y f = x.marked ∙ same ∙ sym y.marked
  where
    one : x.last ≡ y.last
    one =
        ⊎_elim (λ e. e) (λ e. ⊎_elim (λ d. sym d) (λ d. e ∙ sym d) (x.others y.last ((f y.last).1 y.on_last) y.high))
        (y.others x.last ((f x.last).0 x.on_last) x.high)

    end : (z : Name) → OnFace p i z → z ≢ x.last → (z ≡ y.a) ⊎ (z ≡ y.b)
    end z o d = ⊎_elim (λ e. absurd (d (e ∙ sym one))) (λ r. r) (y.only z ((f z).0 o))

    same : mid x.a x.b ≡ mid y.a y.b
    same =
        ⊎_elim
        (λ e. ⊎_elim (λ d. absurd (x.a_not_b (e ∙ sym d))) (λ d. ap₂ mid e d) (end x.b x.on_b x.b_not_last))
        (λ e. ⊎_elim (λ d. ap₂ mid e d ∙ mid_sym y.b y.a) (λ d. absurd (x.a_not_b (e ∙ sym d))) (end x.b x.on_b x.b_not_last))
        (end x.a x.on_a x.a_not_last)
