-- A ring of three pieces from which nothing can be taken back, computed: abcd, cdef and efab, of type O, with ab, cd and ef for refinement edges. Cutting one
-- of them makes the midpoint of an edge of the one before it; that one is cut, and then its children at that midpoint, and so on round the ring. So
-- each of the three midpoints has a piece cut at it whose children are cut, and naming every cut piece, again and again, does not reach the base.
use Rattle.std.specs.Prelude.{◌≡◌, Bool, true, false, not, ◌&&◌, List, [], ◌∷◌, ℕ, zero, suc, ◌<◌, get_or, length, eqb, ltb}
use Rattle.std.proofs.Math.Path.{refl}
use Rattle.std.proofs.Common.{ap, ap₂, ◌∙◌, ⊎_elim, arith}
use borrow.Author.Tests.{ltb-true, eqb-true, eqb-false, ne_eqb}
use Rattle.laws.specs.Below.{all_below, any_below, all_at, all_of, any_is, and_left, and_right, either}
use Rattle.piece.specs.Shape.{type_o}
use Rattle.piece.specs.Every.{shaped, only_if, only_if_holds}
use Rattle.cuts_names.specs.Names as Names
use Rattle.cuts_names.specs.Names.{Name, same_name, name_equality, named}
use Rattle.cuts_names.specs.Lists.{both_ways, among, any_of, any_of_is, once_distinct}
use Rattle.cuts_names.specs.Pieces.{Piece, Side, low, high, mid_of, makes, child, Node, kid, piece_down, piece_at}
use Rattle.cuts_names.specs.Macro.{computed}
use Rattle.cuts_names.specs.Base.{SameCorners, Different, SameFace, marked_at, Marked}
use Rattle.cuts.specs.Sets.{Cuts, There, CutsWithin, NoneHangs}
use Rattle.cuts.specs.Faces.{whole_same}
use Rattle.cuts.specs.Least.{same_node, node_equality}
use Rattle.cuts.specs.Count.{CutList, leaves_of, leaves_listed_lem}
use Rattle.cuts.specs.Fuel.{hangs_on, hangs_in}
use Rattle.cuts.proofs.Fuel.{hangs_found}
use Rattle.cuts_faces.specs.Figure6.{none_fails}

-- ---- the base

-- The vertices a to f are 0 to 5. A piece's first two corners are the ends of its refinement edge, and the two other marks are the opposite edge.
abbrev pub ring : ℕ → Piece Name
ring r =
    record {
      shape = shaped 0 5 5 0 0 0;
      corner = λ k. Names.base (get_or (get_or ((0 ∷ 1 ∷ 2 ∷ 3 ∷ []) ∷ (2 ∷ 3 ∷ 4 ∷ 5 ∷ []) ∷ (4 ∷ 5 ∷ 0 ∷ 1 ∷ []) ∷ []) r []) k 0);
    }

-- Each is of type O.
pub ring_type : type_o (ring 0).shape ≡ true
unfolding computed
ring_type = refl

-- Corner k of p is a corner of face j of q.
abbrev corner_in : Piece Name → ℕ → Piece Name → ℕ → Bool
corner_in p k q j = any_below 4 (λ l. not (eqb l j) && same_name (q.corner l) (p.corner k))

-- All corners of face i of p are.
face_in : Piece Name → ℕ → Piece Name → ℕ → Bool
face_in p i q j = all_below 4 (λ k. let here = corner_in p k q j in only_if (not (eqb k i)) here)

-- A face that is the same passes the test.
face_found : (p : Piece Name) (i : ℕ) (q : Piece Name) (j : ℕ) → SameFace p i q j → face_in p i q j ≡ true
unfolding face_in
face_found p i q j f =
    all_of (λ k. only_if (not (eqb k i)) (corner_in p k q j)) 4
    (λ k h.
    ⊎_elim
    (λ (t : eqb k i ≡ true). rw t)
    (λ (d : eqb k i ≡ false).
    let (l, small, other, e) = (f (p.corner k)).0 (k, h, eqb-false k i d, refl) in
    rw d
    (any_is (λ l. not (eqb l j) && same_name (q.corner l) (p.corner k)) 4 l small
    (ap₂ ◌&&◌ (ap not (ne_eqb l j other)) (ap (λ (x : Name). same_name x (p.corner k)) e ∙ name_equality.self (p.corner k)))))
    (either (eqb k i)))

-- Of two base pieces: a face of both has one mark, and only one piece has these four corners (face 4: the face without no slot).
together : ℕ → ℕ → Bool
together r t =
    let one = eqb r t in
    only_if (face_in (ring r) 4 (ring t) 4) one
    && all_below 4 (λ i. all_below 4 (λ j. let alike = same_name (marked_at (ring r) i) (marked_at (ring t) j) in only_if (face_in (ring r) i (ring t) j) alike))

-- What these rows compute with.
unfoldable pub rows : Bool
unfolding computed named child piece_down piece_at any_below hangs_on hangs_in face_in together
rows = false

all_together : all_below 3 (λ r. all_below 3 (together r)) ≡ true
unfolding rows
all_together = refl

-- Different corners of base piece r are different vertices.
differ : ℕ → Bool
differ r = all_below 4 (λ j. all_below 4 (λ k. only_if (same_name ((ring r).corner j) ((ring r).corner k)) (eqb j k)))

all_differ : all_below 3 differ ≡ true
unfolding rows differ
all_differ = refl

corners_differ : (r : ℕ) → r < 3 → Different (ring r)
unfolding differ
corners_differ r h j k hj hk e =
    eqb-true j k
    (only_if_holds (same_name ((ring r).corner j) ((ring r).corner k)) (eqb j k)
    (all_at (λ k. only_if (same_name ((ring r).corner j) ((ring r).corner k)) (eqb j k)) 4 k
    (all_at (λ j. all_below 4 (λ k. only_if (same_name ((ring r).corner j) ((ring r).corner k)) (eqb j k))) 4 j (all_at differ 3 r all_differ h) hj) hk)
    (ap (λ (x : Name). same_name x ((ring r).corner k)) e ∙ name_equality.self ((ring r).corner k)))

module _ (r t : ℕ) (hr : r < 3) (ht : t < 3) where
  both_pass : together r t ≡ true
  both_pass = all_at (together r) 3 t (all_at (λ r. all_below 3 (together r)) 3 r all_together hr) ht

  one_piece : SameCorners (ring r) (ring t) → r ≡ t
  unfolding together
  one_piece f =
      eqb-true r t
      (only_if_holds (face_in (ring r) 4 (ring t) 4) (eqb r t) (and_left (only_if (face_in (ring r) 4 (ring t) 4) (eqb r t)) _ both_pass)
      (face_found (ring r) 4 (ring t) 4 (whole_same (ring r) (ring t) f)))

  one_mark : (i j : ℕ) → i < 4 → j < 4 → SameFace (ring r) i (ring t) j → marked_at (ring r) i ≡ marked_at (ring t) j
  unfolding together
  one_mark i j hi hj f =
      name_equality.only (marked_at (ring r) i) (marked_at (ring t) j)
      (only_if_holds (face_in (ring r) i (ring t) j) (same_name (marked_at (ring r) i) (marked_at (ring t) j))
      (all_at (λ j. only_if (face_in (ring r) i (ring t) j) (same_name (marked_at (ring r) i) (marked_at (ring t) j))) 4 j
      (all_at (λ i. all_below 4 (λ j. only_if (face_in (ring r) i (ring t) j) (same_name (marked_at (ring r) i) (marked_at (ring t) j)))) 4 i
      (and_right (only_if (face_in (ring r) 4 (ring t) 4) (eqb r t)) _ both_pass) hi) hj)
      (face_found (ring r) i (ring t) j f))

-- It is a marked base.
pub ring_marked : Marked 3 ring
unfolding computed
ring_marked =
    record {
      valid = λ r h. record { four = refl; valid = refl };
      unset = λ r h. refl;
      corners = λ r h k l. (get_or (get_or ((0 ∷ 1 ∷ 2 ∷ 3 ∷ []) ∷ (2 ∷ 3 ∷ 4 ∷ 5 ∷ []) ∷ (4 ∷ 5 ∷ 0 ∷ 1 ∷ []) ∷ []) r []) k 0, refl);
      different = corners_differ;
      alone = one_piece;
      shared = one_mark;
    }

-- ---- the cuts

-- The piece that these sides lead to.
abbrev pub at : ℕ → List Side → Node
at r path = record { root = r; path = path }

-- A base piece and its two children.
abbrev pub three_of : ℕ → List Node → List Node
three_of r rest = at r [] ∷ at r (low ∷ []) ∷ at r (high ∷ []) ∷ rest

-- These of all three base pieces.
abbrev pub nine : List Node
nine = three_of 0 (three_of 1 (three_of 2 []))

-- The parent of a node is among the cuts; a base piece has none.
abbrev parent_cut : Node → Bool
parent_cut n = up n.root n.path
  where
    up : ℕ → List Side → Bool
    up r [] = true
    up r (side ∷ path) = among same_node (at r path) nine

-- The set of these nine cuts.
abbrev pub all_nine : Cuts 3
all_nine =
    record {
      has = λ n. among same_node n nine;
      rooted = λ n t. ltb-true n.root 3 (none_fails (λ n. ltb n.root 3) nine refl n t);
      closed = λ n side t. none_fails parent_cut nine refl (kid n side) t;
    }

-- They are all its cuts.
nine_listed : CutList all_nine nine
nine_listed = record { distinct = once_distinct node_equality nine; exact = λ n. refl }

-- Its leaves, two cuts below the base pieces.
abbrev twelve : List Node
twelve = leaves_of all_nine nine

-- There are twelve.
pub twelve_leaves : length twelve ≡ 12
twelve_leaves = refl

-- None of them passes the test for hanging.
none_found : any_of (hangs_in ring nine) twelve ≡ false
unfolding rows
none_found = refl

-- No leaf has a hanging edge.
pub nine_rests : NoneHangs ring all_nine
nine_rests n l x =
    both_ways
    (any_of_is node_equality (hangs_in ring nine) twelve n ((leaves_listed_lem all_nine nine nine_listed).all n l) (hangs_found ring all_nine nine nine_listed n x))
    none_found

-- ---- the nine are cut wherever one piece is

module _ (X : Cuts 3) (rests : NoneHangs ring X) where
  -- A piece that is there is cut, where an edge of it has a midpoint that a cut makes.
  must_cut : (n : Node) → There X n → (e : ℕ) → e < 6 → (c : Node) → X.has c ≡ true → makes (piece_at ring c) ≡ mid_of (piece_at ring n) e → X.has n ≡ true
  must_cut n there e l c t same =
      ⊎_elim
      (λ u. u)
      (λ f. absurd (rests n (record { there = there; uncut = f }) (e, record { edge = l; cut = c; is_cut = t; halfway = same })))
      (either (X.has n))

  -- A base piece and its two children are cut.
  record Three (r : ℕ) : Type 0 where
    top : X.has (at r []) ≡ true
    on_low_lem : X.has (at r (low ∷ [])) ≡ true
    on_high_lem : X.has (at r (high ∷ [])) ≡ true

  -- The base piece before one that is cut is cut, and so are its children.
  before_0 : X.has (at 0 []) ≡ true → Three 2
  unfolding rows
  before_0 t =
      let top = must_cut (at 2 []) (omega arith) 5 (omega arith) (at 0 []) t refl in
      record { top = top; on_low_lem = must_cut (at 2 (low ∷ [])) top 5 (omega arith) (at 0 []) t refl; on_high_lem = must_cut (at 2 (high ∷ [])) top 5 (omega arith) (at 0 []) t refl }

  before_1 : X.has (at 1 []) ≡ true → Three 0
  unfolding rows
  before_1 t =
      let top = must_cut (at 0 []) (omega arith) 5 (omega arith) (at 1 []) t refl in
      record { top = top; on_low_lem = must_cut (at 0 (low ∷ [])) top 5 (omega arith) (at 1 []) t refl; on_high_lem = must_cut (at 0 (high ∷ [])) top 5 (omega arith) (at 1 []) t refl }

  before_2 : X.has (at 2 []) ≡ true → Three 1
  unfolding rows
  before_2 t =
      let top = must_cut (at 1 []) (omega arith) 5 (omega arith) (at 2 []) t refl in
      record { top = top; on_low_lem = must_cut (at 1 (low ∷ [])) top 5 (omega arith) (at 2 []) t refl; on_high_lem = must_cut (at 1 (high ∷ [])) top 5 (omega arith) (at 2 []) t refl }

  -- So all nine are.
  nine_cut : Three 0 → Three 1 → Three 2 → CutsWithin all_nine X
  nine_cut a b c = none_fails X.has nine (rw (a.top, a.on_low_lem, a.on_high_lem, b.top, b.on_low_lem, b.on_high_lem, c.top, c.on_low_lem, c.on_high_lem))

  all_round : (r : ℕ) → r < 3 → X.has (at r []) ≡ true → CutsWithin all_nine X
  all_round zero h t = let c = before_0 t in let b = before_2 c.top in let a = before_1 b.top in nine_cut a b c
  all_round (suc zero) h t = let a = before_1 t in let c = before_0 a.top in let b = before_2 c.top in nine_cut a b c
  all_round (suc (suc zero)) h t = let b = before_2 t in let a = before_1 b.top in let c = before_0 a.top in nine_cut a b c
  all_round (suc (suc (suc r))) h t = absurd (omega arith)

  -- Where anything is cut and no edge hangs, the nine are cut.
  pub nine_cut_with : (n : Node) → X.has n ≡ true → CutsWithin all_nine X
  nine_cut_with n t = all_round n.root (X.rooted n t) (up n.root n.path t)
    where
      up : (r : ℕ) (path : List Side) → X.has (at r path) ≡ true → X.has (at r []) ≡ true
      up r [] h = h
      up r (side ∷ path) h = up r path (X.closed (at r path) side h)
