-- Document 002, figure 6: "A nonconforming mesh without hanging nodes". Such a mesh, computed: two base pieces with a common face that each of them marks
-- otherwise, all cut three times. No edge hangs, and the leaves do not meet face to face. What keeps such meshes out is rule 7's "a shared face with two
-- marks", the field `one_mark` of `ProperlyMarked`: all its other fields hold here. So the theorem in `Proved` needs it.
use Rattle.std.specs.Prelude.{◌≡◌, refl, Bool, true, false, not, ◌&&◌, ◌⊎◌, ◌≢◌, List, [], ◌∷◌, ℕ, zero, suc, ◌-◌, ◌<◌, get_or, length, eqb, ltb}
use Rattle.std.proofs.Common.{sym, ap, ap₂, ◌∙◌, inl, inr, ⊎_elim, arith, ltb-true, eqb-true}
use Rattle.std.proofs.lemmas.Bool.{false≢true, eqb-false}
use Rattle.laws.specs.Below.{all_below, any_below, all_at, any_is, either}
use Rattle.piece.specs.Shape.{Shape, Valid}
use Rattle.piece.specs.Every.{shaped, only_if, only_if_holds}
use Rattle.cuts_names.specs.Names as Names
use Rattle.cuts_names.specs.Names.{Name, mid, same_name, name_equality, named}
use Rattle.cuts_names.specs.Lists.{both_ways, not_so, among, any_of, any_of_is, once_distinct}
use Rattle.cuts_names.specs.Pieces.{Piece, Side, low, high, child, Node, kid, piece_down, piece_at}
use Rattle.cuts_names.specs.Macro.{computed}
use Rattle.cuts_names.specs.Base.{HasCorner, OnFace, SameCorners, SameFace, Different, marked_at}
use Rattle.cuts.specs.Sets.{Cuts, NoneHangs}
use Rattle.cuts.specs.Least.{same_node, node_equality}
use Rattle.cuts.specs.Count.{CutList, LeafList, leaves_of, leaves_listed_lem}
use Rattle.cuts.specs.Fuel.{hangs_on, hangs_in}
use Rattle.cuts.proofs.Fuel.{hangs_found}
use Rattle.cuts_faces.specs.FaceToFace.{ProperlyMarked, LiesIn, InTwo, InOne, FaceToFace}
use Rattle.cuts_faces.specs.Lies.{lies_corner, lies_parents}

-- ---- a properly marked base, without the one mark

-- A shared face has one mark.
abbrev pub OneMark : ℕ → (ℕ → Piece Name) → Type 0
OneMark count base = (r s : ℕ) → r < count → s < count → (i j : ℕ) → i < 4 → j < 4 → SameFace (base r) i (base s) j → marked_at (base r) i ≡ marked_at (base s) j

-- All else that `ProperlyMarked` asks of a base.
pub record AllButOneMark (count : ℕ) (base : ℕ → Piece Name) : Type 0 where
  pub valid : (r : ℕ) → r < count → Valid (base r).shape
  pub unset : (r : ℕ) → r < count → (base r).shape.flag ≡ 0
  pub corners : (r : ℕ) → r < count → (k : ℕ) → k < 4 → (n : ℕ) × ((base r).corner k ≡ Names.base n)
  pub different : (r : ℕ) → r < count → Different (base r)
  pub alone : (r s : ℕ) → r < count → s < count → SameCorners (base r) (base s) → r ≡ s
  pub in_two : (r s t : ℕ) → r < count → s < count → t < count → (i j k : ℕ) → i < 4 → j < 4 → k < 4 → SameFace (base r) i (base s) j → SameFace (base r) i (base t) k → (r ≡ s) ⊎ ((r ≡ t) ⊎ (s ≡ t))

-- The two together are `ProperlyMarked`.
pub with_one_mark : {count : ℕ} {base : ℕ → Piece Name} → AllButOneMark count base → OneMark count base → ProperlyMarked count base
with_one_mark b one = record { valid = b.valid; unset = b.unset; corners = b.corners; different = b.different; alone = search b.alone; in_two = search b.in_two; one_mark = search one }

-- ---- the base

-- A base piece with these vertex numbers for corners.
abbrev base_piece : Shape → List ℕ → Piece Name
base_piece s numbers = record { shape = s; corner = λ k. Names.base (get_or numbers k 0) }

-- Two pieces on the face 0 1 2, which is face 3 of both. The first has the refinement edge 01, the second 12: so the first marks that face 01, the second 12.
abbrev pub figure : ℕ → Piece Name
figure zero = base_piece (shaped 0 3 1 0 0 0) (0 ∷ 1 ∷ 2 ∷ 3 ∷ [])
figure (suc r) = base_piece (shaped 3 3 1 0 3 0) (0 ∷ 1 ∷ 2 ∷ 4 ∷ [])

-- Each of the two base pieces in turn.
each_piece : (P : ℕ → Type 0) → P 0 → P 1 → (r : ℕ) → r < 2 → P r
each_piece P a b zero h = a
each_piece P a b (suc zero) h = b
each_piece P a b (suc (suc r)) h = absurd (omega arith)

-- Of three numbers of base pieces two are the same.
two_alike : (r s t : ℕ) → r < 2 → s < 2 → t < 2 → (r ≡ s) ⊎ ((r ≡ t) ⊎ (s ≡ t))
two_alike r s t hr hs ht =
    ⊎_elim
    (λ e. inl (eqb-true r s e))
    (λ f.
    ⊎_elim
    (λ e. inr (inl (eqb-true r t e)))
    (λ g. let d : r ≢ s = eqb-false r s f in let e : r ≢ t = eqb-false r t g in inr (inr (omega arith)))
    (either (eqb r t)))
    (either (eqb r s))

-- x is a corner of the piece, as a test.
has_corner : Piece Name → Name → Bool
has_corner p x = any_below 4 (λ k. same_name (p.corner k) x)

-- What these rows compute with.
rows : Bool
unfolding computed named child piece_down piece_at any_below hangs_on hangs_in has_corner
rows = false

-- A corner passes the test.
corner_found : (p : Piece Name) (x : Name) → HasCorner p x → has_corner p x ≡ true
unfolding has_corner
corner_found p x (k, l, e) = any_is (λ k. same_name (p.corner k) x) 4 k l (rw e (name_equality.self x))

-- The four corners of a piece are different names, as a test.
differ : Piece Name → Bool
differ p = all_below 4 (λ j. all_below 4 (λ k. only_if (same_name (p.corner j) (p.corner k)) (eqb j k)))

-- They are where it passes.
test_differs : (p : Piece Name) → differ p ≡ true → Different p
unfolding differ
test_differs p t j k hj hk e =
    eqb-true j k
    (only_if_holds (same_name (p.corner j) (p.corner k)) (eqb j k) (all_at (λ k. only_if (same_name (p.corner j) (p.corner k)) (eqb j k)) 4 k (all_at _ 4 j t hj) hk) (rw e (name_equality.self (p.corner k))))

-- Each piece is validly marked with the flag unset, its corners are four different base vertices, no two have the same corners, and no face is in three.
pub all_but_one : AllButOneMark 2 figure
unfolding rows differ
all_but_one =
    record {
      valid = each_piece (λ r. Valid (figure r).shape) (record { four = refl; valid = refl }) (record { four = refl; valid = refl });
      unset = each_piece (λ r. (figure r).shape.flag ≡ 0) refl refl;
      corners = each_piece (λ r. (k : ℕ) → k < 4 → (n : ℕ) × ((figure r).corner k ≡ Names.base n)) (λ k h. (get_or (0 ∷ 1 ∷ 2 ∷ 3 ∷ []) k 0, refl)) (λ k h. (get_or (0 ∷ 1 ∷ 2 ∷ 4 ∷ []) k 0, refl));
      different = each_piece (λ r. Different (figure r)) (test_differs (figure 0) refl) (test_differs (figure 1) refl);
      alone =
          λ r s hr hs.
          each_piece (λ r. SameCorners (figure r) (figure s) → r ≡ s)
          (each_piece (λ s. SameCorners (figure 0) (figure s) → 0 ≡ s) (λ f. refl) (λ f. absurd (apart f)) s hs)
          (each_piece (λ s. SameCorners (figure 1) (figure s) → 1 ≡ s) (λ f. absurd (apart (λ x. ((f x).1, (f x).0)))) (λ f. refl) s hs)
          r hr;
      in_two = λ r s t hr hs ht i j k hi hj hk f g. two_alike r s t hr hs ht;
    }
  where
    -- vertex 3 is a corner of the first alone
    apart : SameCorners (figure 0) (figure 1) → ⊥
    apart f = false≢true (corner_found (figure 1) (Names.base 3) ((f (Names.base 3)).0 (3, omega arith, refl)))

-- Vertices 0, 1 and 2 stand in their own slots of both.
own_slot : (r : ℕ) → r < 2 → (k : ℕ) → k < 3 → (figure r).corner k ≡ Names.base k
own_slot r h zero l = each_piece (λ r. (figure r).corner 0 ≡ Names.base 0) refl refl r h
own_slot r h (suc zero) l = each_piece (λ r. (figure r).corner 1 ≡ Names.base 1) refl refl r h
own_slot r h (suc (suc zero)) l = each_piece (λ r. (figure r).corner 2 ≡ Names.base 2) refl refl r h
own_slot r h (suc (suc (suc k))) l = absurd (omega arith)

-- So face 3 of the one is face 3 of the other.
common_face : (r s : ℕ) → r < 2 → s < 2 → SameFace (figure r) 3 (figure s) 3
common_face r s hr hs x = (through r s hr hs, through s r hs hr)
  where
    through : (r s : ℕ) → r < 2 → s < 2 → OnFace (figure r) 3 x → OnFace (figure s) 3 x
    through r s hr hs (k, l, d, e) = (k, l, d, own_slot s hs k (omega arith) ∙ sym (own_slot r hr k (omega arith)) ∙ e)

-- That face has two marks, 01 and 12: so `one_mark` fails.
pub two_marks_lem : OneMark 2 figure → ⊥
unfolding rows
two_marks_lem one =
    let e : mid (Names.base 0) (Names.base 1) ≡ mid (Names.base 1) (Names.base 2) = one 0 1 (omega arith) (omega arith) 3 3 (omega arith) (omega arith) (common_face 0 1 (omega arith) (omega arith)) in
    false≢true (ap (same_name (mid (Names.base 0) (Names.base 1))) (sym e) ∙ name_equality.self (mid (Names.base 0) (Names.base 1)))

-- ---- the cuts

-- The piece that these sides lead to.
abbrev at : ℕ → List Side → Node
at r path = record { root = r; path = path }

-- A base piece, its two children and its four grandchildren.
abbrev seven_of : ℕ → List Node → List Node
seven_of r rest =
    at r []
    ∷ at r (low ∷ [])
    ∷ at r (high ∷ [])
    ∷ at r (low ∷ low ∷ [])
    ∷ at r (high ∷ low ∷ [])
    ∷ at r (low ∷ high ∷ [])
    ∷ at r (high ∷ high ∷ [])
    ∷ rest

-- These of both base pieces.
abbrev fourteen : List Node
fourteen = seven_of 0 (seven_of 1 [])

-- Where no element fails the test, each passes it.
pub none_fails : (test : Node → Bool) (l : List Node) → any_of (λ n. not (test n)) l ≡ false → (n : Node) → among same_node n l ≡ true → test n ≡ true
none_fails test l none n a =
    ⊎_elim
    (λ t. t)
    (λ (f : test n ≡ false). absurd (both_ways (any_of_is node_equality (λ m. not (test m)) l n a (ap not f)) none))
    (either (test n))

-- The parent of a node is among the cuts; a base piece has none.
abbrev parent_cut : Node → Bool
parent_cut n = up n.root n.path
  where
    up : ℕ → List Side → Bool
    up r [] = true
    up r (side ∷ path) = among same_node (at r path) fourteen

-- The set of these fourteen cuts: each base piece is cut through three generations.
abbrev pub cut_thrice : Cuts 2
cut_thrice =
    record {
      has = λ n. among same_node n fourteen;
      rooted = λ n t. ltb-true n.root 2 (none_fails (λ n. ltb n.root 2) fourteen refl n t);
      closed = λ n side t. none_fails parent_cut fourteen refl (kid n side) t;
    }

-- They are all its cuts.
fourteen_listed : CutList cut_thrice fourteen
fourteen_listed = record { distinct = once_distinct node_equality fourteen; exact = λ n. refl }

-- Its leaves, three cuts below the base pieces.
abbrev sixteen : List Node
sixteen = leaves_of cut_thrice fourteen

-- There are sixteen.
sixteen_leaves : length sixteen ≡ 16
sixteen_leaves = refl

-- They are all its leaves.
sixteen_listed : LeafList cut_thrice sixteen
sixteen_listed = leaves_listed_lem cut_thrice fourteen fourteen_listed

-- ---- no edge hangs

-- None of them passes the test for hanging.
none_found : any_of (hangs_in figure fourteen) sixteen ≡ false
unfolding rows
none_found = refl

-- No leaf has a hanging edge.
pub none_hangs : NoneHangs figure cut_thrice
none_hangs n l x =
    both_ways
    (any_of_is node_equality (hangs_in figure fourteen) sixteen n (sixteen_listed.all n l) (hangs_found figure cut_thrice fourteen fourteen_listed n x))
    none_found

-- ---- the leaves do not meet face to face

-- The leaf in corner 0 of the first piece. Its face 3 lies in the common face: its corners are vertex 0 and the midpoints of 01 and 02.
abbrev in_corner : Node
in_corner = at 0 (high ∷ high ∷ high ∷ [])

-- The midpoint of two base vertices.
abbrev half : ℕ → ℕ → Name
half m n = mid (Names.base m) (Names.base n)

-- Another node with these three corners.
also_has : Node → Bool
also_has n = not (same_node n in_corner) && (has_corner (piece_at figure n) (Names.base 0) && (has_corner (piece_at figure n) (half 0 1) && has_corner (piece_at figure n) (half 0 2)))

-- No leaf is one.
no_other : any_of also_has sixteen ≡ false
unfolding rows also_has
no_other = refl

-- That face's corners.
on_vertex : OnFace (piece_at figure in_corner) 3 (Names.base 0)
unfolding rows
on_vertex = (0, omega arith, omega arith, refl)

on_first : OnFace (piece_at figure in_corner) 3 (half 0 1)
unfolding rows
on_first = (1, omega arith, omega arith, refl)

on_second : OnFace (piece_at figure in_corner) 3 (half 0 2)
unfolding rows
on_second = (2, omega arith, omega arith, refl)

-- The face is not in two leaves: no other leaf has its three corners.
not_in_two : InTwo figure cut_thrice in_corner 3 → ⊥
unfolding also_has
not_in_two t =
    both_ways
    (any_of_is node_equality also_has sixteen t.other (sixteen_listed.all t.other t.leaf)
    (ap₂ ◌&&◌ (ap not (not_so (same_node t.other in_corner) (λ e. t.apart (node_equality.only t.other in_corner e))))
    (ap₂ ◌&&◌ (has (Names.base 0) on_vertex) (ap₂ ◌&&◌ (has (half 0 1) on_first) (has (half 0 2) on_second)))))
    no_other
  where
    has : (x : Name) → OnFace (piece_at figure in_corner) 3 x → has_corner (piece_at figure t.other) x ≡ true
    has x o = let (k, l, d, e) = (t.same x).0 o in corner_found (piece_at figure t.other) x (k, l, e)

-- It lies in no base face that is in one base piece only: vertices 0, 1 and 2 lie in the base face with it, so that is the common face.
not_in_one : InOne figure cut_thrice in_corner 3 → ⊥
not_in_one t =
    let r = t.r in
    let g = t.g in
    let first = lies_parents (figure r) g (all_but_one.corners r t.piece) (Names.base 0) (Names.base 1) (t.lies (half 0 1) on_first) refl in
    let second = lies_parents (figure r) g (all_but_one.corners r t.piece) (Names.base 0) (Names.base 2) (t.lies (half 0 2) on_second) refl in
    let a : 0 ≢ g = beside 0 (omega arith) first.0 in
    let b : 1 ≢ g = beside 1 (omega arith) first.1 in
    let c : 2 ≢ g = beside 2 (omega arith) second.1 in
    let h = t.face in
    let e : g ≡ 3 = omega arith in
    let u : 1 - r ≡ r = t.alone (1 - r) (omega arith) 3 (omega arith) (rw e (common_face r (1 - r) t.piece (omega arith))) in
    omega arith
  where
    -- a face that vertex m is a corner of is not the face without its slot
    beside : (m : ℕ) → m < 3 → LiesIn (figure t.r) t.g (Names.base m) → m ≢ t.g
    beside m h l q =
        let (k, small, d, e) = lies_corner (figure t.r) t.g m l refl in
        let same : k ≡ m = all_but_one.different t.r t.piece k m small (omega arith) (e ∙ sym (own_slot t.r t.piece m h)) in
        d (same ∙ q)

-- The leaves do not meet face to face.
pub not_face_to_face : FaceToFace figure cut_thrice → ⊥
not_face_to_face f = ⊎_elim not_in_two not_in_one (f in_corner (sixteen_listed.leaf in_corner refl) 3 (omega arith))

-- So without the one mark of a shared face the theorem would be false.
pub needs_one_mark : ((count : ℕ) (base : ℕ → Piece Name) → AllButOneMark count base → (C : Cuts count) → NoneHangs base C → FaceToFace base C) → ⊥
needs_one_mark theorem = not_face_to_face (theorem 2 figure all_but_one cut_thrice none_hangs)
