-- Faces at most three cuts below a piece M, over formal corners: which corners of M lie under them, in which face of M they lie, and
-- what their marks are. Face 4 stands for the piece as a whole: no slot is left out.
use Rattle.std.specs.Prelude.{◌≡◌, refl, Bool, true, false, cond, ◌&&◌, ◌||◌, ◌⊎◌, ◌≢◌, ℕ, zero, suc, ◌+◌, ◌-◌, ◌*◌, ◌/◌, ◌%◌, ◌^◌, ◌<◌, ◌≤◌, eqb, ltb}
use Rattle.std.proofs.Math.Path.{sym, ap}
use Rattle.std.proofs.Common.{ap₂, ◌∙◌, subst, inl, inr}
use Rattle.std.proofs.Math.Bool.{not}
use Rattle.std.proofs.Math.Logic.{⊎_elim}
use mathlib.Core.List.{List, [], ◌∷◌}
use native.Mathlib.Omega.{arith}
use Rattle.std.proofs.Math.ListN.{length, get_or}
use borrow.Author.Tests.{eqb-true, eqb-false, eq-eqb, ne_eqb, ltb-true, lt-ltb, le-ltb, not-true}
use Rattle.laws.specs.Below.{fold_below, all_below, any_below, sum_below, sum_same, all_at, any_where, any_is, and_left, and_right, or_second, either, bit, list_below, list_at}
use Rattle.laws.specs.Pairs.{SamePair}
use Rattle.piece_edges.specs.Edges.{low_slot, high_slot, has_slot, opposite, slots_small}
use Rattle.piece.specs.Shape.{Shape, mark, unset, Valid}
use Rattle.piece.specs.Every.{every_shape, every_shape_lem, only_if, only_if_holds}
use Rattle.cuts_names.specs.Pieces.{Piece, Side, low, high}
use Rattle.cuts_names.specs.Three.{formal, formal_down}
use Rattle.cuts_names.specs.Macro.{every_below, every_below_lem, computed}
use Rattle.cuts_names.proofs.Macro.{formal_small}

-- ---- what lies under a face

-- A test at some slot of face i.
abbrev pub some_slot : ℕ → (ℕ → Bool) → Bool
some_slot i test = any_below 4 (λ k. not (eqb k i) && test k)

-- A test at every slot of face i.
abbrev pub each_slot : ℕ → (ℕ → Bool) → Bool
each_slot i test = all_below 4 (λ k. eqb k i || test k)

-- The slot at which it holds.
pub some_slot_lem : (i : ℕ) (test : ℕ → Bool) → some_slot i test ≡ true → (k : ℕ) × (k < 4) × (k ≢ i) × (test k ≡ true)
some_slot_lem i test e =
    let (k, l, t) = any_where (λ k. not (eqb k i) && test k) 4 e in
    (k, l, eqb-false k i (not-true (eqb k i) (and_left (not (eqb k i)) (test k) t)), and_right (not (eqb k i)) (test k) t)

-- One slot at which it holds is enough.
pub is_some_slot : (i : ℕ) (test : ℕ → Bool) (k : ℕ) → k < 4 → k ≢ i → test k ≡ true → some_slot i test ≡ true
is_some_slot i test k l d t = any_is (λ k. not (eqb k i) && test k) 4 k l (ap₂ ◌&&◌ (ap not (ne_eqb k i d)) t)

-- It holds at each slot of the face.
pub each_slot_lem : (i : ℕ) (test : ℕ → Bool) → each_slot i test ≡ true → (k : ℕ) → k < 4 → k ≢ i → test k ≡ true
each_slot_lem i test e k l d = or_second (eqb k i) (test k) (ne_eqb k i d) (all_at (λ k. eqb k i || test k) 4 k e l)

-- c is a formal corner of face i.
unfoldable pub on_formal : Piece ℕ → ℕ → ℕ → Bool
on_formal q i c = some_slot i (λ k. eqb (q.corner k) c)

-- Corner x of M lies under the formal corner c: it is c, or c is the midpoint of an edge that ends in it.
unfoldable pub lies : ℕ → ℕ → Bool
lies c x = let ends = has_slot (c - 4) x in cond (ltb c 4) (eqb c x) ends

-- Under a corner lies that corner.
pub lies_old : (c x : ℕ) → c < 4 → lies c x ≡ eqb c x
unfolding lies
lies_old c x h = rw (lt-ltb c 4 h)

-- Under a midpoint lie the ends of its edge.
pub lies_new : (c x : ℕ) → 4 ≤ c → lies c x ≡ has_slot (c - 4) x
unfolding lies
lies_new c x h = rw (le-ltb c 4 h)

-- Corner x of M lies under face i.
unfoldable pub under : Piece ℕ → ℕ → ℕ → Bool
under q i x = some_slot i (λ k. lies (q.corner k) x)

-- The formal corners of face i, as a number.
unfoldable pub code : Piece ℕ → ℕ → ℕ
code q i = sum_below 10 (λ c. bit (on_formal q i c) * 2 ^ c)

-- It goes by the formal corners alone.
pub code_same : (q : Piece ℕ) (i : ℕ) (r : Piece ℕ) (j : ℕ) → ((c : ℕ) → c < 10 → on_formal q i c ≡ on_formal r j c) → code q i ≡ code r j
unfolding code
code_same q i r j h = sum_same 10 _ _ (λ c l. ap (λ (b : Bool). bit b * 2 ^ c) (h c l))

-- ---- the kinds of faces

-- Face i is face i of M, with M's mark.
pub record Inherited (s : Shape) (q : Piece ℕ) (i : ℕ) : Type 0 where
  pub corners : (k : ℕ) → k < 4 → k ≢ i → q.corner k ≡ k
  pub marked : mark q.shape i ≡ mark s i

-- Face i has a midpoint for a corner, and all four corners of M lie under it.
pub record Across (q : Piece ℕ) (i : ℕ) : Type 0 where
  pub new : (k : ℕ) × (k < 4) × (k ≢ i) × (4 ≤ q.corner k)
  pub all : (x : ℕ) → x < 4 → under q i x ≡ true

-- The corners of M that lie under face i are those of its face g. The corner in slot t is a midpoint, the mark is the edge without it, and any
-- other midpoint is that of the marked edge of face g.
pub record Inside (s : Shape) (q : Piece ℕ) (i : ℕ) : Type 0 where
  pub g : ℕ
  pub face : g < 4
  pub without : under q i g ≡ false
  pub within : (x : ℕ) → x < 4 → x ≢ g → under q i x ≡ true
  pub t : ℕ
  pub slot : t < 4
  pub on : t ≢ i
  pub new : 4 ≤ q.corner t
  pub opposed : opposite i t (mark q.shape i) ≡ true
  pub others : (k : ℕ) → k < 4 → k ≢ i → k ≢ t → (q.corner k < 4) ⊎ (q.corner k ≡ 4 + mark s g)

-- Every face at most three cuts below M is of one of these kinds.
pub data Kind (s : Shape) (q : Piece ℕ) (i : ℕ) : Type 0 where
  inherited : Inherited s q i → Kind s q i
  across : Across q i → Kind s q i
  inside : Inside s q i → Kind s q i

-- The tests of these, and what each says.
unfoldable pub is_new : Piece ℕ → ℕ → Bool
is_new q i = some_slot i (λ k. ltb 3 (q.corner k))

is_inherited : Shape → Piece ℕ → ℕ → Bool
is_inherited s q i = eqb (mark q.shape i) (mark s i) && each_slot i (λ k. eqb (q.corner k) k)

unfoldable pub is_across : Piece ℕ → ℕ → Bool
is_across q i = is_new q i && all_below 4 (under q i)

abbrev one_of : Shape → Piece ℕ → ℕ → ℕ → ℕ → Bool
one_of s q t g k = eqb k t || (ltb (q.corner k) 4 || eqb (q.corner k) (4 + mark s g))

is_last : Shape → Piece ℕ → ℕ → ℕ → ℕ → Bool
is_last s q i g t =
    let others = each_slot i (one_of s q t g) in
    ltb 3 (q.corner t) && (opposite i t (mark q.shape i) && others)

is_inside : Shape → Piece ℕ → ℕ → ℕ → Bool
is_inside s q i g =
    let last = some_slot i (is_last s q i g) in
    not (under q i g) && (each_slot g (under q i) && last)

is_kind : Shape → Piece ℕ → ℕ → Bool
is_kind s q i =
    let in_one = any_below 4 (is_inside s q i) in
    let new = is_across q i || in_one in
    is_inherited s q i || new

is_new_lem : (q : Piece ℕ) (i : ℕ) → is_new q i ≡ true → (k : ℕ) × (k < 4) × (k ≢ i) × (4 ≤ q.corner k)
unfolding is_new
is_new_lem q i e = let (k, l, d, t) = some_slot_lem i (λ k. ltb 3 (q.corner k)) e in (k, l, d, omega (arith, ltb-true 3 (q.corner k) t))

is_inherited_lem : (s : Shape) (q : Piece ℕ) (i : ℕ) → is_inherited s q i ≡ true → Inherited s q i
unfolding is_inherited
is_inherited_lem s q i e =
    record {
      corners = λ k l d. eqb-true (q.corner k) k (each_slot_lem i (λ k. eqb (q.corner k) k) (and_right (eqb (mark q.shape i) (mark s i)) _ e) k l d);
      marked = eqb-true (mark q.shape i) (mark s i) (and_left (eqb (mark q.shape i) (mark s i)) _ e);
    }

pub is_across_lem : (q : Piece ℕ) (i : ℕ) → is_across q i ≡ true → Across q i
unfolding is_across
is_across_lem q i e =
    record { new = is_new_lem q i (and_left (is_new q i) _ e); all = λ x l. all_at (under q i) 4 x (and_right (is_new q i) (all_below 4 (under q i)) e) l }

is_inside_lem : (s : Shape) (q : Piece ℕ) (i g : ℕ) → g < 4 → is_inside s q i g ≡ true → Inside s q i
unfolding is_inside is_last
is_inside_lem s q i g h e =
    let rest = and_right (not (under q i g)) _ e in
    let (t, l, d, last) = some_slot_lem i (is_last s q i g) (and_right (each_slot g (under q i)) _ rest) in
    let marks = and_right (ltb 3 (q.corner t)) _ last in
    let others = and_right (opposite i t (mark q.shape i)) (each_slot i (one_of s q t g)) marks in
    record {
      g = g;
      face = h;
      without = not-true (under q i g) (and_left (not (under q i g)) _ e);
      within = each_slot_lem g (under q i) (and_left (each_slot g (under q i)) _ rest);
      t = t;
      slot = l;
      on = d;
      new = omega (arith, ltb-true 3 (q.corner t) (and_left (ltb 3 (q.corner t)) _ last));
      opposed = and_left (opposite i t (mark q.shape i)) _ marks;
      others =
          λ k b n m.
          let one = or_second (eqb k t) _ (ne_eqb k t m) (each_slot_lem i (one_of s q t g) others k b n) in
          ⊎_elim (λ y. inl (ltb-true (q.corner k) 4 y)) (λ f. inr (eqb-true (q.corner k) (4 + mark s g) (or_second (ltb (q.corner k) 4) _ f one))) (either (ltb (q.corner k) 4));
    }

is_kind_lem : (s : Shape) (q : Piece ℕ) (i : ℕ) → is_kind s q i ≡ true → Kind s q i
unfolding is_kind
is_kind_lem s q i e =
    ⊎_elim
    (λ t. inherited (is_inherited_lem s q i t))
    (λ f.
    let new = or_second (is_inherited s q i) _ f e in
    ⊎_elim
    (λ t. across (is_across_lem q i t))
    (λ n. let (g, l, t) = any_where (is_inside s q i) 4 (or_second (is_across q i) _ n new) in inside (is_inside_lem s q i g l t))
    (either (is_across q i)))
    (either (is_inherited s q i))

-- ---- the table of faces

-- What it says of each piece below M: its corners are different, one of them is a midpoint, all corners of M lie under it, and each of its
-- faces is of one of the three kinds.
different : Piece ℕ → Bool
different q = all_below 4 (λ j. each_slot j (λ k. not (eqb (q.corner j) (q.corner k))))

row : Shape → Piece ℕ → Bool
row s q = different q && (is_across q 4 && all_below 4 (is_kind s q))

row_at : Shape → ℕ → Piece ℕ → Bool
row_at s left q = let here = row s q in only_if (ltb left 3) here

faces : Shape → Bool
faces s = let all = every_below 3 (row_at s) (formal s) in only_if (unset s) all

-- ---- the table of pairs of faces

-- Paths by number: the last side by whether it is odd or even, the rest by half of it.
number_of : List Side → ℕ
number_of [] = 0
number_of (low ∷ path) = 2 * number_of path + 1
number_of (high ∷ path) = 2 * number_of path + 2

-- The path of at most d sides with this number.
path_of : ℕ → ℕ → List Side
path_of zero n = []
path_of (suc d) n =
    let rest = path_of d ((n - 1) / 2) in
    let side = cond (eqb (n % 2) 1) low high in
    let longer = side ∷ rest in
    cond (eqb n 0) [] longer

number_path : (d : ℕ) (path : List Side) → length path ≤ d → path_of d (number_of path) ≡ path
unfolding path_of number_of
number_path zero [] h = refl
number_path (suc d) [] h = refl
number_path zero (side ∷ path) h = absurd (omega arith)
number_path (suc d) (low ∷ path) h =
    let n = number_of path in
    let half : (2 * n + 1 - 1) / 2 ≡ n = omega arith in
    rw (ne_eqb (2 * n + 1) 0 (λ e. omega arith), eq-eqb ((2 * n + 1) % 2) 1 (omega arith), half, number_path d path (omega arith))
number_path (suc d) (high ∷ path) h =
    let n = number_of path in
    let half : (2 * n + 2 - 1) / 2 ≡ n = omega arith in
    rw (ne_eqb (2 * n + 2) 0 (λ e. omega arith), ne_eqb ((2 * n + 2) % 2) 1 (λ e. omega arith), half, number_path d path (omega arith))

number_small : (d : ℕ) (path : List Side) → length path ≤ d → number_of path + 2 ≤ 2 * 2 ^ d
unfolding number_of
number_small zero [] h = omega arith
number_small (suc d) [] h = omega (arith, number_small d [] (omega arith))
number_small zero (side ∷ path) h = absurd (omega arith)
number_small (suc d) (low ∷ path) h = omega (arith, number_small d path (omega arith))
number_small (suc d) (high ∷ path) h = omega (arith, number_small d path (omega arith))

-- Two formal corners, whichever way round, as a number.
abbrev pair_number : ℕ → ℕ → ℕ
pair_number x y = cond (ltb x y) (10 * x + y) (10 * y + x)

-- It says which two they are.
same_pair_lem : (x y x' y' : ℕ) → x < 10 → y < 10 → x' < 10 → y' < 10 → pair_number x y ≡ pair_number x' y' → SamePair x y x' y'
same_pair_lem x y x' y' a b a' b' e = go (ltb x y) (ltb x' y') e
  where
    digits : (x y x' y' : ℕ) → y < 10 → y' < 10 → 10 * x + y ≡ 10 * x' + y' → (x ≡ x') × (y ≡ y')
    digits x y x' y' b b' e = (omega arith, omega arith)

    go : (t t' : Bool) → cond t (10 * x + y) (10 * y + x) ≡ cond t' (10 * x' + y') (10 * y' + x') → SamePair x y x' y'
    go true true e = inl (digits x y x' y' b b' e)
    go true false e = inr (digits x y y' x' b a' e)
    go false true e = let (p, q) = digits y x x' y' a b' e in inr (q, p)
    go false false e = let (p, q) = digits y x y' x' a a' e in inl (q, p)

-- The ends of the mark of face i.
abbrev mark_number : Piece ℕ → ℕ → ℕ
mark_number q i = pair_number (q.corner (low_slot (mark q.shape i))) (q.corner (high_slot (mark q.shape i)))

-- The corners of a face, and what they tell: the ends of its mark, and of a piece as a whole one more than the number of its path.
record Seen : Type 0 where
  corners : ℕ
  tells : ℕ

abbrev seen : ℕ → Piece ℕ → ℕ → Seen
seen n q i = record { corners = code q i; tells = cond (eqb i 4) (suc n) (mark_number q i) }

abbrev unseen : Seen
unseen = record { corners = 0; tells = 0 }

abbrev seen_at : Shape → ℕ → List Seen
seen_at s n = let q = formal_down (formal s) (path_of 3 n) in list_below 5 (seen n q)

-- One number holds what all faces tell, each at the place that its corners name: so each face is looked up once, and not compared with every
-- other. Here is what stands at place c.
abbrev entry : ℕ → ℕ → ℕ
entry all c = all / 128 ^ c % 128

-- A face is entered where nothing stands yet.
abbrev enter : ℕ → Seen → ℕ
enter all x = let more = all + x.tells * 128 ^ x.corners in cond (eqb (entry all x.corners) 0) more all

abbrev dictionary : List (List Seen) → ℕ
dictionary rows = fold_below 0 (λ all r. fold_below all enter 5 (λ i. get_or r i unseen)) 15 (λ n. get_or rows n [])

-- What stands at the place of each face is what it tells: so faces with the same corners tell the same.
abbrev agrees : ℕ → Seen → Bool
agrees all x = eqb (entry all x.corners) x.tells

abbrev all_agree : ℕ → List (List Seen) → ℕ → Bool
all_agree all rows n = all_below 5 (λ i. agrees all (get_or (get_or rows n []) i unseen))

pairs : Shape → Bool
pairs s =
    let rows = list_below 15 (seen_at s) in
    let all = dictionary rows in
    let right = all_below 15 (all_agree all rows) in
    only_if (unset s) right

-- ---- both tables computed

faces_hold : every_shape faces ≡ true
unfolding computed any_below lies under is_new is_inherited is_across is_last is_inside is_kind different row row_at faces
faces_hold = refl

pairs_hold : every_shape pairs ≡ true
unfolding computed any_below sum_below list_below on_formal code path_of pairs
pairs_hold = refl

-- ---- the rules

module _ (s : Shape) (v : Valid s) (f : s.flag ≡ 0) where
  -- The formal piece at a path from M.
  abbrev pub below : List Side → Piece ℕ
  below path = formal_down (formal s) path

  module _ (path : List Side) (some : 0 < length path) (few : length path ≤ 3) where
    at_row : row s (below path) ≡ true
    unfolding faces row_at
    at_row =
        let left = 3 - length path in
        let three : length path + left ≡ 3 = omega arith in
        let all = only_if_holds (unset s) (every_below 3 (row_at s) (formal s)) (every_shape_lem faces faces_hold s v.four v.valid) (eq-eqb s.flag 0 f) in
        only_if_holds (ltb left 3) (row s (below path)) (every_below_lem (row_at s) (formal s) left path (rw three all)) (lt-ltb left 3 (omega arith))

    -- The four formal corners are different.
    pub formal_different : (j k : ℕ) → j < 4 → k < 4 → (below path).corner j ≡ (below path).corner k → j ≡ k
    unfolding row different
    formal_different j k hj hk e =
        let q = below path in
        ⊎_elim
        (λ t. sym (eqb-true k j t))
        (λ n.
        let at = all_at (λ j. each_slot j (λ k. not (eqb (q.corner j) (q.corner k)))) 4 j (and_left (different q) _ at_row) hj in
        let apart = not-true (eqb (q.corner j) (q.corner k)) (each_slot_lem j (λ k. not (eqb (q.corner j) (q.corner k))) at k hk (eqb-false k j n)) in
        absurd (eqb-false (q.corner j) (q.corner k) apart e))
        (either (eqb k j))

    -- A midpoint is among them, and all corners of M lie under them.
    pub formal_across : Across (below path) 4
    unfolding row
    formal_across = is_across_lem (below path) 4 (and_left (is_across (below path) 4) _ (and_right (different (below path)) _ at_row))

    -- Each face is inherited, or all corners of M lie under it, or just those of one face of M.
    pub formal_kind : (i : ℕ) → i < 4 → Kind s (below path) i
    unfolding row
    formal_kind i l =
        let q = below path in
        is_kind_lem s q i (all_at (is_kind s q) 4 i (and_right (is_across q 4) (all_below 4 (is_kind s q)) (and_right (different q) _ at_row)) l)

  abbrev everything : ℕ
  everything = dictionary (list_below 15 (seen_at s))

  -- What is told of the corners of each face.
  told : (path : List Side) → length path ≤ 3 → (i : ℕ) → i < 5 → entry everything (code (below path) i) ≡ cond (eqb i 4) (suc (number_of path)) (mark_number (below path) i)
  unfolding pairs
  told path h i l =
      let n = number_of path in
      let few : n < 15 = omega (arith, number_small 3 path h) in
      let rows = list_below 15 (seen_at s) in
      let all = only_if_holds (unset s) (all_below 15 (all_agree everything rows)) (every_shape_lem pairs pairs_hold s v.four v.valid) (eq-eqb s.flag 0 f) in
      let at = all_at (λ i. agrees everything (get_or (get_or rows n []) i unseen)) 5 i (all_at (all_agree everything rows) 15 n all few) l in
      let is : get_or (get_or rows n []) i unseen ≡ seen n (below path) i =
      ap (λ (r : List Seen). get_or r i unseen) (list_at (seen_at s) 15 n [] few)
      ∙ list_at (seen n (below (path_of 3 n))) 5 i unseen l
      ∙ ap (λ (p : List Side). seen n (below p) i) (number_path 3 path h) in
      eqb-true (entry everything (code (below path) i)) (cond (eqb i 4) (suc n) (mark_number (below path) i)) (subst (λ (x : Seen). agrees everything x ≡ true) is at)

  module _ (path path' : List Side) (h : length path ≤ 3) (h' : length path' ≤ 3) where
    -- Two pieces below M with the same formal corners are the same.
    pub formal_one_path : code (below path) 4 ≡ code (below path') 4 → path ≡ path'
    formal_one_path e =
        let same : suc (number_of path) ≡ suc (number_of path') = sym (told path h 4 (omega arith)) ∙ ap (entry everything) e ∙ told path' h' 4 (omega arith) in
        let one : number_of path ≡ number_of path' = omega arith in
        sym (number_path 3 path h) ∙ ap (path_of 3) one ∙ number_path 3 path' h'

    one_mark_number : (i j : ℕ) → i < 4 → j < 4 → code (below path) i ≡ code (below path') j → mark_number (below path) i ≡ mark_number (below path') j
    one_mark_number i j l l' e =
        let at : (p : List Side) → length p ≤ 3 → (k : ℕ) → k < 4 → entry everything (code (below p) k) ≡ mark_number (below p) k =
        λ p g k b. told p g k (omega arith) ∙ ap (λ (t : Bool). cond t (suc (number_of p)) (mark_number (below p) k)) (ne_eqb k 4 (omega arith)) in
        sym (at path h i l) ∙ ap (entry everything) e ∙ at path' h' j l'

    -- Two faces below M with the same formal corners carry one mark: its ends are the same two formal corners.
    pub formal_one_mark : (i j : ℕ) → i < 4 → j < 4 → code (below path) i ≡ code (below path') j →
        let e = mark (below path).shape i in
        let d = mark (below path').shape j in
        SamePair ((below path).corner (low_slot e)) ((below path).corner (high_slot e)) ((below path').corner (low_slot d)) ((below path').corner (high_slot d))
    formal_one_mark i j l l' c =
        let q = below path in
        let r = below path' in
        let e = mark q.shape i in
        let d = mark r.shape j in
        let small = formal_small s v f path h in
        let small' = formal_small s v f path' h' in
        same_pair_lem (q.corner (low_slot e)) (q.corner (high_slot e)) (r.corner (low_slot d)) (r.corner (high_slot d))
        (small (low_slot e) (slots_small e).0) (small (high_slot e) (slots_small e).1) (small' (low_slot d) (slots_small d).0) (small' (high_slot d) (slots_small d).1)
        (one_mark_number i j l l' c)
