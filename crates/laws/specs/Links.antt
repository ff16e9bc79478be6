-- Links kept beside a table, so that what has a key is found without a search through all: at each key stands one more than the last number with it, and at each
-- number one more than the last one before it with the same key; 0 stands where there is none. What is found along them is what a search through all
-- would find.
use Rattle.std.specs.Prelude.{◌≡◌, Bool, true, false, cond, ◌&&◌, ◌||◌, ◌≢◌, List, length, set, replicate, leb, ltb}
use Rattle.std.proofs.Math.Path.{refl, sym, ap, subst}
use Rattle.std.proofs.Common.{◌∙◌, le_refl, length-set, get_or-set_same, get_or-set_other}
use Rattle.std.proofs.lemmas.Bool.{false≢true}
use Rattle.std.proofs.Math.Logic.{⊎_elim}
use Prim.Native.Nat.{ℕ, zero, suc, ◌+◌, ◌-◌, ◌≤◌, ◌<◌}
use native.Mathlib.Omega.{arith}
use Rattle.std.proofs.Math.ListN.{get_or, get_or-eq_default}
use Rattle.std.proofs.lemmas.List.{length-replicate, get_or-replicate}
use Rattle.std.proofs.Math.Dec.{eqb}
use Rattle.std.specs.Int.Bits.{bit_and}
use Rattle.std.proofs.lemmas.Nat.{and_le_r}
use borrow.Author.Tests.{eqb-true, eq-eqb, eqb-false, ne_eqb, le-leb, leb-true, ltb-true, ltb-false, lt-ltb, le-ltb}
use Rattle.laws.specs.Below.{any_below, any_none, any_suc, any_fails, any_fails_at, any_is, any_where, first_below, first_no, first_is, first_where, bit, and_left, and_right, and_false, or_left_false, or_right_false, either}

-- The greatest number that an entry of such a list holds.
abbrev pub greatest : ℕ
greatest = 65535

-- ---- the last below a bound

-- One more than the last number below n at which P holds, and 0 where there is none.
unfoldable pub last_below : ℕ → (ℕ → Bool) → ℕ
last_below zero P = 0
last_below (suc n) P = let before = last_below n P in cond (P n) (suc n) before

module _ (P : ℕ → Bool) where
  pub last_none : last_below 0 P ≡ 0
  unfolding last_below
  last_none = refl

  pub last_here : (n : ℕ) → P n ≡ true → last_below (suc n) P ≡ suc n
  unfolding last_below
  last_here n t = rw t

  pub last_before : (n : ℕ) → P n ≡ false → last_below (suc n) P ≡ last_below n P
  unfolding last_below
  last_before n f = rw f

  pub last_within : (n : ℕ) → last_below n P ≤ n
  last_within zero = omega (arith, last_none)
  last_within (suc n) =
      ⊎_elim (λ t. omega (arith, last_here n t)) (λ f. omega (arith, last_before n f, last_within n)) (either (P n))

  -- It holds there.
  pub last_holds : (n u : ℕ) → last_below n P ≡ suc u → P u ≡ true
  last_holds zero u e = absurd (omega (arith, last_none))
  last_holds (suc n) u e =
      ⊎_elim
      (λ (t : P n ≡ true). let q : n ≡ u = omega (arith, last_here n t) in subst (λ (m : ℕ). P m ≡ true) q t)
      (λ f. last_holds n u (sym (last_before n f) ∙ e))
      (either (P n))

  -- It holds nowhere between there and the bound.
  pub last_past : (n u : ℕ) → last_below n P ≤ u → u < n → P u ≡ false
  last_past zero u l h = absurd (omega arith)
  last_past (suc n) u l h =
      ⊎_elim
      (λ (t : P n ≡ true). absurd (omega (arith, last_here n t)))
      (λ (f : P n ≡ false).
      ⊎_elim
      (λ e. subst (λ (m : ℕ). P m ≡ false) (sym (eqb-true u n e)) f)
      (λ d. let apart : u ≢ n = eqb-false u n d in last_past n u (omega (arith, last_before n f)) (omega arith))
      (either (eqb u n)))
      (either (P n))

-- It goes by P's values below n alone.
pub last_same : (n : ℕ) (P Q : ℕ → Bool) → ((u : ℕ) → u < n → P u ≡ Q u) → last_below n P ≡ last_below n Q
unfolding last_below
last_same zero P Q h = refl
last_same (suc n) P Q h = rw (h n (le_refl (suc n)), last_same n P Q (λ u l. h u (omega arith)))

-- ---- along the links

-- From number u on: the number that its link leads to, one more than it. A link leads down.
unfoldable pub link_at : List ℕ → ℕ → ℕ
link_at nexts u = let to = get_or nexts u 0 in cond (leb to u) to 0

pub link_down : (nexts : List ℕ) (u : ℕ) → link_at nexts u ≤ u
unfolding link_at
link_down nexts u = ⊎_elim (λ t. rw t (down t)) (λ f. rw f (omega arith)) (either (leb (get_or nexts u 0) u))
  where
    down : leb (get_or nexts u 0) u ≡ true → get_or nexts u 0 ≤ u
    down t = leb-true (get_or nexts u 0) u t

module _ (nexts : List ℕ) (P : ℕ → Bool) where
  -- P holds at some number along the links from m on, so many of them at most.
  any_in : ℕ → ℕ → Bool
  any_in zero m = false
  any_in (suc left) zero = false
  any_in (suc left) (suc u) = let rest = any_in left (link_at nexts u) in P u || rest

  -- Of the numbers along the links from m on at which P holds, the last one met, and otherwise where there is none.
  first_in : ℕ → ℕ → ℕ → ℕ
  first_in zero m otherwise = otherwise
  first_in (suc left) zero otherwise = otherwise
  first_in (suc left) (suc u) otherwise = let found = cond (P u) u otherwise in first_in left (link_at nexts u) found

  -- How many links are left does not matter as soon as there are m, for each leads down.
  any_left : (left enough m : ℕ) → m ≤ left → m ≤ enough → any_in left m ≡ any_in enough m
  unfolding any_in
  any_left zero zero m l k = refl
  any_left zero (suc enough) zero l k = refl
  any_left zero (suc enough) (suc u) l k = absurd (omega arith)
  any_left (suc left) zero zero l k = refl
  any_left (suc left) zero (suc u) l k = absurd (omega arith)
  any_left (suc left) (suc enough) zero l k = refl
  any_left (suc left) (suc enough) (suc u) l k =
      let down = link_down nexts u in
      ap (λ (rest : Bool). P u || rest) (any_left left enough (link_at nexts u) (omega arith) (omega arith))

  -- And so for the lowest.
  first_left : (left enough m otherwise : ℕ) → m ≤ left → m ≤ enough → first_in left m otherwise ≡ first_in enough m otherwise
  unfolding first_in
  first_left zero zero m o l k = refl
  first_left zero (suc enough) zero o l k = refl
  first_left zero (suc enough) (suc u) o l k = absurd (omega arith)
  first_left (suc left) zero zero o l k = refl
  first_left (suc left) zero (suc u) o l k = absurd (omega arith)
  first_left (suc left) (suc enough) zero o l k = refl
  first_left (suc left) (suc enough) (suc u) o l k =
      let down = link_down nexts u in
      first_left left enough (link_at nexts u) (cond (P u) u o) (omega arith) (omega arith)

-- P holds at some number along the links from m on.
unfoldable pub any_along : List ℕ → (ℕ → Bool) → ℕ → Bool
unfolding any_in
any_along nexts P m = any_in nexts P m m

-- The lowest number along the links from m on at which P holds, and otherwise where there is none.
unfoldable pub first_along : List ℕ → (ℕ → Bool) → ℕ → ℕ → ℕ
unfolding first_in
first_along nexts P m otherwise = first_in nexts P m m otherwise

module _ (nexts : List ℕ) (P : ℕ → Bool) where
  -- Where the links end.
  pub any_along_none : any_along nexts P 0 ≡ false
  unfolding any_along
  any_along_none = refl

  -- One number on.
  pub any_along_on : (u : ℕ) → any_along nexts P (suc u) ≡ (P u || any_along nexts P (link_at nexts u))
  unfolding any_along
  any_along_on u =
      let to = link_at nexts u in
      ap (λ (rest : Bool). P u || rest) (any_left nexts P u to to (link_down nexts u) (le_refl to))

  -- The same for the lowest.
  pub first_along_none : (otherwise : ℕ) → first_along nexts P 0 otherwise ≡ otherwise
  unfolding first_along
  first_along_none otherwise = refl

  pub first_along_on : (u otherwise : ℕ) → first_along nexts P (suc u) otherwise ≡ first_along nexts P (link_at nexts u) (cond (P u) u otherwise)
  unfolding first_along
  first_along_on u otherwise =
      let to = link_at nexts u in
      first_left nexts P u to to (cond (P u) u otherwise) (link_down nexts u) (le_refl to)

  -- A walk's turn at to, which is not 0: it is found here; it is not, and the walk goes on; the lowest so far.
  pub any_along_found : (to : ℕ) → 0 < to → P (to - 1) ≡ true → any_along nexts P to ≡ true
  any_along_found zero h t = absurd (omega arith)
  any_along_found (suc u) h t = let e : suc u - 1 ≡ u = omega arith in rw (any_along_on u, rw e at t)

  pub any_along_past : (to : ℕ) → 0 < to → P (to - 1) ≡ false → any_along nexts P to ≡ any_along nexts P (link_at nexts (to - 1))
  any_along_past zero h f = absurd (omega arith)
  any_along_past (suc u) h f = let e : suc u - 1 ≡ u = omega arith in rw (e, any_along_on u, rw e at f)

  pub first_along_past : (to otherwise : ℕ) → 0 < to → first_along nexts P to otherwise ≡ first_along nexts P (link_at nexts (to - 1)) (cond (P (to - 1)) (to - 1) otherwise)
  first_along_past zero o h = absurd (omega arith)
  first_along_past (suc u) o h = let e : suc u - 1 ≡ u = omega arith in rw (e, first_along_on u o)

-- ---- chains

-- The links are those of the numbers below n: at each key that the heads have stands the last number with it, and at each of these numbers the last one
-- before it with its key.
pub record Chain (key : ℕ → ℕ) (n : ℕ) (heads nexts : List ℕ) : Type 0 where
  pub first : (k : ℕ) → k < length heads → get_or heads k 0 ≡ last_below n (λ u. eqb (key u) k)
  pub next : (v : ℕ) → v < n → key v < length heads → get_or nexts v 0 ≡ last_below v (λ u. eqb (key u) (key v))

-- The two lists of links.
pub record Links : Type 0 where
  pub heads : List ℕ
  pub nexts : List ℕ

-- The links that two lists are.
abbrev pub links_of : List ℕ → List ℕ → Links
links_of heads nexts = record { heads = heads; nexts = nexts }

pub links_are : (links : Links) (heads nexts : List ℕ) → heads ≡ links.heads → nexts ≡ links.nexts → links_of heads nexts ≡ links
links_are links heads nexts h n = λ i. record { heads = h i; nexts = n i }

-- There is room for a number v with key k: the lists have both, and one more than v fits an entry.
unfoldable pub room_for : Links → ℕ → ℕ → Bool
room_for links k v = ltb k (length links.heads) && (ltb v (length links.nexts) && ltb v greatest)

-- The number v is put before the others with key k, where there is room; a key past the heads leaves it out.
unfoldable pub pushed : Links → ℕ → ℕ → Links
unfolding room_for
pushed links k v =
    let there = links_of (set links.heads k (suc v)) (set links.nexts v (get_or links.heads k 0)) in
    cond (room_for links k v) there links

module _ (links : Links) (k v : ℕ) where
  -- Where there is room.
  pub pushed_there : k < length links.heads → v < length links.nexts → v < greatest → pushed links k v ≡ links_of (set links.heads k (suc v)) (set links.nexts v (get_or links.heads k 0))
  unfolding pushed room_for
  pushed_there h l s = rw (lt-ltb k (length links.heads) h, lt-ltb v (length links.nexts) l, lt-ltb v greatest s)

  -- Where the key is past the heads, and where the number is past the links or too great.
  pub pushed_past : length links.heads ≤ k → pushed links k v ≡ links
  unfolding pushed room_for
  pushed_past h = rw (le-ltb k (length links.heads) h)

  pub pushed_beyond : length links.nexts ≤ v → pushed links k v ≡ links
  unfolding pushed room_for
  pushed_beyond h = rw (le-ltb v (length links.nexts) h, and_false (ltb k (length links.heads)))

  pub pushed_great : greatest ≤ v → pushed links k v ≡ links
  unfolding pushed room_for
  pushed_great h = rw (le-ltb v greatest h, and_false (ltb v (length links.nexts)), and_false (ltb k (length links.heads)))

  -- The lists stay as long as they are.
  pub pushed_heads_long : length (pushed links k v).heads ≡ length links.heads
  unfolding pushed
  pushed_heads_long = ⊎_elim (λ t. rw t (length-set links.heads k (suc v))) (λ f. rw f) (either (room_for links k v))

  pub pushed_nexts_long : length (pushed links k v).nexts ≡ length links.nexts
  unfolding pushed
  pushed_nexts_long = ⊎_elim (λ t. rw t (length-set links.nexts v (get_or links.heads k 0))) (λ f. rw f) (either (room_for links k v))

-- The numbers below n are put before, in rising order, each by its key.
unfoldable pub linked_below : (ℕ → ℕ) → Links → ℕ → Links
linked_below key start zero = start
linked_below key start (suc n) = pushed (linked_below key start n) (key n) n

module _ (key : ℕ → ℕ) (start : Links) where
  -- None is put before.
  pub linked_none : linked_below key start 0 ≡ start
  unfolding linked_below
  linked_none = refl

  -- One number more.
  pub linked_suc : (n : ℕ) → linked_below key start (suc n) ≡ pushed (linked_below key start n) (key n) n
  unfolding linked_below
  linked_suc n = refl

  -- The lists stay as long as they are.
  pub linked_heads_long : (n : ℕ) → length (linked_below key start n).heads ≡ length start.heads
  linked_heads_long zero = rw linked_none
  linked_heads_long (suc n) = rw linked_suc (pushed_heads_long (linked_below key start n) (key n) n ∙ linked_heads_long n)

  pub linked_nexts_long : (n : ℕ) → length (linked_below key start n).nexts ≡ length start.nexts
  linked_nexts_long zero = rw linked_none
  linked_nexts_long (suc n) = rw linked_suc (pushed_nexts_long (linked_below key start n) (key n) n ∙ linked_nexts_long n)

-- A list of zeros reads as 0 at every index.
pub zeros_at : (n k : ℕ) → get_or (replicate {A = ℕ} n 0) k 0 ≡ 0
zeros_at n k =
    ⊎_elim
    (λ t. get_or-replicate {A = ℕ} n k 0 0 (ltb-true k n t))
    (λ f. get_or-eq_default (replicate {A = ℕ} n 0) 0 (rw (length-replicate {A = ℕ} n 0) (ltb-false k n f)))
    (either (ltb k n))

-- Empty links are those of no number.
pub chain_start : (key : ℕ → ℕ) (heads nexts : List ℕ) → ((k : ℕ) → get_or heads k 0 ≡ 0) → Chain key 0 heads nexts
chain_start key heads nexts clear = record { first = λ k l. clear k ∙ sym (last_none (λ u. eqb (key u) k)); next = λ v l s. absurd (omega arith) }

-- They go by the keys of these numbers alone.
pub chain_same : (key other : ℕ → ℕ) (n : ℕ) (heads nexts : List ℕ) → ((u : ℕ) → u < n → key u ≡ other u) → Chain key n heads nexts → Chain other n heads nexts
chain_same key other n heads nexts same c = record { first = first; next = next }
  where
    first : (k : ℕ) → k < length heads → get_or heads k 0 ≡ last_below n (λ u. eqb (other u) k)
    first k l = c.first k l ∙ last_same n (λ u. eqb (key u) k) (λ u. eqb (other u) k) (λ u b. ap (λ (x : ℕ). eqb x k) (same u b))

    next : (v : ℕ) → v < n → other v < length heads → get_or nexts v 0 ≡ last_below v (λ u. eqb (other u) (other v))
    next v b l =
        c.next v b (rw (same v b) l)
        ∙ last_same v (λ u. eqb (key u) (key v)) (λ u. eqb (other u) (other v)) (λ u a. rw (same u (omega arith), same v b))

-- One more number is put before the others with its key, or left out.
module _ (key : ℕ → ℕ) (n : ℕ) (links : Links) (c : Chain key n links.heads links.nexts) where
  -- Its key is one of the heads'.
  pushed_in : key n < length links.heads → n < length links.nexts → Chain key (suc n) (set links.heads (key n) (suc n)) (set links.nexts n (get_or links.heads (key n) 0))
  pushed_in within room = record { first = first; next = next }
    where
      to : ℕ
      to = get_or links.heads (key n) 0

      first : (k : ℕ) → k < length (set links.heads (key n) (suc n)) → get_or (set links.heads (key n) (suc n)) k 0 ≡ last_below (suc n) (λ u. eqb (key u) k)
      first k l =
          ⊎_elim
          (λ t.
          subst (λ (j : ℕ). get_or (set links.heads (key n) (suc n)) j 0 ≡ suc n) (eqb-true (key n) k t) (get_or-set_same links.heads (key n) (suc n) 0 within)
          ∙ sym (last_here (λ u. eqb (key u) k) n t))
          (λ f.
          get_or-set_other links.heads (key n) k (suc n) 0 (λ q. eqb-false (key n) k f (sym q))
          ∙ c.first k (rw (length-set links.heads (key n) (suc n)) at l)
          ∙ sym (last_before (λ u. eqb (key u) k) n f))
          (either (eqb (key n) k))

      next : (v : ℕ) → v < suc n → key v < length (set links.heads (key n) (suc n)) → get_or (set links.nexts n to) v 0 ≡ last_below v (λ u. eqb (key u) (key v))
      next v b l =
          ⊎_elim
          (λ t.
          subst (λ (w : ℕ). get_or (set links.nexts n to) w 0 ≡ last_below w (λ u. eqb (key u) (key w))) (sym (eqb-true v n t))
          (get_or-set_same links.nexts n to 0 room ∙ c.first (key n) within))
          (λ f.
          let apart : v ≢ n = eqb-false v n f in
          get_or-set_other links.nexts n v to 0 apart ∙ c.next v (omega arith) (rw (length-set links.heads (key n) (suc n)) at l))
          (either (eqb v n))

  -- Its key is past the heads.
  left_out : length links.heads ≤ key n → Chain key (suc n) links.heads links.nexts
  left_out past = record { first = first; next = next }
    where
      first : (k : ℕ) → k < length links.heads → get_or links.heads k 0 ≡ last_below (suc n) (λ u. eqb (key u) k)
      first k l = c.first k l ∙ sym (last_before (λ u. eqb (key u) k) n (ne_eqb (key n) k (λ q. omega arith)))

      next : (v : ℕ) → v < suc n → key v < length links.heads → get_or links.nexts v 0 ≡ last_below v (λ u. eqb (key u) (key v))
      next v b l =
          ⊎_elim
          (λ t. let q = ap key (eqb-true v n t) in absurd (omega arith))
          (λ f. let apart : v ≢ n = eqb-false v n f in c.next v (omega arith) l)
          (either (eqb v n))

  -- Whatever its key is.
  pub chain_pushed : n < length links.nexts → n < greatest → Chain key (suc n) (pushed links (key n) n).heads (pushed links (key n) n).nexts
  chain_pushed room small =
      ⊎_elim
      (λ t.
      let within = ltb-true (key n) (length links.heads) t in
      rw (pushed_there links (key n) n within room small) (pushed_in within room))
      (λ f.
      let past = ltb-false (key n) (length links.heads) f in
      rw (pushed_past links (key n) n past) (left_out past))
      (either (ltb (key n) (length links.heads)))

-- ---- keys

-- The key of x, one of so many: the bits that x has in common with the last key's number. Where the number of keys is a power of two, that is the remainder.
unfoldable pub key_among : ℕ → ℕ → ℕ
key_among keys x = bit_and x (keys - 1)

-- It is one of them, where there are some.
pub key_within : (keys x : ℕ) → 0 < keys → key_among keys x < keys
unfolding key_among
key_within keys x some = let low = and_le_r x (keys - 1) in omega (arith, low)

-- ---- room for links

-- Heads of links of no number.
abbrev pub Empty : List ℕ → Type 0
Empty heads = heads ≡ replicate (length heads) 0

-- Lists that are lent for the links of n numbers are too short: there is no key, there is no place for some of the numbers, or a number does not fit an entry.
unfoldable pub short : List ℕ → List ℕ → ℕ → Bool
short heads nexts n = eqb (length heads) 0 || ltb (length nexts) n || ltb greatest n

-- They are not.
pub record Roomy (heads nexts : List ℕ) (n : ℕ) : Type 0 where
  pub keys : 0 < length heads
  pub places : n ≤ length nexts
  pub fits : n ≤ greatest

pub roomy : (heads nexts : List ℕ) (n : ℕ) → short heads nexts n ≡ false → Roomy heads nexts n
unfolding short
roomy heads nexts n e =
    let a = eqb (length heads) 0 in
    let b = ltb (length nexts) n in
    let c = ltb greatest n in
    let ab = or_left_false (a || b) c e in
    let some : length heads ≢ 0 = eqb-false (length heads) 0 (or_left_false a b ab) in
    record {
      keys = omega (arith, some);
      places = ltb-false (length nexts) n (or_right_false a b ab);
      fits = ltb-false greatest n (or_right_false (a || b) c e);
    }

pub not_short : (heads nexts : List ℕ) (n : ℕ) → Roomy heads nexts n → short heads nexts n ≡ false
unfolding short
not_short heads nexts n r =
    rw (ne_eqb (length heads) 0 (λ q. omega (arith, r.keys, q)), le-ltb (length nexts) n r.places, le-ltb greatest n r.fits)

-- ---- kept in two lists

-- The links of the numbers below n, with so many keys and room for so many numbers.
pub record Kept (key : ℕ → ℕ) (keys room n : ℕ) (links : Links) : Type 0 where
  pub chain : Chain key n links.heads links.nexts
  pub heads_long : length links.heads ≡ keys
  pub nexts_long : length links.nexts ≡ room

-- Of one number more.
pub kept_next : (key : ℕ → ℕ) (keys room n next k : ℕ) (links : Links) → Kept key keys room n links → n < room → n < greatest → next ≡ suc n → k ≡ key n → Kept key keys room next (pushed links k n)
kept_next key keys room n next k links on low small is at =
    let there : n < length links.nexts = rw on.nexts_long low in
    rw (is, at)
    (record {
      chain = chain_pushed key n links on.chain there small;
      heads_long = pushed_heads_long links (key n) n ∙ on.heads_long;
      nexts_long = pushed_nexts_long links (key n) n ∙ on.nexts_long;
    })

-- From empty links on, one number after the other.
pub chain_linked : (key : ℕ → ℕ) (start : Links) (n : ℕ) → ((k : ℕ) → get_or start.heads k 0 ≡ 0) → n ≤ length start.nexts → n ≤ greatest → Chain key n (linked_below key start n).heads (linked_below key start n).nexts
chain_linked key start zero clear room small = rw linked_none (chain_start key start.heads start.nexts clear)
chain_linked key start (suc n) clear room small =
    let long = linked_nexts_long key start n in
    rw (linked_suc key start n)
    (chain_pushed key n (linked_below key start n) (chain_linked key start n clear (omega arith) (omega arith)) (omega arith) (omega arith))

-- ---- what is found along them

-- Where P holds at no number between, what is found below the one bound is found below the other.
module _ (P : ℕ → Bool) (low high : ℕ) (up : low ≤ high) (gap : (u : ℕ) → low ≤ u → u < high → P u ≡ false) where
  -- Whether there is one.
  pub any_gap : any_below high P ≡ any_below low P
  any_gap =
      ⊎_elim
      (λ t. let (u, l, h) = any_where P low t in any_is P high u (omega arith) h ∙ sym t)
      (λ f. any_fails P high (λ u l. below u l f) ∙ sym f)
      (either (any_below low P))
    where
      below : (u : ℕ) → u < high → any_below low P ≡ false → P u ≡ false
      below u l f =
          ⊎_elim (λ t. any_fails_at P low u f (ltb-true u low t)) (λ d. gap u (ltb-false u low d) l) (either (ltb u low))

  -- The first, and otherwise where there is none.
  first_gap : (otherwise : ℕ) → cond (any_below high P) (first_below high P) otherwise ≡ cond (any_below low P) (first_below low P) otherwise
  first_gap otherwise =
      rw any_gap
      (⊎_elim
      (λ t.
      let (l, h, none) = first_where P low t in
      rw (first_is P high (first_below low P) (omega arith) none h))
      (λ f. rw f)
      (either (any_below low P)))

-- The first below one number more.
first_more : (P : ℕ → Bool) (u otherwise : ℕ) → cond (any_below u P) (first_below u P) (cond (P u) u otherwise) ≡ cond (any_below (suc u) P) (first_below (suc u) P) otherwise
first_more P u otherwise =
    ⊎_elim
    (λ t.
    let (l, h, none) = first_where P u t in
    rw (t, any_is P (suc u) (first_below u P) (omega arith) h, first_is P (suc u) (first_below u P) (omega arith) none h))
    (λ f.
    ⊎_elim
    (λ t. rw (any_is P (suc u) u (le_refl (suc u)) t, first_is P (suc u) u (le_refl (suc u)) f t, f, t))
    (λ d. rw (any_suc P u, f) (rw d))
    (either (P u)))
    (either (any_below u P))

-- Two tests in either order.
or_turned : (a b : Bool) → (a || b) ≡ (b || a)
or_turned true true = refl
or_turned true false = refl
or_turned false true = refl
or_turned false false = refl

-- A number of the links: 0, or one more than a number below n with key k.
On : (ℕ → ℕ) → ℕ → ℕ → ℕ → Type 0
On key n k m = (u : ℕ) → m ≡ suc u → (u < n) × (key u ≡ k)

-- Where P holds only at numbers with key k, what is found from key k's head on is what a search through all would find.
module _ (key : ℕ → ℕ) (n : ℕ) (heads nexts : List ℕ) (c : Chain key n heads nexts) (P : ℕ → Bool) (k : ℕ) (within : k < length heads) (only : (u : ℕ) → u < n → P u ≡ true → key u ≡ k) where
  -- A number with another key.
  apart : (u : ℕ) → u < n → eqb (key u) k ≡ false → P u ≡ false
  apart u l f = ⊎_elim (λ t. absurd (eqb-false (key u) k f (only u l t))) (λ d. d) (either (P u))

  -- One more than the last number below v with key k.
  last_of : ℕ → ℕ
  last_of v = last_below v (λ u. eqb (key u) k)

  -- Nothing is left out by going down to it.
  last_gap : (v : ℕ) → v ≤ n → (u : ℕ) → last_of v ≤ u → u < v → P u ≡ false
  unfolding last_of
  last_gap v b u l h = apart u (omega arith) (last_past (λ w. eqb (key w) k) v u l h)

  -- It is a number of the links.
  last_on : (v : ℕ) → v ≤ n → On key n k (last_of v)
  unfolding last_of On
  last_on v b u e =
      let low = last_within (λ w. eqb (key w) k) v in
      (omega arith, eqb-true (key u) k (last_holds (λ w. eqb (key w) k) v u e))

  -- A link leads to it.
  link_is : (u : ℕ) → u < n → key u ≡ k → link_at nexts u ≡ last_of u
  unfolding link_at last_of
  link_is u b e =
      let to : get_or nexts u 0 ≡ last_below u (λ w. eqb (key w) k) = subst (λ (j : ℕ). get_or nexts u 0 ≡ last_below u (λ w. eqb (key w) j)) e (c.next u b (rw e within)) in
      rw (to, le-leb (last_below u (λ w. eqb (key w) k)) u (last_within (λ w. eqb (key w) k) u))

  -- What is found from a number of the links on is what is found below it, with as many links left as it takes.
  any_from : (left m : ℕ) → m ≤ left → On key n k m → any_along nexts P m ≡ any_below m P
  unfolding On
  any_from zero zero l on = any_along_none nexts P ∙ sym (any_none P)
  any_from zero (suc u) l on = absurd (omega arith)
  any_from (suc left) zero l on = any_along_none nexts P ∙ sym (any_none P)
  any_from (suc left) (suc u) l on =
      let (b, e) = on u refl in
      let to = link_is u b e in
      let low : last_of u ≤ u = rw (← to) (link_down nexts u) in
      any_along_on nexts P u
      ∙ ap (λ (rest : Bool). P u || rest) (rw to (any_from left (last_of u) (omega arith) (last_on u (omega arith)) ∙ sym (any_gap P (last_of u) u low (last_gap u (omega arith)))))
      ∙ or_turned (P u) (any_below u P)
      ∙ sym (any_suc P u)

  -- The same for the lowest.
  first_from : (left m otherwise : ℕ) → m ≤ left → On key n k m → first_along nexts P m otherwise ≡ cond (any_below m P) (first_below m P) otherwise
  unfolding On
  first_from zero zero o l on = first_along_none nexts P o ∙ rw (any_none P)
  first_from zero (suc u) o l on = absurd (omega arith)
  first_from (suc left) zero o l on = first_along_none nexts P o ∙ rw (any_none P)
  first_from (suc left) (suc u) o l on =
      let (b, e) = on u refl in
      let to = link_is u b e in
      let low : last_of u ≤ u = rw (← to) (link_down nexts u) in
      first_along_on nexts P u o
      ∙ rw to (first_from left (last_of u) (cond (P u) u o) (omega arith) (last_on u (omega arith)))
      ∙ sym (first_gap P (last_of u) u low (last_gap u (omega arith)) (cond (P u) u o))
      ∙ first_more P u o

  -- The head leads to the last number below n with key k.
  low_head : last_of n ≤ n
  unfolding last_of
  low_head = last_within (λ u. eqb (key u) k) n

  head_is : get_or heads k 0 ≡ last_of n
  unfolding last_of
  head_is = c.first k within

  -- Whether there is one.
  pub chain_any : any_along nexts P (get_or heads k 0) ≡ any_below n P
  chain_any =
      rw head_is (any_from (last_of n) (last_of n) (le_refl (last_of n)) (last_on n (le_refl n)))
      ∙ sym (any_gap P (last_of n) n low_head (last_gap n (le_refl n)))

  -- From the link of a number with key k on, whether there is one below it.
  pub chain_any_on : (u : ℕ) → u < n → key u ≡ k → any_along nexts P (link_at nexts u) ≡ any_below u P
  chain_any_on u b e =
      let to = link_is u b e in
      let low : last_of u ≤ u = rw (← to) (link_down nexts u) in
      rw to (any_from (last_of u) (last_of u) (le_refl (last_of u)) (last_on u (omega arith)))
      ∙ sym (any_gap P (last_of u) u low (last_gap u (omega arith)))

  -- The first of them.
  pub chain_first : first_along nexts P (get_or heads k 0) n ≡ first_below n P
  chain_first =
      rw head_is (first_from (last_of n) (last_of n) n (le_refl (last_of n)) (last_on n (le_refl n)))
      ∙ sym (first_gap P (last_of n) n low_head (last_gap n (le_refl n)) n)
      ∙ ⊎_elim (λ t. rw t) (λ f. rw f (sym (first_no P n f))) (either (any_below n P))

-- ---- where it holds along links

or_either : (a b : Bool) → (a || b) ≡ true → (Q : Type 0) → (a ≡ true → Q) → (b ≡ true → Q) → Q
or_either true b e Q f g = f refl
or_either false b e Q f g = g e

or_by_first : (a b : Bool) → a ≡ true → (a || b) ≡ true
or_by_first a b e = rw e

or_by_second : (a b : Bool) → b ≡ true → (a || b) ≡ true
or_by_second true b e = refl
or_by_second false b e = e

module _ (nexts : List ℕ) (P : ℕ → Bool) where
  along_where : (bound m : ℕ) → m ≤ bound → any_along nexts P m ≡ true → (u : ℕ) × (P u ≡ true)
  along_where zero zero l e = absurd (false≢true (sym (any_along_none nexts P) ∙ e))
  along_where zero (suc u) l e = absurd (omega arith)
  along_where (suc bound) zero l e = absurd (false≢true (sym (any_along_none nexts P) ∙ e))
  along_where (suc bound) (suc u) l e =
      or_either (P u) (any_along nexts P (link_at nexts u)) (sym (any_along_on nexts P u) ∙ e) ((u : ℕ) × (P u ≡ true))
      (λ here. (u, here))
      (λ later. along_where bound (link_at nexts u) (omega (arith, link_down nexts u)) later)

  along_more : (Q : ℕ → Bool) → ((u : ℕ) → P u ≡ true → Q u ≡ true) → (bound m : ℕ) → m ≤ bound → any_along nexts P m ≡ true → any_along nexts Q m ≡ true
  along_more Q more zero zero l e = absurd (false≢true (sym (any_along_none nexts P) ∙ e))
  along_more Q more zero (suc u) l e = absurd (omega arith)
  along_more Q more (suc bound) zero l e = absurd (false≢true (sym (any_along_none nexts P) ∙ e))
  along_more Q more (suc bound) (suc u) l e =
      any_along_on nexts Q u
      ∙ or_either (P u) (any_along nexts P (link_at nexts u)) (sym (any_along_on nexts P u) ∙ e) ((Q u || any_along nexts Q (link_at nexts u)) ≡ true)
      (λ here. or_by_first (Q u) _ (more u here))
      (λ later. or_by_second (Q u) _ (along_more Q more bound (link_at nexts u) (omega (arith, link_down nexts u)) later))

-- Where it holds, it holds at a number; and what implies it holds along the same links.
pub any_along_where : (nexts : List ℕ) (P : ℕ → Bool) (m : ℕ) → any_along nexts P m ≡ true → (u : ℕ) × (P u ≡ true)
any_along_where nexts P m = along_where nexts P m m (le_refl m)

pub any_along_more : (nexts : List ℕ) (P Q : ℕ → Bool) → ((u : ℕ) → P u ≡ true → Q u ≡ true) → (m : ℕ) → any_along nexts P m ≡ true → any_along nexts Q m ≡ true
any_along_more nexts P Q more m = along_more nexts P Q more m m (le_refl m)

-- What has a key is found from its head on.
pub chain_finds : (key : ℕ → ℕ) (n : ℕ) (heads nexts : List ℕ) → Chain key n heads nexts → (P : ℕ → Bool) (v : ℕ) → v < n → key v < length heads → P v ≡ true →
    any_along nexts P (get_or heads (key v) 0) ≡ true
chain_finds key n heads nexts c P v l within here =
    let k = key v in
    let Q : ℕ → Bool = λ u. eqb (key u) k && P u in
    any_along_more nexts Q P (λ u e. and_right (eqb (key u) k) (P u) e) (get_or heads k 0)
    (chain_any key n heads nexts c Q k within (λ u b e. eqb-true (key u) k (and_left (eqb (key u) k) (P u) e))
    ∙ any_is Q n v l (rw (eq-eqb k k refl) here))

-- ---- counts

-- One more at x, if the table has it and one more fits an entry.
unfoldable pub counted_at : List ℕ → ℕ → List ℕ
counted_at table x =
    let more = set table x (get_or table x 0 + 1) in
    cond (ltb x (length table) && ltb (get_or table x 0) greatest) more table

-- Where there is room.
pub counted_there : (table : List ℕ) (x : ℕ) → x < length table → get_or table x 0 < greatest → counted_at table x ≡ set table x (get_or table x 0 + 1)
unfolding counted_at
counted_there table x h s = rw (lt-ltb x (length table) h, lt-ltb (get_or table x 0) greatest s)

-- Where x is past the end, and where the count is full.
pub counted_past : (table : List ℕ) (x : ℕ) → length table ≤ x → counted_at table x ≡ table
unfolding counted_at
counted_past table x h = rw (le-ltb x (length table) h)

pub counted_full : (table : List ℕ) (x : ℕ) → greatest ≤ get_or table x 0 → counted_at table x ≡ table
unfolding counted_at
counted_full table x h = rw (le-ltb (get_or table x 0) greatest h, and_false (ltb x (length table)))

-- The table stays as long as it is.
pub counted_long : (table : List ℕ) (x : ℕ) → length (counted_at table x) ≡ length table
unfolding counted_at
counted_long table x =
    ⊎_elim
    (λ t. rw t (length-set table x (get_or table x 0 + 1)))
    (λ f. rw f)
    (either (ltb x (length table) && ltb (get_or table x 0) greatest))

-- What the table then says.
pub counted_at_lem : (table : List ℕ) (x c : ℕ) → c < length table → get_or table x 0 < greatest → get_or (counted_at table x) c 0 ≡ get_or table c 0 + bit (eqb c x)
counted_at_lem table x c h s =
    ⊎_elim
    (λ t.
    let same = eqb-true c x t in
    rw (t, counted_there table x (omega arith) s)
    (subst (λ (y : ℕ). get_or (set table y (get_or table y 0 + 1)) c 0 ≡ get_or table c 0 + 1) same (get_or-set_same table c (get_or table c 0 + 1) 0 h)))
    (λ f.
    let apart : c ≢ x = eqb-false c x f in
    let none : get_or table c 0 ≡ get_or table c 0 + 0 = omega arith in
    rw f
    (⊎_elim
    (λ t. rw (counted_there table x (ltb-true x (length table) t) s) (get_or-set_other table x c (get_or table x 0 + 1) 0 apart ∙ none))
    (λ d. rw (counted_past table x (ltb-false x (length table) d)) none)
    (either (ltb x (length table)))))
    (either (eqb c x))

-- At another entry it says what it said.
pub counted_other : (table : List ℕ) (x c : ℕ) → c ≢ x → get_or (counted_at table x) c 0 ≡ get_or table c 0
unfolding counted_at
counted_other table x c apart =
    ⊎_elim
    (λ t. rw t (get_or-set_other table x c (get_or table x 0 + 1) 0 apart))
    (λ f. rw f)
    (either (ltb x (length table) && ltb (get_or table x 0) greatest))

-- So it says one more, or not, as long as its own count has room; a full one stays full.
pub counted_more : (table : List ℕ) (x c : ℕ) → c < length table → get_or table c 0 < greatest → get_or (counted_at table x) c 0 ≡ get_or table c 0 + bit (eqb c x)
counted_more table x c h s =
    ⊎_elim
    (λ t. counted_at_lem table x c h (rw (← eqb-true c x t) s))
    (λ f. let same : get_or table c 0 ≡ get_or table c 0 + 0 = omega arith in rw f (counted_other table x c (eqb-false c x f) ∙ same))
    (either (eqb c x))

pub counted_stays_full : (table : List ℕ) (x c : ℕ) → get_or table c 0 ≡ greatest → get_or (counted_at table x) c 0 ≡ greatest
counted_stays_full table x c full =
    ⊎_elim
    (λ t. let at : greatest ≤ get_or table x 0 = rw (← eqb-true c x t) (omega (arith, full)) in rw (counted_full table x at) full)
    (λ f. counted_other table x c (eqb-false c x f) ∙ full)
    (either (eqb c x))
