-- A table of counts that is filled one number after the other, each of which counts one more at some entries: every entry then says whether exactly one has
-- counted there, and whether any has, however many there are.
use Rattle.std.specs.Prelude.{◌≡◌, Bool, true, false, not, ◌||◌, List, ℕ, zero, suc, ◌+◌, ◌≤◌, ◌<◌, length, get_or, replicate, eqb, ltb}
use Rattle.std.proofs.Math.Path.{refl}
use Rattle.std.proofs.Common.{sym, ap, ◌∙◌, ⊎_elim, le_antisymm, add-one, arith, eqb-true, eq-eqb, ne_eqb, ltb-true, ltb-false}
use Rattle.std.proofs.Math.Bool.{or-false}
use Rattle.std.proofs.lemmas.List.{length-replicate, get_or-replicate}
use Rattle.std.proofs.lemmas.Bool.{eqb-false}
use Rattle.laws.specs.Below.{any_below, any_none, any_suc, count_below, count_none, count_suc, bit, bit_small, or_true, either}
use Rattle.laws.specs.Links.{greatest, counted_at, counted_full, counted_long, counted_at_lem}

-- The table after the numbers below n, each of which has changed it by add.
unfoldable pub counts_below : (List ℕ → ℕ → List ℕ) → List ℕ → ℕ → List ℕ
counts_below add start zero = start
counts_below add start (suc n) = add (counts_below add start n) n

module _ (add : List ℕ → ℕ → List ℕ) (start : List ℕ) where
  pub counts_none : counts_below add start 0 ≡ start
  unfolding counts_below
  counts_none = refl

  pub counts_suc : (n : ℕ) → counts_below add start (suc n) ≡ add (counts_below add start n) n
  unfolding counts_below
  counts_suc n = refl

  -- For a loop: one more turn, and where it came to the end.
  pub counts_next : (i : ℕ) (t u : List ℕ) → t ≡ counts_below add start i → u ≡ add t i → u ≡ counts_below add start (i + 1)
  counts_next i t u inv turn = turn ∙ rw (inv, add-one i, counts_suc i)

  pub counts_end : (n i : ℕ) (t : List ℕ) → n ≤ i → i ≤ n → t ≡ counts_below add start i → t ≡ counts_below add start n
  counts_end n i t h l inv = inv ∙ ap (counts_below add start) (le_antisymm l h)

-- The table stays as long as it is.
pub counts_long : (add : List ℕ → ℕ → List ℕ) → ((t : List ℕ) (k : ℕ) → length (add t k) ≡ length t) → (start : List ℕ) (n : ℕ) → length (counts_below add start n) ≡ length start
counts_long add long start zero = rw (counts_none add start)
counts_long add long start (suc n) = rw (counts_suc add start n) (long (counts_below add start n) n ∙ counts_long add long start n)

-- ---- whether exactly one has

-- Number k counts one more at each x with P k x, where the count has room for it; a full count stays full.
pub record Counting (add : List ℕ → ℕ → List ℕ) (P : ℕ → ℕ → Bool) : Type 0 where
  pub long : (t : List ℕ) (k : ℕ) → length (add t k) ≡ length t
  pub more : (t : List ℕ) (k x : ℕ) → x < length t → get_or t x 0 < greatest → get_or (add t k) x 0 ≡ get_or t x 0 + bit (P k x)
  pub full : (t : List ℕ) (k x : ℕ) → get_or t x 0 ≡ greatest → get_or (add t k) x 0 ≡ greatest

-- An entry says how many have counted, or it is full and that many have at least.
record Says (entry count : ℕ) : Type 0 where
  within : entry ≤ greatest
  exact : entry < greatest → entry ≡ count
  full : entry ≡ greatest → greatest ≤ count

module _ (add : List ℕ → ℕ → List ℕ) (P : ℕ → ℕ → Bool) (c : Counting add P) where
  -- An entry of a table that was empty at first.
  says : (room n x : ℕ) → x < room → Says (get_or (counts_below add (replicate room 0) n) x 0) (count_below n (λ k. P k x))
  says room zero x l =
      let none = get_or-replicate {A = ℕ} room x 0 0 l in
      rw (counts_none add (replicate room 0), count_none (λ k. P k x), none) (record { within = omega arith; exact = λ s. refl; full = λ e. absurd (omega (arith, e)) })
  says room (suc n) x l =
      let t = counts_below add (replicate room 0) n in
      let before = says room n x l in
      let long = counts_long add c.long (replicate room 0) n ∙ length-replicate {A = ℕ} room 0 in
      rw (counts_suc add (replicate room 0) n, count_suc (λ k. P k x) n)
      (⊎_elim
      (λ s.
      let small = ltb-true (get_or t x 0) greatest s in
      let is = c.more t n x (rw long l) small in
      let was = before.exact small in
      let one = bit_small (P n x) in
      record {
        within = omega (arith, is, small, one);
        exact = λ h. omega (arith, is, was);
        full = λ e. omega (arith, is, was, e);
      })
      (λ f.
      let at : get_or t x 0 ≡ greatest = le_antisymm before.within (ltb-false (get_or t x 0) greatest f) in
      let is = c.full t n x at in
      let many = before.full at in
      record {
        within = omega (arith, is);
        exact = λ h. absurd (omega (arith, is, h));
        full = λ e. omega (arith, many);
      })
      (either (ltb (get_or t x 0) greatest)))

  -- It is 1 exactly if one number has counted there, however many there are.
  pub counts_one : (room n x : ℕ) → x < room → eqb (get_or (counts_below add (replicate room 0) n) x 0) 1 ≡ eqb (count_below n (λ k. P k x)) 1
  counts_one room n x l =
      let s = says room n x l in
      let entry = get_or (counts_below add (replicate room 0) n) x 0 in
      let count = count_below n (λ k. P k x) in
      ⊎_elim
      (λ t. let small = ltb-true entry greatest t in ap (λ (y : ℕ). eqb y 1) (s.exact small))
      (λ f.
      let at : entry ≡ greatest = le_antisymm s.within (ltb-false entry greatest f) in
      let many = s.full at in
      ne_eqb entry 1 (λ q. omega (arith, at, q)) ∙ sym (ne_eqb count 1 (λ q. omega (arith, many, q))))
      (either (ltb entry greatest))

-- ---- whether any has

-- x has been counted.
abbrev pub marked : List ℕ → ℕ → Bool
marked counts x = not (eqb (get_or counts x 0) 0)

-- One more at x: what has been counted stays so, also where a count is full.
pub counted_marked : (counts : List ℕ) (x c : ℕ) → c < length counts → marked (counted_at counts x) c ≡ (marked counts c || eqb x c)
counted_marked counts x c l =
    ⊎_elim
    (λ t. rw (counted_at_lem counts x c l (ltb-true (get_or counts x 0) greatest t)) (one_more (get_or counts c 0) x c))
    (λ f.
    let full = ltb-false (get_or counts x 0) greatest f in
    rw (counted_full counts x full) (full_stays full))
    (either (ltb (get_or counts x 0) greatest))
  where
    one_more : (y x c : ℕ) → not (eqb (y + bit (eqb c x)) 0) ≡ (not (eqb y 0) || eqb x c)
    one_more y x c =
        ⊎_elim
        (λ t. let e = eqb-true x c t in rw (t, or_true (not (eqb y 0)), eq-eqb c x (sym e), ne_eqb (y + 1) 0 (λ q. omega arith)))
        (λ f. let no = eqb-false x c f in let same : y + 0 ≡ y = omega arith in rw (f, ne_eqb c x (λ q. no (sym q)), same, or-false (not (eqb y 0))))
        (either (eqb x c))

    full_stays : greatest ≤ get_or counts x 0 → marked counts c ≡ (marked counts c || eqb x c)
    full_stays full =
        ⊎_elim
        (λ t. let e = ap (λ (y : ℕ). get_or counts y 0) (eqb-true x c t) in rw (t, or_true (marked counts c), ne_eqb (get_or counts c 0) 0 (λ q. omega arith)))
        (λ f. rw f (sym (or-false (marked counts c))))
        (either (eqb x c))

-- Number k counts at each x with P k x, however often.
pub record Marking (add : List ℕ → ℕ → List ℕ) (P : ℕ → ℕ → Bool) : Type 0 where
  pub long : (t : List ℕ) (k : ℕ) → length (add t k) ≡ length t
  pub marks : (t : List ℕ) (k x : ℕ) → x < length t → marked (add t k) x ≡ (marked t x || P k x)

module _ (add : List ℕ → ℕ → List ℕ) (P : ℕ → ℕ → Bool) (c : Marking add P) where
  -- An entry of a table that was empty at first has been counted exactly if some number has counted there.
  pub counts_marked : (room n x : ℕ) → x < room → marked (counts_below add (replicate room 0) n) x ≡ any_below n (λ k. P k x)
  counts_marked room zero x l = rw (counts_none add (replicate room 0), any_none (λ k. P k x), get_or-replicate {A = ℕ} room x 0 0 l)
  counts_marked room (suc n) x l =
      let before = counts_below add (replicate room 0) n in
      let long = counts_long add c.long (replicate room 0) n ∙ length-replicate {A = ℕ} room 0 in
      rw (counts_suc add (replicate room 0) n, any_suc (λ k. P k x) n)
      (c.marks before n x (rw long l) ∙ ap (λ (b : Bool). b || P n x) (counts_marked room n x l))

  -- And it is 0 exactly if none has.
  pub counts_zero : (room n x : ℕ) → x < room → eqb (get_or (counts_below add (replicate room 0) n) x 0) 0 ≡ not (any_below n (λ k. P k x))
  counts_zero room n x l = turned (eqb (get_or (counts_below add (replicate room 0) n) x 0) 0) (any_below n (λ k. P k x)) (counts_marked room n x l)
    where
      turned : (a b : Bool) → not a ≡ b → a ≡ not b
      turned true b e = ap not e
      turned false b e = ap not e

-- Each number k counts at key k alone.
pub key_marking : (key : ℕ → ℕ) → Marking (λ t k. counted_at t (key k)) (λ k x. eqb (key k) x)
key_marking key = record { long = λ t k. counted_long t (key k); marks = λ t k x l. counted_marked t (key k) x l }
