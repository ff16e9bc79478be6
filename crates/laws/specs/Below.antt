-- Tests over the numbers below a bound: all of them, any of them, how many, the first. Each has a law for a loop that counts up:
-- where it begins, after one more turn, and what the answer says of each number.
use Rattle.std.specs.Prelude.{◌≡◌, Bool, true, cond, ◌&&◌, ◌||◌, ◌⊎◌, ◌≢◌, List, [], ◌∷◌, ◌++◌, length, get_or, ltb, eqb}
use Rattle.std.proofs.Math.Path.{refl, sym}
use Rattle.std.proofs.Common.{ap, ap₂, ◌∙◌, subst, true≢false, inl, inr, ⊎_elim, not-suc-le-zero, le_of_suc-le-suc, eq-or-lt_of_le, le_refl, le_antisymm, length-append, ext_get_or, add-one, arith}
use Rattle.std.proofs.Math.Bool.{false}
use Rattle.std.proofs.lemmas.Bool.{false≢true}
use Prim.Native.Nat.{ℕ, zero, suc, ◌+◌, ◌*◌, ◌≤◌, ◌<◌, max}
use Rattle.std.proofs.Math.ListN.{get_or-append}
use Rattle.std.proofs.lemmas.List.{get_or_at}
use borrow.Author.Tests.{lt-ltb, le-ltb, eqb-true, eqb-false, eq-eqb, ne_eqb}

-- ---- Bool

-- Both parts of a conjunction.
pub and_left : (a b : Bool) → (a && b) ≡ true → a ≡ true
and_left true b e = refl
and_left false b e = e

pub and_right : (a b : Bool) → (a && b) ≡ true → b ≡ true
and_right true b e = e
and_right false b e = absurd (false≢true e)

pub and_false : (a : Bool) → (a && false) ≡ false
and_false true = refl
and_false false = refl

pub or_true : (a : Bool) → (a || true) ≡ true
or_true true = refl
or_true false = refl

pub or_left_false : (a b : Bool) → (a || b) ≡ false → a ≡ false
or_left_false true b e = e
or_left_false false b e = refl

pub or_right_false : (a b : Bool) → (a || b) ≡ false → b ≡ false
or_right_false true b e = absurd (true≢false e)
or_right_false false b e = e

-- Where the first part is false, the second is true.
pub or_second : (a b : Bool) → a ≡ false → (a || b) ≡ true → b ≡ true
or_second true b f t = absurd (true≢false f)
or_second false b f t = t

-- A test is true or false.
pub either : (b : Bool) → (b ≡ true) ⊎ (b ≡ false)
either true = inl refl
either false = inr refl

-- Two tests that hold in the same cases are the same.
pub same_tests : (a b : Bool) → (a ≡ true → b ≡ true) → (b ≡ true → a ≡ true) → a ≡ b
same_tests true b there back = sym (there refl)
same_tests false true there back = absurd (false≢true (back refl))
same_tests false false there back = refl

-- Of a number below suc n: it is n, or it is below n.
last_or_before : {k n : ℕ} → k < suc n → (k ≡ n) ⊎ (k < n)
last_or_before h = eq-or-lt_of_le (le_of_suc-le-suc h)

-- ---- one after the other

-- From start, take in f's value at each number below n, in rising order.
unfoldable pub fold_below {ℓ κ} : {A : Type ℓ} {B : Type κ} → B → (B → A → B) → ℕ → (ℕ → A) → B
fold_below start take zero f = start
fold_below start take (suc n) f = take (fold_below start take n f) (f n)

-- It goes by f's values below n alone.
pub fold_same {ℓ κ} : {A : Type ℓ} {B : Type κ} (start : B) (take : B → A → B) (n : ℕ) (f g : ℕ → A) → ((k : ℕ) → k < n → f k ≡ g k) → fold_below start take n f ≡ fold_below start take n g
unfolding fold_below
fold_same start take zero f g h = refl
fold_same start take (suc n) f g h = ap₂ take (fold_same start take n f g (λ k l. h k (omega arith))) (h n (le_refl (suc n)))

-- ---- all

-- P holds of every number below n.
unfoldable pub all_below : ℕ → (ℕ → Bool) → Bool
unfolding fold_below
all_below n P = fold_below true ◌&&◌ n P

module _ (P : ℕ → Bool) where
  pub all_none : all_below 0 P ≡ true
  unfolding all_below
  all_none = refl

  pub all_suc : (n : ℕ) → all_below (suc n) P ≡ (all_below n P && P n)
  unfolding all_below
  all_suc n = refl

  -- it holds at each
  pub all_at : (n k : ℕ) → all_below n P ≡ true → k < n → P k ≡ true
  all_at zero k e h = absurd (not-suc-le-zero h)
  all_at (suc n) k e h =
      let e' : (all_below n P && P n) ≡ true = sym (all_suc n) ∙ e in
      ⊎_elim (λ q. subst (λ (j : ℕ). P j ≡ true) (sym q) (and_right (all_below n P) (P n) e')) (λ l. all_at n k (and_left (all_below n P) (P n) e') l)
      (last_or_before h)

  -- it holds of all where it holds at each
  pub all_of : (n : ℕ) → ((k : ℕ) → k < n → P k ≡ true) → all_below n P ≡ true
  all_of zero f = all_none
  all_of (suc n) f = all_suc n ∙ ap₂ ◌&&◌ (all_of n (λ k l. f k (omega arith))) (f n (le_refl (suc n)))

-- ---- any

-- P holds of some number below n.
unfoldable pub any_below : ℕ → (ℕ → Bool) → Bool
unfolding fold_below
any_below n P = fold_below false ◌||◌ n P

pub any_same : (n : ℕ) (P Q : ℕ → Bool) → ((k : ℕ) → k < n → P k ≡ Q k) → any_below n P ≡ any_below n Q
unfolding any_below
any_same n P Q h = fold_same false ◌||◌ n P Q h

module _ (P : ℕ → Bool) where
  pub any_none : any_below 0 P ≡ false
  unfolding any_below
  any_none = refl

  pub any_suc : (n : ℕ) → any_below (suc n) P ≡ (any_below n P || P n)
  unfolding any_below
  any_suc n = refl

  pub any_next : (i : ℕ) → any_below i P ≡ false → P i ≡ false → any_below (i + 1) P ≡ false
  any_next i inv here = rw (add-one, any_suc, inv, here)

  -- where a loop came to the end
  pub any_end : (n i : ℕ) → n ≤ i → i ≤ n → any_below i P ≡ false → any_below n P ≡ false
  any_end n i h l none = subst (λ (j : ℕ). any_below j P ≡ false) (le_antisymm l h) none

  -- it fails at each
  pub any_fails_at : (n k : ℕ) → any_below n P ≡ false → k < n → P k ≡ false
  any_fails_at zero k e h = absurd (not-suc-le-zero h)
  any_fails_at (suc n) k e h =
      let e' : (any_below n P || P n) ≡ false = sym (any_suc n) ∙ e in
      ⊎_elim (λ q. subst (λ (j : ℕ). P j ≡ false) (sym q) (or_right_false (any_below n P) (P n) e')) (λ l. any_fails_at n k (or_left_false (any_below n P) (P n) e') l)
      (last_or_before h)

  -- it fails of all where it fails at each
  pub any_fails : (n : ℕ) → ((k : ℕ) → k < n → P k ≡ false) → any_below n P ≡ false
  any_fails zero f = any_none
  any_fails (suc n) f = any_suc n ∙ ap₂ ◌||◌ (any_fails n (λ k l. f k (omega arith))) (f n (le_refl (suc n)))

  -- one of which it holds
  pub any_is : (n k : ℕ) → k < n → P k ≡ true → any_below n P ≡ true
  any_is n k h e =
      ⊎_elim (λ t. t) (λ f. absurd (false≢true (sym (any_fails_at n k f h) ∙ e))) (either (any_below n P))

  -- the number at which it holds
  pub any_where : (n : ℕ) → any_below n P ≡ true → (k : ℕ) × (k < n) × (P k ≡ true)
  any_where zero e = absurd (false≢true (sym any_none ∙ e))
  any_where (suc n) e =
      ⊎_elim
      (λ here. (n, le_refl (suc n), here))
      (λ no. let (k, l, t) = any_where n (before (any_below n P) (P n) no (sym (any_suc n) ∙ e)) in (k, omega arith, t))
      (either (P n))
    where
      before : (a b : Bool) → b ≡ false → (a || b) ≡ true → a ≡ true
      before true b f t = refl
      before false b f t = absurd (false≢true (sym f ∙ t))

-- ---- sums, counts, the greatest

-- The sum of f over the numbers below n.
unfoldable pub sum_below : ℕ → (ℕ → ℕ) → ℕ
unfolding fold_below
sum_below n f = fold_below 0 ◌+◌ n f

pub sum_same : (n : ℕ) (f g : ℕ → ℕ) → ((k : ℕ) → k < n → f k ≡ g k) → sum_below n f ≡ sum_below n g
unfolding sum_below
sum_same n f g h = fold_same 0 ◌+◌ n f g h

-- 1 where the test holds, 0 where it does not.
abbrev pub bit : Bool → ℕ
bit true = 1
bit false = 0

pub bit_small : (b : Bool) → bit b ≤ 1
bit_small true = omega arith
bit_small false = omega arith

-- How many numbers below n there are of which P holds.
unfoldable pub count_below : ℕ → (ℕ → Bool) → ℕ
count_below n P = sum_below n (λ k. bit (P k))

-- The greatest f of the numbers below n, and 0 if there are none.
unfoldable pub greatest_below : ℕ → (ℕ → ℕ) → ℕ
unfolding fold_below
greatest_below n f = fold_below 0 max n f

module _ (f : ℕ → ℕ) where
  pub sum_none : sum_below 0 f ≡ 0
  unfolding sum_below
  sum_none = refl

  pub sum_suc : (n : ℕ) → sum_below (suc n) f ≡ sum_below n f + f n
  unfolding sum_below
  sum_suc n = refl

  pub sum_next : (i s : ℕ) → s ≡ sum_below i f → s + f i ≡ sum_below (i + 1) f
  sum_next i s inv = rw (add-one, sum_suc, ← inv)

  pub greatest_none : greatest_below 0 f ≡ 0
  unfolding greatest_below
  greatest_none = refl

  pub greatest_suc : (n : ℕ) → greatest_below (suc n) f ≡ max (greatest_below n f) (f n)
  unfolding greatest_below
  greatest_suc n = refl

  pub greatest_next : (i g : ℕ) → g ≡ greatest_below i f → max g (f i) ≡ greatest_below (i + 1) f
  greatest_next i g inv = rw (add-one, greatest_suc, ← inv)

  -- the greatest of numbers of at most b
  pub greatest_at_most : (n b : ℕ) → ((k : ℕ) → k < n → f k ≤ b) → greatest_below n f ≤ b
  greatest_at_most zero b h = rw greatest_none (omega arith)
  greatest_at_most (suc n) b h = rw greatest_suc (omega (arith, greatest_at_most n b (λ k l. h k (omega arith)), h n (le_refl (suc n))))

  -- a sum of numbers of at most b
  pub sum_at_most : (n b : ℕ) → ((k : ℕ) → k < n → f k ≤ b) → sum_below n f ≤ n * b
  sum_at_most zero b h = rw sum_none (omega arith)
  sum_at_most (suc n) b h = rw sum_suc (omega (arith, sum_at_most n b (λ k l. h k (omega arith)), h n (le_refl (suc n))))

  -- each number is at most the sum
  pub sum_at_least : (n k : ℕ) → k < n → f k ≤ sum_below n f
  sum_at_least zero k h = absurd (not-suc-le-zero h)
  sum_at_least (suc n) k h =
      rw sum_suc
      (⊎_elim (λ q. subst (λ (j : ℕ). f j ≤ sum_below n f + f n) (sym q) (omega arith)) (λ l. omega (arith, sum_at_least n k l)) (last_or_before h))

module _ (P : ℕ → Bool) where
  pub count_none : count_below 0 P ≡ 0
  unfolding count_below
  count_none = sum_none (λ k. bit (P k))

  pub count_suc : (n : ℕ) → count_below (suc n) P ≡ count_below n P + bit (P n)
  unfolding count_below
  count_suc n = sum_suc (λ k. bit (P k)) n

  -- one more turn, whether it counts or not
  pub count_next : (i c x : ℕ) → c ≡ count_below i P → x ≡ bit (P i) → c + x ≡ count_below (i + 1) P
  count_next i c x inv is = rw (add-one i, count_suc, ← inv, is)

  pub count_at_most : (n : ℕ) → count_below n P ≤ n
  count_at_most zero = rw count_none (omega arith)
  count_at_most (suc n) = rw count_suc (omega (arith, count_at_most n, bit_small (P n)))

-- ---- the first

-- The first number below n of which P holds, and n if there is none.
unfoldable pub first_below : ℕ → (ℕ → Bool) → ℕ
first_below zero P = 0
first_below (suc n) P = let before = first_below n P in let here = cond (P n) n (suc n) in cond (ltb before n) before here

module _ (P : ℕ → Bool) where
  pub first_suc : (n : ℕ) → first_below (suc n) P ≡ cond (ltb (first_below n P) n) (first_below n P) (cond (P n) n (suc n))
  unfolding first_below
  first_suc n = refl

  -- where there is none
  pub first_no : (n : ℕ) → any_below n P ≡ false → first_below n P ≡ n
  unfolding first_below
  first_no zero e = refl
  first_no (suc n) e =
      let e' : (any_below n P || P n) ≡ false = sym (any_suc P n) ∙ e in
      let none : first_below n P ≡ n = first_no n (or_left_false (any_below n P) (P n) e') in
      rw (none, le-ltb n n (le_refl n), or_right_false (any_below n P) (P n) e')

  -- where it is k
  pub first_is : (n k : ℕ) → k < n → any_below k P ≡ false → P k ≡ true → first_below n P ≡ k
  first_is zero k h none here = absurd (not-suc-le-zero h)
  first_is (suc n) k h none here =
      first_suc n
      ∙ ⊎_elim
      (λ q.
      let at : first_below n P ≡ n = first_no n (subst (λ (j : ℕ). any_below j P ≡ false) q none) in
      let it : P n ≡ true = subst (λ (j : ℕ). P j ≡ true) q here in
      rw (at, le-ltb n n (le_refl n), it) (sym q))
      (λ l. rw (first_is n k l none here, lt-ltb k n l))
      (last_or_before h)

  -- it holds at the first, and at none before
  pub first_where : (n : ℕ) → any_below n P ≡ true → (first_below n P < n) × (P (first_below n P) ≡ true) × (any_below (first_below n P) P ≡ false)
  first_where zero e = absurd (false≢true (sym (any_none P) ∙ e))
  first_where (suc n) e =
      ⊎_elim
      (λ t. let (l, p, a) = first_where n t in rw (first_suc, lt-ltb (first_below n P) n l) (omega arith, p, a))
      (λ f.
      let p : P n ≡ true = sym (ap (λ (b : Bool). b || P n) f) ∙ sym (any_suc P n) ∙ e in
      rw (first_is (suc n) n (le_refl (suc n)) f p) (le_refl (suc n), p, f))
      (either (any_below n P))

-- ---- lists by their elements

-- There is one exactly where the first is below the bound.
pub any_first : (P : ℕ → Bool) (n : ℕ) → any_below n P ≡ ltb (first_below n P) n
any_first P n =
    ⊎_elim
    (λ t. t ∙ sym (lt-ltb (first_below n P) n (first_where P n t).0))
    (λ f. let none = first_no P n f in f ∙ sym (le-ltb (first_below n P) n (omega arith)))
    (either (any_below n P))

-- The first number below a bound is at most the bound.
pub first_at_most : (P : ℕ → Bool) (n : ℕ) → first_below n P ≤ n
first_at_most P n =
    ⊎_elim (λ t. let l = (first_where P n t).0 in omega arith) (λ f. omega (arith, first_no P n f)) (either (any_below n P))

-- The list of f's values at the numbers below n.
unfoldable pub list_below {ℓ} : {A : Type ℓ} → ℕ → (ℕ → A) → List A
unfolding fold_below
list_below n f = fold_below [] (λ l x. l ++ x ∷ []) n f

pub list_same {ℓ} : {A : Type ℓ} (n : ℕ) (f g : ℕ → A) → ((k : ℕ) → k < n → f k ≡ g k) → list_below n f ≡ list_below n g
unfolding list_below
list_same n f g h = fold_same [] (λ l x. l ++ x ∷ []) n f g h

module _ {ℓ} {A : Type ℓ} (f : ℕ → A) where
  pub list_none : list_below 0 f ≡ []
  unfolding list_below
  list_none = refl

  pub list_suc : (n : ℕ) → list_below (suc n) f ≡ list_below n f ++ f n ∷ []
  unfolding list_below
  list_suc n = refl

  pub list_length : (n : ℕ) → length (list_below n f) ≡ n
  list_length zero = ap length list_none
  list_length (suc n) = rw (list_suc, length-append) (omega (arith, list_length n))

  pub list_at : (n k : ℕ) (d : A) → k < n → get_or (list_below n f) k d ≡ f k
  list_at zero k d h = absurd (not-suc-le-zero h)
  list_at (suc n) k d h =
      rw list_suc
      (⊎_elim (λ q. get_or_at (list_below n f) (f n) [] d k (list_length n ∙ sym q) ∙ ap f (sym q)) (λ l. get_or-append (list_below n f) (f n ∷ []) d k (rw list_length l) ∙ list_at n k d l)
      (last_or_before h))

  -- a list is the list of its elements
  pub list_of : (d : A) (l : List A) → ((k : ℕ) → k < length l → get_or l k d ≡ f k) → list_below (length l) f ≡ l
  list_of d l h =
      ext_get_or d (list_below (length l) f) l (list_length (length l))
      (λ k b. let b' : k < length l = subst (λ (m : ℕ). k < m) (list_length (length l)) b in list_at (length l) k d b' ∙ sym (h k b'))

-- ---- a function of the number, changed at one number

abbrev pub put_at {ℓ} : {A : Type ℓ} → ℕ → A → (ℕ → A) → ℕ → A
put_at i x f j = let other = f j in cond (eqb j i) x other

pub put_same {ℓ} : {A : Type ℓ} (i : ℕ) (x : A) (f : ℕ → A) → put_at i x f i ≡ x
put_same i x f = rw (eq-eqb i i refl)

pub put_other {ℓ} : {A : Type ℓ} (i j : ℕ) (x : A) (f : ℕ → A) → j ≢ i → put_at i x f j ≡ f j
put_other i j x f ne = rw (ne_eqb j i ne)

pub put_is {ℓ} : {A : Type ℓ} (i : ℕ) (x : A) (f g : ℕ → A) → g i ≡ x → ((j : ℕ) → j ≢ i → g j ≡ f j) → g ≡ put_at i x f
put_is i x f g here other = λ k j. at j k
  where
    at : (j : ℕ) → g j ≡ cond (eqb j i) x (f j)
    at j =
        ⊎_elim
        (λ t. let e = eqb-true j i t in rw t (ap g e ∙ here))
        (λ f. rw f (other j (eqb-false j i f)))
        (either (eqb j i))
