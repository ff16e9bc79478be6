-- Some of the numbers below a bound remain and close up in their order: the new number of one that remains is how many below it remain, and number k of the result is
-- the old number of the one before which k remain.
use Rattle.std.specs.Prelude.{◌≡◌, false, cond, List, [], ◌∷◌, ◌++◌, length, ltb}
use Rattle.std.proofs.Math.Path.{refl, ap₂}
use Rattle.std.proofs.Common.{sym, ap, ◌∙◌, eq-or-lt_of_le, add-one, length-append}
use Rattle.std.proofs.Math.Bool.{Bool, true, ◌&&◌}
use Rattle.std.proofs.Math.Logic.{⊎_elim}
use Prim.Native.Nat.{ℕ, zero, suc, ◌+◌, ◌≤◌, ◌<◌}
use native.Mathlib.Omega.{arith}
use Rattle.std.proofs.Math.Dec.{eqb}
use borrow.Author.Tests.{lt-ltb, le-ltb, ltb-true, ltb-false, eqb-true, eq-eqb}
use Rattle.laws.specs.Below.{either, and_left, and_right, any_is, first_below, first_where, bit, bit_small, count_below, count_none, count_suc, list_below, list_none, list_suc, list_same}

-- Number k of the result: the number below n that remains and before which k remain.
unfoldable pub old_below : ℕ → (ℕ → Bool) → ℕ → ℕ
old_below n P k = first_below n (λ i. P i && eqb (count_below i P) k)

-- The list of f's values at the numbers below n that remain.
unfoldable pub remaining_below {ℓ} : {A : Type ℓ} → ℕ → (ℕ → Bool) → (ℕ → A) → List A
remaining_below zero P f = []
remaining_below (suc n) P f = let before = remaining_below n P f in let more = before ++ f n ∷ [] in cond (P n) more before

module _ (P : ℕ → Bool) where
  -- ---- new numbers

  -- The next number after one that remains is one more, and after another the same.
  pub count_here : (i : ℕ) → P i ≡ true → count_below (i + 1) P ≡ count_below i P + 1
  count_here i t = rw (add-one i, count_suc, t)

  -- Of higher numbers there are at least as many below.
  pub count_rises : (i j : ℕ) → i ≤ j → count_below i P ≤ count_below j P
  count_rises i zero h = let e : i ≡ 0 = omega arith in rw e (omega arith)
  count_rises i (suc j) h =
      ⊎_elim
      (λ e. rw e (omega arith))
      (λ l. rw (count_suc P j) (omega (arith, count_rises i j (omega arith))))
      (eq-or-lt_of_le h)

  -- Above one that remains there are more.
  pub count_above : (i j : ℕ) → i < j → P i ≡ true → count_below i P < count_below j P
  count_above i j h t =
      let e : count_below (suc i) P ≡ count_below i P + 1 = rw (count_suc, t) in
      omega (arith, e, count_rises (suc i) j h)

  -- Two that remain have new numbers in the same order.
  pub new_in_order : (i j : ℕ) → P i ≡ true → P j ≡ true → ltb (count_below i P) (count_below j P) ≡ ltb i j
  new_in_order i j ti tj =
      ⊎_elim
      (λ (t : ltb i j ≡ true). rw t (lt-ltb (count_below i P) (count_below j P) (count_above i j (ltb-true i j t) ti)))
      (λ (f : ltb i j ≡ false). rw f (le-ltb (count_below i P) (count_below j P) (count_rises j i (ltb-false i j f))))
      (either (ltb i j))

  -- And different ones have different new numbers.
  pub new_once : (i j : ℕ) → P i ≡ true → P j ≡ true → count_below i P ≡ count_below j P → i ≡ j
  new_once i j ti tj e =
      ⊎_elim
      (λ (t : ltb i j ≡ true). absurd (omega (arith, e, count_above i j (ltb-true i j t) ti)))
      (λ (f : ltb i j ≡ false).
      ⊎_elim
      (λ (t : ltb j i ≡ true). absurd (omega (arith, e, count_above j i (ltb-true j i t) tj)))
      (λ (g : ltb j i ≡ false). omega (arith, ltb-false i j f, ltb-false j i g))
      (either (ltb j i)))
      (either (ltb i j))

  -- Where all numbers below b remain, they keep their numbers.
  pub first_stay : (b : ℕ) → ((i : ℕ) → i < b → P i ≡ true) → (i : ℕ) → i ≤ b → count_below i P ≡ i
  first_stay b all zero h = count_none P
  first_stay b all (suc i) h = rw (count_suc P i, all i h) (omega (arith, first_stay b all i (omega arith)))

  -- ---- old numbers

  -- One of which k remain before it and which itself remains is where number k stood.
  pub old_there : (n k : ℕ) → k < count_below n P → (old_below n P k < n) × (P (old_below n P k) ≡ true) × (count_below (old_below n P k) P ≡ k)
  unfolding old_below
  old_there n k h =
      let Q : ℕ → Bool = λ i. P i && eqb (count_below i P) k in
      let (i, l, t) = reached n h in
      let (below, here, none) = first_where Q n (any_is Q n i l t) in
      let at = first_below n Q in
      (below, and_left (P at) (eqb (count_below at P) k) here, eqb-true (count_below at P) k (and_right (P at) (eqb (count_below at P) k) here))
    where
      reached : (n : ℕ) → k < count_below n P → (i : ℕ) × (i < n) × ((P i && eqb (count_below i P) k) ≡ true)
      reached zero l = absurd (omega (arith, count_none P))
      reached (suc n) l =
          ⊎_elim
          (λ e. let (i, below, t) = reached n (ltb-true k (count_below n P) e) in (i, omega arith, t))
          (λ f.
          let u : k < count_below n P + bit (P n) = rw (count_suc P n) at l in
          let v = ltb-false k (count_below n P) f in
          let here : P n ≡ true = ⊎_elim (λ t. t) (λ (no : P n ≡ false). let w : k < count_below n P + 0 = rw no at u in absurd (omega arith)) (either (P n)) in
          (n, omega arith, ap₂ ◌&&◌ here (eq-eqb (count_below n P) k (omega (arith, bit_small (P n))))))
          (either (ltb k (count_below n P)))

  -- The old number of a new number is the number itself.
  pub old_new : (n i : ℕ) → i < n → P i ≡ true → old_below n P (count_below i P) ≡ i
  old_new n i h t =
      let (below, there, same) = old_there n (count_below i P) (count_above i n h t) in
      new_once (old_below n P (count_below i P)) i there t same

  -- They do not ask how far the numbers go on.
  pub old_further : (n m k : ℕ) → n ≤ m → k < count_below n P → old_below m P k ≡ old_below n P k
  old_further n m k h l =
      let (below, there, same) = old_there n k l in
      ap (old_below m P) (sym same) ∙ old_new m (old_below n P k) (omega arith) there

  -- Where all numbers below b remain, they are number for number where they were.
  pub old_first : (n b : ℕ) → b ≤ n → ((i : ℕ) → i < b → P i ≡ true) → (i : ℕ) → i < b → old_below n P i ≡ i
  old_first n b within all i h = ap (old_below n P) (sym (first_stay b all i (omega arith))) ∙ old_new n i (omega arith) (all i h)

  -- ---- the list of those that remain

  module _ {ℓ} {A : Type ℓ} (f : ℕ → A) where
    pub remaining_none : remaining_below 0 P f ≡ []
    unfolding remaining_below
    remaining_none = refl

    -- One more turn of a loop, where the number remains and where it does not.
    pub remaining_here : (n : ℕ) → P n ≡ true → remaining_below (suc n) P f ≡ remaining_below n P f ++ f n ∷ []
    unfolding remaining_below
    remaining_here n t = rw t

    pub remaining_past : (n : ℕ) → P n ≡ false → remaining_below (suc n) P f ≡ remaining_below n P f
    unfolding remaining_below
    remaining_past n e = rw e

    pub remaining_length : (n : ℕ) → length (remaining_below n P f) ≡ count_below n P
    remaining_length zero = ap length remaining_none ∙ sym (count_none P)
    remaining_length (suc n) =
        ⊎_elim
        (λ (t : P n ≡ true). rw (remaining_here n t, length-append, count_suc P n, t) (omega (arith, remaining_length n)))
        (λ (e : P n ≡ false). rw (remaining_past n e, count_suc P n, e) (omega (arith, remaining_length n)))
        (either (P n))

    -- It is the list of f's values at the old numbers.
    pub remaining_is : (n : ℕ) → remaining_below n P f ≡ list_below (count_below n P) (λ k. f (old_below n P k))
    remaining_is zero = remaining_none ∙ sym (list_none (λ k. f (old_below 0 P k))) ∙ ap (λ (c : ℕ). list_below c (λ k. f (old_below 0 P k))) (sym (count_none P))
    remaining_is (suc n) = let before = remaining_is n in ⊎_elim (here before) (past before) (either (P n))
      where
        now : ℕ → A
        now k = f (old_below (suc n) P k)

        same : list_below (count_below n P) (λ k. f (old_below n P k)) ≡ list_below (count_below n P) now
        same = list_same (count_below n P) (λ k. f (old_below n P k)) now (λ k l. ap f (sym (old_further n (suc n) k (omega arith) l)))

        here : remaining_below n P f ≡ list_below (count_below n P) (λ k. f (old_below n P k)) → P n ≡ true → remaining_below (suc n) P f ≡ list_below (count_below (suc n) P) now
        here before t =
            let e : count_below (suc n) P ≡ suc (count_below n P) = rw (count_suc, t) (omega arith) in
            remaining_here n t
            ∙ ap₂ (λ (l : List A) (x : A). l ++ x ∷ []) (before ∙ same) (ap f (sym (old_new (suc n) n (omega arith) t)))
            ∙ sym (list_suc now (count_below n P))
            ∙ ap (λ (c : ℕ). list_below c now) (sym e)

        past : remaining_below n P f ≡ list_below (count_below n P) (λ k. f (old_below n P k)) → P n ≡ false → remaining_below (suc n) P f ≡ list_below (count_below (suc n) P) now
        past before g =
            let e : count_below (suc n) P ≡ count_below n P = rw (count_suc, g) (omega arith) in
            remaining_past n g ∙ before ∙ same ∙ ap (λ (c : ℕ). list_below c now) (sym e)
