-- Two numberings of the same things in one order are one.
use Rattle.std.specs.Prelude.{◌≡◌, ◌⊎◌, ℕ, zero, suc, ◌<◌, ltb}
use Rattle.std.proofs.Common.{sym, ap, ◌∙◌, inl, inr, ⊎_elim, arith, ltb-true, ltb-false}
use Rattle.laws.specs.Below.{either}

-- One number is before another, or it is the other, or it is behind it.
before_same_behind : (i j : ℕ) → (i < j) ⊎ ((i ≡ j) ⊎ (j < i))
before_same_behind i j =
    ⊎_elim
    (λ t. inl (ltb-true i j t))
    (λ f. ⊎_elim (λ t. inr (inr (ltb-true j i t))) (λ g. inr (inl (omega (arith, ltb-false i j f, ltb-false j i g)))) (either (ltb j i)))
    (either (ltb i j))

-- Things numbered below n by `at` and below m by `at'`, none twice, the same ones, in the same order.
module _ {A : Type 0} (n m : ℕ) (at at' : ℕ → A)
    (once : (i j : ℕ) → i < n → j < n → at i ≡ at j → i ≡ j) (once' : (i j : ℕ) → i < m → j < m → at' i ≡ at' j → i ≡ j)
    (to : (i : ℕ) → i < n → (j : ℕ) × (j < m) × (at' j ≡ at i)) (back : (j : ℕ) → j < m → (i : ℕ) × (i < n) × (at i ≡ at' j))
    (order : (i j i' j' : ℕ) → i < n → j < n → i' < m → j' < m → at i ≡ at' i' → at j ≡ at' j' → i < j → i' < j')
  where
    -- Where the numbers below i are those of the same things, so is i.
    next_same : (i : ℕ) → ((k : ℕ) → k < i → (k < m) × (at k ≡ at' k)) → i < n → (i < m) × (at i ≡ at' i)
    next_same i below h =
        let (j, l, e) = to i h in
        ⊎_elim
        (λ (less : j < i). let z = once j i (omega arith) h ((below j less).1 ∙ e) in absurd (omega arith))
        (⊎_elim
        (λ same. (omega arith, sym e ∙ ap at' same))
        (λ (more : i < j).
        let (k, lk, ek) = back i (omega arith) in
        absurd
        (⊎_elim
        (λ (less : k < i). let z = once' k i (omega arith) (omega arith) (sym (below k less).1 ∙ ek) in omega arith)
        (⊎_elim
        (λ (same : k ≡ i). let z = once' j i l (omega arith) (e ∙ sym (ap at same) ∙ ek) in omega arith)
        (λ (behind : i < k). let z = order i k j i h lk l (omega arith) (sym e) ek behind in omega arith))
        (before_same_behind k i))))
        (before_same_behind j i)

    all_same : (i j : ℕ) → j < i → j < n → (j < m) × (at j ≡ at' j)
    all_same zero j l h = absurd (omega arith)
    all_same (suc i) j l h = next_same j (λ k lk. all_same i k (omega arith) (omega arith)) h

    -- Each number is that of the same thing.
    pub same_things : (i : ℕ) → i < n → at i ≡ at' i
    same_things i h = (all_same (suc i) i (omega arith) h).1

    -- There are as many.
    pub same_count : n ≡ m
    same_count =
        ⊎_elim
        (λ (less : n < m). let (i, l, e) = back n less in let z = once' i n (omega arith) less (sym (same_things i l) ∙ e) in absurd (omega arith))
        (⊎_elim (λ e. e) (λ (more : m < n). let (l, e) = all_same (suc m) m (omega arith) more in absurd (omega arith)))
        (before_same_behind n m)
