-- Names of vertices: a base vertex by its number, a made vertex by the names of its two parents, whichever way round they are given.
use Rattle.std.specs.Prelude.{◌≡◌, refl, Bool, true, false, cond, ◌⊎◌, ◌≢◌, ℕ, suc, max, ltb, eqb}
use Rattle.std.proofs.Common.{sym, ap, ap₂, ◌∙◌, subst, ⊎_elim, arith, eqb-true, ltb-true, ltb-false, lt-ltb, le-ltb, eq-eqb, ne_eqb}
use Rattle.std.proofs.lemmas.Bool.{false≢true, eqb-false}
use Rattle.laws.specs.Below.{either}
use Rattle.cuts_names.specs.Lists.{Equality}

pub data Name : Type 0 where
  base : ℕ → Name
  made : Name → Name → Name

-- ---- an order, in which the two parents of a made vertex are put

pub data Way : Type 0 where
  before same after : Way

unfoldable pub flip : Way → Way
flip before = after
flip same = same
flip after = before

-- the second where the first says nothing
next : Way → Way → Way
next before w = before
next same w = w
next after w = after

numbers : ℕ → ℕ → Way
numbers m n = cond (ltb m n) before (cond (eqb m n) same after)

pub order : Name → Name → Way
order (base m) (base n) = numbers m n
order (base m) (made c d) = before
order (made a b) (base n) = after
order (made a b) (made c d) = next (order a c) (order b d)

numbers_flip : (m n : ℕ) → numbers n m ≡ flip (numbers m n)
unfolding numbers flip
numbers_flip m n = ⊎_elim less not_less (either (ltb m n))
  where
    less : ltb m n ≡ true → numbers n m ≡ flip (numbers m n)
    less t = let h = ltb-true m n t in rw (t, le-ltb n m (omega arith), ne_eqb n m (λ q. omega arith))

    not_less : ltb m n ≡ false → numbers n m ≡ flip (numbers m n)
    not_less f =
        let h = ltb-false m n f in
        ⊎_elim
        (λ t. let q = eqb-true m n t in rw (f, t, le-ltb n m (omega arith), eq-eqb n m (sym q)))
        (λ d. let apart : m ≢ n = eqb-false m n d in rw (f, d, lt-ltb n m (omega arith)))
        (either (eqb m n))

next_flip : (v w : Way) → next (flip v) (flip w) ≡ flip (next v w)
unfolding next flip
next_flip before w = refl
next_flip same w = refl
next_flip after w = refl

pub order_flip : (a b : Name) → order b a ≡ flip (order a b)
unfolding order flip
order_flip (base m) (base n) = numbers_flip m n
order_flip (base m) (made c d) = refl
order_flip (made a b) (base n) = refl
order_flip (made a b) (made c d) = ap₂ next (order_flip a c) (order_flip b d) ∙ next_flip (order a c) (order b d)

-- Only one and the same name stands nowhere before or after.
same_only : Way → Type 0
same_only before = ⊥
same_only same = Unit {0}
same_only after = ⊥

before≢same : before ≡ same → ⊥
unfolding same_only
before≢same e = subst same_only (sym e) tt

after≢same : after ≡ same → ⊥
unfolding same_only
after≢same e = subst same_only (sym e) tt

next_same : (v w : Way) → next v w ≡ same → (v ≡ same) × (w ≡ same)
unfolding next
next_same before w e = absurd (before≢same e)
next_same same w e = (refl, e)
next_same after w e = absurd (after≢same e)

numbers_same : (m n : ℕ) → numbers m n ≡ same → m ≡ n
unfolding numbers
numbers_same m n e =
    ⊎_elim
    (λ (t : ltb m n ≡ true). absurd (before≢same (rw t at e)))
    (λ (f : ltb m n ≡ false). ⊎_elim (λ t. eqb-true m n t) (λ (d : eqb m n ≡ false). absurd (after≢same (rw (f, d) at e))) (either (eqb m n)))
    (either (ltb m n))

pub order_same : (a b : Name) → order a b ≡ same → a ≡ b
unfolding order
order_same (base m) (base n) e = ap base (numbers_same m n e)
order_same (base m) (made c d) e = absurd (before≢same e)
order_same (made a b) (base n) e = absurd (after≢same e)
order_same (made a b) (made c d) e =
    let both = next_same (order a c) (order b d) e in
    ap₂ made (order_same a c both.0) (order_same b d both.1)

-- ---- midpoints

unfoldable pub in_order : Way → Name → Name → Name
in_order before a b = made a b
in_order same a b = made a b
in_order after a b = made b a

-- The vertex halfway between two vertices: its parents, put in order.
unfoldable pub mid : Name → Name → Name
mid a b = in_order (order a b) a b

-- No base vertex is a midpoint.
pub mid_not_base_lem : (a b : Name) (n : ℕ) → mid a b ≡ base n → ⊥
unfolding mid in_order flip
mid_not_base_lem a b n e = go (order a b) e
  where
    go : (w : Way) → in_order w a b ≡ base n → ⊥
    go before q = let z : ◌≡◌ {A = ℕ} 0 1 = cc in omega arith
    go same q = let z : ◌≡◌ {A = ℕ} 0 1 = cc in omega arith
    go after q = let z : ◌≡◌ {A = ℕ} 0 1 = cc in omega arith

-- ---- levels

-- A base vertex has level 0, a made vertex one more than the higher of its parents.
unfoldable pub level : Name → ℕ
level (base n) = 0
level (made a b) = suc (max (level a) (level b))

pub level_base_lem : (n : ℕ) → level (base n) ≡ 0
unfolding level
level_base_lem n = refl

-- ---- equal names

is_same : Way → Bool
is_same before = false
is_same same = true
is_same after = false

-- Two names are the same.
pub same_name : Name → Name → Bool
same_name a b = is_same (order a b)

-- That test holds of equal names and of no others.
pub name_equality : Equality same_name
unfolding same_name is_same flip
name_equality = record { only = λ a b e. order_same a b (at (order a b) e); self = λ a. ap is_same (still (order a a) (order_flip a a)) }
  where
    at : (w : Way) → is_same w ≡ true → w ≡ same
    at before e = absurd (false≢true e)
    at same e = refl
    at after e = absurd (false≢true e)

    still : (w : Way) → w ≡ flip w → w ≡ same
    still before e = cc
    still same e = refl
    still after e = cc

-- What rows over names compute with, named in one place: to unfold this is to unfold them all.
unfoldable pub named : Bool
unfolding mid in_order order numbers next same_name is_same
named = true
