-- The ranking is a strict order, and a total one among edges with different ends.
-- Assumes nothing.
use Rattle.std.specs.Prelude.{◌≡◌, refl, ◌⊎◌, Bool, true, false, ◌&&◌, ◌||◌, ℕ, ◌<◌, ltb, eqb}
use Rattle.std.proofs.Common.{sym, ◌∙◌, inl, inr, arith, ltb-true, lt-ltb, le-ltb, eqb-true, eq-eqb}
use Rattle.std.proofs.lemmas.Bool.{false≢true}
use Rattle.std.proofs.Math.Decide.{dec_lt}
use Rattle.grid_lengths.specs.declared.Ranked.{Ranked}
use Rattle.grid_lengths.specs.Lengths.{ranks_before}

-- the three ways in which a ranks before b
data Before (a b : Ranked) : Type 0 where
  longer : b.length < a.length → Before a b
  lower_first : a.length ≡ b.length → a.lower < b.lower → Before a b
  higher_first : a.length ≡ b.length → a.lower ≡ b.lower → a.higher < b.higher → Before a b

before_of : (a b : Ranked) → ranks_before a b ≡ true → Before a b
unfolding ranks_before
before_of a b e = by_length (ltb b.length a.length) (eqb a.length b.length) (ltb-true b.length a.length) (eqb-true a.length b.length) e
  where
    by_higher : (a.length ≡ b.length) → (p q : Bool) → (p ≡ true → a.lower < b.lower) → (q ≡ true → a.lower ≡ b.lower) → (p || q && ltb a.higher b.higher) ≡ true → Before a b
    by_higher l true q f g e = lower_first l (f refl)
    by_higher l false true f g e = higher_first l (g refl) (ltb-true a.higher b.higher e)
    by_higher l false false f g e = absurd (false≢true e)

    by_length : (p q : Bool) → (p ≡ true → b.length < a.length) → (q ≡ true → a.length ≡ b.length) →
        (p || q && (ltb a.lower b.lower || eqb a.lower b.lower && ltb a.higher b.higher)) ≡ true → Before a b
    by_length true q f g e = longer (f refl)
    by_length false true f g e =
        by_higher (g refl) (ltb a.lower b.lower) (eqb a.lower b.lower) (ltb-true a.lower b.lower) (eqb-true a.lower b.lower) e
    by_length false false f g e = absurd (false≢true e)

of_before : (a b : Ranked) → Before a b → ranks_before a b ≡ true
unfolding ranks_before
of_before a b (longer h) = rw (lt-ltb b.length a.length h)
of_before a b (lower_first e h) =
    rw (le-ltb b.length a.length (omega arith), eq-eqb a.length b.length e, lt-ltb a.lower b.lower h)
of_before a b (higher_first e f h) =
    rw (le-ltb b.length a.length (omega arith), eq-eqb a.length b.length e, le-ltb a.lower b.lower (omega arith), eq-eqb a.lower b.lower f)
    (lt-ltb a.higher b.higher h)

-- No edge ranks before itself.
pub irreflexive : (a : Ranked) → ranks_before a a ≡ true → ⊥
irreflexive a e = never (before_of a a e)
  where
    never : Before a a → ⊥
    never (longer h) = omega arith
    never (lower_first e h) = omega arith
    never (higher_first e f h) = omega arith

-- An edge that ranks before one that ranks before a third ranks before the third.
pub transitive : (a b c : Ranked) → ranks_before a b ≡ true → ranks_before b c ≡ true → ranks_before a c ≡ true
transitive a b c e f = of_before a c (chain (before_of a b e) (before_of b c f))
  where
    chain : Before a b → Before b c → Before a c
    chain (longer h) (longer k) = longer (omega arith)
    chain (longer h) (lower_first p k) = longer (omega arith)
    chain (longer h) (higher_first p q k) = longer (omega arith)
    chain (lower_first p h) (longer k) = longer (omega arith)
    chain (lower_first p h) (lower_first q k) = lower_first (omega arith) (omega arith)
    chain (lower_first p h) (higher_first q r k) = lower_first (omega arith) (omega arith)
    chain (higher_first p q h) (longer k) = longer (omega arith)
    chain (higher_first p q h) (lower_first r k) = lower_first (omega arith) (omega arith)
    chain (higher_first p q h) (higher_first r s k) = higher_first (omega arith) (omega arith) (omega arith)

compared : {X : Type 0} (m n : ℕ) → (m < n → X) → (m ≡ n → X) → (n < m → X) → X
compared m n f g h =
    elim (dec_lt m n) [ yes l ↦ f l | no k ↦ elim (dec_lt n m) [ yes l ↦ h l | no l ↦ g (omega arith) ] ]

-- An edge that ranks before another ranks before every edge that does not.
pub before_others : (a b c : Ranked) → ranks_before a b ≡ true → ranks_before c b ≡ false → ranks_before a c ≡ true
before_others a b c e f = of_before a c (go (before_of a b e))
  where
    no : Before c b → ⊥
    no k = false≢true (sym f ∙ of_before c b k)

    go : Before a b → Before a c
    go (longer h) = compared b.length c.length (λ l. absurd (no (longer l))) (λ l. longer (omega arith)) (λ l. longer (omega arith))
    go (lower_first p h) =
        compared b.length c.length (λ l. absurd (no (longer l)))
        (λ l. compared c.lower b.lower (λ m. absurd (no (lower_first (sym l) m))) (λ m. lower_first (omega arith) (omega arith)) (λ m. lower_first (omega arith) (omega arith)))
        (λ l. longer (omega arith))
    go (higher_first p q h) =
        compared b.length c.length (λ l. absurd (no (longer l)))
        (λ l. compared c.lower b.lower (λ m. absurd (no (lower_first (sym l) m)))
        (λ m. compared c.higher b.higher (λ n. absurd (no (higher_first (sym l) m n))) (λ n. higher_first (omega arith) (omega arith) (omega arith)) (λ n. higher_first (omega arith) (omega arith) (omega arith)))
        (λ m. lower_first (omega arith) (omega arith)))
        (λ l. longer (omega arith))

-- Of two edges with different ends one ranks before the other.
pub total : (a b : Ranked) → ((a.lower ≡ b.lower) × (a.higher ≡ b.higher) → ⊥) → (ranks_before a b ≡ true) ⊎ (ranks_before b a ≡ true)
total a b different =
    compared b.length a.length (λ h. inl (of_before a b (longer h)))
    (λ e. compared a.lower b.lower (λ h. inl (of_before a b (lower_first (sym e) h)))
    (λ f. compared a.higher b.higher (λ h. inl (of_before a b (higher_first (sym e) f h)))
    (λ g. absurd (different (f, g)))
    (λ h. inr (of_before b a (higher_first e (sym f) h))))
    (λ h. inr (of_before b a (lower_first e h))))
    (λ h. inr (of_before b a (longer h)))
