-- "The first rule broken, in the order of the numbers, names the refusal": rows in any order, with any numbers that differ, and what each of them asks.
use Rattle.std.specs.Prelude.{◌≡◌, refl, Bool, true, false, not, cond, ◌&&◌, ◌↔◌, ◌⊎◌, List, [], ◌∷◌, ◌++◌, ℕ, eqb}
use Rattle.std.proofs.Common.{inl, inr, ⊎_elim}
use Rattle.laws.specs.Below.{and_left, and_right, either}

-- ---- rows

-- A row of the table: a number, and whether its rule is broken.
pub record Row : Type 0 where
  pub number : ℕ
  pub broken : Bool

abbrev pub row : ℕ → Bool → Row
row n b = record { number = n; broken = b }

-- The number of the first rule broken; 0 where none is.
unfoldable pub first_broken : List Row → ℕ
first_broken [] = 0
first_broken (r ∷ rest) = let later = first_broken rest in cond r.broken r.number later

abbrev pub numbers_of : List Row → List ℕ
numbers_of [] = []
numbers_of (r ∷ rest) = r.number ∷ numbers_of rest

-- Each of these numbers passes the test.
abbrev pub each : (ℕ → Bool) → List ℕ → Bool
each passes [] = true
each passes (k ∷ rest) = passes k && each passes rest

-- The number is one of these.
abbrev pub OneOf : List ℕ → ℕ → Type 0
OneOf [] n = ⊥
OneOf (k ∷ rest) n = (n ≡ k) ⊎ OneOf rest n

-- What is given is 0 or a row's number; so a test that these pass, it passes.
pub one_of_them : (rows : List Row) → OneOf (0 ∷ numbers_of rows) (first_broken rows)
unfolding first_broken
one_of_them [] = inl refl
one_of_them (r ∷ rest) = ⊎_elim (λ t. rw t (inr (inl refl))) (λ f. rw f (⊎_elim inl (λ o. inr (inr o)) (one_of_them rest))) (either r.broken)

pub given_passes : (passes : ℕ → Bool) (rows : List Row) → each passes (0 ∷ numbers_of rows) ≡ true → passes (first_broken rows) ≡ true
given_passes passes rows h = go (0 ∷ numbers_of rows) h (one_of_them rows)
  where
    go : (numbers : List ℕ) → each passes numbers ≡ true → OneOf numbers (first_broken rows) → passes (first_broken rows) ≡ true
    go [] h o = absurd o
    go (k ∷ rest) h o = ⊎_elim (λ e. rw e (and_left (passes k) (each passes rest) h)) (go rest (and_right (passes k) (each passes rest) h)) o

-- What is made of the number is made row by row.
abbrev pub in_turn : {A : Type 0} → (ℕ → A) → List Row → A
in_turn f [] = f 0
in_turn f (r ∷ rest) = cond r.broken (f r.number) (in_turn f rest)

pub in_turn_lem : {A : Type 0} (f : ℕ → A) (rows : List Row) → f (first_broken rows) ≡ in_turn f rows
unfolding first_broken
in_turn_lem f [] = refl
in_turn_lem f (r ∷ rest) = ⊎_elim (λ t. rw t) (λ b. rw b (in_turn_lem f rest)) (either r.broken)

-- ---- numbers that differ

-- No number is 0 or stands again further on.
abbrev pub differ : List Row → Bool
differ [] = true
differ (r ∷ rest) = each (λ k. not (eqb k r.number)) (0 ∷ numbers_of rest) && differ rest

-- Whether the rule with this number is broken.
abbrev pub broken_at : List Row → ℕ → Bool
broken_at [] n = false
broken_at (r ∷ rest) n = cond (eqb r.number n) r.broken (broken_at rest n)

-- ---- what is asked

-- A rule: its number, and what it asks.
pub record Rule : Type 1 where
  pub number : ℕ
  pub asks : Type 0

abbrev pub rule : ℕ → Type 0 → Rule
rule n A = record { number = n; asks = A }

-- Number n: all that is asked before it holds, and what its own rule asks does not. Number 0: all holds. No other number is given.
abbrev pub Giving : List Rule → ℕ → Type 0
Giving [] n = n ≡ 0
Giving (r ∷ rest) n = cond (eqb r.number n) (r.asks → ⊥) (r.asks × Giving rest n)

-- Each row's test fails exactly where what its rule asks holds, given that what is asked before holds.
pub data Judged : List Row → List Rule → Type 1 where
  done : Judged [] []
  judge : {n : ℕ} {b : Bool} {A : Type 0} {rows : List Row} {rules : List Rule} → ((b ≡ false) ↔ A) → (A → Judged rows rules) → Judged (row n b ∷ rows) (rule n A ∷ rules)

-- All that the rules ask.
abbrev pub Holding : List Rule → Type 0
Holding [] = Unit {0}
Holding (r ∷ rest) = r.asks × Holding rest

-- Rules after rules.
pub judged_then : {a b : List Row} {p q : List Rule} → Judged a p → (Holding p → Judged b q) → Judged (a ++ b) (p ++ q)
judged_then done later = later tt
judged_then (judge h rest) later = judge h (λ x. judged_then (rest x) (λ held. later (x, held)))
