-- What a test says in plain words. A test over `&&`, `||`, `not` and the numbers below a bound is read part by part, each form once.
use Rattle.std.specs.Prelude.{◌≡◌, Bool, true, false, not, cond, ◌&&◌, ◌||◌, ◌↔◌, ◌⊎◌, ℕ, ◌≤◌, ◌<◌, eqb, ltb, leb}
use Rattle.std.proofs.Common.{sym, ap, ◌∙◌, true≢false, inl, inr, ⊎_elim, arith, ltb-true, ltb-false, leb-true, leb-false, eqb-true, lt-ltb, le-ltb, le-leb, eq-eqb}
use Rattle.std.proofs.lemmas.Bool.{not-true, not-false, lt-leb}
use Rattle.laws.specs.Below.{and_left, and_right, or_left_false, or_right_false, or_second, either, all_below, all_at, all_of, any_below, any_is, any_where, any_fails, any_fails_at, first_below, first_no, first_where}

-- The test passes exactly where P holds; it fails exactly where P holds.
abbrev pub Passes : Bool → Type 0 → Type 0
Passes b P = (b ≡ true) ↔ P

abbrev pub Fails : Bool → Type 0 → Type 0
Fails b P = (b ≡ false) ↔ P

-- A test read, then said in other words.
pub reads : {A P Q : Type 0} → (A ↔ P) → (P → Q) → (Q → P) → A ↔ Q
reads h f g = (λ e. f (h.0 e), λ q. h.1 (g q))

-- ---- comparisons

pub equal : (a b : ℕ) → Passes (eqb a b) (a ≡ b)
equal a b = (eqb-true a b, eq-eqb a b)

pub below : (a b : ℕ) → Passes (ltb a b) (a < b)
below a b = (ltb-true a b, lt-ltb a b)

pub not_below : (a b : ℕ) → Fails (ltb a b) (b ≤ a)
not_below a b = (ltb-false a b, le-ltb a b)

pub at_most : (a b : ℕ) → Passes (leb a b) (a ≤ b)
at_most a b = (leb-true a b, le-leb a b)

pub not_at_most : (a b : ℕ) → Fails (leb a b) (b < a)
not_at_most a b = (leb-false a b, lt-leb a b)

-- ---- not, and, or, cond

-- What a test says where it fails: not what it says where it passes.
pub fails_unless : {b : Bool} {P : Type 0} → Passes b P → Fails b (P → ⊥)
fails_unless {b} h = (λ f p. true≢false (sym (h.1 p) ∙ f), λ n. ⊎_elim (λ t. absurd (n (h.0 t))) (λ f. f) (either b))

pub not_fails : {b : Bool} {P : Type 0} → Passes b P → Fails (not b) P
not_fails {b} h = (λ e. h.0 (not-false b e), λ p. ap not (h.1 p))

pub not_passes : {b : Bool} {P : Type 0} → Fails b P → Passes (not b) P
not_passes {b} h = (λ e. h.0 (not-true b e), λ p. ap not (h.1 p))

pub and_passes : {a b : Bool} {P Q : Type 0} → Passes a P → Passes b Q → Passes (a && b) (P × Q)
and_passes {a} {b} h k = (λ e. (h.0 (and_left a b e), k.0 (and_right a b e)), λ r. rw (h.1 r.0) (k.1 r.1))

pub and_fails : {a b : Bool} {P Q : Type 0} → Passes a P → Fails b Q → Fails (a && b) (P → Q)
and_fails {a} {b} h k = (
  λ e p. k.0 (rw (h.1 p) at e),
  λ f. ⊎_elim (λ t. rw t (k.1 (f (h.0 t)))) (λ e. rw e) (either a),
)

pub implies_passes : {a b : Bool} {P Q : Type 0} → Passes a P → Passes b Q → Passes (not a || b) (P → Q)
implies_passes {a} {b} h k = (
  λ e p. k.0 (rw (h.1 p) at e),
  λ f. ⊎_elim (λ t. rw t (k.1 (f (h.0 t)))) (λ e. rw e) (either a),
)

pub or_passes : {a b : Bool} {P Q : Type 0} → Passes a P → Passes b Q → Passes (a || b) (P ⊎ Q)
or_passes {a} {b} h k = (
  λ e. ⊎_elim (λ t. inl (h.0 t)) (λ f. inr (k.0 (or_second a b f e))) (either a),
  λ r. ⊎_elim (λ p. rw (h.1 p)) (λ q. ⊎_elim (λ t. rw t) (λ f. rw f (k.1 q)) (either a)) r,
)

pub or_fails : {a b : Bool} {P Q : Type 0} → Fails a P → Fails b Q → Fails (a || b) (P × Q)
or_fails {a} {b} h k = (λ e. (h.0 (or_left_false a b e), k.0 (or_right_false a b e)), λ r. rw (h.1 r.0) (k.1 r.1))

-- One test where c passes, another where it fails.
pub cond_fails : {c a b : Bool} {C D P Q : Type 0} → Passes c C → Fails c D → Fails a P → Fails b Q → Fails (cond c a b) ((C → P) × (D → Q))
cond_fails {c} {a} {b} t f h k = (
  λ e. (λ x. h.0 (rw (t.1 x) at e), λ x. k.0 (rw (f.1 x) at e)),
  λ r. ⊎_elim (λ e. rw e (h.1 (r.0 (t.0 e)))) (λ e. rw e (k.1 (r.1 (f.0 e)))) (either c),
)

-- ---- the numbers below a bound

module _ (n : ℕ) {f : ℕ → Bool} {P : ℕ → Type 0} where
  pub all_pass : ((k : ℕ) → k < n → Passes (f k) (P k)) → Passes (all_below n f) ((k : ℕ) → k < n → P k)
  all_pass h = (λ e k l. (h k l).0 (all_at f n k e l), λ g. all_of f n (λ k l. (h k l).1 (g k l)))

  pub any_passes : ((k : ℕ) → k < n → Passes (f k) (P k)) → Passes (any_below n f) ((k : ℕ) × (k < n) × P k)
  any_passes h = (λ e. let (k, l, t) = any_where f n e in (k, l, (h k l).0 t), λ r. any_is f n r.0 r.1 ((h r.0 r.1).1 r.2))

  pub none_passes : ((k : ℕ) → k < n → Fails (f k) (P k)) → Fails (any_below n f) ((k : ℕ) → k < n → P k)
  none_passes h = (λ e k l. (h k l).0 (any_fails_at f n k e l), λ g. any_fails f n (λ k l. (h k l).1 (g k l)))

-- Where the first is below the bound, the test passes at it.
pub first_passes : (P : ℕ → Bool) (n : ℕ) → first_below n P < n → P (first_below n P) ≡ true
first_passes P n l =
    ⊎_elim (λ t. (first_where P n t).1)
    (λ f. let none : first_below n P ≡ n = first_no P n f in absurd (omega arith))
    (either (any_below n P))
