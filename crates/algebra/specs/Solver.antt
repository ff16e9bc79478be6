-- The ring solver: two expressions have one value at all numbers if all coefficients of their difference are zero, which a test computes.
-- Variables are numbered. A normal form is a list of terms, each a coefficient and the numbers of its variables in rising order; the test's soundness needs no order.
-- Assumes nothing.
use Rattle.std.specs.Prelude.{◌≡◌, refl, Bool, true, false, cond, ◌&&◌, List, [], ◌∷◌, ℕ, get_or, T, leb, eqb, ℤ, pos, negsuc, neg_ℤ, ◌+ℤ◌, ◌-ℤ◌, ◌*ℤ◌}
use Rattle.std.proofs.Common.{sym, ◌∙◌, ap, eqb→eq}
use Rattle.std.proofs.Math.Facts.{and_yes}
use Rattle.std.proofs.Math.IntN.{+ℤ_idl, +ℤ_idr, +ℤ_assoc, +ℤ_comm, zero-*ℤ, *ℤ-zero, *ℤ_comm}
use Rattle.algebra.specs.Ring.{neg_times, plus_times, times_plus, times_assoc, times_swap, one_times, equal_of_difference}

pub data Expression : Type 0 where
  variable : ℕ → Expression
  number : ℤ → Expression
  plus minus times : Expression → Expression → Expression

-- an expression's value where the variables have these values
abbrev pub value_of : (ℕ → ℤ) → Expression → ℤ
value_of ρ (variable n) = ρ n
value_of ρ (number z) = z
value_of ρ (plus a b) = value_of ρ a +ℤ value_of ρ b
value_of ρ (minus a b) = value_of ρ a -ℤ value_of ρ b
value_of ρ (times a b) = value_of ρ a *ℤ value_of ρ b

-- ---- the normal form

pub record Term : Type 0 where
  pub coefficient : ℤ
  pub variables : List ℕ

abbrev pub with_variable : ℕ → List ℕ → List ℕ
with_variable n [] = n ∷ []
with_variable n (m ∷ ms) = let later = m ∷ with_variable n ms in cond (leb n m) (n ∷ m ∷ ms) later

abbrev pub with_variables : List ℕ → List ℕ → List ℕ
with_variables [] ms = ms
with_variables (n ∷ ns) ms = with_variable n (with_variables ns ms)

abbrev pub same_variables : List ℕ → List ℕ → Bool
same_variables [] [] = true
same_variables [] (m ∷ ms) = false
same_variables (n ∷ ns) [] = false
same_variables (n ∷ ns) (m ∷ ms) = let later = same_variables ns ms in cond (eqb n m) later false

abbrev pub with_term : ℤ → List ℕ → List Term → List Term
with_term c ns [] = record { coefficient = c; variables = ns } ∷ []
with_term c ns (t ∷ ts) =
    let here : List Term = record { coefficient = c +ℤ t.coefficient; variables = ns } ∷ ts in
    let later = t ∷ with_term c ns ts in
    cond (same_variables ns t.variables) here later

-- the terms of s, each times c and the variables ns, and the terms of r
abbrev pub with_product : ℤ → List ℕ → List Term → List Term → List Term
with_product c ns [] r = r
with_product c ns (t ∷ ts) r = with_term (c *ℤ t.coefficient) (with_variables ns t.variables) (with_product c ns ts r)

abbrev pub product_of : List Term → List Term → List Term
product_of [] s = []
product_of (t ∷ ts) s = with_product t.coefficient t.variables s (product_of ts s)

abbrev pub normal_of : Expression → List Term
normal_of (variable n) = record { coefficient = pos 1; variables = n ∷ [] } ∷ []
normal_of (number z) = record { coefficient = z; variables = [] } ∷ []
normal_of (plus a b) = with_product (pos 1) [] (normal_of a) (normal_of b)
normal_of (minus a b) = with_product (negsuc 0) [] (normal_of b) (normal_of a)
normal_of (times a b) = product_of (normal_of a) (normal_of b)

abbrev pub is_zero : ℤ → Bool
is_zero (pos n) = eqb n 0
is_zero (negsuc n) = false

abbrev pub all_zero : List Term → Bool
all_zero [] = true
all_zero (t ∷ ts) = is_zero t.coefficient && all_zero ts

-- the test: all coefficients of the difference are zero
abbrev pub agree : Expression → Expression → Bool
agree a b = all_zero (normal_of (minus a b))

-- ---- its soundness

-- a branch has what both of its ways have, each where the test goes that way
pick : {A : Type 0} (b : Bool) {x y : A} (P : A → Type 0) → (T b → P x) → P y → P (cond b x y)
pick true P f h = f tt
pick false P f h = h

same_variables_lem : (ns ms : List ℕ) → T (same_variables ns ms) → ns ≡ ms
same_variables_lem [] [] t = refl
same_variables_lem [] (m ∷ ms) t = absurd t
same_variables_lem (n ∷ ns) [] t = absurd t
same_variables_lem (n ∷ ns) (m ∷ ms) t = both (eqb n m) (same_variables ns ms) (eqb→eq n m) (same_variables_lem ns ms) t
  where
    both : (a b : Bool) → (T a → n ≡ m) → (T b → ns ≡ ms) → T (cond a b false) → n ∷ ns ≡ m ∷ ms
    both true b f g t = λ i. f tt i ∷ g t i
    both false b f g t = absurd t

zero_is : (z : ℤ) → T (is_zero z) → z ≡ pos 0
zero_is (pos n) t = ap pos (eqb→eq n 0 t)
zero_is (negsuc n) t = absurd t

module _ (ρ : ℕ → ℤ) where
  abbrev product_at : List ℕ → ℤ
  product_at [] = pos 1
  product_at (n ∷ ns) = ρ n *ℤ product_at ns

  abbrev sum_at : List Term → ℤ
  sum_at [] = pos 0
  sum_at (t ∷ ts) = t.coefficient *ℤ product_at t.variables +ℤ sum_at ts

  with_variable_lem : (n : ℕ) (ms : List ℕ) → product_at (with_variable n ms) ≡ ρ n *ℤ product_at ms
  with_variable_lem n [] = refl
  with_variable_lem n (m ∷ ms) =
      pick (leb n m) (λ (l : List ℕ). product_at l ≡ ρ n *ℤ product_at (m ∷ ms)) (λ t. refl)
      (ap (λ (x : ℤ). ρ m *ℤ x) (with_variable_lem n ms) ∙ times_swap (ρ m) (ρ n) (product_at ms))

  with_variables_lem : (ns ms : List ℕ) → product_at (with_variables ns ms) ≡ product_at ns *ℤ product_at ms
  with_variables_lem [] ms = sym (one_times (product_at ms))
  with_variables_lem (n ∷ ns) ms =
      with_variable_lem n (with_variables ns ms) ∙ ap (λ (x : ℤ). ρ n *ℤ x) (with_variables_lem ns ms)
      ∙ sym (times_assoc (ρ n) (product_at ns) (product_at ms))

  with_term_lem : (c : ℤ) (ns : List ℕ) (ts : List Term) → sum_at (with_term c ns ts) ≡ c *ℤ product_at ns +ℤ sum_at ts
  with_term_lem c ns [] = refl
  with_term_lem c ns (t ∷ ts) =
      let k = t.coefficient in
      let p = product_at ns in
      let q = product_at t.variables in
      let s = sum_at ts in
      pick (same_variables ns t.variables) (λ (l : List Term). sum_at l ≡ c *ℤ p +ℤ (k *ℤ q +ℤ s))
      (λ h. ap (λ (x : ℤ). x +ℤ s) (plus_times c k p) ∙ +ℤ_assoc (c *ℤ p) (k *ℤ p) s
      ∙ ap (λ (l : List ℕ). c *ℤ p +ℤ (k *ℤ product_at l +ℤ s)) (same_variables_lem ns t.variables h))
      (ap (λ (x : ℤ). k *ℤ q +ℤ x) (with_term_lem c ns ts) ∙ sym (+ℤ_assoc (k *ℤ q) (c *ℤ p) s)
      ∙ ap (λ (x : ℤ). x +ℤ s) (+ℤ_comm (k *ℤ q) (c *ℤ p)) ∙ +ℤ_assoc (c *ℤ p) (k *ℤ q) s)

  with_product_lem : (c : ℤ) (ns : List ℕ) (s r : List Term) → sum_at (with_product c ns s r) ≡ c *ℤ (product_at ns *ℤ sum_at s) +ℤ sum_at r
  with_product_lem c ns [] r =
      sym (ap (λ (x : ℤ). c *ℤ x +ℤ sum_at r) (*ℤ-zero (product_at ns)) ∙ ap (λ (x : ℤ). x +ℤ sum_at r) (*ℤ-zero c) ∙ +ℤ_idl (sum_at r))
  with_product_lem c ns (t ∷ ts) r =
      let k = t.coefficient in
      let p = product_at ns in
      let q = product_at t.variables in
      with_term_lem (c *ℤ k) (with_variables ns t.variables) (with_product c ns ts r)
      ∙ ap (λ (x : ℤ). c *ℤ k *ℤ x +ℤ sum_at (with_product c ns ts r)) (with_variables_lem ns t.variables)
      ∙ ap (λ (x : ℤ). c *ℤ k *ℤ (p *ℤ q) +ℤ x) (with_product_lem c ns ts r)
      ∙ sym (+ℤ_assoc (c *ℤ k *ℤ (p *ℤ q)) (c *ℤ (p *ℤ sum_at ts)) (sum_at r))
      ∙ ap (λ (x : ℤ). x +ℤ c *ℤ (p *ℤ sum_at ts) +ℤ sum_at r) (times_assoc c k (p *ℤ q) ∙ ap (λ (x : ℤ). c *ℤ x) (times_swap k p q))
      ∙ ap (λ (x : ℤ). x +ℤ sum_at r) (sym (times_plus c (p *ℤ (k *ℤ q)) (p *ℤ sum_at ts)))
      ∙ ap (λ (x : ℤ). c *ℤ x +ℤ sum_at r) (sym (times_plus p (k *ℤ q) (sum_at ts)))

  product_is : (r s : List Term) → sum_at (product_of r s) ≡ sum_at r *ℤ sum_at s
  product_is [] s = sym (zero-*ℤ (sum_at s))
  product_is (t ∷ ts) s =
      let c = t.coefficient in
      let p = product_at t.variables in
      with_product_lem c t.variables s (product_of ts s) ∙ ap (λ (x : ℤ). c *ℤ (p *ℤ sum_at s) +ℤ x) (product_is ts s)
      ∙ ap (λ (x : ℤ). x +ℤ sum_at ts *ℤ sum_at s) (sym (times_assoc c p (sum_at s)))
      ∙ sym (plus_times (c *ℤ p) (sum_at ts) (sum_at s))

  normal_is : (e : Expression) → sum_at (normal_of e) ≡ value_of ρ e
  normal_is (variable n) = +ℤ_idr (pos 1 *ℤ (ρ n *ℤ pos 1)) ∙ one_times (ρ n *ℤ pos 1) ∙ *ℤ_comm (ρ n) (pos 1) ∙ one_times (ρ n)
  normal_is (number z) = +ℤ_idr (z *ℤ pos 1) ∙ *ℤ_comm z (pos 1) ∙ one_times z
  normal_is (plus a b) =
      with_product_lem (pos 1) [] (normal_of a) (normal_of b) ∙ ap (λ (x : ℤ). pos 1 *ℤ (pos 1 *ℤ x) +ℤ sum_at (normal_of b)) (normal_is a)
      ∙ ap (λ (x : ℤ). pos 1 *ℤ (pos 1 *ℤ value_of ρ a) +ℤ x) (normal_is b)
      ∙ ap (λ (x : ℤ). x +ℤ value_of ρ b) (one_times (pos 1 *ℤ value_of ρ a) ∙ one_times (value_of ρ a))
  normal_is (minus a b) =
      with_product_lem (negsuc 0) [] (normal_of b) (normal_of a) ∙ ap (λ (x : ℤ). negsuc 0 *ℤ (pos 1 *ℤ x) +ℤ sum_at (normal_of a)) (normal_is b)
      ∙ ap (λ (x : ℤ). negsuc 0 *ℤ (pos 1 *ℤ value_of ρ b) +ℤ x) (normal_is a)
      ∙ ap (λ (x : ℤ). x +ℤ value_of ρ a) (neg_times (pos 1) (pos 1 *ℤ value_of ρ b) ∙ ap neg_ℤ (one_times (pos 1 *ℤ value_of ρ b) ∙ one_times (value_of ρ b)))
      ∙ +ℤ_comm (neg_ℤ (value_of ρ b)) (value_of ρ a)
  normal_is (times a b) =
      product_is (normal_of a) (normal_of b) ∙ ap (λ (x : ℤ). x *ℤ sum_at (normal_of b)) (normal_is a) ∙ ap (λ (x : ℤ). value_of ρ a *ℤ x) (normal_is b)

  all_zero_lem : (ts : List Term) → T (all_zero ts) → sum_at ts ≡ pos 0
  all_zero_lem [] t = refl
  all_zero_lem (t ∷ ts) h =
      let (here, later) = and_yes (is_zero t.coefficient) (all_zero ts) h in
      ap (λ (x : ℤ). x *ℤ product_at t.variables +ℤ sum_at ts) (zero_is t.coefficient here)
      ∙ ap (λ (x : ℤ). x +ℤ sum_at ts) (zero-*ℤ (product_at t.variables))
      ∙ ap (λ (x : ℤ). pos 0 +ℤ x) (all_zero_lem ts later)

-- the variables' values in order, 0 past the list's end
abbrev pub values_in : List ℤ → ℕ → ℤ
values_in zs n = get_or zs n (pos 0)

-- two expressions that the test finds alike have one value, whatever the variables' values
pub solve : (a b : Expression) → T (agree a b) → (zs : List ℤ) → value_of (values_in zs) a ≡ value_of (values_in zs) b
solve a b t zs =
    let ρ = values_in zs in
    equal_of_difference (value_of ρ a) (value_of ρ b)
    (sym (normal_is ρ (minus a b)) ∙ all_zero_lem ρ (normal_of (minus a b)) t)
