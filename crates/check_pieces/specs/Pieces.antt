-- Refusals 5 and 22, tried in this order: of one base record, and of all. Assumes nothing.
use Rattle.std.proofs.Math.Path.{◌≡◌, refl}
use Rattle.std.proofs.Common.{sym, ap, ◌∙◌, le_antisymm, add-one, arith}
use Rattle.std.specs.Prelude.{Bool, ◌||◌, ◌≢◌, [], ◌∷◌, ℕ, ◌+◌, ◌≤◌, ◌<◌, eqb}
use Rattle.std.proofs.Math.Bool.{true, false, cond}
use Rattle.laws.specs.Below.{any_below, any_none, any_suc, any_is, any_end}
use Rattle.laws.specs.Order.{row, first_broken}
use Rattle.mesh_tables.specs.Tables.{Tables, base_records}
use Rattle.check_refusals.specs.Refusals.{bad_base_record, bad_base_records, left_handed_record, left_handed_records}

-- The number of record n, and of the base records: 5, else 22, else 0.
unfoldable pub record_number : Tables → ℕ → ℕ
record_number m n = first_broken (row 5 (bad_base_record m n) ∷ row 22 (left_handed_record m n) ∷ [])

unfoldable pub pieces_number : Tables → ℕ
pieces_number m = first_broken (row 5 (bad_base_records m) ∷ row 22 (left_handed_records m) ∷ [])

-- 22 where one before n is left-handed.
unfoldable pub left_below : Tables → ℕ → ℕ
left_below m n = cond (any_below n (left_handed_record m)) 22 0

-- ---- what a record's number says

abbrev either_number : Bool → Bool → ℕ
either_number bad left = cond bad 5 (cond left 22 0)

is_5 : (bad left : Bool) → either_number bad left ≡ 5 → bad ≡ true
is_5 true left e = refl
is_5 false true e = absurd (omega arith)
is_5 false false e = absurd (omega arith)

not_bad : (bad left : Bool) → either_number bad left ≢ 5 → bad ≡ false
not_bad true left n = absurd (n refl)
not_bad false left n = refl

module _ (m : Tables) (n : ℕ) {x : ℕ} (is : x ≡ record_number m n) where
  number_is : x ≡ either_number (bad_base_record m n) (left_handed_record m n)
  unfolding record_number first_broken
  number_is = is

  pub found_5 : x ≡ 5 → bad_base_record m n ≡ true
  found_5 e = is_5 (bad_base_record m n) (left_handed_record m n) (sym number_is ∙ e)

  pub not_5 : x ≢ 5 → bad_base_record m n ≡ false
  not_5 n' = not_bad (bad_base_record m n) (left_handed_record m n) (λ e. n' (number_is ∙ e))

-- ---- the pass

module _ (m : Tables) where
  pub left_none : 0 ≡ left_below m 0
  unfolding left_below
  left_none = rw (any_none (left_handed_record m))

  -- One record more, which is not bad: its number is 22 or 0.
  pub left_next : (n : ℕ) {x left left' : ℕ} → x ≡ record_number m n → x ≢ 5 → left ≡ left_below m n → left' ≡ cond (eqb x 0) left x → left' ≡ left_below m (n + 1)
  unfolding left_below record_number first_broken
  left_next n {x} {left} is other before after =
      let number : x ≡ cond (left_handed_record m n) 22 0 = is ∙ rw (not_5 m n is other) in
      after
      ∙ (λ i. cond (eqb (number i) 0) (before i) (number i))
      ∙ rw (add-one, any_suc (left_handed_record m) n) (both (any_below n (left_handed_record m)) (left_handed_record m n))
    where
      both : (b c : Bool) → ◌≡◌ {A = ℕ} (cond (eqb (cond c 22 0) 0) (cond b 22 0) (cond c 22 0)) (cond (b || c) 22 0)
      both true true = refl
      both true false = refl
      both false true = refl
      both false false = refl

  pub pieces_5 : (n : ℕ) → n < base_records m → bad_base_record m n ≡ true → 5 ≡ pieces_number m
  unfolding pieces_number first_broken bad_base_records
  pieces_5 n l e = rw (any_is (bad_base_record m) (base_records m) n l e)

  pub pieces_end : (n : ℕ) {x : ℕ} → base_records m ≤ n → n ≤ base_records m → any_below n (bad_base_record m) ≡ false → x ≡ left_below m n → x ≡ pieces_number m
  unfolding pieces_number first_broken bad_base_records left_handed_records left_below
  pieces_end n h l none is =
      is ∙ rw (any_end (bad_base_record m) (base_records m) n h l none) (ap (λ (k : ℕ). cond (any_below k (left_handed_record m)) 22 0) (le_antisymm l h))

-- ---- what the number of all says

module _ (m : Tables) {x : ℕ} (is : x ≡ pieces_number m) where
  pub pieces_none : x ≡ 0 → (bad_base_records m ≡ false) × (left_handed_records m ≡ false)
  unfolding pieces_number first_broken
  pieces_none e = neither (bad_base_records m) (left_handed_records m) (sym is ∙ e)
    where
      neither : (bad left : Bool) → either_number bad left ≡ 0 → (bad ≡ false) × (left ≡ false)
      neither true left e = absurd (omega arith)
      neither false true e = absurd (omega arith)
      neither false false e = (refl, refl)

  -- Where it is not 0, nothing that is tried later is given.
  pub pieces_some : x ≢ 0 → (later : ℕ) → x ≡ cond (bad_base_records m) 5 (cond (left_handed_records m) 22 later)
  unfolding pieces_number first_broken
  pieces_some n later = is ∙ some (bad_base_records m) (left_handed_records m) (λ e. n (is ∙ e))
    where
      some : (bad left : Bool) → either_number bad left ≢ 0 → ◌≡◌ {A = ℕ} (cond bad 5 (cond left 22 0)) (cond bad 5 (cond left 22 later))
      some true left n = refl
      some false true n = refl
      some false false n = absurd (n refl)
