-- Laws of decimal digits: they are the fewest that hold the number, and how many there are. Assumes nothing.
use Rattle.std.specs.Prelude.{ℕ, zero, suc, ◌+◌, ◌-◌, ◌*◌, ◌/◌, ◌%◌, ◌^◌, ◌≤◌, ◌<◌, ◌≡◌, Bool, cond, List, [], ◌∷◌, ◌++◌, ltb, length}
use Rattle.std.proofs.Common.{sym, ◌∙◌, ap, subst, ⊎_elim, mod-lt, mod-eq_of_lt, pow-suc, arith, lit<, ltb-true, ltb-false, lt-ltb, le-ltb, length-append}
use Rattle.std.proofs.Math.Nat.{one-le-pow}
use Rattle.io.specs.Digits.{hex_digit_ascii, last_digits, IsDigitCount}
use Rattle.laws.specs.Below.{either}
use Rattle.list_text.specs.Text.{digit, decimal_in, decimal}

-- A digit below 10 is the library's.
glyph_digit : (d : ℕ) → d < 10 → hex_digit_ascii d ≡ digit d
unfolding digit
glyph_digit d h = ap (λ (b : Bool). cond b (48 + d) (87 + d)) (lt-ltb d 10 h)

-- One digit, and more.
one : (most n : ℕ) → n < 10 → decimal_in (suc most) n ≡ digit n ∷ []
unfolding decimal_in
one most n h = ap (λ (b : Bool). cond b (digit n ∷ []) (decimal_in most (n / 10) ++ (digit (n % 10) ∷ []))) (lt-ltb n 10 h)

more : (most n : ℕ) → 10 ≤ n → decimal_in (suc most) n ≡ decimal_in most (n / 10) ++ (digit (n % 10) ∷ [])
unfolding decimal_in
more most n h = ap (λ (b : Bool). cond b (digit n ∷ []) (decimal_in most (n / 10) ++ (digit (n % 10) ∷ []))) (le-ltb n 10 h)

last : (n : ℕ) → hex_digit_ascii (n % 10) ≡ digit (n % 10)
last n = glyph_digit (n % 10) (mod-lt n (lit< tt))

-- A number of two digits and more is at least ten to one less than their count.
front : (k n : ℕ) → IsDigitCount 10 1 n (suc (suc k)) → 10 ^ suc k ≤ n
front k n f = let less : suc (suc k) - 1 ≡ suc k = omega arith in subst (λ (m : ℕ). 10 ^ m ≤ n) less (f.2 (omega arith))

digits_in : (k most n : ℕ) → k ≤ most → IsDigitCount 10 1 n k → last_digits 10 k n ≡ decimal_in most n
digits_in zero most n few f = absurd (omega (arith, f.0))
digits_in (suc k) zero n few f = absurd (omega arith)
digits_in (suc zero) (suc most) n few f =
    let small : n < 10 = f.1 in
    ap (λ (d : ℕ). d ∷ []) (last n ∙ ap digit (mod-eq_of_lt small)) ∙ sym (one most n small)
digits_in (suc (suc k)) (suc most) n few f =
    let large₁ : 10 ^ suc k ≤ n = front k n f in
    let less : k ≡ suc k - 1 = omega arith in
    let power : 10 ^ suc k ≡ 10 ^ k * 10 = pow-suc 10 k in
    let power₂ : 10 ^ suc (suc k) ≡ 10 ^ suc k * 10 = pow-suc 10 (suc k) in
    let some : 1 ≤ 10 ^ k = one-le-pow k 10 (lit< tt) in
    let large : 10 ≤ n = omega (arith, large₁, power, some) in
    let within : n < 10 ^ suc (suc k) = f.1 in
    ap (λ (d : ℕ). last_digits 10 (suc k) (n / 10) ++ (d ∷ [])) (last n)
    ∙ ap (λ (l : List ℕ). l ++ (digit (n % 10) ∷ []))
    (digits_in (suc k) most (n / 10) (omega arith) (omega arith, omega (arith, within, power₂), λ _. subst (λ (m : ℕ). 10 ^ m ≤ n / 10) less (omega (arith, large₁, power))))
    ∙ sym (more most n large)

-- So many digits, as fast as they count.
few_digits : (k n : ℕ) → 10 ^ k ≤ n → k < n
few_digits zero n h = omega (arith, h)
few_digits (suc k) n h =
    let power : 10 ^ suc k ≡ 10 ^ k * 10 = pow-suc 10 k in
    let some : 1 ≤ 10 ^ k = one-le-pow k 10 (lit< tt) in
    omega (arith, few_digits k (10 ^ k) (omega arith), h, power, some)

-- The fewest digits that hold a number are its decimal digits.
pub digits_decimal : (k n : ℕ) → IsDigitCount 10 1 n k → last_digits 10 k n ≡ decimal n
unfolding decimal
digits_decimal zero n f = absurd (omega (arith, f.0))
digits_decimal (suc zero) n f = digits_in 1 (suc n) n (omega arith) f
digits_decimal (suc (suc k)) n f = digits_in (suc (suc k)) (suc n) n (omega (arith, few_digits (suc k) n (front k n f))) f

length_in : (k most n : ℕ) → n < 10 ^ suc k → length (decimal_in most n) ≤ suc k
unfolding decimal_in
length_in k zero n h = omega arith
length_in zero (suc most) n h = rw (one most n h) (omega arith)
length_in (suc k) (suc most) n h =
    let power : 10 ^ suc (suc k) ≡ 10 ^ suc k * 10 = pow-suc 10 (suc k) in
    ⊎_elim
    (λ t. rw (one most n (ltb-true n 10 t)) (omega arith))
    (λ f. rw (more most n (ltb-false n 10 f), length-append (decimal_in most (n / 10)) (digit (n % 10) ∷ [])) (omega (arith, length_in k most (n / 10) (omega (arith, h, power)))))
    (either (ltb n 10))

-- A number below ten to the k has at most k digits.
pub decimal_length : (k n : ℕ) → n < 10 ^ suc k → length (decimal n) ≤ suc k
unfolding decimal
decimal_length k n h = length_in k (suc n) n h
