-- Little-endian numbers, once over the width in bytes.
use Rattle.std.specs.Prelude.{◌≡◌, refl, ℕ, zero, suc, ◌+◌, ◌*◌, ◌/◌, ◌%◌, ◌^◌, ◌≤◌, ◌<◌, List, [], ◌∷◌, ◌++◌, length, get_or, take, drop}
use Rattle.std.proofs.Common.{ap, ◌∙◌, le_of_lt, lt_of_le_of_lt, mul-le-mul_left, le-div_iff_mul-le, mul_comm, zero-add, add-zero, mul_assoc, pow-suc, mod-lt, div-lt_iff_lt-mul, le_of_suc-le-suc, not-suc-le-zero, suc-add, one-add, arith, drop-drop, get_or-drop, lit<}
use Rattle.std.proofs.Math.Nat.{pow-succ', mod-add-div}
use Rattle.laws.specs.Lists.{Bytes, bytes_none, bytes_cons, bytes_drop}

-- The number of a list's first w bytes, the lowest first. Past the end a byte is 0.
unfoldable pub number : ℕ → List ℕ → ℕ
number zero s = 0
number (suc w) s = get_or s 0 0 + 256 * number w (drop 1 s)

-- The w bytes of a number, the lowest first. What does not fit is dropped.
unfoldable pub number_bytes : ℕ → ℕ → List ℕ
number_bytes zero n = []
number_bytes (suc w) n = n % 256 ∷ number_bytes w (n / 256)

pub bytes_length : (w n : ℕ) → length (number_bytes w n) ≡ w
unfolding number_bytes
bytes_length zero n = refl
bytes_length (suc w) n = ap suc (bytes_length w (n / 256))

pub bytes_of_lem : (w n : ℕ) → Bytes (number_bytes w n)
unfolding number_bytes
bytes_of_lem zero n = bytes_none
bytes_of_lem (suc w) n = bytes_cons (mod-lt n (lit< tt)) (bytes_of_lem w (n / 256))

-- What was written is read back, whatever follows it.
pub number_bytes_lem : (w n : ℕ) (rest : List ℕ) → n < 256 ^ w → number w (number_bytes w n ++ rest) ≡ n
unfolding number number_bytes
number_bytes_lem zero n rest h = omega arith
number_bytes_lem (suc w) n rest h =
    rw (number_bytes_lem w (n / 256) rest ((div-lt_iff_lt-mul (lit< tt)).1 (rw (pow-suc 256 w) at h)))
    (mod-add-div n 256)

pub number_below : (w : ℕ) (s : List ℕ) → Bytes s → number w s < 256 ^ w
unfolding number
number_below zero s b = lit< tt
number_below (suc w) s b = rw (pow-suc 256 w) (omega (arith, b.byte 0, number_below w (drop 1 s) (bytes_drop 1 s b)))

-- What was read is written again.
pub bytes_number : (w : ℕ) (s : List ℕ) → Bytes s → w ≤ length s → number_bytes w (number w s) ≡ take w s
unfolding number number_bytes
bytes_number zero s b h = refl
bytes_number (suc w) [] b h = absurd (not-suc-le-zero h)
bytes_number (suc w) (x ∷ xs) b h =
    let low : (x + 256 * number w xs) % 256 ≡ x = omega (arith, b.byte 0) in
    let high : (x + 256 * number w xs) / 256 ≡ number w xs = omega (arith, b.byte 0) in
    rw (low, high) (ap (λ (r : List ℕ). x ∷ r) (bytes_number w xs (bytes_drop 1 (x ∷ xs) b) (le_of_suc-le-suc h)))

-- A wide number is two narrower ones, the lower first.
pub number_join : (v w : ℕ) (s : List ℕ) → number (v + w) s ≡ number v s + 256 ^ v * number w (drop v s)
unfolding number
number_join zero w s = rw (zero-add w) (omega arith)
number_join (suc v) w s =
    let high : ℕ = number w (drop (suc v) s) in
    let below : number (v + w) (drop 1 s) ≡ number v (drop 1 s) + 256 ^ v * high =
    number_join v w (drop 1 s) ∙ ap (λ (r : List ℕ). number v (drop 1 s) + 256 ^ v * number w r) (drop-drop v 1 s ∙ ap (λ (k : ℕ). drop k s) (one-add v)) in
    let up : 256 ^ suc v * high ≡ 256 * (256 ^ v * high) = rw (pow-succ' 256 v) (mul_assoc 256 (256 ^ v) high) in
    rw (suc-add v w, below, up) (omega arith)

-- A number of two bytes, byte by byte.
pub number_two : (at : ℕ) (s : List ℕ) → number 2 (drop at s) ≡ get_or s at 0 + 256 * get_or s (at + 1) 0
unfolding number
number_two at s = rw (drop-drop 1 at s, get_or-drop at s 0 0, get_or-drop (at + 1) s 0 0, add-zero at, add-zero (at + 1)) (omega arith)

-- Where entry i of width w begins: at 0 where entries are empty, else told by a quotient, within n or not.
pub entry_empty : (w i : ℕ) → w ≡ 0 → 0 ≡ w * i
entry_empty w i e = rw e (omega arith)

pub entry_within : (w i n : ℕ) → 0 < w → i ≤ n / w → w * i ≤ n
entry_within w i n h e = rw (mul_comm w i) ((le-div_iff_mul-le h).0 e)

pub entry_beyond : (w i n : ℕ) → 0 < w → n / w < i → n ≤ w * i
entry_beyond w i n h e = rw (mul_comm w i) (le_of_lt ((div-lt_iff_lt-mul h).0 e))

-- The product of two numbers of 32 bits fits 64.
pub product_fits : (a b : ℕ) → a < 4294967296 → b < 4294967296 → a * b < 18446744073709551616
product_fits a b ha hb = lt_of_le_of_lt (mul-le-mul_left a (le_of_lt hb)) (omega arith)
