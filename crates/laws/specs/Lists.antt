-- Laws of lists that recur and that the kit's lists don't have: entries of one width, runs that are written, copies that go on
-- turn by turn, and lists of bytes.
use Rattle.std.specs.Prelude.{cond, ◌≡◌, get_or, drop, set, replicate, leb, eqb}
use Rattle.std.proofs.Math.Path.{refl, sym, ap}
use Rattle.std.proofs.Common.{◌∙◌, ⊎_elim, zero-add, add-suc, suc-add, add-zero, le_of_suc-le-suc, not-suc-le-zero, le_refl, add-one, arith, length-append, take-append-drop, drop_of_length-le, drop-set-lt, take-add, take_all, ext_get_or, drop-cons, drop-drop, drop_at, lit<, leb-true, leb-false}
use Prim.Native.Nat.{ℕ, zero, suc, ◌+◌, ◌-◌, ◌*◌, ◌≤◌, ◌<◌, min, suc-le-suc}
use Rattle.std.proofs.Math.Nat.{mul-zero, mul-suc, add_comm}
use mathlib.Core.List.{List, [], ◌∷◌, ◌++◌, append_assoc, append-nil}
use Rattle.std.proofs.Math.ListN.{length, take}
use Rattle.std.proofs.lemmas.List.{length-replicate, get_or-replicate, take-set-le}
use Rattle.std.proofs.Math.Seq.{sets, length-sets, set_out, take-suc, take-nil, drop-append-add, length-take-le}
use Rattle.std.proofs.lemmas.List.Edits.{sets-eq}
use Rattle.laws.specs.Below.{either, list_below, list_none, list_suc}

-- ---- parts

module _ {ℓ} {A : Type ℓ} where
  -- a part and the part right after it
  pub take_run : (n m at : ℕ) (s : List A) → take n (drop at s) ++ take m (drop (at + n) s) ≡ take (n + m) (drop at s)
  take_run n m at s = rw (← drop-drop n at s) (sym (take-add n m (drop at s)))

  -- the part of one element
  pub take_one : (at : ℕ) (s : List A) (d : A) → at < length s → get_or s at d ∷ [] ≡ take 1 (drop at s)
  take_one at s d h = rw (drop-cons s at d h)

  -- a part of the front
  pub drop_take : (at n : ℕ) (s : List A) → drop at (take (at + n) s) ≡ take n (drop at s)
  drop_take zero n s = rw (zero-add n)
  drop_take (suc at) n [] = rw (suc-add at n) (sym (take-nil n))
  drop_take (suc at) n (x ∷ xs) = rw (suc-add at n) (drop_take at n xs)

  -- a list of four is its four elements
  pub four_of : (s : List A) (d : A) → length s ≡ 4 → get_or s 0 d ∷ get_or s 1 d ∷ get_or s 2 d ∷ get_or s 3 d ∷ [] ≡ s
  four_of s d h =
      ext_get_or d (get_or s 0 d ∷ get_or s 1 d ∷ get_or s 2 d ∷ get_or s 3 d ∷ []) s (sym h) at
    where
      at : (k : ℕ) → k < 4 → get_or (get_or s 0 d ∷ get_or s 1 d ∷ get_or s 2 d ∷ get_or s 3 d ∷ []) k d ≡ get_or s k d
      at zero l = refl
      at (suc zero) l = refl
      at (suc (suc zero)) l = refl
      at (suc (suc (suc zero))) l = refl
      at (suc (suc (suc (suc k)))) l = absurd (not-suc-le-zero (le_of_suc-le-suc (le_of_suc-le-suc (le_of_suc-le-suc (le_of_suc-le-suc l)))))

-- ---- entries, one after the other

-- f of each element of a list, one after the other.
unfoldable pub joined {ℓ κ} : {A : Type ℓ} {B : Type κ} → (A → List B) → List A → List B
joined f [] = []
joined f (x ∷ xs) = f x ++ joined f xs

module _ {ℓ κ} {A : Type ℓ} {B : Type κ} (f : A → List B) where
  pub joined_append : (a b : List A) → joined f (a ++ b) ≡ joined f a ++ joined f b
  unfolding joined
  joined_append [] b = refl
  joined_append (x ∷ xs) b = ap (λ (r : List B). f x ++ r) (joined_append xs b) ∙ sym (append_assoc (f x) (joined f xs) (joined f b))

  -- entries of one width make up what they are the entries of
  pub joined_below : (w n : ℕ) (g : ℕ → A) (t : List B) → ((i : ℕ) → i < n → f (g i) ≡ take w (drop (w * i) t)) → joined f (list_below n g) ≡ take (w * n) t
  unfolding joined
  joined_below w zero g t h = rw (list_none g, mul-zero w)
  joined_below w (suc n) g t h =
      rw (list_suc g n, joined_append (list_below n g) (g n ∷ []), joined_below w n g t (λ i l. h i (omega arith)), mul-suc w n)
      (ap (λ (r : List B). take (w * n) t ++ r) (append-nil (f (g n)) ∙ h n (le_refl (suc n))) ∙ sym (take-add (w * n) w t))

  module _ (w : ℕ) (wide : (x : A) → length (f x) ≡ w) where
    pub joined_length : (l : List A) → length (joined f l) ≡ w * length l
    unfolding joined
    joined_length [] = sym (mul-zero w)
    joined_length (x ∷ xs) = rw (length-append (f x) (joined f xs), wide x, joined_length xs, mul-suc w (length xs)) (add_comm w (w * length xs))

    -- past i entries stand the others
    pub joined_drop : (l : List A) (rest : List B) (i : ℕ) → i ≤ length l → drop (w * i) (joined f l ++ rest) ≡ joined f (drop i l) ++ rest
    unfolding joined
    joined_drop l rest zero h = rw (mul-zero w)
    joined_drop [] rest (suc i) h = absurd (not-suc-le-zero h)
    joined_drop (x ∷ xs) rest (suc i) h =
        rw (mul-suc w i, add_comm (w * i) w, append_assoc (f x) (joined f xs) rest, ← wide x)
        (drop-append-add (f x) (joined f xs ++ rest) (length (f x) * i) ∙ rw (wide x) (joined_drop xs rest i (le_of_suc-le-suc h)))

    -- entry i, and what follows it
    pub joined_at : (l : List A) (rest : List B) (i : ℕ) (d : A) → i < length l → drop (w * i) (joined f l ++ rest) ≡ f (get_or l i d) ++ (joined f (drop (suc i) l) ++ rest)
    unfolding joined
    joined_at l rest i d h =
        joined_drop l rest i (omega arith)
        ∙ ap (λ (r : List A). joined f r ++ rest) (drop-cons l i d h)
        ∙ append_assoc (f (get_or l i d)) (joined f (drop (suc i) l)) rest

-- ---- a run that is written

module _ {ℓ} {A : Type ℓ} where
  -- one run after the other
  pub sets_append : (t : List A) (at : ℕ) (a b : List A) → sets t at (a ++ b) ≡ sets (sets t at a) (at + length a) b
  sets_append t at [] b = rw (add-zero at)
  sets_append t at (x ∷ xs) b = sets_append (set t at x) (suc at) xs b ∙ ap (λ (k : ℕ). sets (sets (set t at x) (suc at) xs) k b) (suc-add at (length xs) ∙ sym (add-suc at (length xs)))

  -- what stands before it is as it was, and so is what stands after it
  pub sets_before : (t : List A) (at : ℕ) (b : List A) (n : ℕ) → n ≤ at → take n (sets t at b) ≡ take n t
  sets_before t at [] n h = refl
  sets_before t at (x ∷ xs) n h = sets_before (set t at x) (suc at) xs n (omega arith) ∙ take-set-le n t at x h

  pub sets_after : (t : List A) (at : ℕ) (b : List A) (n : ℕ) → at + length b ≤ n → drop n (sets t at b) ≡ drop n t
  sets_after t at [] n h = refl
  sets_after t at (x ∷ xs) n h = sets_after (set t at x) (suc at) xs n (omega arith) ∙ drop-set-lt n t at x (omega arith)

  -- the run is read back
  pub sets_run : (t : List A) (at : ℕ) (b : List A) → at + length b ≤ length t → drop at (sets t at b) ≡ b ++ drop (at + length b) t
  sets_run t at b h =
      ap (drop at) (sets-eq b t at h ∙ append_assoc (take at t) b (drop (at + length b) t))
      ∙ drop_at (take at t) (b ++ drop (at + length b) t) at (length-take-le at t (omega arith))

  -- a part that ends before the run is as it was (what begins after it, by `sets_after`)
  pub sets_part_before : (t : List A) (at : ℕ) (b : List A) (from n : ℕ) → from + n ≤ at → take n (drop from (sets t at b)) ≡ take n (drop from t)
  sets_part_before t at b from n h =
      sym (drop_take from n (sets t at b)) ∙ ap (drop from) (sets_before t at b (from + n) h) ∙ drop_take from n t

  -- past the end nothing is written
  pub sets_out : (t : List A) (at : ℕ) (b : List A) → length t ≤ at → sets t at b ≡ t
  sets_out t at [] h = refl
  sets_out t at (x ∷ xs) h = rw (set_out t at x h) (sets_out t (suc at) xs (omega arith))

  -- ---- a copy, turn by turn

  -- d, with s's first n elements written from at. It is shut: a loop's proof cites its laws.
  pub copied : List A → ℕ → List A → ℕ → List A
  copied d at s n = sets d at (take n s)

  module _ (d : List A) (at : ℕ) (s : List A) where
    pub copied_none : copied d at s 0 ≡ d
    unfolding copied
    copied_none = refl

    -- one more turn
    pub copied_next : (i : ℕ) (z : A) → i < length s → set (copied d at s i) (at + i) (get_or s i z) ≡ copied d at s (i + 1)
    unfolding copied
    copied_next i z h =
        rw (add-one i, take-suc s i z h, sets_append d at (take i s) (get_or s i z ∷ []), length-take-le i s (omega arith))

    -- it is done where all of s is written, and where d is full
    pub copied_all : (n : ℕ) → length s ≤ n → copied d at s n ≡ sets d at s
    unfolding copied
    copied_all n h = ap (sets d at) (take_all n s h)

    pub copied_full : (n : ℕ) → n ≤ length s → length d ≤ at + n → copied d at s n ≡ sets d at s
    unfolding copied
    copied_full n h full =
        sym (sets_out (sets d at (take n s)) (at + n) (drop n s) (rw (length-sets d at (take n s)) full))
        ∙ ap (λ (k : ℕ). sets (sets d at (take n s)) (at + k) (drop n s)) (sym (length-take-le n s h))
        ∙ sym (sets_append d at (take n s) (drop n s))
        ∙ ap (sets d at) (take-append-drop n s)

    -- and so with as many as there are, or as there is room for
    pub copied_whole : (n : ℕ) → n ≡ min (length s) (length d - at) → copied d at s n ≡ sets d at s
    copied_whole n e =
        ⊎_elim
        (λ all. let room : length s ≤ length d - at = leb-true (length s) (length d - at) all in copied_all n (omega arith))
        (λ full. let short : length d - at < length s = leb-false (length s) (length d - at) full in copied_full n (omega arith) (omega arith))
        (either (leb (length s) (length d - at)))

    -- so what fits is written as all of it is
    pub sets_fitting : (n : ℕ) → n ≡ min (length s) (length d - at) → sets d at (take n s) ≡ sets d at s
    unfolding copied
    sets_fitting n e = copied_whole n e

  -- clearing is the copy of n times z: one more turn
  pub cleared_next : (d : List A) (at n i : ℕ) (z : A) → i < n → set (copied d at (replicate n z) i) (at + i) z ≡ copied d at (replicate n z) (i + 1)
  cleared_next d at n i z h =
      ap (set (copied d at (replicate n z) i) (at + i)) (sym (get_or-replicate n i z z h))
      ∙ copied_next d at (replicate n z) i z (rw (length-replicate n z) h)

-- ---- clearing

-- a buffer that is clear, by its own length
pub clear_itself : (t : List ℕ) (n : ℕ) → t ≡ replicate n 0 → t ≡ replicate (length t) 0
clear_itself t n e = e ∙ ap (λ (k : ℕ). replicate {A = ℕ} k 0) (sym (ap length e ∙ length-replicate {A = ℕ} n 0))

pub clear_long : (t : List ℕ) (n : ℕ) → t ≡ replicate n 0 → length t ≡ n
clear_long t n e = ap length e ∙ length-replicate {A = ℕ} n 0

-- What is put at the beginning of a clear buffer is followed by zeros.
pub clear_with : (room : ℕ) (s : List ℕ) → length s ≤ room → sets (replicate room 0) 0 s ≡ s ++ replicate (room - length s) 0
clear_with room s l =
    sets-eq s (replicate room 0) 0 (rw (length-replicate {A = ℕ} room 0) (omega arith))
    ∙ ap (λ (r : List ℕ). s ++ r) (rest room (0 + length s))
    ∙ ap (λ (k : ℕ). s ++ replicate (room - k) 0) (zero-add (length s))
  where
    rest : (n k : ℕ) → drop {A = ℕ} k (replicate {A = ℕ} n 0) ≡ replicate {A = ℕ} (n - k) 0
    rest n zero = let e : n ≡ n - 0 = omega arith in ap (λ (j : ℕ). replicate {A = ℕ} j 0) e
    rest zero (suc k) = let e : 0 ≡ 0 - suc k = omega arith in ap (λ (j : ℕ). replicate {A = ℕ} j 0) e
    rest (suc n) (suc k) = let e : n - k ≡ suc n - suc k = omega arith in rest n k ∙ ap (λ (j : ℕ). replicate {A = ℕ} j 0) e

pub clear_next : (d : List ℕ) (i : ℕ) → i < length d → set (copied d 0 (replicate (length d) 0) i) i 0 ≡ copied d 0 (replicate (length d) 0) (i + 1)
clear_next d i h =
    ap (λ (k : ℕ). set (copied d 0 (replicate (length d) 0) i) k 0) (sym (zero-add i)) ∙ cleared_next d 0 (length d) i 0 h

pub clear_done : (d : List ℕ) (n : ℕ) → length d ≤ n → copied d 0 (replicate (length d) 0) n ≡ replicate (length d) 0
clear_done d n h =
    let zeros : List ℕ = replicate (length d) 0 in
    let long : length zeros ≡ length d = length-replicate {A = ℕ} (length d) 0 in
    copied_all d 0 zeros n (omega arith)
    ∙ sets-eq zeros d 0 (omega arith)
    ∙ ap (λ (r : List ℕ). zeros ++ r) (drop_of_length-le d {i = 0 + length zeros} (omega arith))
    ∙ append-nil zeros

-- ---- an output buffer

-- "zero past the result": the bytes, and zeros to the end of a buffer of so many.
abbrev pub zero_past : ℕ → List ℕ → List ℕ
zero_past room bytes = bytes ++ replicate (room - length bytes) 0

-- "After a refusal the output buffer is zero throughout; after acceptance it is zero past the result."
abbrev pub output_of : ℕ → ℕ → List ℕ → List ℕ
output_of number room bytes = let stored = zero_past room bytes in cond (eqb number 0) stored (replicate room 0)

-- ---- bytes

-- Every element is a byte.
pub record Bytes (l : List ℕ) : Type 0 where
  pub byte : (k : ℕ) → get_or l k 0 < 256

pub bytes_none : Bytes []
bytes_none = record { byte = λ k. lit< tt }

pub bytes_cons : {x : ℕ} {l : List ℕ} → x < 256 → Bytes l → Bytes (x ∷ l)
bytes_cons {x} {l} h b = record { byte = at }
  where
    at : (k : ℕ) → get_or (x ∷ l) k 0 < 256
    at zero = h
    at (suc k) = b.byte k

bytes_rest : (x : ℕ) (l : List ℕ) → Bytes (x ∷ l) → Bytes l
bytes_rest x l b = record { byte = λ k. b.byte (suc k) }

pub bytes_append : (a b : List ℕ) → Bytes a → Bytes b → Bytes (a ++ b)
bytes_append [] b p q = q
bytes_append (x ∷ xs) b p q = bytes_cons (p.byte 0) (bytes_append xs b (bytes_rest x xs p) q)

pub bytes_take : (n : ℕ) (l : List ℕ) → Bytes l → Bytes (take n l)
bytes_take zero l p = bytes_none
bytes_take (suc n) [] p = bytes_none
bytes_take (suc n) (x ∷ xs) p = bytes_cons (p.byte 0) (bytes_take n xs (bytes_rest x xs p))

pub bytes_drop : (n : ℕ) (l : List ℕ) → Bytes l → Bytes (drop n l)
bytes_drop zero l p = p
bytes_drop (suc n) [] p = p
bytes_drop (suc n) (x ∷ xs) p = bytes_drop n xs (bytes_rest x xs p)

pub bytes_set : (l : List ℕ) (i a : ℕ) → Bytes l → a < 256 → Bytes (set l i a)
bytes_set [] i a p h = p
bytes_set (x ∷ xs) zero a p h = bytes_cons h (bytes_rest x xs p)
bytes_set (x ∷ xs) (suc i) a p h = bytes_cons (p.byte 0) (bytes_set xs i a (bytes_rest x xs p) h)

pub bytes_sets : (l : List ℕ) (at : ℕ) (b : List ℕ) → Bytes l → Bytes b → Bytes (sets l at b)
bytes_sets l at [] p q = p
bytes_sets l at (x ∷ xs) p q = bytes_sets (set l at x) (suc at) xs (bytes_set l at x p (q.byte 0)) (bytes_rest x xs q)

pub bytes_joined {ℓ} : {A : Type ℓ} (f : A → List ℕ) (l : List A) → ((k : ℕ) (d : A) → k < length l → Bytes (f (get_or l k d))) → Bytes (joined f l)
unfolding joined
bytes_joined f [] h = bytes_none
bytes_joined f (x ∷ xs) h = bytes_append (f x) (joined f xs) (h 0 x (omega arith)) (bytes_joined f xs (λ k d l. h (suc k) d (suc-le-suc l)))
