-- A table of entries of one width in two slices: where each entry stands, and what writing one leaves of the others and of another table.
use Rattle.std.specs.Prelude.{◌≡◌, Bool, ◌&&◌, ◌≢◌, ℕ, ◌+◌, ◌-◌, ◌*◌, ◌≤◌, ◌<◌, take, drop}
use Rattle.std.proofs.Math.Path.{refl}
use Rattle.std.proofs.Common.{sym, ap, ◌∙◌, ⊎_elim, mul-suc, mul-le-mul_left, arith, drop-drop, take_at}
use Rattle.std.proofs.Math.Bool.{true, false, cond}
use mathlib.Core.List.{List, []}
use Rattle.std.proofs.Math.ListN.{length}
use Rattle.std.proofs.lemmas.List.Edits.{sets}
use Rattle.std.proofs.Math.Seq.{length-sets}
use Rattle.std.proofs.Math.Dec.{leb, ltb}
use borrow.Author.Tests.{lt-ltb, le-ltb, le-leb, lt-leb, ltb-true, ltb-false, leb-true}
use Rattle.laws.specs.Below.{either, and_false, and_left, and_right}
use Rattle.laws.specs.Lists.{sets_after, sets_run, sets_part_before}
use Rattle.stored.specs.declared.Table.{Table}
use Rattle.stored.specs.Layout.{held_in, base_into, grown_into}

-- Each entry lies within its slice.
pub record Room (t : Table) (base grown : List ℕ) : Type 0 where
  pub in_base : (i : ℕ) → i < t.end → i < t.count → t.base + t.width * i + t.width ≤ length base
  pub in_growth : (i : ℕ) → i < t.end → t.count ≤ i → t.grown + t.width * (i - t.count) + t.width ≤ length grown

-- Each entry of t ends where the entries of u have not begun.
pub record Before (t u : Table) : Type 0 where
  pub in_base : (i : ℕ) → i < t.end → i < t.count → t.base + t.width * i + t.width ≤ u.base
  pub in_growth : (i : ℕ) → i < t.end → t.count ≤ i → t.grown + t.width * (i - t.count) + t.width ≤ u.grown

-- ---- where an entry stands

module _ (t : Table) (base grown : List ℕ) (i : ℕ) where
  pub held_base : i < t.end → i < t.count → held_in t base grown i ≡ take t.width (drop (t.width * i) (drop t.base base))
  unfolding held_in
  held_base e c = rw (lt-ltb i t.end e, lt-ltb i t.count c)

  pub held_growth : i < t.end → t.count ≤ i → held_in t base grown i ≡ take t.width (drop (t.width * (i - t.count)) (drop t.grown grown))
  unfolding held_in
  held_growth e c = rw (lt-ltb i t.end e, le-ltb i t.count c)

  pub held_none : t.end ≤ i → held_in t base grown i ≡ []
  unfolding held_in
  held_none e = rw (le-ltb i t.end e)

-- Two tables of as many entries hold the same where they do below their end.
pub same_held : (t u : Table) (a b c d : List ℕ) → t.end ≡ u.end → ((i : ℕ) → i < t.end → held_in t a b i ≡ held_in u c d i) → (i : ℕ) → held_in t a b i ≡ held_in u c d i
same_held t u a b c d ends same i =
    ⊎_elim
    (λ l. same i (ltb-true i t.end l))
    (λ g. let e = ltb-false i t.end g in held_none t a b i e ∙ sym (held_none u c d i (omega arith)))
    (either (ltb i t.end))

-- ---- where an entry is written

module _ (t : Table) (s : List ℕ) (i : ℕ) (bytes : List ℕ) where
  pub into_base : i < t.end → i < t.count → sets s (t.base + t.width * i) bytes ≡ base_into t s i bytes
  unfolding base_into
  into_base e c = rw (lt-ltb i t.end e, lt-ltb i t.count c)

  pub not_into_base : t.count ≤ i → s ≡ base_into t s i bytes
  unfolding base_into
  not_into_base c = rw (le-ltb i t.count c, and_false (ltb i t.end))

  pub into_growth : i < t.end → t.count ≤ i → sets s (t.grown + t.width * (i - t.count)) bytes ≡ grown_into t s i bytes
  unfolding grown_into
  into_growth e c = rw (lt-ltb i t.end e, le-leb t.count i c)

  pub not_into_growth : i < t.count → s ≡ grown_into t s i bytes
  unfolding grown_into
  not_into_growth c = rw (lt-leb t.count i c, and_false (ltb i t.end))

  pub past_end_base : t.end ≤ i → s ≡ base_into t s i bytes
  unfolding base_into
  past_end_base e = rw (le-ltb i t.end e)

  pub past_end_growth : t.end ≤ i → s ≡ grown_into t s i bytes
  unfolding grown_into
  past_end_growth e = rw (le-ltb i t.end e)

  pub base_length_lem : length (base_into t s i bytes) ≡ length s
  unfolding base_into
  base_length_lem = go (ltb i t.end && ltb i t.count)
    where
      go : (b : Bool) → length (cond b (sets s (t.base + t.width * i) bytes) s) ≡ length s
      go true = length-sets s (t.base + t.width * i) bytes
      go false = refl

  pub growth_length : length (grown_into t s i bytes) ≡ length s
  unfolding grown_into
  growth_length = go (ltb i t.end && leb t.count i)
    where
      go : (b : Bool) → length (cond b (sets s (t.grown + t.width * (i - t.count)) bytes) s) ≡ length s
      go true = length-sets s (t.grown + t.width * (i - t.count)) bytes
      go false = refl

-- ---- what is read after an entry was written

-- The w bytes from at on, counted from where the table begins.
abbrev part : ℕ → ℕ → List ℕ → ℕ → List ℕ
part w from s at = take w (drop at (drop from s))

module _ (s : List ℕ) (w from : ℕ) where
  part_same : (at : ℕ) (bytes : List ℕ) → length bytes ≡ w → from + at + w ≤ length s → part w from (sets s (from + at) bytes) at ≡ bytes
  part_same at bytes wide l =
      ap (take w) (drop-drop at from (sets s (from + at) bytes) ∙ sets_run s (from + at) bytes (omega arith))
      ∙ take_at bytes (drop (from + at + length bytes) s) w wide

  part_before : (at to : ℕ) (bytes : List ℕ) → from + at + w ≤ to → part w from (sets s to bytes) at ≡ part w from s at
  part_before at to bytes l =
      ap (take w) (drop-drop at from (sets s to bytes)) ∙ sets_part_before s to bytes (from + at) w l ∙ ap (take w) (sym (drop-drop at from s))

  part_after : (at to : ℕ) (bytes : List ℕ) → to + length bytes ≤ from + at → part w from (sets s to bytes) at ≡ part w from s at
  part_after at to bytes l =
      ap (take w) (drop-drop at from (sets s to bytes)) ∙ ap (take w) (sets_after s to bytes (from + at) l) ∙ ap (take w) (sym (drop-drop at from s))

  part_other : (i j : ℕ) (bytes : List ℕ) → length bytes ≡ w → j ≢ i → part w from (sets s (from + w * i) bytes) (w * j) ≡ part w from s (w * j)
  part_other i j bytes wide ne =
      ⊎_elim
      (λ l. part_before (w * j) (from + w * i) bytes (let n = next j i (ltb-true j i l) in omega arith))
      (λ g. part_after (w * j) (from + w * i) bytes (let n = next i j (omega (arith, ltb-false j i g)) in omega arith))
      (either (ltb j i))
    where
      next : (a b : ℕ) → a < b → w * a + w ≤ w * b
      next a b l = rw (← mul-suc w a) (mul-le-mul_left w l)

module _ (t : Table) (base grown : List ℕ) (i : ℕ) (bytes : List ℕ) (wide : length bytes ≡ t.width) where
  -- the entry itself
  pub held_same : Room t base grown → i < t.end → held_in t (base_into t base i bytes) (grown_into t grown i bytes) i ≡ bytes
  held_same room e =
      ⊎_elim
      (λ c. let l : i < t.count = ltb-true i t.count c in
      held_base t (base_into t base i bytes) (grown_into t grown i bytes) i e l
      ∙ ap (λ (s : List ℕ). part t.width t.base s (t.width * i)) (sym (into_base t base i bytes e l))
      ∙ part_same base t.width t.base (t.width * i) bytes wide (room.in_base i e l))
      (λ c. let l : t.count ≤ i = ltb-false i t.count c in
      held_growth t (base_into t base i bytes) (grown_into t grown i bytes) i e l
      ∙ ap (λ (s : List ℕ). part t.width t.grown s (t.width * (i - t.count))) (sym (into_growth t grown i bytes e l))
      ∙ part_same grown t.width t.grown (t.width * (i - t.count)) bytes wide (room.in_growth i e l))
      (either (ltb i t.count))

  base_other : (j : ℕ) → j ≢ i → part t.width t.base (base_into t base i bytes) (t.width * j) ≡ part t.width t.base base (t.width * j)
  unfolding base_into
  base_other j ne = go (ltb i t.end && ltb i t.count)
    where
      go : (b : Bool) → part t.width t.base (cond b (sets base (t.base + t.width * i) bytes) base) (t.width * j) ≡ part t.width t.base base (t.width * j)
      go true = part_other base t.width t.base i j bytes wide ne
      go false = refl

  growth_other : (j : ℕ) → t.count ≤ j → j ≢ i → part t.width t.grown (grown_into t grown i bytes) (t.width * (j - t.count)) ≡ part t.width t.grown grown (t.width * (j - t.count))
  unfolding grown_into
  growth_other j c ne = go (ltb i t.end && leb t.count i) (λ h. leb-true t.count i (and_right (ltb i t.end) (leb t.count i) h))
    where
      go : (b : Bool) → (b ≡ true → t.count ≤ i) → part t.width t.grown (cond b (sets grown (t.grown + t.width * (i - t.count)) bytes) grown) (t.width * (j - t.count)) ≡ part t.width t.grown grown (t.width * (j - t.count))
      go true h = let d : t.count ≤ i = h refl in part_other grown t.width t.grown (i - t.count) (j - t.count) bytes wide (λ e. ne (omega arith))
      go false h = refl

  -- every other entry
  pub held_other : (j : ℕ) → j ≢ i → held_in t (base_into t base i bytes) (grown_into t grown i bytes) j ≡ held_in t base grown j
  unfolding held_in
  held_other j ne = go (ltb j t.end) (ltb j t.count) (ltb-false j t.count)
    where
      go : (e c : Bool) → (c ≡ false → t.count ≤ j) →
          cond e (cond c (part t.width t.base (base_into t base i bytes) (t.width * j)) (part t.width t.grown (grown_into t grown i bytes) (t.width * (j - t.count)))) []
          ≡ cond e (cond c (part t.width t.base base (t.width * j)) (part t.width t.grown grown (t.width * (j - t.count)))) []
      go false c h = refl
      go true true h = base_other j ne
      go true false h = growth_other j (h refl) ne

-- every entry of a table that stands before, after an entry of u was written
module _ (t u : Table) (apart : Before t u) (base grown : List ℕ) (i : ℕ) (bytes : List ℕ) where
  pub held_before : (j : ℕ) → held_in t (base_into u base i bytes) (grown_into u grown i bytes) j ≡ held_in t base grown j
  unfolding held_in base_into grown_into
  held_before j =
      go (ltb j t.end) (ltb j t.count) (ltb i u.end && ltb i u.count) (ltb i u.end && leb u.count i)
      (ltb-true j t.end) (ltb-true j t.count) (ltb-false j t.count)
    where
      go : (e c b g : Bool) → (e ≡ true → j < t.end) → (c ≡ true → j < t.count) → (c ≡ false → t.count ≤ j) →
          cond e (cond c (part t.width t.base (cond b (sets base (u.base + u.width * i) bytes) base) (t.width * j)) (part t.width t.grown (cond g (sets grown (u.grown + u.width * (i - u.count)) bytes) grown) (t.width * (j - t.count)))) []
          ≡ cond e (cond c (part t.width t.base base (t.width * j)) (part t.width t.grown grown (t.width * (j - t.count)))) []
      go false c b g p q r = refl
      go true true true g p q r = let l = apart.in_base j (p refl) (q refl) in part_before base t.width t.base (t.width * j) (u.base + u.width * i) bytes (omega arith)
      go true true false g p q r = refl
      go true false b true p q r = let l = apart.in_growth j (p refl) (r refl) in part_before grown t.width t.grown (t.width * (j - t.count)) (u.grown + u.width * (i - u.count)) bytes (omega arith)
      go true false b false p q r = refl

-- every entry of a table that stands after, after an entry of t was written
module _ (t u : Table) (apart : Before t u) (base grown : List ℕ) (i : ℕ) (bytes : List ℕ) (wide : length bytes ≡ t.width) where
  pub held_after : (j : ℕ) → held_in u (base_into t base i bytes) (grown_into t grown i bytes) j ≡ held_in u base grown j
  unfolding held_in base_into grown_into
  held_after j =
      go (ltb j u.end) (ltb j u.count) (ltb i t.end && ltb i t.count) (ltb i t.end && leb t.count i)
      (λ h. (ltb-true i t.end (and_left (ltb i t.end) (ltb i t.count) h), ltb-true i t.count (and_right (ltb i t.end) (ltb i t.count) h)))
      (λ h. (ltb-true i t.end (and_left (ltb i t.end) (leb t.count i) h), leb-true t.count i (and_right (ltb i t.end) (leb t.count i) h)))
    where
      go : (e c b g : Bool) → (b ≡ true → (i < t.end) × (i < t.count)) → (g ≡ true → (i < t.end) × (t.count ≤ i)) →
          cond e (cond c (part u.width u.base (cond b (sets base (t.base + t.width * i) bytes) base) (u.width * j)) (part u.width u.grown (cond g (sets grown (t.grown + t.width * (i - t.count)) bytes) grown) (u.width * (j - u.count)))) []
          ≡ cond e (cond c (part u.width u.base base (u.width * j)) (part u.width u.grown grown (u.width * (j - u.count)))) []
      go false c b g p q = refl
      go true true true g p q = let l = apart.in_base i (p refl).0 (p refl).1 in part_after base u.width u.base (u.width * j) (t.base + t.width * i) bytes (omega arith)
      go true true false g p q = refl
      go true false b true p q = let l = apart.in_growth i (q refl).0 (q refl).1 in part_after grown u.width u.grown (u.width * (j - u.count)) (t.grown + t.width * (i - t.count)) bytes (omega arith)
      go true false b false p q = refl
