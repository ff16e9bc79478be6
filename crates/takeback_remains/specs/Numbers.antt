-- The new numbers of what remains, and the tables that hold them.
use Rattle.std.specs.Prelude.{◌≡◌, refl, Bool, true, false, not, List, [], ◌∷◌, ℕ, zero, suc, ◌+◌, ◌≤◌, ◌<◌, length, get_or, set, eqb, ltb}
use Rattle.std.proofs.Common.{sym, ap, ◌∙◌, ⊎_elim, not-suc-le-zero, eq-or-lt_of_le, le_of_suc-le-suc, add-one, arith, length-set, get_or-set_same, get_or-set_other, ltb-true, ltb-false, ne_eqb, below_more}
use Rattle.std.proofs.Math.ListN.{get_or-eq_default}
use Rattle.laws.specs.Below.{count_below, count_none, count_suc, count_at_most, list_below, list_length, list_at, list_of, either}
use Rattle.laws_remaining.specs.Remaining.{count_here}
use Rattle.stored.specs.Layout.{none}
use Rattle.takeback_remains.specs.Remains.{renumbered}

module _ (P : ℕ → Bool) where
  -- One that does not remain counts for nothing.
  count_gone : (n : ℕ) → P n ≡ false → count_below (suc n) P ≡ count_below n P
  count_gone n e = rw (count_suc P n, e) (omega arith)

  -- Past the last that remains no more are counted.
  pub count_all : (n room : ℕ) → n ≤ room → ((x : ℕ) → P x ≡ true → x < n) → count_below room P ≡ count_below n P
  count_all n zero h within = let e : n ≡ 0 = omega arith in rw e
  count_all n (suc room) h within =
      ⊎_elim
      (λ e. rw e)
      (λ (l : n < suc room).
      let up = le_of_suc-le-suc l in
      count_gone room (⊎_elim (λ t. absurd (omega (arith, within room t))) (λ f. f) (either (P room))) ∙ count_all n room up within)
      (eq-or-lt_of_le h)

  -- What remains, and what does not.
  pub new_stays : (x : ℕ) → P x ≡ true → renumbered P x ≡ count_below x P
  unfolding renumbered
  new_stays x e = rw e

  pub new_gone : (x : ℕ) → P x ≡ false → renumbered P x ≡ none
  unfolding renumbered
  new_gone x e = rw e

-- ---- the tables

-- The table of new numbers, as long as it is.
abbrev pub numbers_of : (ℕ → Bool) → ℕ → List ℕ
numbers_of remains room = list_below room (renumbered remains)

-- The new number that a table has for x; none past its end.
abbrev pub new_in : List ℕ → ℕ → ℕ
new_in numbers x = get_or numbers x none

-- What is there is read whatever stands for what is not.
pub whatever : (l : List ℕ) (i d e : ℕ) → i < length l → get_or l i d ≡ get_or l i e
whatever [] i d e h = absurd (not-suc-le-zero h)
whatever (x ∷ l) zero d e h = refl
whatever (x ∷ l) (suc i) d e h = whatever l i d e (le_of_suc-le-suc h)

-- The table as it is filled: the numbers below x have theirs, and so many of them remain.
pub record Numbering (P : ℕ → Bool) (start : List ℕ) (x next : ℕ) (numbers : List ℕ) : Type 0 where
  pub within : x ≤ length start
  pub long : length numbers ≡ length start
  pub counted : next ≡ count_below x P
  pub each : (k : ℕ) → k < x → get_or numbers k 0 ≡ renumbered P k

module _ (P : ℕ → Bool) (start : List ℕ) where
  pub numbering_none : Numbering P start 0 0 start
  numbering_none = record { within = omega arith; long = refl; counted = sym (count_none P); each = λ k l. absurd (not-suc-le-zero l) }

  -- One more gets its number.
  module _ (x next : ℕ) (numbers : List ℕ) (was : Numbering P start x next numbers) (there : x < length numbers) where
    put_each : (new : ℕ) → new ≡ renumbered P x → (k : ℕ) → k < x + 1 → get_or (set numbers x new) k 0 ≡ renumbered P k
    put_each new is =
        below_more (λ (k : ℕ). get_or (set numbers x new) k 0 ≡ renumbered P k) x (λ k l. get_or-set_other numbers x k new 0 (λ e. omega arith) ∙ was.each k l)
        (get_or-set_same numbers x new 0 there ∙ is)

    pub numbering_gone : P x ≡ false → Numbering P start (x + 1) next (set numbers x none)
    numbering_gone f =
        record {
          within = omega (arith, was.long);
          long = length-set numbers x none ∙ was.long;
          counted = was.counted ∙ sym (rw (add-one x) (count_gone P x f));
          each = put_each none (sym (new_gone P x f));
        }

    pub numbering_stays : P x ≡ true → Numbering P start (x + 1) (next + 1) (set numbers x next)
    numbering_stays t =
        record {
          within = omega (arith, was.long);
          long = length-set numbers x next ∙ was.long;
          counted = ap (λ (k : ℕ). k + 1) was.counted ∙ sym (count_here P x t);
          each = put_each next (was.counted ∙ sym (new_stays P x t));
        }

  pub numbering_all : (x next : ℕ) (numbers : List ℕ) → Numbering P start x next numbers → length numbers ≤ x → (numbers ≡ numbers_of P (length start)) × (next ≡ count_below (length start) P)
  numbering_all x next numbers is past =
      let end : x ≡ length start = omega (arith, is.within, is.long) in (
        sym (list_of (renumbered P) 0 numbers (λ k l. is.each k (omega (arith, is.long)))) ∙ ap (λ (n : ℕ). numbers_of P n) is.long,
        is.counted ∙ ap (λ (n : ℕ). count_below n P) end,
      )

-- Where nothing remains past the table, it says all: the new number of each x, and whether x remains.
pub numbers_say : (P : ℕ → Bool) (room : ℕ) → ((x : ℕ) → P x ≡ true → x < room) → new_in (numbers_of P room) ≡ renumbered P
numbers_say P room within = λ i x. at x i
  where
    at : (x : ℕ) → new_in (numbers_of P room) x ≡ renumbered P x
    at x =
        ⊎_elim
        (λ t. list_at (renumbered P) room x none (ltb-true x room t))
        (λ f.
        let past = ltb-false x room f in
        get_or-eq_default (numbers_of P room) none (rw (list_length (renumbered P) room) past)
        ∙ sym (new_gone P x (⊎_elim (λ p. absurd (omega (arith, within x p))) (λ q. q) (either (P x)))))
        (either (ltb x room))

pub new_tells : (P : ℕ → Bool) (room : ℕ) → room ≤ none → ((x : ℕ) → P x ≡ true → x < room) → (x : ℕ) → not (eqb (renumbered P x) none) ≡ P x
new_tells P room small within x =
    ⊎_elim
    (λ t. rw (new_stays P x t, ne_eqb (count_below x P) none (λ e. omega (arith, count_at_most P x, within x t))) (sym t))
    (λ f. rw (new_gone P x f) (sym f))
    (either (P x))
