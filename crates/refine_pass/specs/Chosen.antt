-- The chosen records as a table, which is filled before a pass begins: what it has is what the selection names, or what hangs then.
use Rattle.std.specs.Prelude.{◌≡◌, refl, Bool, true, false, not, ◌||◌, List, ℕ, ◌+◌, ◌≤◌, ◌<◌, length, replicate, set, eqb}
use Rattle.std.proofs.Common.{sym, ap, ap₂, ◌∙◌, add-one, le_antisymm, arith, get_or-set_same, get_or-set_other, below_more}
use mir.Val.{bool_byte}
use Rattle.laws.specs.Below.{any_below, any_none, any_suc}
use Rattle.laws.specs.Links.{counted_at}
use Rattle.laws.specs.Counts.{counts_below, marked, counts_marked, key_marking}
use Rattle.stored.specs.declared.Limits.{Limits}
use Rattle.stored.specs.declared.Layout.{Layout}
use Rattle.stored.specs.Layout.{StoredSelection, named_in}
use Rattle.refine_selection.specs.Selected.{is_named}
use Rattle.refine_cut.specs.Slices.{Slices}
use Rattle.refine_pass.specs.Puts.{pass_put}
use Rattle.refine_pass.specs.Steps.{pass_same}

-- ---- what the selection names

-- The table of a selection's first `count` numbers, with so many places.
abbrev pub table_of : ℕ → StoredSelection → ℕ → List ℕ
table_of places selection count = counts_below (λ t i. counted_at t (named_in selection i)) (replicate places 0) count

-- What it says of a record that has a place.
pub named_is : (places : ℕ) (selection : StoredSelection) (count : ℕ) (named : List ℕ) → named ≡ table_of places selection count → (n : ℕ) → n < places → marked named n ≡ is_named count (named_in selection) n
unfolding is_named
named_is places selection count named is n l = ap (λ (t : List ℕ). marked t n) is ∙ counts_marked (λ t i. counted_at t (named_in selection i)) (λ i x. eqb (named_in selection i) x) (key_marking (named_in selection)) places count n l

-- So pass one by the table is pass one.
pub named_pass : (most : Limits) (l : Layout) (places : ℕ) (selection : StoredSelection) (count : ℕ) (named : List ℕ) → named ≡ table_of places selection count → (s t : Slices) → s.header.records ≤ places →
    t ≡ pass_put most l (marked named) s → t ≡ pass_put most l (is_named count (named_in selection)) s
named_pass most l places selection count named is s t few by =
    pass_same most l (marked named) (is_named count (named_in selection)) s t (λ k b. named_is places selection count named is k (omega arith)) by

-- ---- what hangs

-- Of the first n records the table has those with P; whether there is one.
pub record Chosen (P : ℕ → Bool) (n : ℕ) (table : List ℕ) (some : Bool) : Type 0 where
  pub each : (k : ℕ) → k < n → marked table k ≡ P k
  pub any : some ≡ any_below n P

module _ (P : ℕ → Bool) where
  pub chosen_none : (table : List ℕ) → Chosen P 0 table false
  chosen_none table = record { each = λ k l. absurd (omega arith); any = sym (any_none P) }

  -- One record more.
  pub chosen_next : (i : ℕ) (table : List ℕ) (some here : Bool) → Chosen P i table some → i < length table → here ≡ P i → Chosen P (i + 1) (set table i (bool_byte here)) (some || here)
  chosen_next i table some here was room is =
      record {
        each = below_more (λ (k : ℕ). marked (set table i (bool_byte here)) k ≡ P k) i (λ k l. ap (λ (x : ℕ). not (eqb x 0)) (get_or-set_other table i k (bool_byte here) 0 (λ e. omega arith)) ∙ was.each k l)
            (ap (λ (x : ℕ). not (eqb x 0)) (get_or-set_same table i (bool_byte here) 0 room) ∙ said here ∙ is);
        any = ap₂ ◌||◌ was.any is ∙ rw (add-one i, any_suc P i);
      }
    where
      said : (b : Bool) → not (eqb (bool_byte b) 0) ≡ b
      said true = refl
      said false = refl

  pub chosen_all : (n i : ℕ) (table : List ℕ) (some : Bool) → n ≤ i → i ≤ n → Chosen P i table some → Chosen P n table some
  chosen_all n i table some above below is = rw (le_antisymm above below) is
