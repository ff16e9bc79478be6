-- `slices::two`: both bytes are there, or the higher one is past the end.
-- Assumes nothing.
use mathlib.Core.Path.{◌≡◌, sym, ◌∙◌}
use Prim.Native.Nat.{ℕ, ◌+◌, ◌≤◌}
use native.Mathlib.Omega.{arith}
use mathlib.Core.List.{List}
use lib.ListN.{length, get_or, drop, get_or-eq_default}
use Rattle.laws.specs.Numbers.{number, number_two}
use Rattle.slices.proofs.two.Goals as goal
use Rattle.slices.proofs.two.Goals.{else-s-ge2-via-then-s-ge2+else-at-s, else-s-ge2-via-else-s-ge2}

-- Where the second byte is past the end.
lower_alone : (at : ℕ) (s : List ℕ) → length s ≤ at + 1 → get_or s at 0 ≡ number 2 (drop at s)
lower_alone at s l = sym (number_two at s ∙ rw (get_or-eq_default s 0 l) (omega arith))

pub returns-then-at-s-clause-value : goal.returns-then-at-s-clause-value
returns-then-at-s-clause-value c = c.pair.ensures.value ∙ sym (number_two c.args.at c.args.s.now)

pub returns-else-s-ge2-clause-value : goal.returns-else-s-ge2-clause-value
returns-else-s-ge2-clause-value c =
    let a = c.args in
    let short : length a.s.now ≤ a.at + 1 = elim c.else-s-ge2.branch [ else-s-ge2-via-then-s-ge2+else-at-s w ↦ omega (arith, w.if-at-s.false) | else-s-ge2-via-else-s-ge2 w ↦ omega (arith, w.if-s-ge2.false) ] in
    c.from.ensures ∙ c.byte.ensures ∙ lower_alone a.at a.s.now short
