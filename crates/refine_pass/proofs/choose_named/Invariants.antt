-- `refine_pass::choose_named` has counted the numbers before i in a table that was cleared.
-- Assumes nothing.
use mathlib.Core.Path.{◌≡◌}
use Rattle.laws.specs.Links.{counted_at}
use Rattle.laws.specs.Counts.{counts_below}
use Rattle.stored.specs.Layout.{selection_in, named_in}
use Rattle.refine_pass.proofs.choose_named.Given as goal

abbrev pub invariant-loop-i : goal.invariant-loop-i
invariant-loop-i l = l.chosen ≡ counts_below (λ t j. counted_at t (named_in (selection_in l.format l.selection) j)) l.initial.chosen l.i
