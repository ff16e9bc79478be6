-- `promises::are_i16` meets its contract. The loop's invariant: every coordinate passed is an i16.
use Prim.Native.Nat.{ℕ, ◌≤◌, ◌<◌, ◌-◌}
use lib.ListN.{length, get_or}
use lib.IntN.{pos}
use Rattle.demands_words.specs.Words.{I16}
use Rattle.promises.proofs.are_i16.Given as goal

abbrev pub invariant-loop-i : goal.invariant-loop-i
invariant-loop-i l = (l.i ≤ length l.coordinates) × ((k : ℕ) → k < l.i → I16 (get_or l.coordinates k (pos 0)))
