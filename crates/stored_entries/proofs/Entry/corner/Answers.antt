-- `Entry::corner` meets its contract: the number where the slot stands.
-- Assumes nothing.
use mathlib.Core.Path.{◌≡◌, refl}
use mathlib.Core.List.{List}
use Prim.Native.Nat.{ℕ, zero, suc, ◌*◌, ◌<◌}
use native.Mathlib.Nat.{mul-le-mul_right}
use native.Mathlib.Omega.{arith}
use lib.ListN.{get_or}
use Rattle.stored.specs.declared.Format.{Format}
use Rattle.stored.specs.Layout.{number_width, number_at, or_none, corners_from}
use Rattle.stored_entries.proofs.Entry.corner.Goals as goal

in_slot : (f : Format) (s : List ℕ) (k : ℕ) → k < 4 → or_none f (number_at f s (number_width f * k)) ≡ get_or (corners_from f s) k 0
in_slot f s zero l = refl
in_slot f s (suc zero) l = refl
in_slot f s (suc (suc zero)) l = refl
in_slot f s (suc (suc (suc zero))) l = refl
in_slot f s (suc (suc (suc (suc k)))) l = absurd (omega arith)

pub overflow_mul-number_width : goal.overflow_mul-number_width
overflow_mul-number_width c = let most = mul-le-mul_right c.args.k c.number_width.ensures.upper_bound in record { fits = omega (arith, most, c.requires) }

pub returns : goal.returns
returns c = let a = c.args in rw (c.number_or_none.ensures, c.number_width.ensures.value) (in_slot a.self.now.format a.self.now.bytes.now a.k c.requires)
