-- Of specs/Steps.antt, the theorems that an edit of a definition breaks, and what only they need.
use Rattle.std.specs.Prelude.{◌≡◌}
use Rattle.std.proofs.Math.Path.{ap}
use Rattle.std.proofs.Math.Bool.{true, false}
use Prim.Native.Nat.{ℕ, suc, ◌-◌, ◌<◌}
use native.Mathlib.Omega.{arith}
use Rattle.stored.specs.declared.Limits.{Limits}
use Rattle.stored.specs.declared.Layout.{Layout}
use Rattle.mesh_tables.specs.Tables.{leaf_hangs, hanging_edge}
use Rattle.refine_cut.specs.Slices.{Slices, tables_in}
use Rattle.refine_pass.specs.Passes.{exceeds}
use Rattle.refine_pass.specs.Puts.{pass_put, closing_put}

module _ (most : Limits) (l : Layout) where
  -- One pass of those that are left.
  pub closing_once : (passes left : ℕ) (s t : Slices) → left ≡ suc passes → exceeds most s.header ≡ false → hanging_edge (tables_in l s) ≡ true → t ≡ pass_put most l (leaf_hangs (tables_in l s)) s →
      closing_put most l passes t ≡ closing_put most l left s
  unfolding closing_put
  closing_once passes left s t one_more few hangs is = rw (one_more, few, hangs) (ap (closing_put most l passes) is)

  pub closing_next : (passes : ℕ) (s t : Slices) → 0 < passes → exceeds most s.header ≡ false → hanging_edge (tables_in l s) ≡ true → t ≡ pass_put most l (leaf_hangs (tables_in l s)) s →
      closing_put most l (passes - 1) t ≡ closing_put most l passes s
  closing_next passes s t some = closing_once (passes - 1) passes s t (omega arith)
