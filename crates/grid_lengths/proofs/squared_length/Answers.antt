-- `grid_lengths::squared_length` meets its contract: a squared length is the sum of three squares, each small enough. Assumes nothing.
use mathlib.Core.Path.{◌≡◌, sym, ◌∙◌}
use Prim.Native.Nat.{ℕ, ◌+◌}
use Rattle.grid.specs.Places.{point_of}
use Rattle.grid_lengths.specs.LengthLaws.{squared_length_is}
use Rattle.grid_lengths.proofs.squared_length.Goals as goal

pub returns : goal.returns
returns c =
    let sum : (a b d e f g : ℕ) → a ≡ e → b ≡ f → d ≡ g → a + b + d ≡ e + f + g = λ a b d e f g p q r. λ i. p i + q i + r i in
    sum _ _ _ _ _ _ c.squared_difference.ensures.is c.squared_difference-2.ensures.is c.squared_difference-3.ensures.is
    ∙ sym (squared_length_is (point_of c.args.a) (point_of c.args.b))
