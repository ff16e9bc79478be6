-- `list_text::number_at`: the library's digits are the decimal digits.
-- Assumes nothing.
use mathlib.Core.Path.{◌∙◌, ap}
use Prim.Native.Nat.{ℕ}
use mathlib.Core.List.{List}
use Rattle.list_text.specs.Line.{line, put}
use Rattle.list_text.specs.Decimal.{digits_decimal}
use Rattle.list_text.proofs.number_at.Goals as goal

pub returns : goal.returns
returns c = c.bytes_at.ensures ∙ ap (λ (t : List ℕ). put t (line c.args.buffer.now c.args.at)) (c.decimal-digits.ensures.digits ∙ digits_decimal c.decimal-digits.result c.args.n c.decimal-digits.ensures.len)
