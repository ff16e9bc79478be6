-- `list_text::bytes_at`: the bytes are put, and the place is behind them.
-- Assumes nothing.
use Rattle.std.proofs.Common.{◌≡◌, ◌∙◌, ap, List, ℕ, ◌+◌, min, length, arith}
use lib.Seq.{length-sets}
use Rattle.list_text.specs.Line.{line, put}
use Rattle.list_text.proofs.bytes_at.Goals as goal

pub returns : goal.returns
unfolding put
returns c =
    let same : length c.put.new.s ≡ length c.args.buffer.now = ap (λ (l : List ℕ). length l) c.put.ensures ∙ length-sets c.args.buffer.now c.args.at c.args.bytes.now in
    let place : c.min.result ≡ min (length c.args.buffer.now) (c.args.at + length c.args.bytes.now) = omega (arith, same, c.min.ensures, c.saturating_add.ensures) in
    λ i. line (c.put.ensures i) (place i)
