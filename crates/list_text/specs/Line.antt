-- A line buffer and the place of its next byte.
use Rattle.std.specs.Prelude.{ℕ, ◌+◌, min, List, length}
use Rattle.std.proofs.lemmas.List.Edits.{sets}

pub record Line : Type 0 where
  pub bytes : List ℕ
  pub at : ℕ

abbrev pub line : List ℕ → ℕ → Line
line bytes at = record { bytes = bytes; at = at }

-- Bytes are put at the place, as far as there is room, and the place moves behind them.
unfoldable pub put : List ℕ → Line → Line
put t l = line (sets l.bytes l.at t) (min (length l.bytes) (l.at + length t))
