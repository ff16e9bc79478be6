-- What a line is made of: words and numbers as bytes.
use Rattle.std.specs.Prelude.{ℕ, zero, suc, ◌+◌, ◌/◌, ◌%◌, cond, List, [], ◌∷◌, ◌++◌, ltb}
use Prim.Native.Char.{code}
use Prim.Native.String.{String, [] as empty, ◌∷◌ as ◌◂◌}

-- A word's bytes, one for each character.
unfoldable pub word : String → List ℕ
word empty = []
word (c ◂ rest) = code c ∷ word rest

unfoldable pub line_feed : List ℕ
line_feed = 10 ∷ []

-- A digit's byte: that of the character 0 is 48.
unfoldable pub digit : ℕ → ℕ
digit d = 48 + d

-- The decimal digits of a number of at most so many.
unfoldable pub decimal_in : ℕ → ℕ → List ℕ
decimal_in zero n = []
decimal_in (suc most) n = cond (ltb n 10) (digit n ∷ []) (decimal_in most (n / 10) ++ (digit (n % 10) ∷ []))

-- A number's decimal digits, with no leading zeros, and 0 as one digit: it has at most one more than it counts.
unfoldable pub decimal : ℕ → List ℕ
decimal n = decimal_in (suc n) n

-- Numbers, each behind its word.
unfoldable pub figures : List (String × ℕ) → List ℕ
figures [] = []
figures ((name, n) ∷ rest) = word name ++ (decimal n ++ figures rest)
