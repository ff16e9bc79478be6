-- A number of four bytes, byte by byte.
use Rattle.std.specs.Prelude.{◌≡◌, ℕ, ◌+◌, ◌*◌, List, [], ◌∷◌, get_or, drop}
use Rattle.std.proofs.Common.{arith, ap, ◌∙◌, add-zero, get_or-drop}
use Rattle.laws.specs.Numbers.{number}

pub number_four : (s : List ℕ) → get_or s 0 0 + get_or s 1 0 * 256 + get_or s 2 0 * 65536 + get_or s 3 0 * 16777216 ≡ number 4 s
unfolding number
number_four [] = omega arith
number_four (a ∷ []) = omega arith
number_four (a ∷ b ∷ []) = omega arith
number_four (a ∷ b ∷ c ∷ []) = omega arith
number_four (a ∷ b ∷ c ∷ d ∷ s) = omega arith

pub number_four_at : (at : ℕ) (s : List ℕ) → get_or s at 0 + get_or s (at + 1) 0 * 256 + get_or s (at + 2) 0 * 65536 + get_or s (at + 3) 0 * 16777216 ≡ number 4 (drop at s)
number_four_at at s =
    let first : get_or (drop at s) 0 0 ≡ get_or s at 0 = get_or-drop at s 0 0 ∙ ap (λ (n : ℕ). get_or s n 0) (add-zero at) in
    rw (← first, ← get_or-drop at s 1 0, ← get_or-drop at s 2 0, ← get_or-drop at s 3 0) (number_four (drop at s))
