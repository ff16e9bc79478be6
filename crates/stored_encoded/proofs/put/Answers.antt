-- `stored_encoded::put`: one byte after the other.
-- Assumes nothing.
use mathlib.Core.Path.{◌≡◌, ◌∙◌}
use mathlib.Core.List.{List, [], ◌∷◌}
use Prim.Native.Nat.{ℕ, suc, ◌+◌, ◌/◌, ◌%◌}
use native.Mathlib.Omega.{arith}
use lib.ListN.{set, get_or}
use lib.Seq.{sets}
use Rattle.stored.specs.Layout.{u32_bytes}
use Rattle.laws.specs.Numbers.{number_bytes}
use Rattle.std.specs.Int.{w32, to_le_bytes}
use Rattle.stored_encoded.proofs.put.Goals as goal

four_bytes : (n : ℕ) → to_le_bytes w32 n ≡ u32_bytes n
unfolding number_bytes
four_bytes n =
    let third : n / 65536 ≡ n / 256 / 256 = omega arith in
    let fourth : n / 16777216 ≡ n / 256 / 256 / 256 = omega arith in
    λ i. n % 256 ∷ n / 256 % 256 ∷ third i % 256 ∷ fourth i % 256 ∷ []

one_by_one : (s : List ℕ) (at a b c d : ℕ) → set (set (set (set s at a) (at + 1) b) (at + 2) c) (at + 3) d ≡ sets s at (a ∷ b ∷ c ∷ d ∷ [])
one_by_one s at a b c d =
    let second : at + 1 ≡ suc at = omega arith in
    let third : at + 2 ≡ suc (suc at) = omega arith in
    let fourth : at + 3 ≡ suc (suc (suc at)) = omega arith in
    λ i. set (set (set (set s at a) (second i) b) (third i) c) (fourth i) d

put_bytes : (s : List ℕ) (at n : ℕ) (b : List ℕ) → b ≡ u32_bytes n → set (set (set (set s at (get_or b 0 0)) (at + 1) (get_or b 1 0)) (at + 2) (get_or b 2 0)) (at + 3) (get_or b 3 0) ≡ sets s at (u32_bytes n)
unfolding number_bytes
put_bytes s at n b e = (λ i. set (set (set (set s at (get_or (e i) 0 0)) (at + 1) (get_or (e i) 1 0)) (at + 2) (get_or (e i) 2 0)) (at + 3) (get_or (e i) 3 0)) ∙ one_by_one s at (n % 256) (n / 256 % 256) (n / 256 / 256 % 256) (n / 256 / 256 / 256 % 256)

pub returns : goal.returns
returns c = put_bytes c.args.bytes.now c.args.at c.args.n c.to_le_bytes.result (c.to_le_bytes.ensures ∙ four_bytes c.args.n)
