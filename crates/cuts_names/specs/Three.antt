-- Three cuts at a time, over formal corners: document 002's lemmas 3.2 and 3.3 and its table 1.
use Rattle.std.specs.Prelude.{◌≡◌, cond, List, [], ◌∷◌, ℕ, suc, ◌+◌, ◌-◌, ◌<◌, ◌≤◌, ltb}
use Rattle.piece.specs.Shape.{Shape, Valid}
use Rattle.cuts_names.specs.Names.{Name, level}
use Rattle.cuts_names.specs.Pieces.{Piece, Side, child_with, mid_of}

-- Formal corners: 0 to 3 are the corners in their own slots, 4 + e is the midpoint of edge e.
abbrev pub formal : Shape → Piece ℕ
formal s = record { shape = s; corner = λ k. k }

abbrev pub formal_child : Piece ℕ → Side → Piece ℕ
formal_child q side = child_with (4 + q.shape.edge) q side

unfoldable pub formal_down : Piece ℕ → List Side → Piece ℕ
formal_down p [] = p
formal_down p (side ∷ path) = let q = formal_down p path in formal_child q side

-- What a formal corner stands for in the piece p.
abbrev pub stands_for : Piece Name → ℕ → Name
stands_for p n = cond (ltb n 4) (p.corner n) (mid_of p (n - 4))

-- What holds of a piece of generation 3k.
pub record Macro (k : ℕ) (p : Piece Name) : Type 0 where
  pub valid : Valid p.shape
  pub unset : p.shape.flag ≡ 0
  pub corners : (j : ℕ) → j < 4 → level (p.corner j) ≤ k
  pub midpoints : (e : ℕ) → e < 6 → level (mid_of p e) ≡ suc k
