-- The vertex that the last cut made, at most three cuts below a piece M, over formal corners: a table computed over the 54 valid unflagged
-- shapes.
use Rattle.std.specs.Prelude.{◌≡◌, refl, Bool, not, cond, ◌&&◌, List, ◌∷◌, ℕ, ◌+◌, ◌-◌, ◌<◌, eqb}
use Rattle.std.proofs.Math.Bool.{true}
use native.Mathlib.Omega.{arith}
use Rattle.std.proofs.Math.ListN.{length}
use Rattle.std.proofs.Math.Dec.{ltb}
use borrow.Author.Tests.{eq-eqb, ltb-true}
use Rattle.laws.specs.Below.{all_below, any_below, all_at, and_left, and_right}
use Rattle.piece.specs.Shape.{Shape, mark, edge_c_d, type_p, unset, set_p, Valid}
use Rattle.piece.specs.Every.{every_shape, every_shape_lem, only_if, only_if_holds}
use Rattle.cuts_names.specs.Pieces.{Piece, Side, low, high, end_at}
use Rattle.cuts_names.specs.Three.{formal, formal_child, formal_down}
use Rattle.cuts_names.specs.Macro.{every_below, every_below_lem, computed}
use Rattle.cuts_formal.specs.FacesFormal.{lies, under, Across, is_new, is_across, is_across_lem}
use Rattle.cuts_faces.specs.Apart.{other}

-- ---- the table

-- Turns in which the edges of M are cut: first its refinement edge ab, then the other marked edges but cd, then cd, then the rest. A formal corner
-- has the turn of its edge, and a corner of M comes before all of them.
pub turn : Shape → ℕ → ℕ
turn s c =
    let rest : ℕ = cond (any_below 4 (λ i. eqb (mark s i) (c - 4))) 2 4 in
    let past : ℕ = cond (eqb (c - 4) (edge_c_d s)) 3 rest in
    let edge : ℕ = cond (eqb (c - 4) s.edge) 1 past in
    cond (ltb c 4) 0 edge

-- The corners of q come before the vertex that its cut makes.
is_later : Shape → Piece ℕ → Bool
is_later s q = let w = turn s (4 + q.shape.edge) in all_below 4 (λ k. ltb (turn s (q.corner k)) w)

-- All corners of M lie under the new face of q's child.
new_across : Piece ℕ → Side → Bool
new_across q side = let r = formal_child q side in is_across r (end_at q.shape (other side))

-- What the table says of a piece fewer than three cuts below M; of new faces, only where the flag is set.
row : Shape → ℕ → Piece ℕ → Bool
row s left q = let both = new_across q low && new_across q high in is_later s q && only_if (not (unset q.shape)) both

-- It says so of all of them, for an unflagged shape.
table : Shape → Bool
table s = let all = every_below 2 (row s) (formal s) in only_if (unset s) all

table_holds : every_shape table ≡ true
unfolding computed any_below lies under is_new is_across turn is_later new_across row table
table_holds = refl

-- ---- the rules

module _ (s : Shape) (v : Valid s) (f : s.flag ≡ 0) (path : List Side) (few : length path < 3) where
  -- The formal piece at a path from M.
  abbrev below : Piece ℕ
  below = formal_down (formal s) path

  -- The table at one piece.
  at_row : row s (2 - length path) below ≡ true
  unfolding table
  at_row =
      let left = 2 - length path in
      let two : length path + left ≡ 2 = omega arith in
      let all = only_if_holds (unset s) (every_below 2 (row s) (formal s)) (every_shape_lem table table_holds s v.four v.valid) (eq-eqb s.flag 0 f) in
      every_below_lem (row s) (formal s) left path (rw two all)

  -- Each corner of a piece comes in an earlier turn than the vertex that its cut makes.
  pub formal_later : (k : ℕ) → k < 4 → turn s (below.corner k) < turn s (4 + below.shape.edge)
  unfolding row is_later
  formal_later k l =
      let w = turn s (4 + below.shape.edge) in
      ltb-true (turn s (below.corner k)) w (all_at (λ k. ltb (turn s (below.corner k)) w) 4 k (and_left (is_later s below) _ at_row) l)

  -- All corners of M lie under the new face that the cut of a P with the flag set makes.
  pub formal_new_across : set_p below.shape ≡ true → (side : Side) → Across (formal_down (formal s) (side ∷ path)) (end_at below.shape (other side))
  unfolding formal_down set_p row new_across
  formal_new_across set side =
      is_across_lem (formal_child below side) (end_at below.shape (other side))
      (pick side (only_if_holds (not (unset below.shape)) (new_across below low && new_across below high) (and_right (is_later s below) _ at_row) (and_right (type_p below.shape) (not (unset below.shape)) set)))
    where
      pick : (side : Side) → (new_across below low && new_across below high) ≡ true → new_across below side ≡ true
      pick low t = and_left (new_across below low) (new_across below high) t
      pick high t = and_right (new_across below low) (new_across below high) t
