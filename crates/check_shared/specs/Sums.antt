-- A sum made of a face's corners, by which faces are linked: faces with the same corners have the same one.
use Rattle.std.specs.Prelude.{◌≡◌, true, false, cond, ◌&&◌, ◌||◌, ltb}
use Rattle.std.proofs.Math.Logic.{⊎_elim}
use Prim.Native.Nat.{ℕ, ◌+◌, ◌*◌, ◌≤◌, max}
use Rattle.std.proofs.Math.Nat.{le_antisymm}
use native.Mathlib.Omega.{arith}
use Rattle.std.proofs.Math.Dec.{eqb}
use borrow.Author.Tests.{eqb-true}
use Rattle.laws.specs.Below.{and_left, and_right, or_second, either}
use Rattle.check_shared.specs.declared.Face.{Face}
use Rattle.check_shared.specs.Faces.{holds, inside, same_set}

-- A number that is below top; 0 instead of another.
unfoldable pub under : ℕ → ℕ → ℕ
under top x = cond (ltb x top) x 0

-- The greatest g of a face's corners.
abbrev pub most_of : (ℕ → ℕ) → Face → ℕ
most_of g f = max (max (g f.a) (g f.b)) (g f.c)

unfoldable pub most_under : ℕ → Face → ℕ
most_under top f = most_of (under top) f

-- The corners in falling order.
unfoldable pub first_of : Face → ℕ
first_of f = most_of (λ x. x) f

unfoldable pub second_of : Face → ℕ
second_of f = most_under (first_of f) f

unfoldable pub third_of : Face → ℕ
third_of f = most_under (second_of f) f

-- Their sum, each with its factor.
unfoldable pub corner_sum : Face → ℕ
corner_sum f = first_of f + 37 * second_of f + 1029 * third_of f

-- ---- the same for faces with the same corners

module _ (g : ℕ → ℕ) where
  holds_most : (f : Face) (x : ℕ) → holds f x ≡ true → g x ≤ most_of g f
  unfolding holds
  holds_most f x e =
      ⊎_elim
      (λ (t : eqb f.a x ≡ true). rw (← eqb-true f.a x t) (omega arith))
      (λ (n : eqb f.a x ≡ false).
      ⊎_elim
      (λ (t : eqb f.b x ≡ true). rw (← eqb-true f.b x t) (omega arith))
      (λ (m : eqb f.b x ≡ false). rw (← eqb-true f.c x (or_second (eqb f.a x || eqb f.b x) (eqb f.c x) (rw (n, m)) e)) (omega arith))
      (either (eqb f.b x)))
      (either (eqb f.a x))

  inside_most : (f h : Face) → inside f h ≡ true → most_of g f ≤ most_of g h
  unfolding inside
  inside_most f h e =
      let two = and_left (holds h f.a && holds h f.b) (holds h f.c) e in
      let a = holds_most h f.a (and_left (holds h f.a) (holds h f.b) two) in
      let b = holds_most h f.b (and_right (holds h f.a) (holds h f.b) two) in
      let c = holds_most h f.c (and_right (holds h f.a && holds h f.b) (holds h f.c) e) in
      most (g f.a) (g f.b) (g f.c) (most_of g h) a b c
    where
      most : (x y z top : ℕ) → x ≤ top → y ≤ top → z ≤ top → max (max x y) z ≤ top
      most x y z top a b c = omega arith

  same_most : (f h : Face) → same_set f h ≡ true → most_of g f ≡ most_of g h
  unfolding same_set
  same_most f h e = le_antisymm (inside_most f h (and_left (inside f h) (inside h f) e)) (inside_most h f (and_right (inside f h) (inside h f) e))

module _ (f h : Face) (e : same_set f h ≡ true) where
  same_first : first_of f ≡ first_of h
  unfolding first_of
  same_first = same_most (λ x. x) f h e

  same_second : second_of f ≡ second_of h
  unfolding second_of most_under
  same_second = rw same_first (same_most (under (first_of h)) f h e)

  same_third : third_of f ≡ third_of h
  unfolding third_of most_under
  same_third = rw same_second (same_most (under (second_of h)) f h e)

  pub same_sum : corner_sum f ≡ corner_sum h
  unfolding corner_sum
  same_sum = rw (same_first, same_second, same_third)
