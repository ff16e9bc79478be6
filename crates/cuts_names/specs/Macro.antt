-- What three cuts do to a piece, by computation over formal corners, and the levels of vertices that follow.
use Rattle.std.specs.Prelude.{◌≡◌, Bool, true, ◌&&◌}
use Rattle.std.proofs.Math.Path.{ap, ap₂}
use Rattle.std.proofs.Common.{◌∙◌, arith}
use mathlib.Core.List.{List, [], ◌∷◌}
use Prim.Native.Nat.{ℕ, zero, suc, ◌+◌, ◌-◌, ◌<◌, ◌≤◌}
use Rattle.std.proofs.Math.ListN.{length}
use Rattle.std.proofs.Math.Dec.{ltb}
use borrow.Author.Tests.{eq-eqb, ltb-true, lt-ltb, le-ltb}
use Rattle.laws.specs.Below.{fold_below, all_below, first_below, and_left, and_right}
use Rattle.piece_edges.specs.Edges.{low_slot, high_slot, has_slot, other_end, joins, edge_between, on_face, opposite, opposite_on, shares, shared_slot, slots_small}
use Rattle.piece_edges.specs.Tables.{has_low, has_high}
use Rattle.piece.specs.Shape.{Shape, unset, slot_a, slot_b, edge_c_d, slot_c, slot_d, other_marks_are, type_p, type_a, type_o, type_m, set_p, unset_p, mark_fits, flag_fits, valid_shape, Valid}
use Rattle.piece_cut.specs.Cut.{new_mark, child_flag, child_mark, child_shape}
use Rattle.piece.specs.Every.{every_shape, every_shape_lem, only_if, only_if_holds}
use Rattle.piece_cut.proofs.Theorems.{child_is_valid}
use Rattle.cuts_names.specs.Names.{Name, mid, level}
use Rattle.cuts_names.specs.Pieces.{Piece, Side, low, high, end_at, child_with, mid_of, makes}
use Rattle.cuts_names.specs.Three.{formal, formal_child, formal_down, stands_for, Macro}

-- ---- the table

-- test holds of q and of every piece at most n cuts below it; it is told how many cuts are left.
unfoldable pub every_below : ℕ → (ℕ → Piece ℕ → Bool) → Piece ℕ → Bool
every_below zero test q = test 0 q
every_below (suc n) test q =
    let on_low = every_below n test (formal_child q low) in
    let on_high = every_below n test (formal_child q high) in
    test (suc n) q && (on_low && on_high)

-- The rule at each piece below, from the test over all of them.
pub every_below_lem : (test : ℕ → Piece ℕ → Bool) (q : Piece ℕ) (left : ℕ) (path : List Side) → every_below (length path + left) test q ≡ true → test left (formal_down q path) ≡ true
unfolding every_below formal_down
every_below_lem test q left path e = here left (formal_down q path) (down path left e)
  where
    pick : (n : ℕ) (r : Piece ℕ) (side : Side) → every_below (suc n) test r ≡ true → every_below n test (formal_child r side) ≡ true
    pick n r low t =
        and_left (every_below n test (formal_child r low)) (every_below n test (formal_child r high)) (and_right (test (suc n) r) _ t)
    pick n r high t =
        and_right (every_below n test (formal_child r low)) (every_below n test (formal_child r high)) (and_right (test (suc n) r) _ t)

    down : (path : List Side) (left : ℕ) → every_below (length path + left) test q ≡ true → every_below left test (formal_down q path) ≡ true
    down [] left t = let e : 0 + left ≡ left = omega arith in rw e at t
    down (side ∷ path) left t =
        let e : suc (length path) + left ≡ length path + suc left = omega arith in
        pick left (formal_down q path) side (down path (suc left) (rw e at t))

    here : (n : ℕ) (r : Piece ℕ) → every_below n test r ≡ true → test n r ≡ true
    here zero r t = t
    here (suc n) r t = and_left (test (suc n) r) _ t

-- test holds of an unflagged shape's formal piece and of every piece at most three cuts below it.
unfoldable pub three_down : (ℕ → Piece ℕ → Bool) → Shape → Bool
three_down test s = let below = every_below 3 test (formal s) in only_if (unset s) below

-- The rule at each piece at most three cuts below each valid unflagged shape, from the test over all of them.
pub every_three : (test : ℕ → Piece ℕ → Bool) → every_shape (three_down test) ≡ true → (s : Shape) → Valid s → s.flag ≡ 0 → (path : List Side) (left : ℕ) → length path + left ≡ 3 → test left (formal_down (formal s) path) ≡ true
unfolding three_down
every_three test all s v f path left h =
    every_below_lem test (formal s) left path
    (rw h (only_if_holds (unset s) (every_below 3 test (formal s)) (every_shape_lem (three_down test) all s v.four v.valid) (eq-eqb s.flag 0 f)))

-- What such tests compute with, named in one place: to unfold this is to unfold them all.
unfoldable pub computed : Bool
unfolding every_shape all_below fold_below first_below valid_shape flag_fits mark_fits child_shape child_mark new_mark child_flag set_p unset_p type_p type_a type_o type_m other_marks_are slot_a slot_b slot_c slot_d edge_c_d low_slot high_slot has_slot other_end joins edge_between on_face opposite opposite_on shares shared_slot child_with formal_down every_below three_down
computed = true

-- ---- from formal corners to names

-- The refinement edge of a valid shape is one of the six.
pub edge_below : (s : Shape) → Valid s → s.edge < 6
unfolding valid_shape
edge_below s v = ltb-true s.edge 6 (and_left (ltb s.edge 6) _ v.valid)

-- Both children of a valid shape are valid.
pub side_valid : (s : Shape) → Valid s → (side : Side) → Valid (child_shape s (end_at s side))
unfolding slot_a slot_b
side_valid s v low = child_is_valid s v (slot_a s) (has_low s.edge)
side_valid s v high = child_is_valid s v (slot_b s) (has_high s.edge)

-- The same shape and the same corners in the four slots.
pub record Alike {A : Type 0} (p q : Piece A) : Type 0 where
  pub shape : p.shape ≡ q.shape
  pub corner : (j : ℕ) → j < 4 → p.corner j ≡ q.corner j

-- Pieces that are alike have the same midpoints.
pub mid_alike : {p q : Piece Name} → Alike p q → (e : ℕ) → mid_of p e ≡ mid_of q e
mid_alike a e = ap₂ mid (a.corner (low_slot e) (slots_small e).0) (a.corner (high_slot e) (slots_small e).1)

-- So cutting them makes the same vertex.
pub makes_alike : {p q : Piece Name} → Alike p q → makes p ≡ makes q
makes_alike {p} {q} a = mid_alike a p.shape.edge ∙ ap (λ (s : Shape). mid_of q s.edge) a.shape

-- A number below 4 stands for a corner, one from 4 on for a midpoint.
pub stands_corner : (p : Piece Name) (n : ℕ) → n < 4 → stands_for p n ≡ p.corner n
stands_corner p n h = rw (lt-ltb n 4 h)

pub stands_past : (p : Piece Name) (n : ℕ) → 4 ≤ n → stands_for p n ≡ mid_of p (n - 4)
stands_past p n h = rw (le-ltb n 4 h)

-- So 4 + e stands for the midpoint of edge e.
pub stands_mid : (p : Piece Name) (e : ℕ) → stands_for p (4 + e) ≡ mid_of p e
stands_mid p e = let r : 4 + e - 4 ≡ e = omega arith in stands_past p (4 + e) (omega arith) ∙ ap (mid_of p) r

-- ---- three cuts at a time

module _ (k : ℕ) (p : Piece Name) (m : Macro k p) where
  -- A corner stands for a vertex of level at most k, a midpoint for one of level k + 1.
  pub old_level : (n : ℕ) → n < 4 → level (stands_for p n) ≤ k
  old_level n h = rw (stands_corner p n h) (m.corners n h)

  pub new_level : (n : ℕ) → n < 10 → 4 ≤ n → level (stands_for p n) ≡ suc k
  new_level n h l = ap level (stands_past p n l) ∙ m.midpoints (n - 4) (omega arith)
