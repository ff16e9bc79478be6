-- What holds of every cut of a valid shape. Each is one test that is computed over all valid shapes and both ends of the refinement edge.
use Rattle.std.specs.Prelude.{◌≡◌, refl, Bool, true, cond, ◌&&◌, ◌||◌, List, ℕ, ◌+◌, ◌<◌, length, get_or, eqb}
use Rattle.std.proofs.Common.{sym, ap, ◌∙◌, inl, inr, arith, get_or-set_same, get_or-set_other}
use Rattle.std.proofs.Math.Logic.{⊎_elim}
use borrow.Author.Tests.{eqb-true, eqb-false, ne_eqb}
use Rattle.laws.specs.Pairs.{SamePair}
use Rattle.laws.specs.Below.{fold_below, all_below, first_below, and_left, and_right, or_second, either, bit}
use Rattle.piece_edges.specs.Edges.{low_slot, high_slot, slots_small, has_slot, other_end, joins, edge_between, on_face, opposite, opposite_on, shares, shared_slot}
use Rattle.piece.specs.Shape.{Shape, Valid, mark, slot_a, slot_b, edge_c_d, slot_c, slot_d, other_marks_are, type_p, type_a, type_o, type_m, set_p, unset_p, mark_fits, flag_fits, valid_shape}
use Rattle.piece_cut.specs.Cut.{new_mark, child_flag, child_mark, child_shape, child_corners}
use Rattle.piece.specs.Every.{every_shape, every_shape_lem}

-- k is the slot of an end of the refinement edge.
abbrev pub End : Shape → ℕ → Type 0
End s k = has_slot s.edge k ≡ true

-- What the tests compute with, named in one place: to unfold this is to unfold them all.
unfoldable pub computed : Bool
unfolding every_shape all_below fold_below first_below valid_shape flag_fits mark_fits child_shape child_mark new_mark child_flag set_p unset_p type_p type_a type_o type_m other_marks_are slot_a slot_b slot_c slot_d edge_c_d low_slot high_slot has_slot other_end joins edge_between on_face opposite opposite_on shares shared_slot
computed = true

-- ---- the types

one_type : Shape → Bool
one_type s = eqb (bit (type_p s) + bit (type_a s) + bit (type_o s) + bit (type_m s)) 1

one_type_holds : every_shape one_type ≡ true
unfolding computed one_type
one_type_holds = refl

-- A valid shape is of exactly one type.
pub one_type_lem : (s : Shape) → Valid s → bit (type_p s) + bit (type_a s) + bit (type_o s) + bit (type_m s) ≡ 1
unfolding one_type
one_type_lem s v = eqb-true (bit (type_p s) + bit (type_a s) + bit (type_o s) + bit (type_m s)) 1 (every_shape_lem one_type one_type_holds s v.four v.valid)

-- ---- the new face

abbrev same_pair : ℕ → ℕ → ℕ → ℕ → Bool
same_pair x y x' y' = (eqb x x' && eqb y y') || (eqb x y' && eqb y x')

-- What stands in slot j of the child with w in slot k: slot j of the parent, or w, for which 4 stands.
abbrev formal : ℕ → ℕ → ℕ
formal k j = cond (eqb j k) 4 j

-- The new face is the one without the end that stays: without a where w is in b's slot, without b where it is in a's.
new_face : Shape → Bool
new_face s =
    let m = mark (child_shape s (slot_b s)) (slot_a s) in
    let n = mark (child_shape s (slot_a s)) (slot_b s) in
    same_pair (formal (slot_b s) (low_slot m)) (formal (slot_b s) (high_slot m)) (formal (slot_a s) (low_slot n)) (formal (slot_a s) (high_slot n))

new_face_holds : every_shape new_face ≡ true
unfolding computed new_face
new_face_holds = refl

same_pair_lem : (x y x' y' : ℕ) → same_pair x y x' y' ≡ true → SamePair x y x' y'
same_pair_lem x y x' y' e =
    ⊎_elim
    (λ t. inl (eqb-true x x' (and_left (eqb x x') (eqb y y') t), eqb-true y y' (and_right (eqb x x') (eqb y y') t)))
    (λ f.
    let t = or_second (eqb x x' && eqb y y') (eqb x y' && eqb y x') f e in
    inr (eqb-true x y' (and_left (eqb x y') (eqb y x') t), eqb-true y x' (and_right (eqb x y') (eqb y x') t)))
    (either (eqb x x' && eqb y y'))

module _ {A : Type 0} (corners : List A) (h : length corners ≡ 4) (w d : A) where
  -- What 4 and the numbers below it stand for.
  stands : ℕ → A
  stands n = cond (eqb n 4) w (get_or corners n d)

  child_corner : (k j : ℕ) → k < 4 → j < 4 → get_or (child_corners corners w k) j d ≡ stands (formal k j)
  unfolding stands
  child_corner k j hk hj =
      ⊎_elim
      (λ same. rw (same) (rw (eqb-true j k same) (get_or-set_same corners k w d (omega arith))))
      (λ other. rw (other, ne_eqb j 4 (omega arith)) (get_or-set_other corners k j w d (eqb-false j k other)))
      (either (eqb j k))

-- The new face carries one mark in both children: its ends are the same two corners, whatever the corners are.
pub new_face_one_mark : {A : Type 0} (s : Shape) → Valid s → (corners : List A) → length corners ≡ 4 → (w d : A) →
    let one = child_corners corners w (slot_b s) in
    let two = child_corners corners w (slot_a s) in
    let m = mark (child_shape s (slot_b s)) (slot_a s) in
    let n = mark (child_shape s (slot_a s)) (slot_b s) in
    SamePair (get_or one (low_slot m) d) (get_or one (high_slot m) d) (get_or two (low_slot n) d) (get_or two (high_slot n) d)
unfolding new_face slot_a slot_b
new_face_one_mark s v corners h w d =
    let a = slot_a s in
    let b = slot_b s in
    let m = mark (child_shape s b) a in
    let n = mark (child_shape s a) b in
    let ends = slots_small s.edge in
    let at : (k j : ℕ) → k < 4 → j < 4 → get_or (child_corners corners w k) j d ≡ stands corners h w d (formal k j) = child_corner corners h w d in
    let lm = at b (low_slot m) ends.1 (slots_small m).0 in
    let hm = at b (high_slot m) ends.1 (slots_small m).1 in
    let ln = at a (low_slot n) ends.0 (slots_small n).0 in
    let hn = at a (high_slot n) ends.0 (slots_small n).1 in
    ⊎_elim
    (λ p. inl (lm ∙ ap (stands corners h w d) p.0 ∙ sym ln, hm ∙ ap (stands corners h w d) p.1 ∙ sym hn))
    (λ p. inr (lm ∙ ap (stands corners h w d) p.0 ∙ sym hn, hm ∙ ap (stands corners h w d) p.1 ∙ sym ln))
    (same_pair_lem (formal b (low_slot m)) (formal b (high_slot m)) (formal a (low_slot n)) (formal a (high_slot n)) (every_shape_lem new_face new_face_holds s v.four v.valid))
