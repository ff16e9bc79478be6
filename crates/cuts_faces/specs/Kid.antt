-- The faces of a child: one is inherited, two are halves of faces of the parent, one is new.
use Rattle.std.specs.Prelude.{◌≡◌, refl, ◌⊎◌, ◌≢◌, Bool, true, false, not, ◌&&◌, ◌||◌, ℕ, ◌<◌, eqb, ltb}
use Rattle.std.proofs.Common.{sym, ap, ap₂, ◌∙◌, inl, inr, ⊎_elim, eqb-true, eq-eqb, ne_eqb, ltb-true, lt-ltb}
use Rattle.std.proofs.lemmas.Bool.{eqb-false, not-true}
use Rattle.laws.specs.Below.{fold_below, all_below, all_at, and_left, and_right, or_second, either}
use Rattle.piece_edges.specs.Edges.{low_slot, high_slot, has_slot, on_face, opposite, slots_small}
use Rattle.piece.specs.Shape.{Shape, mark, slot_a, slot_b, set_p, mark_fits, flag_fits, valid_shape, Valid}
use Rattle.piece.specs.Every.{every_shape, every_shape_lem, only_if, only_if_holds}
use Rattle.piece_cut.specs.Cut.{child_shape}
use Rattle.cuts_names.specs.Names.{Name, mid}
use Rattle.cuts_names.proofs.Names.{mid_sym}
use Rattle.cuts_names.specs.Pieces.{Piece, Side, low, high, end_at, mid_of, makes, child}
use Rattle.cuts_names.specs.Base.{OnFace, SameFace, Different, marked_at}
use Rattle.cuts_names.specs.Macro.{computed, edge_below}
use Rattle.cuts.specs.FacesNames.{face_slots, mark_on_face}
use Rattle.cuts_faces.specs.Apart.{other}

-- The slot in which the child on this side has the new vertex, and the slot of the end of the refinement edge that stays.
abbrev pub new_slot : Piece Name → Side → ℕ
new_slot p side = end_at p.shape side

abbrev pub stay_slot : Piece Name → Side → ℕ
stay_slot p side = end_at p.shape (other side)

-- The two ends of an edge are different slots.
ends_differ : (e : ℕ) → e < 6 → low_slot e ≢ high_slot e
unfolding all_below fold_below low_slot high_slot
ends_differ e l = eqb-false (low_slot e) (high_slot e) (not-true (eqb (low_slot e) (high_slot e)) (all_at (λ e. not (eqb (low_slot e) (high_slot e))) 6 e refl l))

-- Both are slots, and different ones in a valid shape.
pub new_slot_small : (p : Piece Name) (side : Side) → new_slot p side < 4
unfolding slot_a slot_b
new_slot_small p low = (slots_small p.shape.edge).0
new_slot_small p high = (slots_small p.shape.edge).1

pub slots_differ : (p : Piece Name) → Valid p.shape → (side : Side) → new_slot p side ≢ stay_slot p side
unfolding slot_a slot_b
slots_differ p v low = λ e. ends_differ p.shape.edge (edge_below p.shape v) e
slots_differ p v high = λ e. ends_differ p.shape.edge (edge_below p.shape v) (sym e)

-- The new vertex is the midpoint of the corners in these two slots.
pub makes_is : (p : Piece Name) (side : Side) → makes p ≡ mid (p.corner (new_slot p side)) (p.corner (stay_slot p side))
unfolding slot_a slot_b
makes_is p low = refl
makes_is p high = mid_sym (p.corner (low_slot p.shape.edge)) (p.corner (high_slot p.shape.edge))

-- The child's corners: the new vertex, and the parent's.
pub new_corner : (p : Piece Name) (side : Side) → (child p side).corner (new_slot p side) ≡ makes p
unfolding child
new_corner p side = rw (eq-eqb (new_slot p side) (new_slot p side) refl)

pub old_corner : (p : Piece Name) (side : Side) (j : ℕ) → j ≢ new_slot p side → (child p side).corner j ≡ p.corner j
unfolding child
old_corner p side j d = rw (ne_eqb j (new_slot p side) d)

-- ---- the inherited face

-- It is the parent's face.
pub inherited_same : (p : Piece Name) (side : Side) → SameFace (child p side) (new_slot p side) p (new_slot p side)
inherited_same p side x = (
  λ o. let (j, l, d, e) = o in (j, l, d, sym (old_corner p side j d) ∙ e),
  λ o. let (j, l, d, e) = o in (j, l, d, old_corner p side j d ∙ e),
)

-- Its mark "becomes the child's refinement edge".
pub inherited_makes : (p : Piece Name) → Valid p.shape → (side : Side) → makes (child p side) ≡ marked_at p (new_slot p side)
unfolding child child_shape
inherited_makes p v side =
    let k = new_slot p side in
    let e = mark p.shape k in
    let off = face_slots e k (mark_on_face p.shape v k (new_slot_small p side)) in
    ap₂ mid (old_corner p side (low_slot e) off.0) (old_corner p side (high_slot e) off.1)

-- ---- the faces that contain the refinement edge

-- A slot that is the end of the refinement edge on neither side is no slot of that edge.
neither_end : (s : Shape) (side : Side) (i : ℕ) → i ≢ end_at s side → i ≢ end_at s (other side) → has_slot s.edge i ≡ false
unfolding slot_a slot_b has_slot
neither_end s low i a b = ap₂ ◌||◌ (ne_eqb (low_slot s.edge) i (λ e. a (sym e))) (ne_eqb (high_slot s.edge) i (λ e. b (sym e)))
neither_end s high i a b = ap₂ ◌||◌ (ne_eqb (low_slot s.edge) i (λ e. b (sym e))) (ne_eqb (high_slot s.edge) i (λ e. a (sym e)))

-- A face without a slot that is no end of the refinement edge is marked with that edge.
pub refinement_face : (p : Piece Name) → Valid p.shape → (side : Side) (i : ℕ) → i < 4 → i ≢ new_slot p side → i ≢ stay_slot p side → marked_at p i ≡ makes p
unfolding valid_shape mark_fits on_face
refinement_face p v side i l a b =
    let s = p.shape in
    let m = mark s i in
    let marks = and_left (all_below 4 (λ i. mark_fits s.edge (mark s i) i)) (flag_fits s) (and_right (ltb s.edge 6) _ v.valid) in
    let fits = all_at (λ i. mark_fits s.edge (mark s i) i) 4 i marks l in
    let on : on_face s.edge i ≡ true = ap₂ ◌&&◌ (lt-ltb s.edge 6 (edge_below s v)) (ap not (neither_end s side i a b)) in
    let is : m ≡ s.edge = eqb-true m s.edge (or_second (not (on_face s.edge i)) (eqb m s.edge) (ap not on) (and_right (on_face m i) _ fits)) in
    ap (λ (e : ℕ). mid_of p e) is

-- ---- the new face

-- The corners of one child's new face are those of the other child's.
new_over : (p : Piece Name) → Valid p.shape → (side : Side) (x : Name) → OnFace (child p side) (stay_slot p side) x → OnFace (child p (other side)) (new_slot p side) x
new_over p v side x o =
    let (j, l, d, e) = o in
    ⊎_elim
    (λ t. (
      stay_slot p side,
      new_slot_small p (other side),
      λ s. slots_differ p v side (sym s),
      new_corner p (other side) ∙ sym (new_corner p side) ∙ sym (ap (child p side).corner (eqb-true j (new_slot p side) t)) ∙ e,
    ))
    (λ f. let n = eqb-false j (new_slot p side) f in (j, l, n, old_corner p (other side) j d ∙ sym (old_corner p side j n) ∙ e))
    (either (eqb j (new_slot p side)))

-- Both children have it.
pub new_same : (p : Piece Name) → Valid p.shape → (side : Side) → SameFace (child p side) (stay_slot p side) (child p (other side)) (new_slot p side)
new_same p v low x = (new_over p v low x, new_over p v high x)
new_same p v high x = (new_over p v high x, new_over p v low x)

-- ---- the marks of cut faces and of the new face

-- Face i of the child with the new vertex in slot k is marked on the edge opposite it, unless it is the face without slot j and the parent is P with the flag set.
abbrev opposed : Shape → ℕ → ℕ → ℕ → Bool
opposed s k j i = opposite i k (mark (child_shape s k) i) || (set_p s && eqb i j)

-- So are all faces with the new vertex.
abbrev all_opposed : Shape → ℕ → ℕ → Bool
all_opposed s k j = all_below 4 λ i. let here = opposed s k j i in only_if (not (eqb i k)) here

-- So they are in both children.
opposed_table : Shape → Bool
opposed_table s = all_opposed s (slot_a s) (slot_b s) && all_opposed s (slot_b s) (slot_a s)

opposed_table_holds : every_shape opposed_table ≡ true
unfolding computed opposed_table
opposed_table_holds = refl

-- The table at one child.
all_opposed_lem : (s : Shape) → Valid s → (side : Side) → all_opposed s (end_at s side) (end_at s (other side)) ≡ true
unfolding opposed_table
all_opposed_lem s v low = and_left (all_opposed s (slot_a s) (slot_b s)) (all_opposed s (slot_b s) (slot_a s)) (every_shape_lem opposed_table opposed_table_holds s v.four v.valid)
all_opposed_lem s v high = and_right (all_opposed s (slot_a s) (slot_b s)) (all_opposed s (slot_b s) (slot_a s)) (every_shape_lem opposed_table opposed_table_holds s v.four v.valid)

-- Each face with the new vertex is marked on the edge opposite it, unless it is the new face and the parent is P with the flag set.
pub opposite_new : (p : Piece Name) → Valid p.shape → (side : Side) (i : ℕ) → i < 4 → i ≢ new_slot p side →
    (opposite i (new_slot p side) (mark (child p side).shape i) ≡ true) ⊎ ((set_p p.shape ≡ true) × (i ≡ stay_slot p side))
unfolding child
opposite_new p v side i l d =
    let s = p.shape in
    let k = new_slot p side in
    let j = stay_slot p side in
    let m = mark (child_shape s k) i in
    let here = only_if_holds (not (eqb i k)) (opposed s k j i) (all_at (λ i. only_if (not (eqb i k)) (opposed s k j i)) 4 i (all_opposed_lem s v side) l) (ap not (ne_eqb i k d)) in
    ⊎_elim (λ t. inl t)
    (λ f. let both = or_second (opposite i k m) (set_p s && eqb i j) f here in inr (and_left (set_p s) (eqb i j) both, eqb-true i j (and_right (set_p s) (eqb i j) both)))
    (either (opposite i k m))

-- ---- faces by their names

-- The mark of a face is the midpoint of two different corners of it.
pub mark_between : (p : Piece Name) → Valid p.shape → Different p → (i : ℕ) → i < 4 → (a b : Name) × OnFace p i a × OnFace p i b × (a ≢ b) × (marked_at p i ≡ mid a b)
unfolding on_face
mark_between p v apart i l =
    let e = mark p.shape i in
    let on = mark_on_face p.shape v i l in
    let off = face_slots e i on in
    let ends = slots_small e in
    let differ = ends_differ e (ltb-true e 6 (and_left (ltb e 6) (not (has_slot e i)) on)) in
    (p.corner (low_slot e), p.corner (high_slot e), (low_slot e, ends.0, off.0, refl), (high_slot e, ends.1, off.1, refl), λ s. differ (apart (low_slot e) (high_slot e) ends.0 ends.1 s), refl)
