-- Two pieces compared, as rule 9 does.
use Rattle.std.specs.Prelude.{◌≡◌, refl, Bool, true, ◌&&◌, ℕ, ◌<◌, length, eqb}
use Rattle.std.proofs.Common.{sym, ◌∙◌, arith, ext_get_or, eqb-true, eq-eqb}
use Rattle.laws.specs.Below.{all_below, all_at, all_of, and_left, and_right}
use Rattle.piece.specs.Shape.{shape_of, mark}
use Rattle.piece.specs.Ends.{corner_at}
use Rattle.piece.specs.declared.Piece.{Piece}

-- Corner and mark are the same in slot k.
unfoldable pub same_slot : Piece → Piece → ℕ → Bool
same_slot p q k = eqb (corner_at p k) (corner_at q k) && eqb (mark (shape_of p) k) (mark (shape_of q) k)

unfoldable pub same_slots : Piece → Piece → Bool
same_slots p q = all_below 4 (same_slot p q)

-- "The child's corners in their slots, edge, marks, flag and generation", and document 02's material: "a child with another number gets 9".
unfoldable pub same_piece : Piece → Piece → Bool
same_piece p q = eqb p.edge q.edge && (eqb p.flag q.flag && (eqb p.generation q.generation && (eqb p.material q.material && same_slots p q)))

-- Two pieces with four corners and four marks that compare so are one.
pub same_piece_is : (p q : Piece) → length p.corners ≡ 4 → length q.corners ≡ 4 → length p.marks ≡ 4 → length q.marks ≡ 4 → same_piece p q ≡ true → p ≡ q
unfolding same_piece same_slots same_slot
same_piece_is p q pc qc pm qm t =
    let fg = and_right (eqb p.edge q.edge) (eqb p.flag q.flag && (eqb p.generation q.generation && (eqb p.material q.material && same_slots p q))) t in
    let gs = and_right (eqb p.flag q.flag) (eqb p.generation q.generation && (eqb p.material q.material && same_slots p q)) fg in
    let ms = and_right (eqb p.generation q.generation) (eqb p.material q.material && same_slots p q) gs in
    let slots = and_right (eqb p.material q.material) (same_slots p q) ms in
    let at : (k : ℕ) → k < 4 → same_slot p q k ≡ true = λ k l. all_at (same_slot p q) 4 k slots l in
    let edge = eqb-true p.edge q.edge (and_left (eqb p.edge q.edge) (eqb p.flag q.flag && (eqb p.generation q.generation && (eqb p.material q.material && same_slots p q))) t) in
    let flag = eqb-true p.flag q.flag (and_left (eqb p.flag q.flag) (eqb p.generation q.generation && (eqb p.material q.material && same_slots p q)) fg) in
    let generation = eqb-true p.generation q.generation (and_left (eqb p.generation q.generation) (eqb p.material q.material && same_slots p q) gs) in
    let material = eqb-true p.material q.material (and_left (eqb p.material q.material) (same_slots p q) ms) in
    let corners : p.corners ≡ q.corners =
    ext_get_or 0 p.corners q.corners (pc ∙ sym qc)
    (λ k l. eqb-true (corner_at p k) (corner_at q k) (and_left (eqb (corner_at p k) (corner_at q k)) (eqb (mark (shape_of p) k) (mark (shape_of q) k)) (at k (omega arith)))) in
    let marks : p.marks ≡ q.marks =
    ext_get_or 0 p.marks q.marks (pm ∙ sym qm)
    (λ k l. eqb-true (mark (shape_of p) k) (mark (shape_of q) k) (and_right (eqb (corner_at p k) (corner_at q k)) (eqb (mark (shape_of p) k) (mark (shape_of q) k)) (at k (omega arith)))) in
    λ i. record { corners = corners i; edge = edge i; marks = marks i; flag = flag i; generation = generation i; material = material i }

pub same_piece_refl : (p : Piece) → same_piece p p ≡ true
unfolding same_piece same_slots same_slot
same_piece_refl p =
    rw (
      eq-eqb p.edge p.edge refl,
      eq-eqb p.flag p.flag refl,
      eq-eqb p.generation p.generation refl,
      eq-eqb p.material p.material refl,
    )
    (all_of (same_slot p p) 4 (λ k l. rw (eq-eqb (corner_at p k) (corner_at p k) refl, eq-eqb (mark (shape_of p) k) (mark (shape_of p) k) refl)))
