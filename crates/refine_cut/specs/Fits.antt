-- What a cut writes fits its stored widths, where what it was read from does.
use Rattle.std.specs.Prelude.{refl, Bool, true, false, cond, List, ℕ, ◌<◌, length, get_or, set, eqb, ltb}
use Rattle.std.proofs.Common.{◌∙◌, inl, ⊎_elim, arith, length-set, get_or-set_same, get_or-set_other, ltb-true, ltb-false}
use Rattle.std.proofs.Math.Decide.{ℕ_discrete}
use Rattle.std.proofs.Math.Seq.{set_out}
use Rattle.laws.specs.Below.{either, bit_small, first_at_most}
use Rattle.laws.specs.Lists.{bytes_none, bytes_cons}
use Rattle.piece.specs.declared.Ends.{Ends}
use Rattle.piece_edges.specs.Edges.{joins, edge_between, opposite, opposite_on, other_end}
use Rattle.piece.specs.Shape.{Shape, shape_of, mark, set_p, unset_p, slot_a, slot_b}
use Rattle.piece_edges.specs.Edges.{shared_slot}
use Rattle.piece_cut.specs.Cut.{new_mark, child_flag, child_mark, child_shape, child_of, cut_of}
use Rattle.grid.specs.Places.{halfway_of}
use Rattle.stored.specs.declared.Format.{Format}
use Rattle.stored.specs.declared.Vertex.{Vertex}
use Rattle.stored.specs.declared.Record.{Record}
use Rattle.stored.specs.Fitting.{OrNone, VertexFits, RecordFits}
use Rattle.refine_cut.specs.Cut.{midpoint_of, cut_record, leaf_record}

-- The record cut: only its first child is another.
pub cut_record_fits : (f : Format) (r : Record) (c : ℕ) → RecordFits f r → OrNone f c → RecordFits f (cut_record r.piece c)
cut_record_fits f r c u h =
    record {
      four_corners = u.four_corners;
      corners = u.corners;
      edge = u.edge;
      four_marks = u.four_marks;
      marks = u.marks;
      flag = u.flag;
      generation = u.generation;
      first_child = h;
      material = u.material;
    }

-- One corner is another, or none is.
set_fits : (f : Format) (l : List ℕ) (k w : ℕ) → ((j : ℕ) → OrNone f (get_or l j 0)) → OrNone f w → (j : ℕ) → OrNone f (get_or (set l k w) j 0)
set_fits f l k w u h j =
    ⊎_elim
    (λ t. elim (ℕ_discrete j k) [
      | yes e ↦ rw (e, get_or-set_same l k w 0 (ltb-true k (length l) t)) h
      | no ne ↦ rw (get_or-set_other l k j w 0 ne) (u j)
    ])
    (λ g. rw (set_out l k w (ltb-false k (length l) g)) (u j))
    (either (ltb k (length l)))

-- A child's marks are edge codes, or its parent's mark.
picked : (b : Bool) {x y : ℕ} → x < 256 → y < 256 → cond b x y < 256
picked true hx hy = hx
picked false hx hy = hy

code_small : (i k : ℕ) → opposite_on i k < 256
unfolding opposite_on
code_small i k = omega (arith, first_at_most (opposite i k) 6)

new_small : (s : Shape) (k : ℕ) → new_mark s k < 256
unfolding new_mark edge_between
new_small s k =
    picked (set_p s) (omega (arith, first_at_most (joins k (shared_slot (mark s (slot_b s)) (mark s (slot_a s)))) 6)) (code_small (other_end s.edge k) k)

mark_small : (s : Shape) (k i : ℕ) → mark s k < 256 → child_mark s k i < 256
unfolding child_mark
mark_small s k i h = picked (eqb i k) h (picked (eqb i (other_end s.edge k)) (new_small s k) (code_small i k))

pub child_fits : (f : Format) (r : Record) → RecordFits f r → (w k : ℕ) → OrNone f w → RecordFits f (leaf_record (child_of r.piece w k))
unfolding child_of child_shape child_flag
child_fits f r u w k h =
    let s = shape_of r.piece in
    let inherited = u.marks.byte k in
    record {
      four_corners = length-set r.piece.corners k w ∙ u.four_corners;
      corners = set_fits f r.piece.corners k w u.corners h;
      edge = inherited;
      four_marks = refl;
      marks = bytes_cons (mark_small s k 0 inherited) (bytes_cons (mark_small s k 1 inherited) (bytes_cons (mark_small s k 2 inherited) (bytes_cons (mark_small s k 3 inherited) bytes_none)));
      flag = omega (arith, bit_small (unset_p s));
      generation = omega arith;
      first_child = inl refl;
      material = u.material;
    }

pub children_fit : (f : Format) (r : Record) → RecordFits f r → (w : ℕ) → OrNone f w → RecordFits f (leaf_record (cut_of r.piece w).first) × RecordFits f (leaf_record (cut_of r.piece w).second)
unfolding cut_of
children_fit f r u w h = (child_fits f r u w _ h, child_fits f r u w _ h)

-- The midpoint: half the sum of two places is a place.
pub midpoint_fits : (f : Format) (vertex_at : ℕ → Vertex) (ends : Ends) → VertexFits f (vertex_at ends.lower) → VertexFits f (vertex_at ends.higher) →
    OrNone f ends.lower → OrNone f ends.higher → VertexFits f (midpoint_of vertex_at ends)
unfolding midpoint_of halfway_of
midpoint_fits f vertex_at ends a b lower higher =
    let ax = a.x in
    let ay = a.y in
    let az = a.z in
    let bx = b.x in
    let by = b.y in
    let bz = b.z in
    record { x = omega arith; y = omega arith; z = omega arith; p = lower; q = higher }
