-- What accepted tables have in every record, from the base down: a valid shape, corners that are there, and its generation.
use Rattle.std.specs.Prelude.{◌≡◌, Bool, true, false, cond, ◌⊎◌, ℕ, ◌+◌, ◌<◌, eqb, ltb}
use Rattle.std.proofs.Common.{inl, inr, arith, get_or-set_same, get_or-set_other, eqb-true}
use Rattle.std.proofs.Math.Path.{ap}
use Rattle.std.proofs.Math.Logic.{⊎_elim}
use Rattle.std.proofs.lemmas.Bool.{eqb-false}
use Rattle.laws.specs.Below.{either}
use Rattle.piece.specs.declared.Piece.{Piece}
use Rattle.piece_edges.specs.Edges.{low_slot, high_slot, has_slot, slots_small}
use Rattle.piece.specs.Shape.{shape_of, Valid}
use Rattle.piece.specs.Ends.{corner_at, lower_end, higher_end}
use Rattle.piece_cut.specs.Cut.{child_of}
use Rattle.piece_cut.specs.Theorems.{End}
use Rattle.piece_cut.proofs.Theorems.{child_is_valid}
use Rattle.mesh_tables.specs.Tables.{Tables, all_vertices, all_records, piece_at}
use Rattle.check_meaning.specs.Tests.{equal, or_passes}
use Rattle.check_meaning.specs.Accepted.{RightMesh, RightCut, ChildOf}
use Rattle.check_meaning.specs.Cuts.{Four, child_four}

-- ---- one cut

-- The ends of lower and of higher vertex number stand in the edge's two slots.
pub ends_are : (p : Piece) (e : ℕ) → ((low_slot e ≡ lower_end p e) × (high_slot e ≡ higher_end p e)) ⊎ ((high_slot e ≡ lower_end p e) × (low_slot e ≡ higher_end p e))
unfolding lower_end higher_end
ends_are p e = ⊎_elim (λ t. inl (rw t, rw t)) (λ f. inr (rw f, rw f)) (either (ltb (corner_at p (low_slot e)) (corner_at p (high_slot e))))

is_end : (e k : ℕ) → (low_slot e ≡ k) ⊎ (high_slot e ≡ k) → (k < 4) × (has_slot e k ≡ true)
unfolding has_slot
is_end e k h = (
  ⊎_elim (λ q. omega (arith, (slots_small e).0)) (λ q. omega (arith, (slots_small e).1)) h,
  (or_passes (equal (low_slot e) k) (equal (high_slot e) k)).1 h,
)

pub lower_is_end : (p : Piece) (e : ℕ) → (lower_end p e < 4) × (has_slot e (lower_end p e) ≡ true)
lower_is_end p e = is_end e (lower_end p e) (⊎_elim (λ h. inl h.0) (λ h. inr h.0) (ends_are p e))

pub higher_is_end : (p : Piece) (e : ℕ) → (higher_end p e < 4) × (has_slot e (higher_end p e) ≡ true)
higher_is_end p e = is_end e (higher_end p e) (⊎_elim (λ h. inr h.1) (λ h. inl h.1) (ends_are p e))

-- "all else stays in its slot"
pub child_corner : (p : Piece) (w k : ℕ) → Four p → k < 4 → (j : ℕ) → corner_at (child_of p w k) j ≡ cond (eqb j k) w (corner_at p j)
unfolding child_of
child_corner p w k f l j =
    ⊎_elim
    (λ t. rw t (rw (eqb-true j k t) (get_or-set_same p.corners k w 0 (omega (arith, f.corners)))))
    (λ g. rw g (get_or-set_other p.corners k j w 0 (eqb-false j k g)))
    (either (eqb j k))

-- Record c is a child of record `parent`: what cutting it leaves with the new vertex in the slot of an end of the refinement edge.
pub record Descends (m : Tables) (c : ℕ) : Type 0 where
  pub parent : ℕ
  pub child : ChildOf m c parent
  pub cut : RightCut m parent
  pub before : parent < c
  pub slot : ℕ
  pub small : slot < 4
  pub end : End (shape_of (piece_at m parent)) slot
  pub is : piece_at m c ≡ child_of (piece_at m parent) cut.w slot

-- ---- every record

-- A piece has four corners that are vertices, and its shape is valid.
pub record Sound (m : Tables) (p : Piece) : Type 0 where
  pub four : Four p
  pub there : (k : ℕ) → k < 4 → corner_at p k < all_vertices m
  pub valid : Valid (shape_of p)

-- A cut keeps it so.
pub child_sound : (m : Tables) (p : Piece) (w k : ℕ) → Sound m p → w < all_vertices m → k < 4 → End (shape_of p) k → Sound m (child_of p w k)
unfolding child_of
child_sound m p w k h there small end =
    record {
      four = child_four p w k h.four;
      there = λ j l. rw (child_corner p w k h.four small j) (picked (eqb j k) there (h.there j l));
      valid = child_is_valid (shape_of p) h.valid k end;
    }
  where
    picked : (b : Bool) {x y : ℕ} → x < all_vertices m → y < all_vertices m → cond b x y < all_vertices m
    picked true hx hy = hx
    picked false hx hy = hy

-- Of the tables of an accepted byte string, `stored_four` says that every record has four corners and four marks.
module _ (m : Tables) (a : RightMesh m) (four : (n : ℕ) → Four (piece_at m n)) where
  -- "Their generation is the parent's plus 1", for in a byte none up to 15 wraps round. In the base it is 0 by rule 5.
  pub child_generation : (c : ℕ) → c < all_records m → (d : Descends m c) → (piece_at m c).generation ≡ (piece_at m d.parent).generation + 1
  unfolding child_of
  child_generation c l d =
      let at = ap (λ (p : Piece). p.generation) d.is in
      omega (arith, a.cuts.generations d.parent (omega (arith, d.before)))
