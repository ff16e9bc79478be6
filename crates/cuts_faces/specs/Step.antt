-- Two nodes that share a face with their last vertices: the face is half of one that their parents share, or both are children of one parent and it is
-- the new face.
use Rattle.std.specs.Prelude.{◌≡◌, ◌⊎◌, ◌≢◌, ℕ, ◌<◌, eqb}
use Rattle.std.proofs.Common.{sym, ap, ◌∙◌, subst, subst₂, inl, inr, ⊎_elim, eqb-true}
use Rattle.std.proofs.lemmas.Bool.{eqb-false}
use Rattle.laws.specs.Below.{either}
use Rattle.laws.specs.Pairs.{SamePair}
use Rattle.piece.specs.Shape.{Valid}
use Rattle.cuts_names.specs.Names.{Name}
use Rattle.cuts_names.proofs.Names.{mid_injective_lem}
use Rattle.cuts_names.specs.Pieces.{Piece, Side, Node, makes, child, kid, piece_at, piece_kid_lem}
use Rattle.cuts_names.specs.Base.{Different, HasCorner, OnFace, SameFace, Marked}
use Rattle.cuts_names.proofs.Macro.{node_valid}
use Rattle.cuts.specs.Faces.{all_four, corners_different_lem, node_determined_lem}
use Rattle.cuts_faces.specs.Apart.{other}
use Rattle.cuts_faces.specs.Kid.{new_slot, stay_slot, new_slot_small, slots_differ, makes_is, new_corner, old_corner}
use Rattle.cuts_faces.specs.LastVertex.{one_last}

pub data Step (base : ℕ → Piece Name) (p q : Node) (side side' : Side) (i j : ℕ) : Type 0 where
  -- half of a face that the parents share: the same corner is cut away
  half : i ≢ stay_slot (piece_at base p) side → j ≢ stay_slot (piece_at base q) side' → SameFace (piece_at base p) i (piece_at base q) j →
      (piece_at base p).corner (new_slot (piece_at base p) side) ≡ (piece_at base q).corner (new_slot (piece_at base q) side') → Step base p q side side' i j
  -- the new face of one parent
  new : p ≡ q → i ≡ stay_slot (piece_at base p) side → j ≡ stay_slot (piece_at base q) side' → Step base p q side side' i j

-- ---- one child

-- A valid piece; its corners are different, and so are those of both its children.
record Distinct (p : Piece Name) (side : Side) : Type 0 where
  valid : Valid p.shape
  parent : Different p
  this : Different (child p side)
  sibling : Different (child p (other side))

module _ (p : Piece Name) (side : Side) (a : Distinct p side) where
  -- No corner of the piece is the new vertex.
  not_made : (k : ℕ) → k < 4 → p.corner k ≢ makes p
  not_made k l e =
      ⊎_elim
      (λ t.
      let is = eqb-true k (new_slot p side) t in
      let d : k ≢ stay_slot p side = λ s. slots_differ p a.valid side (sym is ∙ s) in
      d (a.sibling k (stay_slot p side) l (new_slot_small p (other side)) (old_corner p (other side) k d ∙ e ∙ sym (new_corner p (other side)))))
      (λ f.
      let d = eqb-false k (new_slot p side) f in
      d (a.this k (new_slot p side) l (new_slot_small p side) (old_corner p side k d ∙ e ∙ sym (new_corner p side))))
      (either (eqb k (new_slot p side)))

  -- A corner of the piece that the child has, it has in the same slot, and that is not the new vertex's.
  same_slot_lem : (k : ℕ) → k < 4 → (j : ℕ) → j < 4 → (child p side).corner j ≡ p.corner k → (j ≡ k) × (j ≢ new_slot p side)
  same_slot_lem k l j b e =
      ⊎_elim
      (λ t. absurd (not_made k l (sym e ∙ ap (child p side).corner (eqb-true j (new_slot p side) t) ∙ new_corner p side)))
      (λ f. let d = eqb-false j (new_slot p side) f in (a.parent j k b l (sym (old_corner p side j d) ∙ e), d))
      (either (eqb j (new_slot p side)))

  -- The child does not have the corner that is cut away.
  cut_off : (j : ℕ) → j < 4 → (child p side).corner j ≢ p.corner (new_slot p side)
  cut_off j b e = let (s, d) = same_slot_lem (new_slot p side) (new_slot_small p side) j b e in d s

  -- The end of the refinement edge that stays is on each half.
  stays_on : (i : ℕ) → i ≢ stay_slot p side → OnFace (child p side) i (p.corner (stay_slot p side))
  stays_on i n = (stay_slot p side, new_slot_small p (other side), λ s. n (sym s), old_corner p side (stay_slot p side) (λ s. slots_differ p a.valid side (sym s)))

  -- It is not on the new face.
  stays_off : OnFace (child p side) (stay_slot p side) (p.corner (stay_slot p side)) → ⊥
  stays_off o = let (j, b, d, e) = o in d (same_slot_lem (stay_slot p side) (new_slot_small p (other side)) j b e).0

-- ---- two children that share a face with the new vertex

-- The corners of face i of one child are corners of face j of another.
abbrev Over : Piece Name → Piece Name → Side → Side → ℕ → ℕ → Type 0
Over p q side side' i j = (x : Name) → OnFace (child p side) i x → OnFace (child q side') j x

module _ (p q : Piece Name) (side side' : Side) (a : Distinct p side) (b : Distinct q side') (one : makes p ≡ makes q) where
  -- The refinement edges have the same ends.
  same_ends : SamePair (p.corner (new_slot p side)) (p.corner (stay_slot p side)) (q.corner (new_slot q side')) (q.corner (stay_slot q side'))
  same_ends = mid_injective_lem (p.corner (new_slot p side)) (p.corner (stay_slot p side)) (q.corner (new_slot q side')) (q.corner (stay_slot q side')) (sym (makes_is p side) ∙ one ∙ makes_is q side')

  -- A corner of the parent that is on the shared face is one of the other parent.
  old_on : (i j : ℕ) → Over p q side side' i j → (k : ℕ) → k < 4 → k ≢ i → k ≢ new_slot p side → (k' : ℕ) × (k' < 4) × (k' ≢ j) × (q.corner k' ≡ p.corner k)
  old_on i j f k l d n =
      let (k', l', d', e) = f (p.corner k) (k, l, d, old_corner p side k n) in
      ⊎_elim
      (λ t. absurd (not_made p side a k l (sym e ∙ ap (child q side').corner (eqb-true k' (new_slot q side') t) ∙ new_corner q side' ∙ sym one)))
      (λ g. (k', l', d', sym (old_corner q side' k' (eqb-false k' (new_slot q side') g)) ∙ e))
      (either (eqb k' (new_slot q side')))

  -- Of a half, the same corner is cut away.
  half_cut : (i j : ℕ) → Over p q side side' i j → i ≢ stay_slot p side → p.corner (new_slot p side) ≡ q.corner (new_slot q side')
  half_cut i j f n =
      ⊎_elim (λ s. s.0)
      (λ s. let (k, l, d, e) = f (p.corner (stay_slot p side)) (stays_on p side a i n) in absurd (cut_off q side' b k l (e ∙ s.1)))
      same_ends

  -- A half is no new face.
  half_not_new : (i : ℕ) → Over p q side side' i (stay_slot q side') → i ≢ stay_slot p side → ⊥
  half_not_new i f n =
      let o = f (p.corner (stay_slot p side)) (stays_on p side a i n) in
      ⊎_elim
      (λ s. stays_off q side' b (subst (OnFace (child q side') (stay_slot q side')) s.1 o))
      (λ s. let (k, l, d, e) = o in cut_off q side' b k l (e ∙ s.1))
      same_ends

  -- The corners of the parent's face are corners of the other parent's.
  half_over : (i j : ℕ) → j ≢ new_slot q side' → Over p q side side' i j → i ≢ stay_slot p side → (x : Name) → OnFace p i x → OnFace q j x
  half_over i j c f n x o =
      let (k, l, d, e) = o in
      ⊎_elim
      (λ t. (new_slot q side', new_slot_small q side', λ s. c (sym s), sym (half_cut i j f n) ∙ sym (ap p.corner (eqb-true k (new_slot p side) t)) ∙ e))
      (λ g. let (k', l', d', e') = old_on i j f k l d (eqb-false k (new_slot p side) g) in (k', l', d', e' ∙ e))
      (either (eqb k (new_slot p side)))

  -- The corners of one parent of a shared new face are corners of the other.
  new_over : (j : ℕ) → Over p q side side' (stay_slot p side) j → (x : Name) → HasCorner p x → HasCorner q x
  new_over j f x o =
      let (k, l, e) = o in
      ⊎_elim
      (λ t. let is = sym (ap p.corner (eqb-true k (new_slot p side) t)) ∙ e in
      ⊎_elim (λ s. (new_slot q side', new_slot_small q side', sym s.0 ∙ is)) (λ s. (stay_slot q side', new_slot_small q (other side'), sym s.0 ∙ is)) same_ends)
      (λ g.
      ⊎_elim
      (λ t. let is = sym (ap p.corner (eqb-true k (stay_slot p side) t)) ∙ e in
      ⊎_elim (λ s. (stay_slot q side', new_slot_small q (other side'), sym s.1 ∙ is)) (λ s. (new_slot q side', new_slot_small q side', sym s.1 ∙ is)) same_ends)
      (λ g'. let (k', l', d', e') = old_on (stay_slot p side) j f k l (eqb-false k (stay_slot p side) g') (eqb-false k (new_slot p side) g) in (k', l', e' ∙ e))
      (either (eqb k (stay_slot p side))))
      (either (eqb k (new_slot p side)))

-- The shared face is half of one that the parents share, with the same corner cut away; or it is the new face, and the corners of the one parent are
-- corners of the other.
half_or_new : (p q : Piece Name) (side side' : Side) → Distinct p side → Distinct q side' → makes p ≡ makes q → (i j : ℕ) → i ≢ new_slot p side → j ≢ new_slot q side' → SameFace (child p side) i (child q side') j →
    ((i ≢ stay_slot p side) × (j ≢ stay_slot q side') × SameFace p i q j × (p.corner (new_slot p side) ≡ q.corner (new_slot q side')))
    ⊎ (((x : Name) → HasCorner p x → HasCorner q x) × (i ≡ stay_slot p side) × (j ≡ stay_slot q side'))
half_or_new p q side side' a b one i j d d' f =
    let over : Over p q side side' i j = λ x. (f x).0 in
    let back : Over q p side' side j i = λ x. (f x).1 in
    ⊎_elim
    (λ t.
    let s = eqb-true i (stay_slot p side) t in
    ⊎_elim
    (λ t'. inr (new_over p q side side' a b one j (subst (λ (i : ℕ). Over p q side side' i j) s over), s, eqb-true j (stay_slot q side') t'))
    (λ n'. absurd (half_not_new q p side' side b a (sym one) j (subst (λ (i : ℕ). Over q p side' side j i) s back) (eqb-false j (stay_slot q side') n')))
    (either (eqb j (stay_slot q side'))))
    (λ n.
    let s = eqb-false i (stay_slot p side) n in
    ⊎_elim
    (λ t'. absurd (half_not_new p q side side' a b one i (subst (λ (j : ℕ). Over p q side side' i j) (eqb-true j (stay_slot q side') t') over) s))
    (λ n'.
    let s' = eqb-false j (stay_slot q side') n' in
    inl (s, s', λ x. (half_over p q side side' a b one i j d' over s x, half_over q p side' side b a (sym one) j i d back s' x), half_cut p q side side' a b one i j over s))
    (either (eqb j (stay_slot q side'))))
    (either (eqb i (stay_slot p side)))

-- ---- nodes

-- The corners of a node are different, and so are those of its children.
distinct_at : {count : ℕ} {base : ℕ → Piece Name} → Marked count base → (p : Node) → p.root < count → (side : Side) → Distinct (piece_at base p) side
unfolding piece_at
distinct_at marked p h side =
    record {
      valid = node_valid marked p h;
      parent = corners_different_lem marked p h;
      this = corners_different_lem marked (kid p side) h;
      sibling = corners_different_lem marked (kid p (other side)) h;
    }

-- A shared face with both last vertices is half of a face that the parents share, or the new face of one parent.
pub step : {count : ℕ} {base : ℕ → Piece Name} → Marked count base → (p q : Node) → p.root < count → q.root < count → (side side' : Side) (i j : ℕ) → i < 4 → j < 4 →
    i ≢ new_slot (piece_at base p) side → j ≢ new_slot (piece_at base q) side' → SameFace (piece_at base (kid p side)) i (piece_at base (kid q side')) j →
    Step base p q side side' i j
step {count} {base} marked p q h h' side side' i j l l' d d' f =
    ⊎_elim
    (λ s. half s.0 s.1 s.2 s.3)
    (λ s. new (node_determined_lem marked p q h h' (all_four (piece_at base p) (piece_at base q) (corners_different_lem marked p h) s.0)) s.1 s.2)
    (half_or_new (piece_at base p) (piece_at base q) side side' (distinct_at marked p h side) (distinct_at marked q h' side') (one_last marked p q h h' side side' i j l l' d d' f) i j d d'
    (subst₂ (λ (x y : Piece Name). SameFace x i y j) (piece_kid_lem base p side) (piece_kid_lem base q side') f))
