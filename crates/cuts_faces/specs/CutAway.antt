-- A corner cut away never returns.
use Rattle.std.specs.Prelude.{◌≡◌, ◌⊎◌, ◌≢◌, List, [], ◌∷◌, ◌++◌, ℕ, suc, ◌/◌, ◌<◌, ◌≤◌, eqb}
use Rattle.std.proofs.Common.{sym, ap, ◌∙◌, subst, inl, inr, ⊎_elim, arith, length-append, eqb-true}
use Rattle.std.proofs.lemmas.Bool.{eqb-false}
use Rattle.laws.specs.Below.{either}
use Rattle.cuts_names.specs.Names.{Name, level}
use Rattle.cuts_names.proofs.Names.{level_mid_lem}
use Rattle.cuts_names.specs.Pieces.{Piece, Side, Node, generation, kid, piece_at, piece_kid_lem, makes, child}
use Rattle.cuts_names.specs.Base.{HasCorner, Marked}
use Rattle.cuts_names.proofs.Macro.{node_level}
use Rattle.cuts.specs.Faces.{corners_different_lem}
use Rattle.cuts_faces.specs.Apart.{After}
use Rattle.cuts_faces.specs.Kid.{new_slot, stay_slot, new_slot_small, makes_is, new_corner, old_corner}

-- A corner of a child is the new vertex, or a corner of the parent in another slot than the new vertex has.
pub child_corner : (p : Piece Name) (side : Side) (x : Name) → HasCorner (child p side) x → (makes p ≡ x) ⊎ ((j : ℕ) × (j < 4) × (j ≢ new_slot p side) × (p.corner j ≡ x))
child_corner p side x c =
    let (j, l, e) = c in
    ⊎_elim
    (λ t. inl (sym (new_corner p side) ∙ ap (child p side).corner (sym (eqb-true j (new_slot p side) t)) ∙ e))
    (λ f. let d = eqb-false j (new_slot p side) f in inr (j, l, d, sym (old_corner p side j d) ∙ e))
    (either (eqb j (new_slot p side)))

-- The corner of p in whose place the child on this side has the new vertex.
abbrev gone : Piece Name → Side → Name
gone p side = p.corner (new_slot p side)

module _ {count : ℕ} {base : ℕ → Piece Name} (marked : Marked count base) where
  -- A corner of a piece that comes after n is a corner of n, or has at least the level of the vertex that cutting n makes.
  old_or_made : (n : Node) → n.root < count → (steps : List Side) (x : Name) → HasCorner (piece_at base (record { root = n.root; path = steps ++ n.path })) x → HasCorner (piece_at base n) x ⊎ (suc (generation n / 3) ≤ level x)
  old_or_made n h [] x c = inl c
  old_or_made n h (side ∷ steps) x c =
      ⊎_elim
      (λ e. inr (rw (← e) (omega (arith, node_level marked m h, length-append steps n.path))))
      (λ o. let (j, l, d, e) = o in old_or_made n h steps x (j, l, e))
      (child_corner (piece_at base m) side x (rw (piece_kid_lem base m side) at c))
    where
      m : Node
      m = record { root = n.root; path = steps ++ n.path }

  module _ (p : Node) (h : p.root < count) (side : Side) where
    -- The corner of p that the child does not keep has a lower level than the new vertex.
    gone_level : level (gone (piece_at base p) side) ≤ generation p / 3
    gone_level =
        let q = piece_at base p in
        omega (arith, node_level marked p h, ap level (makes_is q side), level_mid_lem (gone q side) (q.corner (stay_slot q side)))

    -- The child does not have it.
    not_in_kid : HasCorner (piece_at base (kid p side)) (gone (piece_at base p) side) → ⊥
    not_in_kid c =
        let q = piece_at base p in
        ⊎_elim
        (λ e. let high = ap level e in omega (arith, node_level marked p h, gone_level))
        (λ o. let (j, l, d, e) = o in d (corners_different_lem marked p h j (new_slot q side) l (new_slot_small q side) e))
        (child_corner q side (gone q side) (rw (piece_kid_lem base p side) at c))

-- The child on this side has the new vertex in place of one corner of p; no piece that comes after the child has that corner.
pub cut_away : {count : ℕ} {base : ℕ → Piece Name} → Marked count base → (p : Node) → p.root < count → (side : Side) (d : Node) → After (kid p side) d →
    HasCorner (piece_at base d) ((piece_at base p).corner (new_slot (piece_at base p) side)) → ⊥
cut_away {base = base} marked p h side d a c =
    ⊎_elim
    (not_in_kid marked p h side)
    (λ high. omega (arith, gone_level marked p h side))
    (old_or_made marked (kid p side) h a.0 (gone (piece_at base p) side) (subst (λ (x : Node). HasCorner (piece_at base x) (gone (piece_at base p) side)) a.1 c))
