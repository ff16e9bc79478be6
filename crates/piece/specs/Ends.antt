-- Document 01, "Cutting": a piece's corners, and the ends of its edges in the order of their vertex numbers.
use Rattle.std.specs.Prelude.{◌≡◌, cond, List, ℕ, ◌≤◌, ◌<◌, get_or, ltb}
use Rattle.std.proofs.Common.{⊎_elim, lt-ltb, le-ltb}
use Rattle.laws.specs.Below.{either}
use Rattle.piece_edges.specs.Edges.{low_slot, high_slot}
use Rattle.piece.specs.declared.Piece.{Piece}
use Rattle.piece.specs.declared.Ends.{Ends}

-- ---- "the refinement edge, whose end of lower vertex number is u and higher v"

-- The corner in slot k.
abbrev pub corner_at : Piece → ℕ → ℕ
corner_at p k = get_or p.corners k 0

-- Of edge e, the slot of the end of lower vertex number, and of the end of higher.
unfoldable pub lower_end : Piece → ℕ → ℕ
lower_end p e = cond (ltb (corner_at p (low_slot e)) (corner_at p (high_slot e))) (low_slot e) (high_slot e)

unfoldable pub higher_end : Piece → ℕ → ℕ
higher_end p e = cond (ltb (corner_at p (low_slot e)) (corner_at p (high_slot e))) (high_slot e) (low_slot e)

-- The two vertex numbers of an edge.
unfoldable pub ends_of : Piece → ℕ → Ends
ends_of p e = record { lower = corner_at p (lower_end p e); higher = corner_at p (higher_end p e) }

-- Two vertex numbers, the lower first.
unfoldable pub between : ℕ → ℕ → Ends
between u v = cond (ltb u v) (record { lower = u; higher = v }) (record { lower = v; higher = u })

pub between_rising : (u v : ℕ) → u < v → ◌≡◌ {A = Ends} (record { lower = u; higher = v }) (between u v)
unfolding between
between_rising u v l = rw (lt-ltb u v l)

pub between_falling : (u v : ℕ) → v ≤ u → ◌≡◌ {A = Ends} (record { lower = v; higher = u }) (between u v)
unfolding between
between_falling u v l = rw (le-ltb u v l)

-- Of a piece with these corners, the two vertex numbers of an edge: the corners in its two slots.
unfoldable pub ends_at : List ℕ → ℕ → Ends
ends_at corners e = between (get_or corners (low_slot e) 0) (get_or corners (high_slot e) 0)

pub ends_at_lem : (p : Piece) (e : ℕ) → ends_at p.corners e ≡ ends_of p e
unfolding ends_at ends_of lower_end higher_end between
ends_at_lem p e =
    ⊎_elim (λ t. rw t) (λ f. rw f) (either (ltb (corner_at p (low_slot e)) (corner_at p (high_slot e))))
