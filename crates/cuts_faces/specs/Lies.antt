-- What lies in a face of a piece whose corners are base vertices.
use Rattle.std.specs.Prelude.{◌≡◌, ℕ, ◌<◌}
use Rattle.std.proofs.Common.{sym, ◌∙◌, ⊎_elim}
use Rattle.cuts_names.specs.Names as Names
use Rattle.cuts_names.specs.Names.{Name, mid, mid_not_base_lem}
use Rattle.cuts_names.proofs.Names.{mid_injective_lem}
use Rattle.cuts_names.specs.Pieces.{Piece}
use Rattle.cuts_names.specs.Base.{OnFace}
use Rattle.cuts_faces.specs.FaceToFace.{LiesIn, corner, midpoint}

-- A base vertex that lies in a face is a corner of it.
pub lies_corner : (p : Piece Name) (g n : ℕ) {x : Name} → LiesIn p g x → x ≡ Names.base n → OnFace p g x
lies_corner p g n (corner o) e = o
lies_corner p g n (midpoint {a} {b} s t q) e = absurd (mid_not_base_lem a b n (sym q ∙ e))

-- Where a midpoint lies in it, so do both its parents.
pub lies_parents : (p : Piece Name) (g : ℕ) → ((k : ℕ) → k < 4 → (n : ℕ) × (p.corner k ≡ Names.base n)) → (c d : Name) {x : Name} → LiesIn p g x → x ≡ mid c d → LiesIn p g c × LiesIn p g d
lies_parents p g corners c d (corner (k, l, away, q)) e = let (n, is) = corners k l in absurd (mid_not_base_lem c d n (sym e ∙ sym q ∙ is))
lies_parents p g corners c d (midpoint {a} {b} s t q) e =
    ⊎_elim
    (λ h. (rw h.0 s, rw h.1 t))
    (λ h. (rw h.0 t, rw h.1 s))
    (mid_injective_lem c d a b (sym e ∙ q))
