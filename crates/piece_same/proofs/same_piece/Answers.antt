-- `piece_same::same_piece`: the derived equality and the definition both pass exactly where the pieces are one.
-- Assumes nothing.
use Rattle.std.proofs.Common.{rules}
use mathlib.Core.Path.{◌≡◌, ap, subst}
use mathlib.Core.Bool.{true, ◌&&◌}
use lib.Dec.{eqb}
use lib.ListN.{length}
use lib.Pointwise.{pointwise, bytes_decides}
use Rattle.std.specs.Bool.{Decides}
use Rattle.std.proofs.lemmas.Bool.Decides.{Decides-like, Decides-and, Decides-at, Decides-eqb, same_from_decides}
use Rattle.piece.specs.declared.Piece.{Piece}
use Rattle.piece.specs.Same.{same_piece, same_piece_is, same_piece_refl}
use Rattle.piece_same.proofs.same_piece.Goals as goal

-- The derived equality compares field by field, in the order in which they are declared.
derived : (p q : Piece) → Decides (pointwise eqb p.corners q.corners && (eqb p.edge q.edge && (pointwise eqb p.marks q.marks && (eqb p.flag q.flag && (eqb p.generation q.generation && eqb p.material q.material))))) (p ≡ q)
derived p q =
    Decides-like _
    (λ h. λ i. record { corners = h.0 i; edge = h.1.0 i; marks = h.1.1.0 i; flag = h.1.1.1.0 i; generation = h.1.1.1.1.0 i; material = h.1.1.1.1.1 i })
    (λ e. (ap (λ (r : Piece). r.corners) e, (ap (λ (r : Piece). r.edge) e, (ap (λ (r : Piece). r.marks) e, (ap (λ (r : Piece). r.flag) e, (ap (λ (r : Piece). r.generation) e, ap (λ (r : Piece). r.material) e))))))
    (Decides-and _ _ (bytes_decides p.corners q.corners)
    (Decides-and _ _ (Decides-eqb p.edge q.edge)
    (Decides-and _ _ (bytes_decides p.marks q.marks)
    (Decides-and _ _ (Decides-eqb p.flag q.flag)
    (Decides-and _ _ (Decides-eqb p.generation q.generation) (Decides-eqb p.material q.material))))))

-- So does the definition, slot by slot.
defined : (p q : Piece) → length p.corners ≡ 4 → length q.corners ≡ 4 → length p.marks ≡ 4 → length q.marks ≡ 4 → Decides (same_piece p q) (p ≡ q)
defined p q pc qc pm qm = (same_piece_is p q pc qc pm qm, λ e. subst (λ (r : Piece). same_piece p r ≡ true) e (same_piece_refl p))

pub returns : goal.returns
returns c =
    let a = c.args in
    same_from_decides _ _ (Decides-at _ _ c.eq.ensures (derived a.p a.q)) (defined a.p a.q (search rules) (search rules) (search rules) (search rules))
