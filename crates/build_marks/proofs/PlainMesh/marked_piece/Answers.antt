-- `build_marks::PlainMesh::marked_piece`: its six edges, each between two of its corners.
-- Assumes nothing.
use mathlib.Core.Path.{◌≡◌, ◌∙◌}
use mathlib.Core.List.{List}
use Prim.Native.Nat.{ℕ}
use lib.IntN.{ℤ}
use Rattle.piece_edges.specs.Edges.{low_slot, high_slot}
use Rattle.piece.specs.declared.Piece.{Piece}
use Rattle.piece.specs.Ends.{corner_at}
use Rattle.grid.specs.declared.Place.{Place}
use Rattle.build_marks.specs.declared.Edge.{Edge}
use Rattle.build_marks.specs.Marking.{plain_place}
use Rattle.build_marks.specs.Choosing.{edge_for, edge_of, edge_is, marked_by, marked_by_lem}
use Rattle.build_marks.proofs.PlainMesh.marked_piece.Goals as goal

-- Edge e, from the places of its two ends.
edge : (coordinates : List ℤ) (p : Piece) (e : ℕ) {x : Edge} {a b : Place} →
    let u = corner_at p (low_slot e) in
    let v = corner_at p (high_slot e) in
    x ≡ edge_for e u v a b → a ≡ plain_place coordinates u → b ≡ plain_place coordinates v → x ≡ edge_of coordinates p e
edge coordinates p e f g h = f ∙ (λ i. edge_for e (corner_at p (low_slot e)) (corner_at p (high_slot e)) (g i) (h i)) ∙ edge_is coordinates p e

pub returns : goal.returns
unfolding low_slot high_slot
returns c =
    let args = c.args in
    let coordinates = args.self.now.coordinates.now in
    let p = args.p in
    let a = c.place-a.ensures in
    let b = c.place-b.ensures in
    let d = c.place-c.ensures in
    let e = c.place-d.ensures in
    c.marked_by.ensures
    ∙ (λ i. marked_by p.corners p.material
    (edge coordinates p 0 c.edge_between.ensures a b i)
    (edge coordinates p 1 c.edge_between-2.ensures a d i)
    (edge coordinates p 2 c.edge_between-3.ensures a e i)
    (edge coordinates p 3 c.edge_between-4.ensures b d i)
    (edge coordinates p 4 c.edge_between-5.ensures b e i)
    (edge coordinates p 5 c.edge_between-6.ensures d e i))
    ∙ marked_by_lem coordinates p
