-- Of specs/Coarser.antt, the theorems that an edit of a definition breaks, and what only they need.
use Rattle.std.specs.Prelude.{◌≡◌, refl, true, false, not, ◌||◌, ◌≢◌, List, [], ◌∷◌, ℕ, ◌<◌, eqb}
use Rattle.std.proofs.Common.{sym, ap, ap₂, ◌∙◌, ⊎_elim, eqb-true, ne_eqb}
use Rattle.std.proofs.lemmas.Bool.{eqb-false}
use Rattle.laws.specs.Below.{all_below, all_at, or_second, either}
use Rattle.piece_edges.specs.Edges.{low_slot, high_slot, on_face}
use Rattle.piece.specs.Shape.{slot_a, slot_b}
use Rattle.piece.specs.Every.{only_if, only_if_holds}
use Rattle.cuts_names.specs.Lists.{both_ways, not_so}
use Rattle.cuts_names.specs.Names.{Name, mid}
use Rattle.cuts_names.specs.Pieces.{Piece, Side, low, high, end_at, mid_of, makes, child, Node, kid, piece_at, piece_kid_lem}
use Rattle.cuts_names.specs.Base.{Marked}
use Rattle.cuts_names.specs.Macro.{computed, edge_below}
use Rattle.cuts_names.proofs.Macro.{node_valid}
use Rattle.cuts.specs.Sets.{Cuts, There, CutsWithin, NoneHangs}
use Rattle.cuts.specs.FacesNames.{face_slots}
use Rattle.cuts.specs.Least.{there_within, hangs_within_lem}
use Rattle.cuts_faces.specs.Kid.{old_corner}
use Rattle.cuts_coarser.specs.TakenAway.{LeafChildren, CutAt, TakenAway, Remains, Coarser}
use Rattle.cuts_coarser.specs.Coarser as Specs

-- Of two different edges, the first is without one end of the second.
apart_table : all_below 6 (λ e. all_below 6 (λ d. only_if (not (eqb e d)) (on_face e (low_slot d) || on_face e (high_slot d)))) ≡ true
unfolding computed
apart_table = refl

-- Every edge of a piece but its refinement edge is an edge of one of its children, by the same code.
edge_kept : (p : Piece Name) → p.shape.edge < 6 → (e : ℕ) → e < 6 → e ≢ p.shape.edge → (side : Side) × (mid_of (child p side) e ≡ mid_of p e)
unfolding slot_a slot_b
edge_kept p small e l other =
    let d = p.shape.edge in
    let apart =
    only_if_holds (not (eqb e d)) (on_face e (low_slot d) || on_face e (high_slot d))
    (all_at (λ d. only_if (not (eqb e d)) (on_face e (low_slot d) || on_face e (high_slot d))) 6 d (all_at (λ e. all_below 6 (λ d. only_if (not (eqb e d)) (on_face e (low_slot d) || on_face e (high_slot d)))) 6 e apart_table l) small)
    (ap not (ne_eqb e d other)) in
    ⊎_elim
    (λ t. (low, whole low (face_slots e (low_slot d) t)))
    (λ f. (high, whole high (face_slots e (high_slot d) (or_second (on_face e (low_slot d)) (on_face e (high_slot d)) f apart))))
    (either (on_face e (low_slot d)))
  where
    whole : (side : Side) → (low_slot e ≢ end_at p.shape side) × (high_slot e ≢ end_at p.shape side) → mid_of (child p side) e ≡ mid_of p e
    whole side off = ap₂ mid (old_corner p side (low_slot e) off.0) (old_corner p side (high_slot e) off.1)

module _ {count : ℕ} {base : ℕ → Piece Name} (marked : Marked count base) (C : Cuts count) (Named : Node → Type 0) where
  -- The code of a cut piece's refinement edge.
  cut_edge : (n : Node) → C.has n ≡ true → (piece_at base n).shape.edge < 6
  cut_edge n t = edge_below (piece_at base n).shape (node_valid marked n (C.rooted n t))

  module _ (D : Cuts count) (r : Remains base C Named D) where
    -- As specs/ has it.
    abbrev none_at_taken : (x : Name) → TakenAway base C Named x → (n : Node) → D.has n ≡ true → makes (piece_at base n) ≡ x → ⊥
    none_at_taken = Specs.none_at_taken marked C Named D r

    -- "A made vertex is taken away exactly when [..] all those records are named": what is taken back was named and had leaves as children.
    pub taken_named : (n : Node) → C.has n ≡ true → D.has n ≡ false → Named n
    taken_named n t f = ((r.gone n t).0 f).named n (record { is_cut_lem = t; makes_it = refl })

    pub taken_leaves : (n : Node) → C.has n ≡ true → D.has n ≡ false → LeafChildren C n
    taken_leaves n t f = ((r.gone n t).0 f).leaf_children_lem n (record { is_cut_lem = t; makes_it = refl })

    -- No edge hangs in what remains, where none hung before. A leaf of it was a leaf, or was cut at a vertex that is taken away. Such a piece's refinement
    -- edge has that vertex for its midpoint, and no cut that remains makes it; its other edges are edges of its children, which were leaves.
    pub remains_rests : NoneHangs base C → NoneHangs base D
    remains_rests rests n leaf (e, x) = ⊎_elim was_cut was_leaf (either (C.has n))
      where
        p : Piece Name
        p = piece_at base n

        was_leaf : C.has n ≡ false → ⊥
        was_leaf f = rests n (record { there = there_within D C r.within n leaf.there; uncut = f }) (e, hangs_within_lem D C r.within base n e x)

        was_cut : C.has n ≡ true → ⊥
        was_cut t =
            let taken : TakenAway base C Named (makes p) = (r.gone n t).0 leaf.uncut in
            ⊎_elim
            (λ same. none_at_taken (makes p) taken x.cut x.is_cut (x.halfway ∙ ap (mid_of p) (eqb-true e p.shape.edge same)))
            (λ other.
            let (side, whole) = edge_kept p (cut_edge n t) e x.edge (eqb-false e p.shape.edge other) in
            rests (kid n side) (taken.leaf_children_lem n (record { is_cut_lem = t; makes_it = refl }) side)
            (e, record { edge = x.edge; cut = x.cut; is_cut = r.within x.cut x.is_cut; halfway = x.halfway ∙ sym whole ∙ ap (λ (q : Piece Name). mid_of q e) (sym (piece_kid_lem base n side)) }))
            (either (eqb e p.shape.edge))

    -- So it is one of the coarser sets.
    pub remains_coarser : NoneHangs base C → Coarser base C Named D
    remains_coarser rests = record { within = r.within; none_hangs = remains_rests rests; named = taken_named; leaf_children_lem = taken_leaves }

    -- And it is inside all of them: nothing coarser can be had.
    pub nothing_coarser : (X : Cuts count) → Coarser base C Named X → CutsWithin D X
    nothing_coarser X c n is_cut = ⊎_elim (λ t. t) (λ f. absurd (both_ways is_cut ((r.gone n cut_there).1 (taken f)))) (either (X.has n))
      where
        cut_there : C.has n ≡ true
        cut_there = r.within n is_cut

        -- a piece that X does not cut is there in X: its parent's children would else be leaves
        there_at : (root : ℕ) (path : List Side) → C.has (record { root = root; path = path }) ≡ true → There X (record { root = root; path = path })
        there_at root [] t = C.rooted (record { root = root; path = [] }) t
        there_at root (side ∷ path) t =
            let parent : Node = record { root = root; path = path } in
            ⊎_elim (λ u. u) (λ f. absurd (both_ways t (c.leaf_children_lem parent (C.closed parent side t) f side).uncut)) (either (X.has parent))

        -- where X does not cut n it cuts no piece at that vertex, or n's refinement edge would hang
        missing : X.has n ≡ false → (m : Node) → CutAt base C (makes (piece_at base n)) m → X.has m ≡ false
        missing f m a =
            not_so (X.has m)
            (λ t.
            c.none_hangs n (record { there = there_at n.root n.path cut_there; uncut = f })
            ((piece_at base n).shape.edge, record { edge = cut_edge n cut_there; cut = m; is_cut = t; halfway = a.makes_it }))

        taken : X.has n ≡ false → TakenAway base C Named (makes (piece_at base n))
        taken f =
            record {
              cut = n;
              made = record { is_cut_lem = cut_there; makes_it = refl };
              leaf_children_lem = λ m a. c.leaf_children_lem m a.is_cut_lem (missing f m a);
              named = λ m a. c.named m a.is_cut_lem (missing f m a);
            }
