-- Request nine, over sets of cuts: which made vertices are taken away, and what remains. The words; `Coarser` has the theorems.
use Rattle.std.specs.Prelude.{◌≡◌, true, false, ◌↔◌, ℕ}
use Rattle.cuts_names.specs.Names.{Name}
use Rattle.cuts_names.specs.Pieces.{Piece, Side, Node, kid, piece_at, makes}
use Rattle.cuts.specs.Sets.{Cuts, Leaf, CutsWithin, NoneHangs}

-- The piece "has two leaves as children".
abbrev pub LeafChildren : {count : ℕ} → Cuts count → Node → Type 0
LeafChildren C n = (side : Side) → Leaf C (kid n side)

module _ (base : ℕ → Piece Name) {count : ℕ} (C : Cuts count) where
  -- The piece is cut at the vertex x: its cut makes x.
  pub record CutAt (x : Name) (n : Node) : Type 0 where
    pub is_cut_lem : C.has n ≡ true
    pub makes_it : makes (piece_at base n) ≡ x

  -- Named: the pieces that are named.
  module _ (Named : Node → Type 0) where
    -- "A made vertex is taken away exactly when every record cut at it has two leaves as children and all those records are named".
    pub record TakenAway (x : Name) : Type 0 where
      -- it is a made vertex: some piece is cut at it
      pub cut : Node
      pub made : CutAt x cut
      pub leaf_children_lem : (n : Node) → CutAt x n → LeafChildren C n
      pub named : (n : Node) → CutAt x n → Named n

    -- D has exactly the cuts of C at vertices that are not taken away; "named records that don't meet this stay cut."
    pub record Remains (D : Cuts count) : Type 0 where
      pub within : CutsWithin D C
      pub gone : (n : Node) → C.has n ≡ true → (D.has n ≡ false) ↔ TakenAway (makes (piece_at base n))

    -- X is what C can be made by taking back named cuts that have leaves as children, with no hanging edge left.
    pub record Coarser (X : Cuts count) : Type 0 where
      pub within : CutsWithin X C
      pub none_hangs : NoneHangs base X
      pub named : (n : Node) → C.has n ≡ true → X.has n ≡ false → Named n
      pub leaf_children_lem : (n : Node) → C.has n ≡ true → X.has n ≡ false → LeafChildren C n
