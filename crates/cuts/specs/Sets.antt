-- Sets of cuts of a base, their leaves, and hanging edges.
use Rattle.std.specs.Prelude.{◌≡◌, Bool, true, false, List, [], ◌∷◌, ℕ, ◌<◌}
use Rattle.cuts_names.specs.Names.{Name}
use Rattle.cuts_names.specs.Pieces.{Piece, Node, Side, kid, piece_at, makes, mid_of}

-- A set of cuts of a base of `count` pieces: the nodes that are cut. A node is cut only after its parent.
pub record Cuts (count : ℕ) : Type 0 where
  pub has : Node → Bool
  pub rooted : (n : Node) → has n ≡ true → n.root < count
  pub closed : (n : Node) (side : Side) → has (kid n side) ≡ true → has n ≡ true

abbrev ThereAt : {count : ℕ} → Cuts count → ℕ → List Side → Type 0
ThereAt {count} C r [] = r < count
ThereAt C r (side ∷ path) = C.has (record { root = r; path = path }) ≡ true

-- A node that is there: a base piece, or a child of a piece that is cut.
abbrev pub There : {count : ℕ} → Cuts count → Node → Type 0
There C n = ThereAt C n.root n.path

-- A leaf is there and not cut.
pub record Leaf {count : ℕ} (C : Cuts count) (n : Node) : Type 0 where
  pub there : There C n
  pub uncut : C.has n ≡ false

-- Every cut of C is one of X.
abbrev pub CutsWithin : {count : ℕ} → Cuts count → Cuts count → Type 0
CutsWithin C X = (n : Node) → C.has n ≡ true → X.has n ≡ true

module _ (base : ℕ → Piece Name) where
  -- Edge e of node n hangs: some cut makes its midpoint. Two edges are the same where their midpoints are the same name.
  pub record HangsAt {count : ℕ} (C : Cuts count) (n : Node) (e : ℕ) : Type 0 where
    pub edge : e < 6
    pub cut : Node
    pub is_cut : C.has cut ≡ true
    pub halfway : makes (piece_at base cut) ≡ mid_of (piece_at base n) e

  -- Some edge of it hangs.
  abbrev pub Hangs : {count : ℕ} → Cuts count → Node → Type 0
  Hangs C n = (e : ℕ) × HangsAt C n e

  -- No leaf has a hanging edge.
  abbrev pub NoneHangs : {count : ℕ} → Cuts count → Type 0
  NoneHangs C = (n : Node) → Leaf C n → Hangs C n → ⊥
