-- Face to face, over sets of cuts: document 002's "every face of every tetrahedron in the mesh either belongs to the boundary or is a face of another
-- tetrahedron in the mesh". The words; `Proved` has the theorem.
use Rattle.std.specs.Prelude.{◌≡◌, ◌⊎◌, ◌≢◌, ℕ, ◌<◌}
use Rattle.piece.specs.Shape.{Valid}
use Rattle.cuts_names.specs.Names as Names
use Rattle.cuts_names.specs.Names.{Name, mid}
use Rattle.cuts_names.specs.Pieces.{Piece, Node, piece_at}
use Rattle.cuts_names.specs.Base.{OnFace, SameCorners, Different, SameFace, marked_at}
use Rattle.cuts.specs.Sets.{Cuts, Leaf}

-- ---- the base

-- A properly marked base, over names.
pub record ProperlyMarked (count : ℕ) (base : ℕ → Piece Name) : Type 0 where
  -- each piece is validly marked, with the flag unset
  pub valid : (r : ℕ) → r < count → Valid (base r).shape
  pub unset : (r : ℕ) → r < count → (base r).shape.flag ≡ 0
  -- its corners are four different base vertices
  pub corners : (r : ℕ) → r < count → (k : ℕ) → k < 4 → (n : ℕ) × ((base r).corner k ≡ Names.base n)
  pub different : (r : ℕ) → r < count → Different (base r)
  -- no two have the same corners
  pub alone : (r s : ℕ) → r < count → s < count → SameCorners (base r) (base s) → r ≡ s
  -- no face is in three pieces
  pub in_two : (r s t : ℕ) → r < count → s < count → t < count → (i j k : ℕ) → i < 4 → j < 4 → k < 4 → SameFace (base r) i (base s) j → SameFace (base r) i (base t) k → (r ≡ s) ⊎ ((r ≡ t) ⊎ (s ≡ t))
  -- a shared face has one mark
  pub one_mark : (r s : ℕ) → r < count → s < count → (i j : ℕ) → i < 4 → j < 4 → SameFace (base r) i (base s) j → marked_at (base r) i ≡ marked_at (base s) j

-- ---- "Lies in" is by descent of the corners from that base face's corners

-- A vertex lies in face g of the piece p if it is one of that face's three corners, or if it is the midpoint of two that lie in it.
pub data LiesIn (p : Piece Name) (g : ℕ) : Name → Type 0 where
  corner : {x : Name} → OnFace p g x → LiesIn p g x
  midpoint : {a b x : Name} → LiesIn p g a → LiesIn p g b → x ≡ mid a b → LiesIn p g x

-- Face i of q lies in it if its three corners do.
abbrev pub FaceLiesIn : Piece Name → ℕ → Piece Name → ℕ → Type 0
FaceLiesIn q i p g = (x : Name) → OnFace q i x → LiesIn p g x

-- Face g of base piece r is in no other base piece.
abbrev pub Alone : ℕ → (ℕ → Piece Name) → ℕ → ℕ → Type 0
Alone count base r g = (s : ℕ) → s < count → (j : ℕ) → j < 4 → SameFace (base r) g (base s) j → s ≡ r

-- ---- the faces of a leaf

module _ {count : ℕ} (base : ℕ → Piece Name) (C : Cuts count) where
  -- Face i of leaf n is in exactly two leaves: there is one other leaf with the same three corners, and every leaf with them is one of the two.
  pub record InTwo (n : Node) (i : ℕ) : Type 0 where
    pub other : Node
    pub leaf : Leaf C other
    pub apart : other ≢ n
    pub j : ℕ
    pub face : j < 4
    pub same : SameFace (piece_at base n) i (piece_at base other) j
    pub only : (m : Node) → Leaf C m → (l : ℕ) → l < 4 → SameFace (piece_at base n) i (piece_at base m) l → (m ≡ n) ⊎ (m ≡ other)

  -- It is in one leaf only, and lies in a base face that is in one base piece only.
  pub record InOne (n : Node) (i : ℕ) : Type 0 where
    pub only : (m : Node) → Leaf C m → (l : ℕ) → l < 4 → SameFace (piece_at base n) i (piece_at base m) l → m ≡ n
    pub r : ℕ
    pub piece : r < count
    pub g : ℕ
    pub face : g < 4
    pub lies : FaceLiesIn (piece_at base n) i (base r) g
    pub alone : Alone count base r g

  -- Each face of each leaf is in exactly two leaves, or in one and lies in a base face that is in one base piece only.
  abbrev pub FaceToFace : Type 0
  FaceToFace = (n : Node) → Leaf C n → (i : ℕ) → i < 4 → InTwo n i ⊎ InOne n i

  -- Two leaves that share a face mark it alike.
  abbrev pub MarkedAlike : Type 0
  MarkedAlike = (n m : Node) → Leaf C n → Leaf C m → (i j : ℕ) → i < 4 → j < 4 → SameFace (piece_at base n) i (piece_at base m) j → marked_at (piece_at base n) i ≡ marked_at (piece_at base m) j
