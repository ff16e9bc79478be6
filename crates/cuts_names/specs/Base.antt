-- A marked base, over names: what the theory of cuts needs of a base mesh. It is less than refusals 4 to 8 ask: nothing here speaks of
-- places, so a piece may be flat, and a face may be in three pieces.
use Rattle.std.specs.Prelude.{◌≡◌, ◌≢◌, ◌↔◌, ℕ, ◌<◌}
use Rattle.piece.specs.Shape.{mark, Valid}
use Rattle.cuts_names.specs.Names as Names
use Rattle.cuts_names.specs.Names.{Name}
use Rattle.cuts_names.specs.Pieces.{Piece, mid_of}

-- x is a corner of the piece.
abbrev pub HasCorner : Piece Name → Name → Type 0
HasCorner p x = (k : ℕ) × (k < 4) × (p.corner k ≡ x)

-- x is a corner of face i, the face without slot i.
abbrev pub OnFace : Piece Name → ℕ → Name → Type 0
OnFace p i x = (k : ℕ) × (k < 4) × (k ≢ i) × (p.corner k ≡ x)

-- Two pieces have the same four corners, as a set.
abbrev pub SameCorners : Piece Name → Piece Name → Type 0
SameCorners p q = (x : Name) → HasCorner p x ↔ HasCorner q x

-- Its four corners are different names.
abbrev pub Different : Piece Name → Type 0
Different p = (j k : ℕ) → j < 4 → k < 4 → p.corner j ≡ p.corner k → j ≡ k

-- Face i of p and face j of q have the same three corners, as a set.
abbrev pub SameFace : Piece Name → ℕ → Piece Name → ℕ → Type 0
SameFace p i q j = (x : Name) → OnFace p i x ↔ OnFace q j x

-- The mark of face i, named by its midpoint: the marked edge is known by its two ends, whatever slots they stand in, and `mid` gives one name to each
-- unordered pair of ends and no name to two pairs. So two faces carry the same mark where these names are the same.
abbrev pub marked_at : Piece Name → ℕ → Name
marked_at p i = mid_of p (mark p.shape i)

pub record Marked (count : ℕ) (base : ℕ → Piece Name) : Type 0 where
  -- each piece is validly marked, with the flag unset
  pub valid : (r : ℕ) → r < count → Valid (base r).shape
  pub unset : (r : ℕ) → r < count → (base r).shape.flag ≡ 0
  -- its corners are four different base vertices
  pub corners : (r : ℕ) → r < count → (k : ℕ) → k < 4 → (n : ℕ) × ((base r).corner k ≡ Names.base n)
  pub different : (r : ℕ) → r < count → Different (base r)
  -- no two have the same corners, and shared faces carry one mark
  pub alone : (r t : ℕ) → r < count → t < count → SameCorners (base r) (base t) → r ≡ t
  pub shared : (r t : ℕ) → r < count → t < count → (i j : ℕ) → i < 4 → j < 4 → SameFace (base r) i (base t) j → marked_at (base r) i ≡ marked_at (base t) j
