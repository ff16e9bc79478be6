-- The words of request thirteen, over the tables that a mesh's bytes hold. Faces are sets of three vertex numbers: `OnRecordFace`, `SameRecordFace`, and a leaf, a made
-- vertex and the marked edge's two vertex numbers are those of `check_meaning/specs/Accepted`.
use Rattle.std.specs.Prelude.{◌≡◌, ◌⊎◌, ◌≢◌, ℕ, ◌<◌}
use Rattle.mesh_tables.specs.Tables.{Tables, base_records, all_records, piece_at}
use Rattle.check_meaning.specs.Accepted.{Made, parent_p, parent_q, OnRecordFace, SameRecordFace, marked_ends, Leaf}

-- "“Lies in” is by descent of the corners from that base face's corners": a vertex lies in face g of base record r if it is one of that face's three
-- corners, or if it is made and both its parents lie in it.
pub data LiesIn (m : Tables) (r g : ℕ) : ℕ → Type 0 where
  corner : {v : ℕ} → OnRecordFace (piece_at m r) g v → LiesIn m r g v
  descends : {v : ℕ} → Made m v → LiesIn m r g (parent_p m v) → LiesIn m r g (parent_q m v) → LiesIn m r g v

-- "Each face of a leaf is in exactly two leaves": there is one other leaf with the same three vertex numbers, and every leaf with them is one of the two.
pub record InTwo (m : Tables) (n i : ℕ) : Type 0 where
  pub other : ℕ
  pub there : other < all_records m
  pub leaf : Leaf m other
  pub apart : other ≢ n
  pub j : ℕ
  pub face : j < 4
  pub same : SameRecordFace (piece_at m n) i (piece_at m other) j
  pub only : (k : ℕ) → k < all_records m → Leaf m k → (l : ℕ) → l < 4 → SameRecordFace (piece_at m n) i (piece_at m k) l → (k ≡ n) ⊎ (k ≡ other)

-- "or it is in one leaf and lies in a base face that is in one base record only": base records, cut or not.
pub record InOne (m : Tables) (n i : ℕ) : Type 0 where
  pub only : (k : ℕ) → k < all_records m → Leaf m k → (l : ℕ) → l < 4 → SameRecordFace (piece_at m n) i (piece_at m k) l → k ≡ n
  -- face g of base record r
  pub r : ℕ
  pub base : r < base_records m
  pub g : ℕ
  pub face : g < 4
  pub lies : (v : ℕ) → OnRecordFace (piece_at m n) i v → LiesIn m r g v
  pub one_record : (b : ℕ) → b < base_records m → (l : ℕ) → l < 4 → SameRecordFace (piece_at m r) g (piece_at m b) l → b ≡ r

pub record FaceToFace (m : Tables) : Type 0 where
  pub faces : (n : ℕ) → n < all_records m → Leaf m n → (i : ℕ) → i < 4 → InTwo m n i ⊎ InOne m n i
  -- "and two leaves that share a face mark it alike": the marked edge has the same two vertex numbers
  pub alike : (n k : ℕ) → n < all_records m → k < all_records m → Leaf m n → Leaf m k → (i j : ℕ) → i < 4 → j < 4 → SameRecordFace (piece_at m n) i (piece_at m k) j →
      marked_ends (piece_at m n) i ≡ marked_ends (piece_at m k) j
