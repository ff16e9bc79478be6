-- What it means that check accepts a mesh, in the documents' words: of each row 1 to 10 of "Numbers we give back", and of 22 and 23, what holds where it is
-- not given, as plain statements about the tables that the bytes hold.
use Rattle.std.specs.Prelude.{◌≡◌, ◌↔◌, ◌≢◌, ◌⊎◌, ℕ, ◌+◌, ◌*◌, ◌≤◌, ◌<◌, length, ℤ, pos, nat_abs, ◌≤ℤ◌}
use Rattle.algebra.specs.Multiple.{Multiple}
use Rattle.piece.specs.declared.Piece.{Piece}
use Rattle.piece.specs.declared.Ends.{Ends}
use Rattle.piece_edges.specs.Edges.{low_slot, high_slot}
use Rattle.piece.specs.Shape.{last_generation, shape_of, mark}
use Rattle.piece.specs.Ends.{corner_at, ends_of}
use Rattle.piece_cut.specs.Cut.{cut_of}
use Rattle.grid.specs.Places.{Point, point_of}
use Rattle.grid.specs.Corners.{Midpoint}
use Rattle.grid_inside.specs.Weights.{WeightedMean}
use Rattle.stored.specs.declared.Limits.{Limits}
use Rattle.stored.specs.declared.Vertex.{Vertex}
use Rattle.stored.specs.Layout.{none, Stored, header_of, header_width, base_length, grown_length, number_width, version_of, byte_at, u16_at}
use Rattle.mesh_tables.specs.Tables.{Tables, tables_of, base_vertices, all_vertices, base_records, all_records, piece_at, refinement_ends, corner_point, signed_at, sixfold_at}

-- ---- 1 and 2: the bytes

pub record RightLength (s : Stored) : Type 0 where
  -- not "under 20 bytes"
  pub header : header_width s.kind.format ≤ length s.base
  -- the length is "20 + 10·vertices + 17·records"; of two buffers each has its own part of them
  pub exact : length s.base ≡ base_length s.kind (header_of s)
  pub exact_grown : length s.grown ≡ grown_length s.kind (header_of s)

pub record RightMark (s : Stored) : Type 0 where
  -- "`TMB` at 0"
  pub T : byte_at s.base 0 ≡ 84
  pub M : byte_at s.base 1 ≡ 77
  pub B : byte_at s.base 2 ≡ 66
  -- "version 1 (u16) at 3"
  pub version : u16_at s.base 3 ≡ version_of s.kind.format
  -- "a zero byte at 19": behind the four counts
  pub zero_byte : byte_at s.base (11 + number_width s.kind.format * 4) ≡ 0

-- ---- 3: the counts

-- "At most 1,024 vertices and 3,072 records", or as many as other limits have it.
pub record Within (most : Limits) (m : Tables) : Type 0 where
  pub vertices : all_vertices m ≤ most.vertices
  pub records : all_records m ≤ most.records

pub record RightCounts (m : Tables) : Type 0 where
  -- "at least 4 base vertices and 1 base record"
  pub base_vertices_lem : 4 ≤ base_vertices m
  pub base_records_lem : 1 ≤ base_records m
  -- no "base above all"
  pub vertices_within : base_vertices m ≤ all_vertices m
  pub records_within : base_records m ≤ all_records m

-- ---- 4: the vertices

-- Where vertex v stands, and its parents p and q.
abbrev pub point_at : Tables → ℕ → Point
point_at m v = point_of (m.vertex_at v).place

abbrev pub parent_p : Tables → ℕ → ℕ
parent_p m v = (m.vertex_at v).p

abbrev pub parent_q : Tables → ℕ → ℕ
parent_q m v = (m.vertex_at v).q

-- "Base coordinates are multiples of 32 from -32,736 to 32,736."
pub record OnGrid (c : ℤ) : Type 0 where
  pub multiple : Multiple 32 c
  pub within : nat_abs c ≤ 32736

pub record BaseVertex (m : Tables) (v : ℕ) : Type 0 where
  -- no "base coordinate off the grid"
  pub x : OnGrid (point_at m v).x
  pub y : OnGrid (point_at m v).y
  pub z : OnGrid (point_at m v).z
  -- "Base vertices [..] have 65,535 for both parents.": none
  pub p : parent_p m v ≡ none
  pub q : parent_q m v ≡ none

-- "Base vertices come first": v is one of the others, which are made.
pub record Made (m : Tables) (v : ℕ) : Type 0 where
  pub beyond : base_vertices m ≤ v
  pub there : v < all_vertices m

pub record MadeVertex (m : Tables) (v : ℕ) : Type 0 where
  -- "p < q < its own number"
  pub p<q : parent_p m v < parent_q m v
  pub q<v : parent_q m v < v
  -- "A made vertex records its two parents and stands exactly halfway between them."
  pub halfway : Midpoint (point_at m v) (point_at m (parent_p m v)) (point_at m (parent_q m v))

pub record RightVertices (m : Tables) : Type 0 where
  -- no "base coordinate off the grid, base parent not 65,535"
  pub base : (v : ℕ) → v < base_vertices m → BaseVertex m v
  -- no "two base vertices at one place"
  pub one_place : (u v : ℕ) → u < base_vertices m → v < base_vertices m → point_at m u ≡ point_at m v → u ≡ v
  -- no "made vertex without p < q < its own number, not exactly halfway"
  pub made : (v : ℕ) → Made m v → MadeVertex m v
  -- no "parent pair used twice"
  pub one_pair : (u v : ℕ) → Made m u → Made m v → parent_p m u ≡ parent_p m v → parent_q m u ≡ parent_q m v → u ≡ v

-- ---- 5: the base records

-- A piece of a base with so many vertices.
pub record BasePiece (count : ℕ) (vertex_at : ℕ → Vertex) (p : Piece) : Type 0 where
  -- no "equal corners"
  pub different : (j k : ℕ) → j < 4 → k < 4 → corner_at p j ≡ corner_at p k → j ≡ k
  -- no "corner not in the base"
  pub in_base_lem : (k : ℕ) → k < 4 → corner_at p k < count
  -- no "sixfold volume 0"
  pub volume : sixfold_at vertex_at p ≢ 0
  -- no "generation or flag not 0"
  pub generation : p.generation ≡ 0
  pub flag : p.flag ≡ 0

abbrev pub BaseRecord : Tables → ℕ → Type 0
BaseRecord m n = BasePiece (base_vertices m) m.vertex_at (piece_at m n)

abbrev pub RightBaseRecords : Tables → Type 0
RightBaseRecords m = (n : ℕ) → n < base_records m → BaseRecord m n

-- ---- 22: no "base record with a negative value" (document 02)

abbrev pub RightHanded : Tables → Type 0
RightHanded m = (n : ℕ) → n < base_records m → pos 0 ≤ℤ signed_at m.vertex_at (piece_at m n)

-- ---- 6: the base records' marks

-- Edge e is an edge of face i, "the face without slot i": neither end has slot i.
pub record EdgeOf (i e : ℕ) : Type 0 where
  pub code : e < 6
  pub low : low_slot e ≢ i
  pub high : high_slot e ≢ i

-- "A piece carries a refinement edge, one marked edge for each face (an edge of that face) [..]. Both faces that contain the refinement
-- edge are marked with it."
pub record RightMarks (p : Piece) : Type 0 where
  -- no "edge code above 5"
  pub edge : p.edge < 6
  -- no "mark not on its face"
  pub marks : (i : ℕ) → i < 4 → EdgeOf i (mark (shape_of p) i)
  -- no "refinement face not marked with the refinement edge"
  pub refinement_faces : (i : ℕ) → i < 4 → EdgeOf i p.edge → mark (shape_of p) i ≡ p.edge

abbrev pub RightBaseMarks : Tables → Type 0
RightBaseMarks m = (n : ℕ) → n < base_records m → RightMarks (piece_at m n)

-- ---- 7: the faces of the base records; faces and pieces are sets of corner numbers

-- x is a corner of the piece; x is a corner of face i, "the face without slot i".
abbrev pub CornerOf : Piece → ℕ → Type 0
CornerOf p x = (k : ℕ) × (k < 4) × (corner_at p k ≡ x)

abbrev pub OnRecordFace : Piece → ℕ → ℕ → Type 0
OnRecordFace p i x = (k : ℕ) × (k < 4) × (k ≢ i) × (corner_at p k ≡ x)

-- The two pieces have the same four corners; face i of p is face j of q.
abbrev pub SameRecordCorners : Piece → Piece → Type 0
SameRecordCorners p q = (x : ℕ) → CornerOf p x ↔ CornerOf q x

abbrev pub SameRecordFace : Piece → ℕ → Piece → ℕ → Type 0
SameRecordFace p i q j = (x : ℕ) → OnRecordFace p i x ↔ OnRecordFace q j x

-- The two vertex numbers of the marked edge of face i.
abbrev pub marked_ends : Piece → ℕ → Ends
marked_ends p i = ends_of p (mark (shape_of p) i)

pub record RightFaces (m : Tables) : Type 0 where
  -- no "face in three base records": not in r, s and n
  pub in_two : (r s n i j k : ℕ) → r < s → s < n → n < base_records m → i < 4 → j < 4 → k < 4 →
      SameRecordFace (piece_at m r) i (piece_at m n) k → SameRecordFace (piece_at m s) j (piece_at m n) k → ⊥
  -- no "two base records with the same four corners"
  pub different : (r n : ℕ) → r < n → n < base_records m → SameRecordCorners (piece_at m r) (piece_at m n) → ⊥
  -- no "shared face with two marks"
  pub one_mark : (r n i j : ℕ) → r < n → n < base_records m → i < 4 → j < 4 →
      SameRecordFace (piece_at m r) i (piece_at m n) j → marked_ends (piece_at m r) i ≡ marked_ends (piece_at m n) j

-- ---- 8: no "base vertex in no base record"

abbrev pub RightUses : Tables → Type 0
RightUses m = (v : ℕ) → v < base_vertices m → (n : ℕ) × (n < base_records m) × CornerOf (piece_at m n) v

-- ---- 23: no base vertex that hangs on a base record (document 02)

-- "a vertex hang[s] on a piece if it lies in the closed piece and isn't one of its corners": vertex v on record n. The closed piece is all weighted means of its corners.
pub record HangsOn (m : Tables) (v n : ℕ) : Type 0 where
  pub lies_in : WeightedMean (corner_point m.vertex_at (piece_at m n)) (point_at m v)
  pub no_corner : CornerOf (piece_at m n) v → ⊥

abbrev pub NoVertexHangs : Tables → Type 0
NoVertexHangs m = (n : ℕ) → n < base_records m → (v : ℕ) → v < base_vertices m → HangsOn m v n → ⊥

abbrev pub SomeVertexHangs : Tables → Type 0
SomeVertexHangs m = (n : ℕ) × (n < base_records m) × (v : ℕ) × (v < base_vertices m) × HangsOn m v n

-- ---- 9: the cuts

-- "number of the first child (u16; 65,535 if uncut)": none if uncut
abbrev pub first_child : Tables → ℕ → ℕ
first_child m n = (m.record_at n).first_child

-- "A leaf is a record that is not cut."
abbrev pub Leaf : Tables → ℕ → Type 0
Leaf m n = first_child m n ≡ none

abbrev pub Cut : Tables → ℕ → Type 0
Cut m n = first_child m n ≢ none

-- Vertex v has the two ends of an edge as parents, p the one of lower number: "p < q".
pub record HasParents (m : Tables) (ends : Ends) (v : ℕ) : Type 0 where
  pub p : parent_p m v ≡ ends.lower
  pub q : parent_q m v ≡ ends.higher

-- A cut record's children are "what cutting gives" and "have greater numbers".
pub record RightCut (m : Tables) (n : ℕ) : Type 0 where
  -- "Let w be the midpoint of the refinement edge": the made vertex that has its two ends as parents
  pub w : ℕ
  pub made : Made m w
  pub parents : HasParents m (refinement_ends (piece_at m n)) w
  -- the children are there, and "have greater numbers"
  pub above : n < first_child m n
  pub there : first_child m n + 1 < all_records m
  -- they are "what cutting gives"; "the second child is the next record"
  pub first : piece_at m (first_child m n) ≡ (cut_of (piece_at m n) w).first
  pub second : piece_at m (first_child m n + 1) ≡ (cut_of (piece_at m n) w).second

-- c is a child of cut record n: the first, or the next record.
pub record ChildOf (m : Tables) (c n : ℕ) : Type 0 where
  pub cut : Cut m n
  pub is : (first_child m n ≡ c) ⊎ (first_child m n + 1 ≡ c)

-- P holds of exactly one number below n.
pub record ExactlyOne (n : ℕ) (P : ℕ → Type 0) : Type 0 where
  pub it : ℕ
  pub there : it < n
  pub holds : P it
  pub only : (k : ℕ) → k < n → P k → k ≡ it

pub record RightCuts (m : Tables) : Type 0 where
  -- no "cut record whose children aren't what cutting gives, or don't have greater numbers"
  pub cuts : (n : ℕ) → n < all_records m → Cut m n → RightCut m n
  -- no "record beyond the base that isn't the child of exactly one"
  pub one_parent_lem : (c : ℕ) → base_records m ≤ c → c < all_records m → ExactlyOne (all_records m) (ChildOf m c)
  -- no "generation above 15"
  pub generations : (n : ℕ) → n < all_records m → (piece_at m n).generation ≤ last_generation
  -- no "made vertex that is the midpoint of no cut record's refinement edge"
  pub midpoints : (v : ℕ) → Made m v → (n : ℕ) × (n < all_records m) × Cut m n × HasParents m (refinement_ends (piece_at m n)) v

-- ---- 10: no "hanging edge"

-- "An edge hangs if it is an edge of a leaf and some made vertex has its two ends as parents."
abbrev pub NoneHangs : Tables → Type 0
NoneHangs m = (n : ℕ) → n < all_records m → Leaf m n → (e : ℕ) → e < 6 → (v : ℕ) → Made m v → HasParents m (ends_of (piece_at m n) e) v → ⊥

-- ---- all of them

-- 3 to 9, 22 and 23, but for how many vertices and records there may be: what holds also of a mesh in which edges hang, and under any limits.
pub record RightMesh (m : Tables) : Type 0 where
  -- 3: at least 4 base vertices and 1 base record, no "base above all"
  pub counts : RightCounts m
  -- 4: base vertices are on the grid, made ones halfway between their parents, and no place and no parent pair comes twice
  pub vertices : RightVertices m
  -- 5: base records have four different base vertices for corners, a sixfold volume, generation 0 and flag 0
  pub base_records_lem : RightBaseRecords m
  -- 22: none of them has a negative value
  pub handed : RightHanded m
  -- 6: base records have their marks on their faces, and the refinement edge on both faces that contain it
  pub base_marks : RightBaseMarks m
  -- 7: a face is in at most two base records, and has one mark; no two base records have the same corners
  pub faces : RightFaces m
  -- 8: no "base vertex in no base record"
  pub uses : RightUses m
  -- 23: no base vertex hangs on a base record
  pub no_vertex_hangs : NoVertexHangs m
  -- 9: the records beyond the base, and the made vertices, are what cutting gives
  pub cuts : RightCuts m

pub record Accepted (s : Stored) : Type 0 where
  -- 1: not "under 20 bytes", and the length is "20 + 10·vertices + 17·records"
  pub length : RightLength s
  -- 2: no "wrong mark or version", and byte 19 is 0
  pub mark : RightMark s
  -- 3: "at most 1,024 vertices and 3,072 records"
  pub limits : Within s.kind.limits (tables_of s)
  pub base_limit : base_records (tables_of s) ≤ s.kind.limits.base_records
  -- the rest of 3, 4 to 9, 22 and 23
  pub mesh : RightMesh (tables_of s)
  -- 10: no "hanging edge"
  pub none_hangs : NoneHangs (tables_of s)
