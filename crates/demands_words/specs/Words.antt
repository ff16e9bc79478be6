-- The words of demands 2 and 3, in document 01's own: a base mesh, a set of its cuts as a byte string stores it, the figures, what build is given, and
-- the sets of further cuts. A page of a demand is read with this file beside it.
--
-- From the rooms below, in a line each:
-- - `Name`: a vertex by its descent, `base v` or `made a b`; `mid a b`: the made vertex with these two parents, whichever way round. So an edge is named by
--   its midpoint, and two edges are the same where their midpoints are the same name (`cuts_names/specs/Names`).
-- - `Node`: a base piece's number and the sides taken at each cut since, the last first; `generation`: how many; `kid n side`: a child; `piece_at`: the
--   marked piece there, by document 01's cut; `makes`: the vertex that cutting it makes (`cuts_names/specs/Pieces`).
-- - `Cuts count`: a set of cuts of a base of so many pieces, by `has`: a piece is cut only after its parent. `There`: a base piece, or a child of a cut
--   one. `Leaf`: there, and not cut. `CutsWithin C X`: every cut of C is one of X. `NoneHangs`: no edge of a leaf has its midpoint made by a cut
--   (`cuts/specs/Sets`). `CutList`, `LeafList`, `MadeList`: a list of all cuts, leaves, made vertices, each once (`cuts/specs/Count`).
-- - `OnGrid`: a multiple of 32 from -32,736 to 32,736; `EdgeOf i e`: e is an edge of the face without slot i (`check_meaning/specs/Accepted`). `Midpoint`: its
--   double is the sum, in each coordinate (`grid/specs/Corners`); `signed_of`: the determinant of corners 1, 2, 3 less corner 0, and `sixfold_of`: its absolute value
--   (`grid_volume/specs/Volume`); `WeightedMean`: a point is a weighted mean of four corners, with weights that are not negative (`grid_inside/specs/Weights`) (on demand 3's page `marked_at`: a
--   face's mark, named by its midpoint, and `SameFace`: the same three corners, over names; `cuts_names/specs/Base`).
-- - `Stored`: a stored mesh, its kind (format, limits, one buffer or two) and its bytes; `stored_as`: a mesh of numbers in the bytes of a kind; `StoredSelection`, `selection_of`, `named_in`: a
--   selection's bytes, all in document 01's layout and its later versions' (`stored/specs/Layout`); `MaterialFits stored m`: m is a byte,
--   and 0 where none is stored (`stored/specs/Fitting`).
use Rattle.std.specs.Prelude.{◌≡◌, ◌↔◌, ◌≢◌, true, false, cond, List, [], ◌∷◌, ℕ, ◌≤◌, ◌<◌, ◌+◌, ◌*◌, ◌/◌, length, get_or, ltb, ℤ, pos, negsuc, ◌≤ℤ◌, ◌<ℤ◌}
use Rattle.std.proofs.lemmas.Bool.{false≢true}
use Rattle.laws.specs.Lists.{zero_past}
use Rattle.laws.specs.Pairs.{SamePair}
use Rattle.piece_edges.specs.Edges.{low_slot, high_slot}
use Rattle.piece.specs.Shape.{Shape, mark, last_generation, shape_of}
use Rattle.grid.specs.declared.Place.{Place}
use Rattle.grid.specs.Places.{Point, point_of, halfway_of}
use Rattle.grid_volume.specs.Volume.{signed_of, left_handed, sixfold_of}
use Rattle.grid_inside.specs.Weights.{WeightedMean}
use Rattle.check_meaning.specs.Accepted.{OnGrid, EdgeOf}
use Rattle.cuts_names.specs.Names as Names
use Rattle.cuts_names.specs.Names.{Name, mid}
use Rattle.cuts_names.specs.Pieces.{Piece, Side, low, high, Node, generation, kid, piece_at, makes}
use Rattle.stored.specs.Fitting.{U16, U32, MaterialFits}
use Rattle.laws.specs.Below.{list_below}
use Rattle.grid.specs.Corners.{Midpoint}
use Rattle.stored.specs.declared.Limits.{Limits}
use Rattle.stored.specs.declared.Kind.{Kind}
use Rattle.stored.specs.declared.Header.{Header}
use Rattle.stored.specs.declared.Vertex.{Vertex}
use Rattle.stored.specs.declared.Record.{Record}
use Rattle.stored.specs.Layout.{none, Mesh, version1, limits, Stored, stored1, stored_as, mesh_length, last_round, StoredSelection, selection_width, selection_version, number_width, selection_of, named_in, byte_at, u16_at}
use Rattle.cuts.specs.Sets.{Cuts, There, NoneHangs, Leaf, CutsWithin}
use Rattle.cuts.specs.Count.{CutList, MadeList, LeafList}
use Rattle.build_marks.specs.Marking.{plain_place, plain_piece, righted_piece, marked_piece}

-- ======== demand 1: the numbers of check's refusals, in the order in which they are tried

-- "1 to 10", and document 02's 22 "after 5 and before 6" and 23 "after 8 and before 9".
abbrev pub check_numbers : List ℕ
check_numbers = 1 ∷ 2 ∷ 3 ∷ 4 ∷ 5 ∷ 22 ∷ 6 ∷ 7 ∷ 8 ∷ 23 ∷ 9 ∷ 10 ∷ []

-- ======== demand 2: a base mesh, properly marked

-- How many vertices and pieces; a place for each vertex; a shape (refinement edge, marks, flag), four vertex numbers and a material for each piece.
pub record BaseMesh : Type 0 where
  pub vertices : ℕ
  pub pieces : ℕ
  pub place_at : ℕ → Place
  pub shape_at : ℕ → Shape
  pub corner_at : ℕ → ℕ → ℕ
  pub material_at : ℕ → ℕ

-- Where vertex v stands.
abbrev pub point_at : BaseMesh → ℕ → Point
point_at b v = point_of (b.place_at v)

-- Its pieces over names: base vertex v is named `base v`.
abbrev pub named : BaseMesh → ℕ → Piece Name
named b r = record { shape = b.shape_at r; corner = λ k. Names.base (b.corner_at r k) }

-- x is a corner of piece r; x is a corner of its face i, "the face without slot i".
abbrev pub BaseCornerOf : BaseMesh → ℕ → ℕ → Type 0
BaseCornerOf b r x = (k : ℕ) × (k < 4) × (b.corner_at r k ≡ x)

abbrev pub OnBaseFace : BaseMesh → ℕ → ℕ → ℕ → Type 0
OnBaseFace b r i x = (k : ℕ) × (k < 4) × (k ≢ i) × (b.corner_at r k ≡ x)

-- Pieces r and s have the same four corners; face i of piece r is face j of piece s.
abbrev pub SameBaseCorners : BaseMesh → ℕ → ℕ → Type 0
SameBaseCorners b r s = (x : ℕ) → BaseCornerOf b r x ↔ BaseCornerOf b s x

abbrev pub SameBaseFace : BaseMesh → ℕ → ℕ → ℕ → ℕ → Type 0
SameBaseFace b r i s j = (x : ℕ) → OnBaseFace b r i x ↔ OnBaseFace b s j x

-- The marked edges of these faces have the same two vertices.
abbrev pub SameBaseMark : BaseMesh → ℕ → ℕ → ℕ → ℕ → Type 0
SameBaseMark b r i s j =
    let e = mark (b.shape_at r) i in
    let f = mark (b.shape_at s) j in
    SamePair (b.corner_at r (low_slot e)) (b.corner_at r (high_slot e)) (b.corner_at s (low_slot f)) (b.corner_at s (high_slot f))

-- "A piece carries a refinement edge, one marked edge for each face (an edge of that face) [..]. Both faces that contain the refinement edge
-- are marked with it."
pub record ValidlyMarked (s : Shape) : Type 0 where
  pub edge : s.edge < 6
  pub four : length s.marks ≡ 4
  pub marks : (i : ℕ) → i < 4 → EdgeOf i (mark s i)
  pub refinement_faces : (i : ℕ) → i < 4 → EdgeOf i s.edge → mark s i ≡ s.edge

-- A piece of a properly marked base mesh by itself.
pub record RightPiece (b : BaseMesh) (r : ℕ) : Type 0 where
  -- its corners are vertices, and different ones
  pub corners : (k : ℕ) → k < 4 → b.corner_at r k < b.vertices
  pub different : (j k : ℕ) → j < 4 → k < 4 → b.corner_at r j ≡ b.corner_at r k → j ≡ k
  -- "Demand 2's base mesh is then right-handed": its signed value is positive, so that it is not flat either
  pub right_handed : pos 0 <ℤ signed_of (λ k. point_at b (b.corner_at r k))
  -- it is validly marked, and its flag is not set
  pub marked : ValidlyMarked (b.shape_at r)
  pub flag : (b.shape_at r).flag ≡ 0

-- Document 02: "a vertex hang[s] on a piece if it lies in the closed piece and isn't one of its corners": vertex v on piece r. The closed piece is all weighted means of its
-- corners: its inside, its faces and its edges.
pub record HangsOn (b : BaseMesh) (v r : ℕ) : Type 0 where
  pub lies_in : WeightedMean (λ k. point_at b (b.corner_at r k)) (point_at b v)
  pub no_corner : BaseCornerOf b r v → ⊥

abbrev pub NoVertexHangs : BaseMesh → Type 0
NoVertexHangs b = (v r : ℕ) → v < b.vertices → r < b.pieces → HangsOn b v r → ⊥

pub record ProperlyMarked (b : BaseMesh) : Type 0 where
  -- "at least 4 base vertices and 1 base record"
  pub some_vertices : 4 ≤ b.vertices
  pub some_pieces : 1 ≤ b.pieces
  -- "Base coordinates are multiples of 32 from -32,736 to 32,736."
  pub on_grid_lem : (v : ℕ) → v < b.vertices → OnGrid (point_at b v).x × OnGrid (point_at b v).y × OnGrid (point_at b v).z
  -- no two vertices at one place
  pub one_place : (u v : ℕ) → u < b.vertices → v < b.vertices → point_at b u ≡ point_at b v → u ≡ v
  pub pieces : (r : ℕ) → r < b.pieces → RightPiece b r
  -- every vertex is a corner
  pub used : (v : ℕ) → v < b.vertices → (r : ℕ) × (r < b.pieces) × BaseCornerOf b r v
  -- no vertex hangs on a piece
  pub no_vertex_hangs : NoVertexHangs b
  -- no face is in three pieces
  pub in_two : (r s n i j k : ℕ) → r < s → s < n → n < b.pieces → i < 4 → j < 4 → k < 4 → SameBaseFace b r i n k → SameBaseFace b s j n k → ⊥
  -- no two pieces have the same corners
  pub alone : (r s : ℕ) → r < s → s < b.pieces → SameBaseCorners b r s → ⊥
  -- a shared face has one mark
  pub one_mark : (r s i j : ℕ) → r < s → s < b.pieces → i < 4 → j < 4 → SameBaseFace b r i s j → SameBaseMark b r i s j

-- ======== demand 2: what a stored mesh is

-- ---- within limits

-- "At most 1,024 vertices and 3,072 records", or what other limits have it: a set fits if it has finitely many cuts, and base vertices and made
-- vertices together, and base pieces and the two children of each cut together, are no more than the limits say.
pub record Fits (most : Limits) (b : BaseMesh) (C : Cuts b.pieces) : Type 0 where
  pub cuts : List Node
  pub cuts_listed_lem : CutList C cuts
  pub made : List Name
  pub made_listed_lem : MadeList (named b) C made
  pub vertices : b.vertices + length made ≤ most.vertices
  pub records : b.pieces + 2 * length cuts ≤ most.records
  pub base_records_lem : b.pieces ≤ most.base_records

-- "An output buffer that can hold the largest mesh of the version written is full-size."
abbrev pub full_size : Kind → ℕ
full_size k = mesh_length k.format k.limits.vertices k.limits.records

-- "Generations go up to 15": of whatever is there.
abbrev pub Shallow : (b : BaseMesh) → Cuts b.pieces → Type 0
Shallow b C = (n : Node) → There C n → generation n ≤ last_generation

-- ---- a numbering

-- Vertices and records by number.
pub record Numbering : Type 0 where
  -- how many there are
  pub vertices : ℕ
  pub records : ℕ
  -- of a vertex: its name, its place, its parents' numbers
  pub name_at : ℕ → Name
  pub place_at : ℕ → Place
  pub p_at : ℕ → ℕ
  pub q_at : ℕ → ℕ
  -- of a record: its node, the vertex number in each slot, the number of its first child
  pub node_at : ℕ → Node
  pub corner_at : ℕ → ℕ → ℕ
  pub first_at : ℕ → ℕ

-- A made vertex: "p < q < its own number"; it is named the midpoint of its parents, and "stands exactly halfway between them"; some cut makes it.
pub record MadeVertexNumbered (b : BaseMesh) (C : Cuts b.pieces) (N : Numbering) (v : ℕ) : Type 0 where
  pub p<q : N.p_at v < N.q_at v
  pub q<v : N.q_at v < v
  pub name : N.name_at v ≡ mid (N.name_at (N.p_at v)) (N.name_at (N.q_at v))
  pub halfway : Midpoint (point_of (N.place_at v)) (point_of (N.place_at (N.p_at v))) (point_of (N.place_at (N.q_at v)))
  pub cut : Node
  pub is_cut_lem : C.has cut ≡ true
  pub made_by_lem : makes (piece_at (named b) cut) ≡ N.name_at v

-- The vertices' numbers.
pub record VerticesNumbered (b : BaseMesh) (C : Cuts b.pieces) (N : Numbering) : Type 0 where
  -- "Base vertices come first."
  pub base_first : b.vertices ≤ N.vertices
  pub base_name : (v : ℕ) → v < b.vertices → N.name_at v ≡ Names.base v
  pub base_place : (v : ℕ) → v < b.vertices → N.place_at v ≡ b.place_at v
  pub made : (v : ℕ) → b.vertices ≤ v → v < N.vertices → MadeVertexNumbered b C N v
  -- every vertex that a cut makes has a number
  pub every : (n : Node) → C.has n ≡ true → (v : ℕ) × (v < N.vertices) × (N.name_at v ≡ makes (piece_at (named b) n))
  -- none has two
  pub once : (u v : ℕ) → u < N.vertices → v < N.vertices → N.name_at u ≡ N.name_at v → u ≡ v

-- The children of a cut record: next to each other, and above it. "Let w be the midpoint of the refinement edge, whose end of lower vertex number is
-- u and higher v. The first child has w in v's slot, the second has w in u's slot."
abbrev pub first_side : Numbering → BaseMesh → ℕ → Side
first_side N b r =
    let e = (piece_at (named b) (N.node_at r)).shape.edge in
    cond (ltb (N.corner_at r (low_slot e)) (N.corner_at r (high_slot e))) high low

abbrev pub second_side : Numbering → BaseMesh → ℕ → Side
second_side N b r =
    let e = (piece_at (named b) (N.node_at r)).shape.edge in
    cond (ltb (N.corner_at r (low_slot e)) (N.corner_at r (high_slot e))) low high

pub record CutRecord (b : BaseMesh) (N : Numbering) (r : ℕ) : Type 0 where
  pub above : r < N.first_at r
  pub there : N.first_at r + 1 < N.records
  pub first : N.node_at (N.first_at r) ≡ kid (N.node_at r) (first_side N b r)
  pub second : N.node_at (N.first_at r + 1) ≡ kid (N.node_at r) (second_side N b r)

-- The records' numbers.
pub record RecordsNumbered (b : BaseMesh) (C : Cuts b.pieces) (N : Numbering) : Type 0 where
  -- "Base records come first."
  pub base_first : b.pieces ≤ N.records
  pub base_node : (r : ℕ) → r < b.pieces → N.node_at r ≡ record { root = r; path = [] }
  -- every record's node is there, every node that is there has a record, none has two
  pub there : (r : ℕ) → r < N.records → There C (N.node_at r)
  pub every : (n : Node) → There C n → (r : ℕ) × (r < N.records) × (N.node_at r ≡ n)
  pub once : (r s : ℕ) → r < N.records → s < N.records → N.node_at r ≡ N.node_at s → r ≡ s
  -- its corners are the numbers of the node's corners
  pub corner_there : (r : ℕ) → r < N.records → (k : ℕ) → k < 4 → N.corner_at r k < N.vertices
  pub corner : (r : ℕ) → r < N.records → (k : ℕ) → k < 4 → N.name_at (N.corner_at r k) ≡ (piece_at (named b) (N.node_at r)).corner k
  -- "number of the first child (u16; 65,535 if uncut). The second child is the next record."
  pub uncut : (r : ℕ) → r < N.records → C.has (N.node_at r) ≡ false → N.first_at r ≡ none
  pub cut : (r : ℕ) → r < N.records → C.has (N.node_at r) ≡ true → CutRecord b N r

-- ---- its bytes

-- "Base vertices [..] have 65,535 for both parents."
abbrev pub vertex_of : BaseMesh → Numbering → ℕ → Vertex
vertex_of b N v = record { place = N.place_at v; p = cond (ltb v b.vertices) none (N.p_at v); q = cond (ltb v b.vertices) none (N.q_at v) }

-- Document 02: "a child has its parent's" material, so a record has that of the base piece from which it comes.
abbrev pub record_of : BaseMesh → Numbering → ℕ → Record
record_of b N r =
    let s = (piece_at (named b) (N.node_at r)).shape in
    record {
      piece =
          record {
            corners = N.corner_at r 0 ∷ N.corner_at r 1 ∷ N.corner_at r 2 ∷ N.corner_at r 3 ∷ [];
            edge = s.edge;
            marks = mark s 0 ∷ mark s 1 ∷ mark s 2 ∷ mark s 3 ∷ [];
            flag = s.flag;
            generation = generation (N.node_at r);
            material = b.material_at (N.node_at r).root;
          };
      first_child = N.first_at r;
    }

abbrev pub header_for : ℕ → ℕ → BaseMesh → Numbering → Header
header_for job round b N =
    record { job = job; round = round; base_vertices = b.vertices; vertices = N.vertices; base_records = b.pieces; records = N.records }

abbrev pub written : ℕ → ℕ → BaseMesh → Numbering → Mesh
written job round b N =
    record { header = header_for job round b N; vertices = list_below N.vertices (vertex_of b N); records = list_below N.records (record_of b N) }

-- The stored mesh stores the set C of cuts of the base mesh b, for this job and round.
pub record Stores (s : Stored) (job round : ℕ) (b : BaseMesh) (C : Cuts b.pieces) : Type 0 where
  pub job_fits : U32 job
  pub round_fits : U16 round
  -- "a material from 0 to 255", and 0 where the format has none, as version 1's
  pub materials : (r : ℕ) → r < b.pieces → MaterialFits s.kind.format.material (b.material_at r)
  pub numbers : Numbering
  pub vertices_numbered : VerticesNumbered b C numbers
  pub records_numbered : RecordsNumbered b C numbers
  pub bytes : s ≡ stored_as s.kind s.right (written job round b numbers)

-- ---- all of it together: "a set of such cuts of a properly marked base mesh with no hanging edge, within 01's limits"

-- A base mesh and a set of cuts of it.
pub record RightSet (most : Limits) (b : BaseMesh) (C : Cuts b.pieces) : Type 0 where
  -- "a properly marked base mesh"
  pub marked : ProperlyMarked b
  -- "with no hanging edge"
  pub none_hangs : NoneHangs (named b) C
  -- "within 01's limits", or those that the kind has
  pub fits : Fits most b C
  pub shallow : Shallow b C

pub record StoredMesh (s : Stored) : Type 0 where
  pub job : ℕ
  pub round : ℕ
  pub base : BaseMesh
  pub cuts : Cuts base.pieces
  pub right : RightSet s.kind.limits base cuts
  pub stores : Stores s job round base cuts

-- ---- what two such sets, stored by the same bytes, have the same

-- The same vertices at the same places, and the same pieces: shape by shape, corner by corner and material by material.
pub record SameBase (b b' : BaseMesh) : Type 0 where
  pub vertices : b.vertices ≡ b'.vertices
  pub pieces : b.pieces ≡ b'.pieces
  pub place_at : (v : ℕ) → v < b.vertices → b.place_at v ≡ b'.place_at v
  pub shape_at : (r : ℕ) → r < b.pieces → b.shape_at r ≡ b'.shape_at r
  pub corner_at : (r : ℕ) → r < b.pieces → (k : ℕ) → k < 4 → b.corner_at r k ≡ b'.corner_at r k
  pub material_at : (r : ℕ) → r < b.pieces → b.material_at r ≡ b'.material_at r

-- Two numberings of a set over the base mesh b say the same of every number that they give.
pub record SameNumbering (b : BaseMesh) (N N' : Numbering) : Type 0 where
  -- how many there are
  pub vertices : N.vertices ≡ N'.vertices
  pub records : N.records ≡ N'.records
  -- of a vertex: its name, its place, and where it is made its parents' numbers
  pub name_at : (v : ℕ) → v < N.vertices → N.name_at v ≡ N'.name_at v
  pub place_at : (v : ℕ) → v < N.vertices → N.place_at v ≡ N'.place_at v
  pub p_at : (v : ℕ) → b.vertices ≤ v → v < N.vertices → N.p_at v ≡ N'.p_at v
  pub q_at : (v : ℕ) → b.vertices ≤ v → v < N.vertices → N.q_at v ≡ N'.q_at v
  -- of a record: its node, the vertex number in each slot, the number of its first child
  pub node_at : (r : ℕ) → r < N.records → N.node_at r ≡ N'.node_at r
  pub corner_at : (r : ℕ) → r < N.records → (k : ℕ) → k < 4 → N.corner_at r k ≡ N'.corner_at r k
  pub first_at : (r : ℕ) → r < N.records → N.first_at r ≡ N'.first_at r

-- ---- "the leaves, depth and volume"

-- Where a vertex stands, by its name: a base vertex at its place, a made one at half the sum of its parents' places.
unfoldable pub place_of : BaseMesh → Name → Place
place_of b (Names.base v) = b.place_at v
place_of b (Names.made x y) = halfway_of (place_of b x) (place_of b y)

-- Document 02, "the signed determinant": of the piece at a node.
unfoldable pub signed_at : BaseMesh → Node → ℤ
signed_at b n = signed_of (λ k. point_of (place_of b ((piece_at (named b) n).corner k)))

-- The sixfold volume of the piece at a node.
unfoldable pub sixfold_at : BaseMesh → Node → ℕ
sixfold_at b n = sixfold_of (λ k. point_of (place_of b ((piece_at (named b) n).corner k)))

unfoldable pub sum_of : (Node → ℕ) → List Node → ℕ
sum_of f [] = 0
sum_of f (n ∷ rest) = f n + sum_of f rest

-- "leaves, greatest leaf generation and summed sixfold volume of the leaves", of the set.
pub record Figures (b : BaseMesh) (C : Cuts b.pieces) (leaves deepest sixfold : ℕ) : Type 0 where
  -- the leaves can be listed, each once
  pub list : List Node
  pub listed : LeafList C list
  -- so many are in any such list
  pub leaves_are : (l : List Node) → LeafList C l → length l ≡ leaves
  -- the greatest generation among them
  pub deepest_reached : (n : Node) × Leaf C n × (generation n ≡ deepest)
  pub deepest_most : (n : Node) → Leaf C n → generation n ≤ deepest
  -- the sum of their sixfold volumes
  pub sixfold_is : (l : List Node) → LeafList C l → sum_of (sixfold_at b) l ≡ sixfold

-- ======== demand 2: the base mesh that build's two lists say

-- Three coordinates a vertex and four corners a piece, as they are listed: what build's rules judge. "The refinement edge is the first-ranked of the piece, a face's mark the
-- first-ranked of the face. Flags are 0." Build is given no material: 0.
abbrev pub plain_base : List ℤ → List ℕ → BaseMesh
plain_base coordinates corners =
    record {
      vertices = length coordinates / 3;
      pieces = length corners / 4;
      place_at = plain_place coordinates;
      shape_at = λ r. shape_of (marked_piece coordinates (plain_piece corners r));
      corner_at = λ r k. get_or corners (4 * r + k) 0;
      material_at = λ r. 0;
    }

-- The one that build stores: "Build takes a left-handed piece by exchanging its last two corners before marking." Each piece keeps its place in the list.
abbrev pub built_base : List ℤ → List ℕ → BaseMesh
built_base coordinates corners =
    record {
      vertices = length coordinates / 3;
      pieces = length corners / 4;
      place_at = plain_place coordinates;
      shape_at = λ r. shape_of (marked_piece coordinates (righted_piece coordinates (plain_piece corners r)));
      corner_at = λ r k. get_or (righted_piece coordinates (plain_piece corners r)).corners k 0;
      material_at = λ r. 0;
    }

-- Piece r as it is built, beside piece r as it is given.
pub record AsGiven (given built : BaseMesh) (r : ℕ) : Type 0 where
  -- a left-handed piece has "its last two corners" exchanged, any other has its corners where they were
  pub left : left_handed (λ k. point_at given (given.corner_at r k)) ≡ true →
      (built.corner_at r 0 ≡ given.corner_at r 0) × (built.corner_at r 1 ≡ given.corner_at r 1) × (built.corner_at r 2 ≡ given.corner_at r 3) × (built.corner_at r 3 ≡ given.corner_at r 2)
  pub right : left_handed (λ k. point_at given (given.corner_at r k)) ≡ false → (k : ℕ) → k < 4 → built.corner_at r k ≡ given.corner_at r k
  -- its refinement edge has the same two vertices
  pub edge :
      let e = (built.shape_at r).edge in
      let f = (given.shape_at r).edge in
      SamePair (built.corner_at r (low_slot e)) (built.corner_at r (high_slot e)) (given.corner_at r (low_slot f)) (given.corner_at r (high_slot f))
  -- so has the mark of each face: of face i as built and face j as given, where these are the same three corners
  pub marks : (i j : ℕ) → i < 4 → j < 4 → ((x : ℕ) → OnBaseFace built r i x ↔ OnBaseFace given r j x) →
      let e = mark (built.shape_at r) i in
      let f = mark (given.shape_at r) j in
      SamePair (built.corner_at r (low_slot e)) (built.corner_at r (high_slot e)) (given.corner_at r (low_slot f)) (given.corner_at r (high_slot f))

-- ---- 21: not "coordinates not three a vertex, or corners not four a piece"

pub record Whole (coordinates : List ℤ) (corners : List ℕ) : Type 0 where
  pub three_a_vertex : length coordinates ≡ 3 * (plain_base coordinates corners).vertices
  pub four_a_piece : length corners ≡ 4 * (plain_base coordinates corners).pieces

-- ---- 3: not "a count beyond its bounds"

pub record CountsWithin (b : BaseMesh) : Type 0 where
  -- "At most 1,024 vertices and 3,072 records; at least 4 base vertices and 1 base record."
  pub some_vertices : 4 ≤ b.vertices
  pub most_vertices : b.vertices ≤ limits.vertices
  pub some_pieces : 1 ≤ b.pieces
  pub most_pieces : b.pieces ≤ limits.records

-- ---- 4: not "base coordinate off the grid, [..] two base vertices at one place"

pub record RightPlaces (b : BaseMesh) : Type 0 where
  pub on_grid_lem : (v : ℕ) → v < b.vertices → OnGrid (point_at b v).x × OnGrid (point_at b v).y × OnGrid (point_at b v).z
  pub one_place : (u v : ℕ) → u < b.vertices → v < b.vertices → point_at b u ≡ point_at b v → u ≡ v

-- ---- 5: not "base record with equal corners, a corner not in the base, sixfold volume 0"

pub record RightCorners (b : BaseMesh) (r : ℕ) : Type 0 where
  pub different : (j k : ℕ) → j < 4 → k < 4 → b.corner_at r j ≡ b.corner_at r k → j ≡ k
  pub in_base_lem : (k : ℕ) → k < 4 → b.corner_at r k < b.vertices
  pub volume : sixfold_of (λ k. point_at b (b.corner_at r k)) ≢ 0

abbrev pub RightPieces : BaseMesh → Type 0
RightPieces b = (r : ℕ) → r < b.pieces → RightCorners b r

-- ---- 7: not "a face in three base records, two base records with the same four corners"

pub record RightTogether (b : BaseMesh) : Type 0 where
  pub in_two : (r s n i j k : ℕ) → r < s → s < n → n < b.pieces → i < 4 → j < 4 → k < 4 → SameBaseFace b r i n k → SameBaseFace b s j n k → ⊥
  pub alone : (r s : ℕ) → r < s → s < b.pieces → SameBaseCorners b r s → ⊥

-- ---- 8: not "a base vertex in no base record"

abbrev pub AllUsed : BaseMesh → Type 0
AllUsed b = (v : ℕ) → v < b.vertices → (r : ℕ) × (r < b.pieces) × BaseCornerOf b r v

-- ---- 23: not "a vertex [that] lies in the closed piece and isn't one of its corners" (document 02): `NoVertexHangs`. Where it is given, some vertex does.

abbrev pub SomeVertexHangs : BaseMesh → Type 0
SomeVertexHangs b = (v r : ℕ) × (v < b.vertices) × (r < b.pieces) × HangsOn b v r

-- ---- 20: not "the output buffer is shorter than the result"

-- The result has "20 + 10·vertices + 17·records" bytes.
abbrev pub Roomy : BaseMesh → ℕ → Type 0
Roomy b room = mesh_length version1 b.vertices b.pieces ≤ room

-- ---- what build is given and hands back

-- z is between -32,768 and 32,767.
pub record I16 (z : ℤ) : Type 0 where
  pub least : negsuc 32767 ≤ℤ z
  pub greatest : z ≤ℤ pos 32767

-- "Build takes a job number, i16 coordinates and u16 corners."
pub record ArgumentTypes (job : ℕ) (coordinates : List ℤ) (corners : List ℕ) : Type 0 where
  pub u32_job : U32 job
  pub i16_coordinates : (k : ℕ) → k < length coordinates → I16 (get_or coordinates k (pos 0))
  pub u16_corners : (k : ℕ) → k < length corners → U16 (get_or corners k 0)

-- What build asks, in the order in which it tries: "21, then 3, 4, 5, 7, 8, 20", and document 02's 23 "before 20".
pub record BuildAccepts (coordinates : List ℤ) (corners : List ℕ) (room : ℕ) : Type 0 where
  pub whole : Whole coordinates corners
  pub counts : CountsWithin (plain_base coordinates corners)
  pub places : RightPlaces (plain_base coordinates corners)
  pub pieces : RightPieces (plain_base coordinates corners)
  pub together : RightTogether (plain_base coordinates corners)
  pub used : AllUsed (plain_base coordinates corners)
  pub no_vertex_hangs : NoVertexHangs (plain_base coordinates corners)
  pub roomy : Roomy (plain_base coordinates corners) room

-- The set in which nothing is cut.
abbrev pub no_cuts : (count : ℕ) → Cuts count
no_cuts count = record { has = λ n. false; rooted = λ n t. absurd (false≢true t); closed = λ n side t. absurd (false≢true t) }

-- The output buffer holds the stored base mesh of the lists, right-handed and with nothing cut, for this job and round 0, and zeros past it.
pub record BuiltMesh (job : ℕ) (coordinates : List ℤ) (corners : List ℕ) (bytes : List ℕ) (room : ℕ) : Type 0 where
  pub right : RightSet limits (built_base coordinates corners) (no_cuts (built_base coordinates corners).pieces)
  pub result : List ℕ
  pub stores : Stores (stored1 result) job 0 (built_base coordinates corners) (no_cuts (built_base coordinates corners).pieces)
  pub fits_room : length result ≤ room
  pub buffer : bytes ≡ zero_past room result

-- ======== demand 3: "every set of further cuts that cuts each selected piece and leaves no hanging edge"

-- ---- a selection

-- "count n (u16) at 11, then n record numbers (u16)": how many.
abbrev pub count_in : StoredSelection → ℕ
count_in t = (selection_of t).count

-- No "selection under 13 bytes, or length not 13 + 2n".
pub record RightSelectionLength (t : StoredSelection) : Type 0 where
  pub heading : selection_width t.format ≤ length t.bytes
  pub exact : length t.bytes ≡ selection_width t.format + number_width t.format * count_in t

-- "`TMS` at 0, version 1 at 3".
pub record RightSelectionMark (t : StoredSelection) : Type 0 where
  pub T : byte_at t.bytes 0 ≡ 84
  pub M : byte_at t.bytes 1 ≡ 77
  pub S : byte_at t.bytes 2 ≡ 83
  pub version : u16_at t.bytes 3 ≡ selection_version t.format

-- The node of the record that the selection's i-th number names.
abbrev pub node_named : Numbering → StoredSelection → ℕ → Node
node_named N selection i = N.node_at (named_in selection i)

-- A selection "that earns none of refusals 11 to 18", of a set C that is stored with this job, this round and these numbers.
pub record GoodSelection (job round : ℕ) (b : BaseMesh) (C : Cuts b.pieces) (N : Numbering) (selection : StoredSelection) : Type 0 where
  -- not 11: "selection under 13 bytes, or length not 13 + 2n"
  pub length : RightSelectionLength selection
  -- not 12: "selection's mark or version wrong"
  pub mark : RightSelectionMark selection
  -- not 13: "another job"
  pub same_job : (selection_of selection).job ≡ job
  -- not 14: "another round"
  pub same_round : (selection_of selection).round ≡ round
  -- not 15: "numbers not strictly rising, or one not below the record count"
  pub rising : (i j : ℕ) → i < j → j < count_in selection → named_in selection i < named_in selection j
  pub there : (i : ℕ) → i < count_in selection → named_in selection i < N.records
  -- not 16: "a named record is already cut"
  pub uncut : (i : ℕ) → i < count_in selection → C.has (node_named N selection i) ≡ false
  -- not 17: "a named record has generation 15"
  pub not_last : (i : ℕ) → i < count_in selection → generation (node_named N selection i) ≢ last_generation
  -- not 18: "the round is 65,535"
  pub not_last_round : round ≢ last_round

-- The selected pieces.
abbrev pub SelectedPiece : Numbering → StoredSelection → Node → Type 0
SelectedPiece N selection n = (i : ℕ) × (i < count_in selection) × (node_named N selection i ≡ n)

-- X is one of "every set of further cuts that cuts each selected piece and leaves no hanging edge".
pub record Closes (b : BaseMesh) (C : Cuts b.pieces) (selected : Node → Type 0) (X : Cuts b.pieces) : Type 0 where
  -- it holds the old cuts
  pub keeps : CutsWithin C X
  pub selected_cut : (n : Node) → selected n → X.has n ≡ true
  pub none_hangs : NoneHangs (named b) X
  -- it is finite
  pub cuts : List Node
  pub cuts_listed_lem : CutList X cuts

-- The same of a stored mesh x: the selection is good for it.
abbrev pub GoodFor : {s : Stored} → StoredMesh s → StoredSelection → Type 0
GoodFor x selection = GoodSelection x.job x.round x.base x.cuts x.stores.numbers selection
