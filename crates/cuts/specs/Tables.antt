-- A stored mesh as tables, plain functions of the numbers of its vertices and records; the laws that an accepted mesh has; and what the
-- tables say: a name for each vertex, a node for each record, a set of cuts.
use Rattle.std.specs.Prelude.{◌≡◌, Bool, true, false, cond, ◌&&◌, ◌||◌, ◌⊎◌, ◌↔◌, ◌≢◌, [], ℕ, suc, ◌≤◌, ◌<◌, eqb, ltb}
use Rattle.laws.specs.Below.{any_below, first_below}
use Rattle.laws.specs.Pairs.{SamePair}
use Rattle.piece_edges.specs.Edges.{low_slot, high_slot}
use Rattle.piece.specs.Shape.{Shape, mark, Valid}
use Rattle.piece_cut.specs.Cut.{child_shape}
use Rattle.cuts_names.specs.Names as Names
use Rattle.cuts_names.specs.Names.{Name, mid}
use Rattle.cuts_names.specs.Pieces.{Piece, Side, low, high, put, Node, kid}
use Rattle.cuts.specs.Sets.{Cuts}
use Rattle.cuts.specs.Least.{same_node}
use Rattle.cuts.specs.Smaller.{going_down}

-- The vertices and the records of a mesh, by number.
pub record Tables : Type 0 where
  -- how many; the base vertices and the base records come first
  pub base_vertices : ℕ
  pub vertices : ℕ
  pub base_records : ℕ
  pub records : ℕ
  -- a made vertex's parents
  pub p : ℕ → ℕ
  pub q : ℕ → ℕ
  -- of a record: its shape, the vertex number in each slot, its generation, whether it is cut, and then the number of its first child
  pub shape : ℕ → Shape
  pub corner : ℕ → ℕ → ℕ
  pub generation : ℕ → ℕ
  pub cut : ℕ → Bool
  pub first : ℕ → ℕ

-- A vertex beyond the base.
abbrev pub Made : Tables → ℕ → Type 0
Made t v = (t.base_vertices ≤ v) × (v < t.vertices)

-- ---- "the refinement edge, whose end of lower vertex number is u and higher v"

-- Of record r's refinement edge the end in the first slot is the one of lower vertex number.
abbrev pub low_first : Tables → ℕ → Bool
low_first t r = ltb (t.corner r (low_slot (t.shape r).edge)) (t.corner r (high_slot (t.shape r).edge))

-- The slot of the end of lower vertex number, and of the end of higher.
unfoldable pub lower_end : Tables → ℕ → ℕ
lower_end t r = cond (low_first t r) (low_slot (t.shape r).edge) (high_slot (t.shape r).edge)

unfoldable pub higher_end : Tables → ℕ → ℕ
higher_end t r = cond (low_first t r) (high_slot (t.shape r).edge) (low_slot (t.shape r).edge)

-- Vertex w is the midpoint of record r's refinement edge, judged by parent pairs.
pub record Midpoint (t : Tables) (w r : ℕ) : Type 0 where
  pub made : Made t w
  pub lower : t.p w ≡ t.corner r (lower_end t r)
  pub higher : t.q w ≡ t.corner r (higher_end t r)

-- Record c of t' is what cutting record r of t gives with w in slot k.
pub record ChildOf (t : Tables) (r w k : ℕ) (t' : Tables) (c : ℕ) : Type 0 where
  pub shape : t'.shape c ≡ child_shape (t.shape r) k
  pub corner : (j : ℕ) → j < 4 → t'.corner c j ≡ put w k (t.corner r) j
  pub generation : t'.generation c ≡ suc (t.generation r)

-- The children of a cut record are what cutting gives, and have greater numbers: "The first child has w in v's slot, the second has w in u's slot."
pub record ProperlyCut (t : Tables) (r : ℕ) : Type 0 where
  pub w : ℕ
  pub midpoint : Midpoint t w r
  pub greater : r < t.first r
  pub inside : suc (t.first r) < t.records
  pub first_child : ChildOf t r w (higher_end t r) t (t.first r)
  pub second_child : ChildOf t r w (lower_end t r) t (suc (t.first r))

-- Record c is a child of the cut record r.
pub record IsChild (t : Tables) (r c : ℕ) : Type 0 where
  pub inside : r < t.records
  pub cut : t.cut r ≡ true
  pub which : (c ≡ t.first r) ⊎ (c ≡ suc (t.first r))

-- ---- "Faces and pieces are sets of corner numbers"

-- x is the number of a corner of record r.
abbrev pub HasVertex : Tables → ℕ → ℕ → Type 0
HasVertex t r x = (k : ℕ) × (k < 4) × (t.corner r k ≡ x)

-- x is the number of a corner of its face i, the face without slot i.
abbrev pub FaceHas : Tables → ℕ → ℕ → ℕ → Type 0
FaceHas t r i x = (k : ℕ) × (k < 4) × (k ≢ i) × (t.corner r k ≡ x)

-- Edge e of record r and edge f of record s have the same two vertex numbers.
abbrev pub SameEdge : Tables → ℕ → ℕ → ℕ → ℕ → Type 0
SameEdge t r e s f = SamePair (t.corner r (low_slot e)) (t.corner r (high_slot e)) (t.corner s (low_slot f)) (t.corner s (high_slot f))

-- ---- the laws

-- Of rules 3 to 7 and 9, what the link rests on: no limit, no coordinate, no byte, and nothing of a face in three base records.
pub record Lawful (t : Tables) : Type 0 where
  -- no more base vertices than vertices
  pub vertex_counts : t.base_vertices ≤ t.vertices
  -- no more base records than records
  pub record_counts : t.base_records ≤ t.records
  -- a made vertex has p < q < its own number
  pub parents : (v : ℕ) → Made t v → (t.p v < t.q v) × (t.q v < v)
  -- no parent pair is used twice
  pub pair_once : (v w : ℕ) → Made t v → Made t w → t.p v ≡ t.p w → t.q v ≡ t.q w → v ≡ w
  -- a base record's corners are in the base
  pub base_corners : (r : ℕ) → r < t.base_records → (k : ℕ) → k < 4 → t.corner r k < t.base_vertices
  -- no two of them are equal
  pub base_different : (r : ℕ) → r < t.base_records → (j k : ℕ) → j < 4 → k < 4 → t.corner r j ≡ t.corner r k → j ≡ k
  -- a base record's marks are on their faces, and its refinement faces are marked with the refinement edge
  pub base_valid : (r : ℕ) → r < t.base_records → Valid (t.shape r)
  -- its flag is 0
  pub base_unset : (r : ℕ) → r < t.base_records → (t.shape r).flag ≡ 0
  -- its generation is 0
  pub base_generation : (r : ℕ) → r < t.base_records → t.generation r ≡ 0
  -- no two base records have the same four corners
  pub base_alone : (r s : ℕ) → r < t.base_records → s < t.base_records → ((x : ℕ) → HasVertex t r x ↔ HasVertex t s x) → r ≡ s
  -- no shared face has two marks
  pub base_shared : (r s : ℕ) → r < t.base_records → s < t.base_records → (i j : ℕ) → i < 4 → j < 4 → ((x : ℕ) → FaceHas t r i x ↔ FaceHas t s j x) → SameEdge t r (mark (t.shape r) i) s (mark (t.shape s) j)
  -- a cut record's children are what cutting gives, and have greater numbers
  pub properly_cut : (r : ℕ) → r < t.records → t.cut r ≡ true → ProperlyCut t r
  -- a record beyond the base is a child
  pub has_parent : (c : ℕ) → t.base_records ≤ c → c < t.records → (r : ℕ) × IsChild t r c
  -- it is the child of no more than one
  pub one_parent : (c : ℕ) → t.base_records ≤ c → c < t.records → (r s : ℕ) → IsChild t r c → IsChild t s c → r ≡ s
  -- a made vertex is the midpoint of some cut record's refinement edge
  pub midpoint_of : (v : ℕ) → Made t v → (r : ℕ) × (r < t.records) × (t.cut r ≡ true) × Midpoint t v r

-- Edge e of record n hangs: some made vertex has its two ends as parents.
pub record HangsIn (t : Tables) (n e : ℕ) : Type 0 where
  pub edge : e < 6
  pub vertex : ℕ
  pub made : Made t vertex
  pub ends : SamePair (t.p vertex) (t.q vertex) (t.corner n (low_slot e)) (t.corner n (high_slot e))

-- ---- names

-- A base vertex's name is its number, a made vertex's the midpoint of its parents' names.
unfoldable pub name_step : Tables → (ℕ → Name) → ℕ → Name
name_step t name v = let halfway = mid (name (t.p v)) (name (t.q v)) in cond (ltb v t.base_vertices) (Names.base v) halfway

unfoldable pub name_of : Tables → ℕ → Name
name_of t v = going_down (Names.base 0) (name_step t) v

-- Record r's piece over names. Those of the base records are the base.
abbrev pub piece_of : Tables → ℕ → Piece Name
piece_of t r = record { shape = t.shape r; corner = λ k. name_of t (t.corner r k) }

-- ---- nodes

-- The number of record r's child that has the midpoint in the first slot of r's refinement edge, and in the second.
unfoldable pub child_on : Tables → ℕ → Side → ℕ
child_on t r low = cond (low_first t r) (suc (t.first r)) (t.first r)
child_on t r high = cond (low_first t r) (t.first r) (suc (t.first r))

-- The cut record whose child is c, and the side of it that c is.
unfoldable pub parent_of : Tables → ℕ → ℕ
parent_of t c = first_below t.records (λ r. t.cut r && (eqb c (child_on t r low) || eqb c (child_on t r high)))

unfoldable pub side_of : Tables → ℕ → Side
side_of t c = cond (eqb c (child_on t (parent_of t c) low)) low high

-- A base record's node is its root, a child's its parent's node and a side.
unfoldable pub node_step : Tables → (ℕ → Node) → ℕ → Node
node_step t node c = let below = kid (node (parent_of t c)) (side_of t c) in cond (ltb c t.base_records) (record { root = c; path = [] }) below

unfoldable pub node_of : Tables → ℕ → Node
node_of t c = going_down (record { root = 0; path = [] }) (node_step t) c

-- ---- the set of cuts

-- Some cut record has the node n.
unfoldable pub cut_at : Tables → Node → Bool
cut_at t n = any_below t.records (λ r. t.cut r && same_node n (node_of t r))

-- The tables represent the set C: it has the tables' base, and its cuts are the nodes of the cut records.
pub record Represents (t : Tables) {count : ℕ} (C : Cuts count) : Type 0 where
  pub bases : count ≡ t.base_records
  pub has : (r : ℕ) → r < t.records → t.cut r ≡ true → C.has (node_of t r) ≡ true
  pub only : (n : Node) → C.has n ≡ true → (r : ℕ) × (r < t.records) × (t.cut r ≡ true) × (node_of t r ≡ n)

-- ---- one more cut

-- "A cut uses the vertex with that parent pair if there is one": w is that vertex, and none is added.
pub record OldVertex (t : Tables) (n w : ℕ) (t' : Tables) : Type 0 where
  pub count : t'.vertices ≡ t.vertices
  pub midpoint : Midpoint t w n

-- "Else appends it": there is none, and w is the next number.
pub record NewVertex (t : Tables) (n w : ℕ) (t' : Tables) : Type 0 where
  pub none : (v : ℕ) → Midpoint t v n → ⊥
  pub count : t'.vertices ≡ suc t.vertices
  pub number : w ≡ t.vertices
  pub lower : t'.p w ≡ t.corner n (lower_end t n)
  pub higher : t'.q w ≡ t.corner n (higher_end t n)

-- t' is t with record n cut too, at the vertex w.
pub record Appended (t : Tables) (n w : ℕ) (t' : Tables) : Type 0 where
  -- the base and the old vertices stay as they are
  pub base_vertices : t'.base_vertices ≡ t.base_vertices
  pub base_records : t'.base_records ≡ t.base_records
  pub p : (v : ℕ) → v < t.vertices → t'.p v ≡ t.p v
  pub q : (v : ℕ) → v < t.vertices → t'.q v ≡ t.q v
  -- so do the old records, but that n is cut
  pub shape : (r : ℕ) → r < t.records → t'.shape r ≡ t.shape r
  pub corner : (r : ℕ) → r < t.records → (j : ℕ) → j < 4 → t'.corner r j ≡ t.corner r j
  pub generation : (r : ℕ) → r < t.records → t'.generation r ≡ t.generation r
  pub cut : (r : ℕ) → r < t.records → r ≢ n → t'.cut r ≡ t.cut r
  pub first : (r : ℕ) → r < t.records → r ≢ n → t'.first r ≡ t.first r
  pub now_cut : t'.cut n ≡ true
  pub now_first : t'.first n ≡ t.records
  -- its two children come behind them, what cutting gives, and uncut
  pub records : t'.records ≡ suc (suc t.records)
  pub first_child : ChildOf t n w (higher_end t n) t' t.records
  pub second_child : ChildOf t n w (lower_end t n) t' (suc t.records)
  pub first_uncut : t'.cut t.records ≡ false
  pub second_uncut : t'.cut (suc t.records) ≡ false
  -- the midpoint is an old vertex or the next one
  pub vertex : OldVertex t n w t' ⊎ NewVertex t n w t'
