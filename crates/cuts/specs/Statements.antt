-- What is proved of names, pieces, sets of cuts and tables: the statements alone, each with a sentence in plain words. `Proved` has the proofs.
use Rattle.std.specs.Prelude.{◌≡◌, Bool, true, false, not, ◌⊎◌, ◌↔◌, List, [], ℕ, suc, ◌+◌, ◌-◌, ◌*◌, ◌/◌, ◌<◌, ◌≤◌, max, length}
use Rattle.laws.specs.Below.{count_below}
use Rattle.laws.specs.Pairs.{SamePair}
use Rattle.piece_edges.specs.Edges.{low_slot, high_slot}
use Rattle.piece.specs.Shape.{Shape, slot_a, slot_b, Valid}
use Rattle.cuts_names.specs.Names as Names
use Rattle.cuts_names.specs.Names.{Name, mid, level}
use Rattle.cuts_names.specs.Pieces.{Piece, Side, low, high, child_with, renamed, makes, child, Node, generation, kid, piece_down, piece_at}
use Rattle.cuts.specs.Sets.{Cuts, There, Leaf, CutsWithin, HangsAt, Hangs, NoneHangs}
use Rattle.cuts_names.specs.Base.{SameCorners, Different, SameFace, marked_at, Marked}
use Rattle.cuts_names.specs.Three.{formal, formal_down, stands_for, Macro}
use Rattle.cuts_names.specs.Macro.{Alike}
use Rattle.cuts.specs.Depth.{CutsBelow}
use Rattle.cuts.specs.Grid.{MultipleOf2, Built, low_end, high_end}
use Rattle.cuts.specs.Least.{OneMore, Reaches}
use Rattle.cuts.specs.Count.{CutList, LeafList, MadeList}
use Rattle.cuts.specs.Fuel.{cuts_under, cuts_left, cuts_made, Closing}
use Rattle.cuts.specs.Tables.{Tables, Made, Lawful, HangsIn, name_of, piece_of, node_of, Represents, Appended}
use Rattle.cuts.specs.LinkSets.{cut_nodes, leaf_nodes, made_names}
use Rattle.cuts.specs.LinkGrown.{Grown}

pub record Statements : Type 1 where
  -- ---- names of vertices

  -- A midpoint is the same whichever of the two ends is named first.
  pub mid_symmetric : (a b : Name) → mid a b ≡ mid b a
  -- A midpoint belongs to one unordered pair of vertices.
  pub mid_injective : (a b c d : Name) → mid a b ≡ mid c d → SamePair a b c d
  -- No base vertex is a midpoint.
  pub mid_not_base : (a b : Name) (n : ℕ) → mid a b ≡ Names.base n → ⊥
  -- A base vertex has level 0.
  pub level_base : (n : ℕ) → level (Names.base n) ≡ 0
  -- A midpoint has one level more than the higher of its two parents.
  pub level_mid : (a b : Name) → level (mid a b) ≡ suc (max (level a) (level b))
  -- ---- pieces and nodes

  -- Cutting does not look at what the corners are.
  pub cut_renamed : {A B : Type 0} (f : A → B) (w : A) (p : Piece A) (side : Side) → renamed f (child_with w p side) ≡ child_with (f w) (renamed f p) side
  -- The piece at a base record's node is the base piece.
  pub piece_root : (base : ℕ → Piece Name) (r : ℕ) → piece_at base (record { root = r; path = [] }) ≡ base r
  -- The piece at a node's child is that child of the piece at the node.
  pub piece_kid : (base : ℕ → Piece Name) (n : Node) (side : Side) → piece_at base (kid n side) ≡ child (piece_at base n) side
  -- Every piece that cutting a marked base can give is validly marked.
  pub piece_valid : {count : ℕ} {base : ℕ → Piece Name} → Marked count base → (n : Node) → n.root < count → Valid (piece_at base n).shape
  -- ---- three cuts at a time, and levels

  -- At most three cuts below a valid unflagged shape, each corner is one of its four corners or one of the midpoints of its six edges.
  pub three_corners : (s : Shape) → Valid s → s.flag ≡ 0 → (path : List Side) → length path ≤ 3 → (j : ℕ) → j < 4 → (formal_down (formal s) path).corner j < 10
  -- Each refinement edge met before the third cut joins two of the four corners, in their own slots.
  pub three_edges : (s : Shape) → Valid s → s.flag ≡ 0 → (path : List Side) → length path < 3 →
      let q = formal_down (formal s) path in
      (q.corner (slot_a q.shape) ≡ slot_a q.shape) × (q.corner (slot_b q.shape) ≡ slot_b q.shape)
  -- After three cuts the flag is unset again.
  pub three_unset : (s : Shape) → Valid s → s.flag ≡ 0 → (path : List Side) → length path ≡ 3 → (formal_down (formal s) path).shape.flag ≡ 0
  -- After three cuts each edge has one of those midpoints for an end.
  pub three_new : (s : Shape) → Valid s → s.flag ≡ 0 → (path : List Side) → length path ≡ 3 → (e : ℕ) → e < 6 →
      let q = formal_down (formal s) path in
      (4 ≤ q.corner (low_slot e)) ⊎ (4 ≤ q.corner (high_slot e))
  -- What these four say of formal corners holds of the corners that they stand for.
  pub three_stand : (p : Piece Name) → Valid p.shape → p.shape.flag ≡ 0 → (path : List Side) → length path ≤ 3 →
      Alike (piece_down p path) (renamed (stands_for p) (formal_down (formal p.shape) path))
  -- What `Macro` says of a piece of generation 3k is kept by three cuts, with k + 1 for k.
  pub macro_kept : (k : ℕ) (p : Piece Name) → Macro k p → (path : List Side) → length path ≡ 3 → Macro (suc k) (piece_down p path)
  -- The vertex that each of the three cuts makes has level k + 1.
  pub macro_makes : (k : ℕ) (p : Piece Name) → Macro k p → (path : List Side) → length path < 3 → level (makes (piece_down p path)) ≡ suc k
  -- It holds of every piece of generation 3k that cutting a marked base can give.
  pub macro_node : {count : ℕ} {base : ℕ → Piece Name} → Marked count base → (n : Node) → n.root < count → (k : ℕ) → generation n ≡ 3 * k → Macro k (piece_at base n)
  -- Cutting a piece of generation 3k, 3k + 1 or 3k + 2 makes a vertex of level k + 1.
  pub level_made : {count : ℕ} {base : ℕ → Piece Name} → Marked count base → (n : Node) → n.root < count → level (makes (piece_at base n)) ≡ suc (generation n / 3)
  -- The corners of a piece have at most a third of its generation for a level, rounded up.
  pub level_corner : {count : ℕ} {base : ℕ → Piece Name} → Marked count base → (n : Node) → n.root < count → (j : ℕ) → j < 4 → level ((piece_at base n).corner j) ≤ (generation n + 2) / 3
  -- ---- depth

  -- A leaf of generation 3K does not hang where all cuts have generations below 3K.
  pub deepest_rests : {count : ℕ} {base : ℕ → Piece Name} → Marked count base → (K : ℕ) (C : Cuts count) → CutsBelow (3 * K) C →
      (n : Node) → n.root < count → generation n ≡ 3 * K → (e : ℕ) → HangsAt base C n e → ⊥
  -- So a leaf that hangs there has a generation below 3K.
  pub hanging_below : {count : ℕ} {base : ℕ → Piece Name} → Marked count base → (K : ℕ) (C : Cuts count) → CutsBelow (3 * K) C →
      (n : Node) → Leaf C n → Hangs base C n → generation n < 3 * K
  -- Cutting selected and hanging leaves makes no piece deeper than a multiple of three that reaches the deepest piece before and the selected pieces' children.
  pub depth_kept : (base : ℕ → Piece Name) (S : Node → Type 0) {count : ℕ} {C D : Cuts count} → Reaches base S C D → Marked count base →
      (K M : ℕ) → CutsBelow M C → ((n : Node) → Leaf C n → generation n ≤ 3 * K) → ((n : Node) → S n → suc (generation n) ≤ 3 * K) →
      (n : Node) → Leaf D n → generation n ≤ 3 * K
  -- ---- grid: of one coordinate v, where the base vertices are multiples of 2 ^ G and each midpoint stands halfway, rounded down

  -- A vertex of level l is a multiple of 2 ^ (G - l).
  pub on_grid : (G : ℕ) (v : Name → ℕ) (Known : Name → Type 0) →
      ((a b : Name) → Known (mid a b) → Known a × Known b) →
      ((n : ℕ) → Known (Names.base n) → MultipleOf2 G (v (Names.base n))) →
      ((a b : Name) → Known (mid a b) → v (mid a b) ≡ (v a + v b) / 2) →
      {x : Name} → Built x → Known x → level x ≤ G → MultipleOf2 (G - level x) (v x)
  -- The corners of every piece that cutting a marked base can give are vertices of which this holds.
  pub corners_built : {count : ℕ} {base : ℕ → Piece Name} → Marked count base → (n : Node) → n.root < count → (j : ℕ) → j < 4 → Built ((piece_at base n).corner j)
  -- A piece of generation below 3G has an even sum at the ends of its refinement edge.
  pub ends_even : (G : ℕ) (v : Name → ℕ) (Known : Name → Type 0) →
      ((a b : Name) → Known (mid a b) → Known a × Known b) →
      ((n : ℕ) → Known (Names.base n) → MultipleOf2 G (v (Names.base n))) →
      ((a b : Name) → Known (mid a b) → v (mid a b) ≡ (v a + v b) / 2) →
      {count : ℕ} {base : ℕ → Piece Name} → Marked count base → (n : Node) → n.root < count → generation n < 3 * G →
      let p = piece_at base n in
      Known (low_end p) → Known (high_end p) → (v (low_end p) + v (high_end p)) / 2 + (v (low_end p) + v (high_end p)) / 2 ≡ v (low_end p) + v (high_end p)
  -- So the vertex that cutting it makes stands exactly halfway.
  pub halfway_exact : (G : ℕ) (v : Name → ℕ) (Known : Name → Type 0) →
      ((a b : Name) → Known (mid a b) → Known a × Known b) →
      ((n : ℕ) → Known (Names.base n) → MultipleOf2 G (v (Names.base n))) →
      ((a b : Name) → Known (mid a b) → v (mid a b) ≡ (v a + v b) / 2) →
      {count : ℕ} {base : ℕ → Piece Name} → Marked count base → (n : Node) → n.root < count → generation n < 3 * G →
      let p = piece_at base n in
      Known (makes p) → v (makes p) + v (makes p) ≡ v (low_end p) + v (high_end p)
  -- ---- least

  -- A leaf that hangs in C is cut in every set that holds C and has no hanging edge.
  pub hanging_is_cut : {count : ℕ} (C X : Cuts count) → CutsWithin C X → (base : ℕ → Piece Name) (n : Node) → Leaf C n → Hangs base C n → NoneHangs base X → X.has n ≡ true
  -- Cutting selected and hanging leaves keeps the old cuts.
  pub old_cuts_stay : (base : ℕ → Piece Name) (S : Node → Type 0) {count : ℕ} {C D : Cuts count} → Reaches base S C D → CutsWithin C D
  -- What it reaches lies inside every set that holds the old cuts and the selected pieces and has no hanging edge.
  pub least : (base : ℕ → Piece Name) (S : Node → Type 0) {count : ℕ} {C D : Cuts count} → Reaches base S C D →
      (X : Cuts count) → CutsWithin C X → ((n : Node) → S n → X.has n ≡ true) → NoneHangs base X → CutsWithin D X
  -- ---- counting

  -- There are as many leaves as base pieces and cuts together.
  pub leaves_count : {count : ℕ} (C : Cuts count) (cuts : List Node) → CutList C cuts → (leaves : List Node) → LeafList C leaves → length leaves ≡ count + length cuts
  -- A set inside another has no more cuts.
  pub cuts_fewer : {count : ℕ} (C X : Cuts count) → CutsWithin C X → (l m : List Node) → CutList C l → CutList X m → length l ≤ length m
  -- It has no more pieces.
  pub leaves_fewer : {count : ℕ} (C X : Cuts count) → CutsWithin C X → (l m p q : List Node) → CutList C l → CutList X m → LeafList C p → LeafList X q → length p ≤ length q
  -- It has no more made vertices.
  pub made_fewer : {count : ℕ} (C X : Cuts count) → CutsWithin C X → (base : ℕ → Piece Name) (l m : List Name) → MadeList base C l → MadeList base X m → length l ≤ length m
  -- ---- fuel, and the closed set

  -- The two children of a node have room for one cut less than the node has, where all cuts have generations below B.
  pub kids_one_less : (B : ℕ) (n : Node) → generation n < B → cuts_under B n ≡ suc (cuts_under B (kid n low) + cuts_under B (kid n high))
  -- So the sum over the leaves falls by one at each cut.
  pub sum_falls : (base : ℕ → Piece Name) (S : Node → Type 0) {count : ℕ} {C D : Cuts count} (r : Reaches base S C D) (B : ℕ) → CutsBelow B D →
      (leaves : List Node) → LeafList C leaves →
      (after : List Node) × LeafList D after × (cuts_left B leaves ≡ cuts_made base S r + cuts_left B after)
  -- No more cuts can be made than that sum says.
  pub cuts_at_most : (base : ℕ → Piece Name) (S : Node → Type 0) {count : ℕ} {C D : Cuts count} (r : Reaches base S C D) (B : ℕ) → CutsBelow B D →
      (leaves : List Node) → LeafList C leaves → cuts_made base S r ≤ cuts_left B leaves
  -- From every set with finitely many cuts a set is reached that cuts every selected piece and has no hanging edge.
  pub closed_exists : {count : ℕ} {base : ℕ → Piece Name} → Marked count base → (K : ℕ) (C : Cuts count) → CutsBelow (3 * K) C → (pick : Node → Bool) →
      ((n : Node) → pick n ≡ true → generation n < 3 * K) → ((n : Node) → pick n ≡ true → There C n) →
      (cuts : List Node) → CutList C cuts → Closing base C pick
  -- It lies inside every set that holds the old cuts and the selected pieces and has no hanging edge.
  pub closed_least : {base : ℕ → Piece Name} {count : ℕ} {C : Cuts count} {pick : Node → Bool} (c : Closing base C pick) →
      (X : Cuts count) → CutsWithin C X → ((n : Node) → pick n ≡ true → X.has n ≡ true) → NoneHangs base X → CutsWithin c.set X
  -- There is one such set, in whatever order the leaves are cut.
  pub closed_unique : {base : ℕ → Piece Name} {count : ℕ} {C : Cuts count} {pick : Node → Bool} (c d : Closing base C pick) → (n : Node) → c.set.has n ≡ d.set.has n
  -- ---- shared faces

  -- A face that two nodes share carries one mark.
  pub shared_faces : {count : ℕ} {base : ℕ → Piece Name} → Marked count base → (n m : Node) → n.root < count → m.root < count →
      (i j : ℕ) → i < 4 → j < 4 → SameFace (piece_at base n) i (piece_at base m) j → marked_at (piece_at base n) i ≡ marked_at (piece_at base m) j
  -- A node is determined by its four names.
  pub node_determined : {count : ℕ} {base : ℕ → Piece Name} → Marked count base → (n m : Node) → n.root < count → m.root < count →
      SameCorners (piece_at base n) (piece_at base m) → n ≡ m
  -- The four corners of a node are different names.
  pub corners_different : {count : ℕ} {base : ℕ → Piece Name} → Marked count base → (n : Node) → n.root < count → Different (piece_at base n)
  -- ---- the link: lawful tables of numbered vertices and records

  -- The base records are a properly marked base.
  pub base_marked : (t : Tables) → Lawful t → Marked t.base_records (piece_of t)
  -- Distinct vertex numbers have distinct names.
  pub names_distinct : (t : Tables) → Lawful t → (v w : ℕ) → v < t.vertices → w < t.vertices → name_of t v ≡ name_of t w → v ≡ w
  -- The tables represent a set of cuts.
  pub represents : (t : Tables) → Lawful t → (C : Cuts t.base_records) × Represents t C
  -- They represent no other.
  pub represents_one : (t : Tables) → Lawful t → {count : ℕ} (C : Cuts count) → Represents t C → {count' : ℕ} (D : Cuts count') → Represents t D → (n : Node) → C.has n ≡ D.has n
  -- Every record's shape and corners are those of the piece at its node.
  pub record_piece : (t : Tables) → Lawful t → (c : ℕ) → c < t.records → Alike (piece_of t c) (piece_at (piece_of t) (node_of t c))
  -- Its generation is its node's.
  pub record_generation : (t : Tables) → Lawful t → (c : ℕ) → c < t.records → t.generation c ≡ generation (node_of t c)
  -- Every record's node is there in the set.
  pub record_there : (t : Tables) → Lawful t → {count : ℕ} (C : Cuts count) → Represents t C → (c : ℕ) → c < t.records → There C (node_of t c)
  -- Every node that is there in the set is a record's.
  pub there_record : (t : Tables) → Lawful t → {count : ℕ} (C : Cuts count) → Represents t C → (n : Node) → There C n → (c : ℕ) × (c < t.records) × (node_of t c ≡ n)
  -- No two records have the same node.
  pub nodes_distinct : (t : Tables) → Lawful t → (c d : ℕ) → c < t.records → d < t.records → node_of t c ≡ node_of t d → c ≡ d
  -- A record is cut exactly if its node is.
  pub record_cut : (t : Tables) → Lawful t → {count : ℕ} (C : Cuts count) → Represents t C → (c : ℕ) → c < t.records → C.has (node_of t c) ≡ t.cut c
  -- An uncut record's node is a leaf.
  pub uncut_leaf : (t : Tables) → Lawful t → {count : ℕ} (C : Cuts count) → Represents t C → (c : ℕ) → c < t.records → t.cut c ≡ false → Leaf C (node_of t c)
  -- Every leaf is the node of an uncut record.
  pub leaf_uncut : (t : Tables) → Lawful t → {count : ℕ} (C : Cuts count) → Represents t C → (n : Node) → Leaf C n → (c : ℕ) × (c < t.records) × (t.cut c ≡ false) × (node_of t c ≡ n)
  -- Every made vertex is made by a cut of the set.
  pub made_by : (t : Tables) → Lawful t → {count : ℕ} (C : Cuts count) → Represents t C → (v : ℕ) → Made t v →
      (n : Node) × (C.has n ≡ true) × (makes (piece_at (piece_of t) n) ≡ name_of t v)
  -- Every cut of the set makes a made vertex.
  pub makes_made : (t : Tables) → Lawful t → {count : ℕ} (C : Cuts count) → Represents t C → (n : Node) → C.has n ≡ true →
      (v : ℕ) × Made t v × (name_of t v ≡ makes (piece_at (piece_of t) n))
  -- The cut records' nodes are a list of all cuts.
  pub cuts_listed : (t : Tables) → Lawful t → {count : ℕ} (C : Cuts count) → Represents t C → CutList C (cut_nodes t)
  -- The uncut records' nodes are a list of all leaves.
  pub leaves_listed : (t : Tables) → Lawful t → {count : ℕ} (C : Cuts count) → Represents t C → LeafList C (leaf_nodes t)
  -- The made vertices' names are a list of all made vertices.
  pub made_listed : (t : Tables) → Lawful t → {count : ℕ} (C : Cuts count) → Represents t C → MadeList (piece_of t) C (made_names t)
  -- There are as many uncut records as base records and cut records together.
  pub uncut_count : (t : Tables) → Lawful t → count_below t.records (λ r. not (t.cut r)) ≡ t.base_records + count_below t.records t.cut
  -- An edge of a record hangs in the tables exactly if it hangs at the record's node in the set.
  pub hangs_alike : (t : Tables) → Lawful t → {count : ℕ} (C : Cuts count) → Represents t C → (c : ℕ) → c < t.records → (e : ℕ) →
      HangsIn t c e ↔ HangsAt (piece_of t) C (node_of t c) e
  -- ---- the link: appending one cut

  -- Lawful tables with one uncut record more cut are lawful.
  pub append_lawful : {t t' : Tables} {n w : ℕ} → Lawful t → n < t.records → t.cut n ≡ false → Appended t n w t' → Lawful t'
  -- Appending one cut to the tables adds its node to the set.
  pub append_adds : {t t' : Tables} {n w : ℕ} → Lawful t → n < t.records → t.cut n ≡ false → Appended t n w t' →
      {count : ℕ} (C D : Cuts count) → Represents t C → Represents t' D → OneMore C (node_of t n) D
  -- The tables with the cut represent the set with the node.
  pub append_represents : {t t' : Tables} {n w : ℕ} → Lawful t → n < t.records → t.cut n ≡ false → Appended t n w t' →
      {count : ℕ} (C : Cuts count) → Represents t C → (D : Cuts count) → OneMore C (node_of t n) D → Represents t' D
  -- The old records keep their nodes.
  pub append_nodes : {t t' : Tables} {n w : ℕ} → Lawful t → n < t.records → t.cut n ≡ false → Appended t n w t' → (c : ℕ) → c < t.records → node_of t' c ≡ node_of t c
  -- Where the record cut is selected or hangs, the new tables represent a set that is reached from the same base and the same old cuts.
  pub append_reaches : {base : ℕ → Piece Name} {t : Tables} {count : ℕ} {D : Cuts count} → Grown base t D → {n w : ℕ} {t' : Tables} → n < t.records → t.cut n ≡ false → Appended t n w t' →
      {S : Node → Type 0} {C : Cuts count} → Reaches base S C D → S (node_of t n) ⊎ ((e : ℕ) × HangsIn t n e) →
      (E : Cuts count) × Reaches base S C E × Grown base t' E
  -- Where no uncut record hangs, the set that the tables represent has no hanging edge.
  pub grown_rests : {base : ℕ → Piece Name} {t : Tables} {count : ℕ} {D : Cuts count} → Grown base t D →
      ((n e : ℕ) → n < t.records → t.cut n ≡ false → HangsIn t n e → ⊥) → NoneHangs base D
