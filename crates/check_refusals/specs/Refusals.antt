-- Document 01's table, refusals 1 to 10, and document 02's 22 and 23: for each number when exactly it is given.
use Rattle.std.specs.Prelude.{Bool, not, cond, ◌&&◌, ◌||◌, List, ℕ, ◌+◌, get_or, eqb, ltb, leb}
use Rattle.laws.specs.Below.{any_below, all_below, count_below}
use Rattle.piece.specs.declared.Piece.{Piece}
use Rattle.piece.specs.declared.Ends.{Ends}
use Rattle.piece_edges.specs.Edges.{low_slot, high_slot}
use Rattle.piece.specs.Shape.{last_generation, shape_of, mark, mark_fits}
use Rattle.piece.specs.Ends.{corner_at, ends_of}
use Rattle.piece.specs.Same.{same_piece}
use Rattle.piece_cut.specs.Cut.{cut_of}
use Rattle.grid.specs.Places.{point_of, on_grid, same_place, is_halfway}
use Rattle.grid_volume.specs.Volume.{left_handed}
use Rattle.grid_inside.specs.Inside.{lies_in}
use Rattle.stored.specs.declared.Limits.{Limits}
use Rattle.stored.specs.declared.Header.{Header}
use Rattle.stored.specs.declared.Vertex.{Vertex}
use Rattle.stored.specs.declared.Record.{Record}
use Rattle.stored.specs.Layout.{none, parents_of, Stored, right_length, right_mark}
use Rattle.mesh_tables.specs.Tables.{Tables, base_vertices, all_vertices, base_records, all_records, piece_at, uncut, is_cut, has_parents, vertex_with, refinement_ends, corner_point, sixfold_at}

-- ---- 1: "under 20 bytes, or length is not 20 + 10·vertices + 17·records"

unfoldable pub wrong_length : Stored → Bool
wrong_length s = not (right_length s.kind s.base s.grown)

-- ---- 2: "wrong mark or version, or byte 19 not 0"

unfoldable pub wrong_mark : Stored → Bool
wrong_mark s = not (right_mark s.kind.format s.base)

-- ---- 3: "a count beyond its bounds, or base above all"

-- "At most 1,024 vertices and 3,072 records; at least 4 base vertices and 1 base record.": with other limits, other counts, and a bound of its own on base records.
unfoldable pub wrong_counts : Limits → Header → Bool
wrong_counts most h =
    ltb most.vertices h.vertices
    || ltb most.records h.records
    || ltb most.base_records h.base_records
    || ltb h.base_vertices 4
    || ltb h.base_records 1
    || ltb h.vertices h.base_vertices
    || ltb h.records h.base_records

-- ---- 4

-- "base coordinate off the grid, base parent not 65,535": none
unfoldable pub bad_base_vertex : Vertex → Bool
bad_base_vertex v = not (on_grid (point_of v.place)) || not (eqb v.p none) || not (eqb v.q none)

-- "two base vertices at one place": vertex v and one before it
unfoldable pub place_twice : (ℕ → Vertex) → ℕ → Bool
place_twice vertex_at v = any_below v (λ u. same_place (vertex_at u).place (vertex_at v).place)

-- "made vertex without p < q < its own number, not exactly halfway"
unfoldable pub bad_made_vertex : (ℕ → Vertex) → ℕ → Bool
bad_made_vertex vertex_at v =
    let p = (vertex_at v).p in
    let q = (vertex_at v).q in
    not (ltb p q) || not (ltb q v) || not (is_halfway (vertex_at v).place (vertex_at p).place (vertex_at q).place)

-- "a parent pair used twice": by made vertex v and one before it
unfoldable pub pair_twice : Tables → ℕ → Bool
pair_twice m v = any_below v (has_parents m (parents_of (m.vertex_at v)))

unfoldable pub bad_vertex : Tables → ℕ → Bool
bad_vertex m v =
    let in_base = bad_base_vertex (m.vertex_at v) || place_twice m.vertex_at v in
    let made = bad_made_vertex m.vertex_at v || pair_twice m v in
    cond (ltb v (base_vertices m)) in_base made

unfoldable pub bad_vertices : Tables → Bool
bad_vertices m = any_below (all_vertices m) (bad_vertex m)

-- ---- 5

-- "equal corners"
unfoldable pub equal_corners : List ℕ → Bool
equal_corners corners = any_below 6 (λ e. eqb (get_or corners (low_slot e) 0) (get_or corners (high_slot e) 0))

-- "a corner not in the base", which has so many vertices
unfoldable pub corner_not_in_base : ℕ → List ℕ → Bool
corner_not_in_base count corners = any_below 4 (λ k. leb count (get_or corners k 0))

unfoldable pub bad_corners : ℕ → List ℕ → Bool
bad_corners count corners = equal_corners corners || corner_not_in_base count corners

-- "base record with equal corners, a corner not in the base, sixfold volume 0, generation or flag not 0"
unfoldable pub bad_piece : ℕ → (ℕ → Vertex) → Piece → Bool
bad_piece count vertex_at p =
    bad_corners count p.corners || eqb (sixfold_at vertex_at p) 0 || not (eqb p.generation 0) || not (eqb p.flag 0)

unfoldable pub bad_base_record : Tables → ℕ → Bool
bad_base_record m n = bad_piece (base_vertices m) m.vertex_at (piece_at m n)

unfoldable pub bad_base_records : Tables → Bool
bad_base_records m = any_below (base_records m) (bad_base_record m)

-- ---- 22, document 02: "a base record with a negative value"

unfoldable pub left_handed_record : Tables → ℕ → Bool
left_handed_record m n = left_handed (corner_point m.vertex_at (piece_at m n))

unfoldable pub left_handed_records : Tables → Bool
left_handed_records m = any_below (base_records m) (left_handed_record m)

-- ---- 6: "base record with an edge code above 5, a mark not on its face, or a refinement face not marked with the refinement edge"

unfoldable pub bad_marks : Piece → Bool
bad_marks p = ltb 5 p.edge || any_below 4 (λ i. not (mark_fits p.edge (mark (shape_of p) i) i))

unfoldable pub bad_base_marks : Tables → Bool
bad_base_marks m = any_below (base_records m) (λ n. bad_marks (piece_at m n))

-- ---- 7: faces and pieces are sets of corner numbers

-- x is a corner of the piece; x is a corner of face i, the face without slot i.
unfoldable pub has_corner : Piece → ℕ → Bool
has_corner p x = any_below 4 (λ k. eqb (corner_at p k) x)

unfoldable pub face_has : Piece → ℕ → ℕ → Bool
face_has p i x = any_below 4 (λ k. not (eqb k i) && eqb (corner_at p k) x)

-- Every corner of face i of p is one of face j of q.
unfoldable pub face_within : Piece → ℕ → Piece → ℕ → Bool
face_within p i q j = all_below 4 (λ k. eqb k i || face_has q j (corner_at p k))

unfoldable pub same_face : Piece → ℕ → Piece → ℕ → Bool
same_face p i q j = face_within p i q j && face_within q j p i

-- The marks of face i of p and of face j of q, as pairs of vertex numbers.
unfoldable pub same_ends : Ends → Ends → Bool
same_ends a b = eqb a.lower b.lower && eqb a.higher b.higher

unfoldable pub same_mark : Piece → ℕ → Piece → ℕ → Bool
same_mark p i q j = same_ends (ends_of p (mark (shape_of p) i)) (ends_of q (mark (shape_of q) j))

-- "two base records with the same four corners"
unfoldable pub corners_within : Piece → Piece → Bool
corners_within p q = all_below 4 (λ k. has_corner q (corner_at p k))

unfoldable pub same_corners : Piece → Piece → Bool
same_corners p q = corners_within p q && corners_within q p

-- "a shared face with two marks"
unfoldable pub two_marks_on : Piece → ℕ → Piece → ℕ → Bool
two_marks_on p i q j = same_face p i q j && not (same_mark p i q j)

unfoldable pub two_marks : Piece → Piece → Bool
two_marks p q = any_below 4 (λ i. any_below 4 (two_marks_on p i q))

-- Some face of p is face i of q; some record before r has it.
unfoldable pub has_face : Piece → ℕ → Piece → Bool
has_face q i p = any_below 4 (λ j. same_face p j q i)

unfoldable pub face_before : (ℕ → Record) → Piece → ℕ → ℕ → Bool
face_before record_at q i r = any_below r (λ s. has_face q i (record_at s).piece)

-- "a face in three base records": one of q's is in record r, whose piece is p, and in one before r
unfoldable pub face_in_three : (ℕ → Record) → Piece → ℕ → Piece → Bool
face_in_three record_at q r p = any_below 4 (λ i. has_face q i p && face_before record_at q i r)

-- "a face in three base records, two base records with the same four corners, or a shared face with two marks": p is record r's piece,
-- q's record comes after it
unfoldable pub bad_together : (ℕ → Record) → Piece → ℕ → Piece → Bool
bad_together record_at q r p = face_in_three record_at q r p || same_corners p q || two_marks p q

unfoldable pub bad_with : (ℕ → Record) → Piece → ℕ → Bool
bad_with record_at q n = any_below n (λ r. bad_together record_at q r (record_at r).piece)

unfoldable pub bad_faces : (ℕ → Record) → ℕ → Bool
bad_faces record_at n = bad_with record_at (record_at n).piece n

unfoldable pub bad_base_faces : Tables → Bool
bad_base_faces m = any_below (base_records m) (bad_faces m.record_at)

-- ---- 8: "a base vertex in no base record"

unfoldable pub unused_vertex : Tables → ℕ → Bool
unused_vertex m v = not (any_below (base_records m) (λ n. has_corner (piece_at m n) v))

unfoldable pub unused_vertices : Tables → Bool
unused_vertices m = any_below (base_vertices m) (unused_vertex m)

-- ---- 23, document 02: "a vertex hang[s] on a piece if it lies in the closed piece and isn't one of its corners"

unfoldable pub hangs_on : (ℕ → Vertex) → Piece → ℕ → Bool
hangs_on vertex_at p v = not (has_corner p v) && lies_in (corner_point vertex_at p) (point_of (vertex_at v).place)

-- "For base meshes that meaning holds from now on": some base vertex hangs on base record n.
unfoldable pub vertex_hangs : Tables → ℕ → Bool
vertex_hangs m n = any_below (base_vertices m) (hangs_on m.vertex_at (piece_at m n))

unfoldable pub hanging_vertices : Tables → Bool
hanging_vertices m = any_below (base_records m) (vertex_hangs m)

-- ---- 9

-- "a cut record whose children aren't what cutting gives, or don't have greater numbers": cutting needs the vertex w halfway on the
-- refinement edge, and both children have to be there. r is record n.
unfoldable pub bad_children : Tables → ℕ → Record → Bool
bad_children m n r =
    let w = vertex_with m (refinement_ends r.piece) in
    leb (all_vertices m) w
    || leb r.first_child n
    || leb (all_records m) (r.first_child + 1)
    || not (same_piece (piece_at m r.first_child) (cut_of r.piece w).first)
    || not (same_piece (piece_at m (r.first_child + 1)) (cut_of r.piece w).second)

unfoldable pub bad_cut : Tables → ℕ → Bool
bad_cut m n = is_cut m n && bad_children m n (m.record_at n)

-- c is a child of the cut record r.
unfoldable pub is_child_of : Record → ℕ → Bool
is_child_of r c = not (uncut r) && (eqb r.first_child c || eqb (r.first_child + 1) c)

-- "a record beyond the base that isn't the child of exactly one"
unfoldable pub not_child_of_one : Tables → ℕ → Bool
not_child_of_one m c = leb (base_records m) c && not (eqb (count_below (all_records m) (λ n. is_child_of (m.record_at n) c)) 1)

-- "a generation above 15"
unfoldable pub too_deep : Piece → Bool
too_deep p = ltb last_generation p.generation

unfoldable pub bad_record : Tables → ℕ → Bool
bad_record m n = bad_cut m n || not_child_of_one m n || too_deep (piece_at m n)

-- "a made vertex that is the midpoint of no cut record's refinement edge"
unfoldable pub is_midpoint_of : Tables → ℕ → ℕ → Bool
is_midpoint_of m v n = is_cut m n && has_parents m (refinement_ends (piece_at m n)) v

unfoldable pub no_midpoint : Tables → ℕ → Bool
no_midpoint m v = leb (base_vertices m) v && not (any_below (all_records m) (is_midpoint_of m v))

unfoldable pub bad_cuts : Tables → Bool
bad_cuts m = any_below (all_records m) (bad_record m) || any_below (all_vertices m) (no_midpoint m)

-- ---- 10: "a hanging edge": `hanging_edge` of `mesh_tables/specs/Tables`
