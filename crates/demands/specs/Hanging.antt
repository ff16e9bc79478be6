-- Request two, "a corner on somebody else's edge". "Document 002 has a vertex hang on a piece if it lies in the closed piece and isn't one of its corners. For
-- base meshes that meaning holds from now on, by exact determinants. Pieces that overlap with no vertex inside one another stay unjudged. Demand 2's “properly marked
-- base mesh” includes it."
--
-- The words are in `Words`: `HangsOn b v r`, vertex v hangs on piece r, and `ProperlyMarked`, whose base mesh has no such vertex; of the tables that a byte string
-- holds they are in `check_meaning/specs/Accepted`. That check and build give 23 exactly where the rules before it hold and some vertex hangs is `check_refuses` and
-- `build_gives` (Numbers).
use Rattle.std.specs.Prelude.{◌≡◌, refl, true, ◌↔◌, List, [], ◌∷◌, ◌++◌, ℕ, ℤ, pos, negsuc, ◌+ℤ◌, ◌*ℤ◌, ◌<ℤ◌}
use Rattle.std.proofs.lemmas.List.Edits.{sets}
use Rattle.grid.specs.Places.{Point}
use Rattle.grid_volume.specs.Volume.{signed_of}
use Rattle.grid_inside.specs.Inside.{part_of, lies_in}
use Rattle.grid_inside.specs.Parts.{parts_sum, parts_mean_x, parts_mean_y, parts_mean_z}
use Rattle.grid_inside.specs.Weights.{WeightedMean}
use Rattle.grid_inside.proofs.Weights.{closed_exactly}
use Rattle.stored.specs.Layout.{Stored, stored1}
use Rattle.mesh_tables.specs.Tables.{tables_of}
use Rattle.check_refusals.specs.Check.{check_number}
use Rattle.check_meaning.specs.Accepted as Tables
use Rattle.check_meaning.specs.Exactly as Check
use Rattle.check_meaning.proofs.Exactly as CheckProved
use Rattle.check_meaning.proofs.Exactly.{accepts_exactly}
use Rattle.build_service.specs.Build.{build_number, build_bytes}
use Rattle.build_meaning.specs.Rows.{computed as build_computed}
use Rattle.refine_meaning.specs.Rows.{computed as refine_computed}
use Rattle.demands_words.specs.Words.{StoredMesh, ArgumentTypes, plain_base, NoVertexHangs, SomeVertexHangs}
use Rattle.demands_proofs.specs.BuildNumbers as Build
use Rattle.demands_proofs.specs.GivenTypes.{given_by_types}

-- ---- what the determinants mean, over ℤ

module _ (corner : ℕ → Point) (v : Point) where
  -- The four determinants "with one corner replaced by the vertex" add up to the piece's own: D = D0 + D1 + D2 + D3.
  pub four_add_up : part_of corner v 0 +ℤ part_of corner v 1 +ℤ part_of corner v 2 +ℤ part_of corner v 3 ≡ signed_of corner
  four_add_up = parts_sum corner v

  -- And D·v = D0·c0 + D1·c1 + D2·c2 + D3·c3, coordinate by coordinate.
  pub four_weigh :
      (part_of corner v 0 *ℤ (corner 0).x +ℤ part_of corner v 1 *ℤ (corner 1).x +ℤ part_of corner v 2 *ℤ (corner 2).x +ℤ part_of corner v 3 *ℤ (corner 3).x ≡ signed_of corner *ℤ v.x)
      × (part_of corner v 0 *ℤ (corner 0).y +ℤ part_of corner v 1 *ℤ (corner 1).y +ℤ part_of corner v 2 *ℤ (corner 2).y +ℤ part_of corner v 3 *ℤ (corner 3).y ≡ signed_of corner *ℤ v.y)
      × (part_of corner v 0 *ℤ (corner 0).z +ℤ part_of corner v 1 *ℤ (corner 1).z +ℤ part_of corner v 2 *ℤ (corner 2).z +ℤ part_of corner v 3 *ℤ (corner 3).z ≡ signed_of corner *ℤ v.z)
  four_weigh = (parts_mean_x corner v, parts_mean_y corner v, parts_mean_z corner v)

  -- So, of a right-handed piece, "none is negative" is exactly "v is a weighted mean of the corners": the closed piece in the geometer's sense.
  pub lies_in_exactly : pos 0 <ℤ signed_of corner → (lies_in corner v ≡ true) ↔ WeightedMean corner v
  lies_in_exactly = closed_exactly corner v

-- ---- over bytes: what check accepts, and what it gives 23 for

pub no_vertex_hangs : (s : Stored) → check_number s ≡ 0 → Tables.NoVertexHangs (tables_of s)
no_vertex_hangs s e = ((accepts_exactly s).0 e).mesh.no_vertex_hangs

-- 23 is never given without cause: there is a base vertex that hangs on a base record.
pub vertex_hangs_lem : (s : Stored) → check_number s ≡ 23 → Tables.SomeVertexHangs (tables_of s)
vertex_hangs_lem s = CheckProved.vertex_hangs_lem s

-- ---- over base meshes

pub stored_no_vertex_hangs : (s : Stored) (x : StoredMesh s) → NoVertexHangs x.base
stored_no_vertex_hangs s x = x.right.marked.no_vertex_hangs

-- Build gives 23 only where a vertex hangs on a piece, as they are listed: the exchange of corners is not seen.
pub build_vertex_hangs : (job : ℕ) (coordinates : List ℤ) (corners : List ℕ) → ArgumentTypes job coordinates corners → (room : ℕ) →
    build_number job coordinates corners room ≡ 23 → SomeVertexHangs (plain_base coordinates corners)
build_vertex_hangs job coordinates corners types room = Build.build_hangs job coordinates corners room (given_by_types job coordinates corners types)

-- ---- worked: two pieces, the second with a corner at a place on the first or beside it

-- The first piece: 0, 1, 2, 3 at (0, 0, 0), (128, 0, 0), (0, 128, 0), (0, 0, 128). Of the second the corners 5, 6, 7 stand far away.
abbrev pub two_pieces : ℤ → ℤ → ℤ → List ℤ
two_pieces x y z =
    pos 0 ∷ pos 0 ∷ pos 0 ∷ pos 128 ∷ pos 0 ∷ pos 0 ∷ pos 0 ∷ pos 128 ∷ pos 0 ∷ pos 0 ∷ pos 0 ∷ pos 128
    ∷ x ∷ y ∷ z ∷ pos 640 ∷ negsuc 639 ∷ pos 0 ∷ pos 640 ∷ negsuc 639 ∷ pos 64 ∷ pos 640 ∷ negsuc 575 ∷ pos 0 ∷ []

abbrev pub two_corners : List ℕ
two_corners = 0 ∷ 1 ∷ 2 ∷ 3 ∷ 4 ∷ 5 ∷ 6 ∷ 7 ∷ []

abbrev pub built : ℤ → ℤ → ℤ → ℕ
built x y z = build_number 7 (two_pieces x y z) two_corners 134

-- "a vertex in the middle of a neighbour's edge", in a face, inside: 23.
pub on_an_edge : built (pos 64) (pos 0) (pos 0) ≡ 23
unfolding build_computed refine_computed
on_an_edge = refl

pub inside : built (pos 32) (pos 32) (pos 32) ≡ 23
unfolding build_computed refine_computed
inside = refl

-- One step of the grid off the edge; in the plane of a face, and on the line of an edge, but outside: accepted.
pub off_the_edge : built (pos 64) (negsuc 31) (pos 0) ≡ 0
unfolding build_computed refine_computed
off_the_edge = refl

pub in_a_plane : built (pos 96) (pos 64) (pos 0) ≡ 0
unfolding build_computed refine_computed
in_a_plane = refl

pub on_a_line : built (pos 160) (pos 0) (pos 0) ≡ 0
unfolding build_computed refine_computed
on_a_line = refl

-- "Pieces that overlap with no vertex inside one another stay unjudged": the second piece goes right through the first.
abbrev crossing : List ℤ
crossing =
    pos 0 ∷ pos 0 ∷ pos 0 ∷ pos 128 ∷ pos 0 ∷ pos 0 ∷ pos 0 ∷ pos 128 ∷ pos 0 ∷ pos 0 ∷ pos 0 ∷ pos 128
    ∷ negsuc 31 ∷ pos 32 ∷ pos 32 ∷ pos 160 ∷ pos 32 ∷ pos 32 ∷ pos 160 ∷ pos 64 ∷ pos 32 ∷ pos 160 ∷ pos 32 ∷ pos 64 ∷ []

pub overlap_accepted : build_number 7 crossing two_corners 134 ≡ 0
unfolding build_computed refine_computed
overlap_accepted = refl

-- "after 8", "in build before 20": with a vertex that no piece has, 8; with no room, 23.
pub after_8 : build_number 7 (two_pieces (pos 64) (pos 0) (pos 0) ++ (pos 0 ∷ pos 0 ∷ pos 640 ∷ [])) two_corners 144 ≡ 8
unfolding build_computed refine_computed
after_8 = refl

pub before_20 : build_number 7 (two_pieces (pos 64) (pos 0) (pos 0)) two_corners 0 ≡ 23
unfolding build_computed refine_computed
before_20 = refl

-- The bytes of the pieces apart, with vertex 4 moved in them onto the edge: check gives 23, and gives it before 9, where record 0 besides names a child that is
-- not there.
abbrev pub apart : List ℕ
apart = build_bytes 7 (two_pieces (pos 64) (negsuc 31) (pos 0)) two_corners 134

abbrev pub moved : List ℕ
moved = sets apart 62 (0 ∷ 0 ∷ [])

pub moved_refused : check_number (stored1 moved) ≡ 23
unfolding build_computed refine_computed check_number
moved_refused = refl

pub before_9 : check_number (stored1 (sets moved 115 (5 ∷ 0 ∷ []))) ≡ 23
unfolding build_computed refine_computed check_number
before_9 = refl
