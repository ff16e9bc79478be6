-- Document 01, "A piece worked by hand": its starred rows, in its order and words, as one table under one claim, computed from the definitions.
use Rattle.std.specs.Prelude.{◌≡◌, Bool, true, ◌&&◌, ◌||◌, List, [], ◌∷◌, ℕ, length, pos, eqb}
use Rattle.laws.specs.Below.{all_below}
use Rattle.piece.specs.declared.Piece.{Piece}
use Rattle.piece.specs.Shape.{Shape, Valid, shape_of, type_p, type_a, type_o, type_m, set_p, unset_p, valid_shape}
use Rattle.piece_cut.specs.Cut.{child_shape, cut_of}
use Rattle.piece_cut.specs.Theorems.{End}
use Rattle.grid.specs.Places.{point_of}
use Rattle.stored.specs.Layout.{stored1, StoredSelection, selection1}
use Rattle.mesh_tables.specs.Tables.{Tables, tables_of, piece_at, is_cut, refinement_ends, sixfold_at}
use Rattle.check_refusals.specs.Check.{leaves}
use Rattle.build_service.specs.Build.{build_number, build_bytes}
use Rattle.refine_service.specs.Refine.{refine_number, refine_bytes}
use Rattle.refine_meaning.specs.Rows.{k_coordinates, k_corners, k_of, K, k_cut, k_four, selecting}

-- ---- what the rows speak of

-- K as build gives it: the bytes, and the piece that they store.
abbrev built : List ℕ
built = build_bytes 7 k_coordinates k_corners 77

abbrev built_piece : Piece
built_piece = piece_at (tables_of (stored1 built)) 0

-- "K, select 0", and the mesh that refine writes.
abbrev select_0 : StoredSelection
select_0 = selection1 (selecting 7 0 1 (0 ∷ []))

abbrev halved : Tables
halved = tables_of (stored1 (refine_bytes (stored1 K) select_0 121))

-- "Then select 1 and 2"
abbrev select_1_2 : StoredSelection
select_1_2 = selection1 (selecting 7 1 2 (1 ∷ 2 ∷ []))

abbrev quartered : Tables
quartered = tables_of (stored1 (refine_bytes (stored1 k_cut) select_1_2 209))

-- "From there select 4 alone"
abbrev select_4 : StoredSelection
select_4 = selection1 (selecting 7 2 1 (4 ∷ []))

abbrev with_four : Tables
with_four = tables_of (stored1 (refine_bytes (stored1 k_four) select_4 287))

-- "Select 3 to 6 instead"
abbrev select_3_to_6 : StoredSelection
select_3_to_6 = selection1 (selecting 7 2 4 (3 ∷ 4 ∷ 5 ∷ 6 ∷ []))

abbrev with_all : Tables
with_all = tables_of (stored1 (refine_bytes (stored1 k_four) select_3_to_6 375))

-- "With refinement edge 0 and marks of faces (1, 0)": face 1 is acd and face 0 is bcd; faces 2 and 3 contain the refinement edge.
abbrev with_marks : ℕ → ℕ → ℕ → Piece
with_marks acd bcd flag = record { corners = 0 ∷ 1 ∷ 2 ∷ 3 ∷ []; edge = 0; marks = bcd ∷ acd ∷ 0 ∷ 0 ∷ []; flag = flag; generation = 0; material = 0 }

-- A valid piece of this type.
abbrev is : (Shape → Bool) → Piece → Bool
is type p = valid_shape (shape_of p) && type (shape_of p)

-- Cutting gives two valid pieces of this type.
abbrev gives_two : (Shape → Bool) → Piece → Bool
gives_two type p = let children = cut_of p 4 in is type children.first && is type children.second

-- ---- the table

pub record StarredRows : Type 0 where
  -- "K: (0,0,0), (64,0,0), (64,64,0), (64,64,64), one piece 0 1 2 3, job 7. Build gives refinement edge 2, marks 4, 2, 2, 1, type A; 77 bytes."
  pub build_accepts : build_number 7 k_coordinates k_corners 77 ≡ 0
  pub build_edge : built_piece.edge ≡ 2
  pub build_marks_lem : built_piece.marks ≡ 4 ∷ 2 ∷ 2 ∷ 1 ∷ []
  pub build_type : is type_a built_piece ≡ true
  pub build_bytes_lem : built ≡ K
  pub build_length : length K ≡ 77
  -- "K, select 0: vertex 4 is (32,32,32) with parents 0, 3. Record 1: corners 0 1 2 4, edge 1, marks 3, 1, 0, 1. Record 2: 4 1 2 3, edge 4,
  -- marks 4, 5, 4, 3. Sixfold 131,072 each. 121 bytes; an output buffer of 120 gets 20."
  pub halved_accepted : refine_number (stored1 K) select_0 121 ≡ 0
  pub halved_place : point_of (halved.vertex_at 4).place ≡ record { x = pos 32; y = pos 32; z = pos 32 }
  pub halved_parent_p : (halved.vertex_at 4).p ≡ 0
  pub halved_parent_q : (halved.vertex_at 4).q ≡ 3
  pub halved_corners_1 : (piece_at halved 1).corners ≡ 0 ∷ 1 ∷ 2 ∷ 4 ∷ []
  pub halved_edge_1 : (piece_at halved 1).edge ≡ 1
  pub halved_marks_1 : (piece_at halved 1).marks ≡ 3 ∷ 1 ∷ 0 ∷ 1 ∷ []
  pub halved_corners_2 : (piece_at halved 2).corners ≡ 4 ∷ 1 ∷ 2 ∷ 3 ∷ []
  pub halved_edge_2 : (piece_at halved 2).edge ≡ 4
  pub halved_marks_2 : (piece_at halved 2).marks ≡ 4 ∷ 5 ∷ 4 ∷ 3 ∷ []
  pub halved_sixfold_1 : sixfold_at halved.vertex_at (piece_at halved 1) ≡ 131072
  pub halved_sixfold_2 : sixfold_at halved.vertex_at (piece_at halved 2) ≡ 131072
  pub halved_bytes : refine_bytes (stored1 K) select_0 121 ≡ k_cut
  pub halved_length : length k_cut ≡ 121
  pub halved_short : refine_number (stored1 K) select_0 120 ≡ 20
  -- "Then select 1 and 2: records 3 to 6, cut next at 0-1, 1-2, 1-2, 2-3."
  pub quartered_accepted : refine_number (stored1 k_cut) select_1_2 209 ≡ 0
  pub quartered_records : quartered.header.records ≡ 7
  pub quartered_next_3 : refinement_ends (piece_at quartered 3) ≡ record { lower = 0; higher = 1 }
  pub quartered_next_4 : refinement_ends (piece_at quartered 4) ≡ record { lower = 1; higher = 2 }
  pub quartered_next_5 : refinement_ends (piece_at quartered 5) ≡ record { lower = 1; higher = 2 }
  pub quartered_next_6 : refinement_ends (piece_at quartered 6) ≡ record { lower = 2; higher = 3 }
  pub quartered_bytes : refine_bytes (stored1 k_cut) select_1_2 209 ≡ k_four
  -- "From there select 4 alone: 5 is cut too. 8 vertices, 11 records, 6 leaves."
  pub with_four_accepted : refine_number (stored1 k_four) select_4 287 ≡ 0
  pub with_four_cut : is_cut with_four 4 ≡ true
  pub with_four_cut_too : is_cut with_four 5 ≡ true
  pub with_four_vertices : with_four.header.vertices ≡ 8
  pub with_four_records : with_four.header.records ≡ 11
  pub with_four_leaves : leaves with_four ≡ 6
  -- "Select 3 to 6 instead: 10 vertices, 15 records, 8 leaves of sixfold 32,768."
  pub with_all_accepted : refine_number (stored1 k_four) select_3_to_6 375 ≡ 0
  pub with_all_vertices : with_all.header.vertices ≡ 10
  pub with_all_records : with_all.header.records ≡ 15
  pub with_all_leaves : leaves with_all ≡ 8
  pub with_all_sixfold : all_below 15 (λ n. is_cut with_all n || eqb (sixfold_at with_all.vertex_at (piece_at with_all n)) 32768) ≡ true
  -- "With refinement edge 0 and marks of faces (1, 0): P (1, 3), A (1, 4), O (5, 5), M (1, 5). P unset gives two P set; P set gives two A; A, O, M
  -- give two P unset."
  pub unset_p_lem : is unset_p (with_marks 1 3 0) ≡ true
  pub set_p_lem : is set_p (with_marks 1 3 1) ≡ true
  pub type_a_lem : is type_a (with_marks 1 4 0) ≡ true
  pub type_o_lem : is type_o (with_marks 5 5 0) ≡ true
  pub type_m_lem : is type_m (with_marks 1 5 0) ≡ true
  pub unset_p_gives : gives_two set_p (with_marks 1 3 0) ≡ true
  pub set_p_gives : gives_two type_a (with_marks 1 3 1) ≡ true
  pub a_gives : gives_two unset_p (with_marks 1 4 0) ≡ true
  pub o_gives : gives_two unset_p (with_marks 5 5 0) ≡ true
  pub m_gives : gives_two unset_p (with_marks 1 5 0) ≡ true
  -- The same of every valid shape and of both children: k is the slot of an end of the refinement edge, where the child has the new vertex.
  pub every_unset_p_gives : (s : Shape) → Valid s → (k : ℕ) → End s k → unset_p s ≡ true → (type_p (child_shape s k) ≡ true) × ((child_shape s k).flag ≡ 1)
  pub every_set_p_gives : (s : Shape) → Valid s → (k : ℕ) → End s k → set_p s ≡ true → (type_a (child_shape s k) ≡ true) × ((child_shape s k).flag ≡ 0)
  pub every_a_o_m_gives : (s : Shape) → Valid s → (k : ℕ) → End s k → (type_a s || (type_o s || type_m s)) ≡ true → (type_p (child_shape s k) ≡ true) × ((child_shape s k).flag ≡ 0)
  -- "Empty selection on K: round 1, all else equal."
  pub empty_accepted : refine_number (stored1 K) (selection1 (selecting 7 0 0 [])) 77 ≡ 0
  pub empty_bytes : refine_bytes (stored1 K) (selection1 (selecting 7 0 0 [])) 77 ≡ k_of 1
  -- "Selection of round 0 on a mesh of round 1: 14. With the job wrong too: 13."
  pub expired : refine_number (stored1 k_cut) select_0 121 ≡ 14
  pub of_another_job : refine_number (stored1 k_cut) (selection1 (selecting 8 0 1 (0 ∷ []))) 121 ≡ 13
