-- What the starred rows of "A piece worked by hand" are about: K, cut once and twice, selections of it, and what refine computes with.
use Rattle.std.specs.Prelude.{Bool, true, List, [], ◌∷◌, ◌++◌, ℕ, length, ℤ, pos}
use Rattle.laws.specs.Below.{fold_below, all_below, any_below, count_below, sum_below, first_below, list_below}
use Rattle.laws.specs.Lists.{joined}
use Rattle.laws.specs.Numbers.{number, number_bytes}
use Rattle.piece_edges.specs.Edges.{low_slot, high_slot, has_slot, other_end, joins, edge_between, on_face, opposite, opposite_on, shares, shared_slot}
use Rattle.piece.specs.Shape.{slot_a, slot_b, slot_c, slot_d, edge_c_d, other_marks_are, type_p, set_p, unset_p, mark_fits}
use Rattle.piece.specs.Ends.{lower_end, higher_end, ends_of}
use Rattle.piece.specs.Same.{same_slot, same_slots, same_piece}
use Rattle.piece_cut.specs.Cut.{new_mark, child_flag, child_mark, child_shape, child_of, cut_of}
use Rattle.grid.specs.Places.{coordinate, coordinate_on_grid, on_grid, same_place, is_halfway, halfway_of}
use Rattle.grid_volume.specs.Volume.{minor_of, determinant_of, difference_of, differences_of, left_handed, sixfold_of}
use Rattle.grid_inside.specs.Inside.{lies_in}
use Rattle.stored.specs.declared.Vertex.{Vertex}
use Rattle.stored.specs.declared.Record.{Record}
use Rattle.stored.specs.Layout.{version1, none, marked, mark_bytes, right_mark, right_length, header_from, header_bytes, or_none, stored_or_none, held_in, vertex_in, vertex_from, vertex_bytes, record_in, record_from, record_bytes, laid_out, mesh_bytes, right_selection_mark, right_selection_length, selection_of, selection_bytes, named_in}
use Rattle.mesh_tables.specs.Tables.{tables_of, has_parents, vertex_with, hangs, sixfold_at, hangs_at, leaf_hangs, hanging_edge}
use Rattle.check_refusals.specs.Refusals.{wrong_length, wrong_mark, wrong_counts, bad_vertices, bad_vertex, bad_base_vertex, place_twice, bad_made_vertex, pair_twice, bad_base_records, bad_base_record, bad_piece, bad_corners, left_handed_records, left_handed_record, equal_corners, corner_not_in_base, bad_base_marks, bad_marks, bad_base_faces, bad_faces, bad_with, bad_together, face_in_three, face_before, has_face, same_face, face_within, face_has, same_corners, corners_within, has_corner, two_marks, two_marks_on, same_mark, same_ends, unused_vertices, unused_vertex, hanging_vertices, vertex_hangs, hangs_on, bad_cuts, bad_record, bad_cut, bad_children, is_child_of, not_child_of_one, too_deep, is_midpoint_of, no_midpoint}
use Rattle.laws.specs.Order.{first_broken}
use Rattle.check_refusals.specs.Check.{table_rows, rows, leaves}
use Rattle.refine_selection.specs.Selected.{wrong_selection_length, wrong_selection_mark, another_job, another_round, bad_number, bad_numbers, selection_rows, names_cut, names_last, round_row, is_named}
use Rattle.refine_cut.specs.Cut.{midpoint_of, with_midpoint, with_children, cut_at}
use Rattle.refine_pass.specs.Passes.{exceeds, turn, pass_below, pass, closing, refined}
use Rattle.refine_service.specs.Refine.{closed, result_of, refine_selection_rows, result_rows, refine_number, refine_bytes}

-- ---- K

-- "K: (0,0,0), (64,0,0), (64,64,0), (64,64,64), one piece 0 1 2 3, job 7.": what build is given
abbrev pub k_coordinates : List ℤ
k_coordinates = pos 0 ∷ pos 0 ∷ pos 0 ∷ pos 64 ∷ pos 0 ∷ pos 0 ∷ pos 64 ∷ pos 64 ∷ pos 0 ∷ pos 64 ∷ pos 64 ∷ pos 64 ∷ []

abbrev pub k_corners : List ℕ
k_corners = 0 ∷ 1 ∷ 2 ∷ 3 ∷ []

-- The vertex at these places with these parents. A coordinate's place is 32,768 more.
abbrev vertex : ℕ → ℕ → ℕ → ℕ → ℕ → Vertex
vertex x y z p q = record { place = record { x = x; y = y; z = z }; p = p; q = q }

-- The record with these corners, refinement edge, marks, flag, generation and first child, of material 0.
abbrev entry : List ℕ → ℕ → List ℕ → ℕ → ℕ → ℕ → Record
entry corners edge marks flag generation first =
    record { piece = record { corners = corners; edge = edge; marks = marks; flag = flag; generation = generation; material = 0 }; first_child = first }

-- The bytes of version 1 of the mesh of this round with these vertices and records, of which the first four and the first are base.
abbrev mesh_with : ℕ → List Vertex → List Record → List ℕ
mesh_with round vertices records =
    mesh_bytes version1
    (record {
      header = record { job = 7; round = round; base_vertices = 4; vertices = length vertices; base_records = 1; records = length records };
      vertices = vertices;
      records = records;
    })

abbrev k_vertices : List Vertex
k_vertices =
    vertex 32768 32768 32768 none none ∷ vertex 32832 32768 32768 none none ∷ vertex 32832 32832 32768 none none ∷ vertex 32832 32832 32832 none none ∷ []

-- "refinement edge 2, marks 4, 2, 2, 1"
abbrev k_record : ℕ → Record
k_record first = entry k_corners 2 (4 ∷ 2 ∷ 2 ∷ 1 ∷ []) 0 0 first

-- K as build stores it, but of this round.
abbrev pub k_of : ℕ → List ℕ
k_of round = mesh_with round k_vertices (k_record none ∷ [])

-- K as build stores it: "The round 0."
abbrev pub K : List ℕ
K = k_of 0

-- K with record 0 cut: "vertex 4 is (32,32,32) with parents 0, 3. Record 1: corners 0 1 2 4, edge 1, marks 3, 1, 0, 1. Record 2: 4 1 2 3,
-- edge 4, marks 4, 5, 4, 3."
abbrev k_cut_vertices : List Vertex
k_cut_vertices = k_vertices ++ vertex 32800 32800 32800 0 3 ∷ []

abbrev k_record_1 : ℕ → Record
k_record_1 first = entry (0 ∷ 1 ∷ 2 ∷ 4 ∷ []) 1 (3 ∷ 1 ∷ 0 ∷ 1 ∷ []) 0 1 first

abbrev k_record_2 : ℕ → Record
k_record_2 first = entry (4 ∷ 1 ∷ 2 ∷ 3 ∷ []) 4 (4 ∷ 5 ∷ 4 ∷ 3 ∷ []) 0 1 first

abbrev pub k_cut : List ℕ
k_cut = mesh_with 1 k_cut_vertices (k_record 1 ∷ k_record_1 none ∷ k_record_2 none ∷ [])

-- And with 1 and 2 cut then.
abbrev pub k_four : List ℕ
k_four =
    mesh_with 2
    (k_cut_vertices ++ vertex 32800 32800 32768 0 2 ∷ vertex 32832 32800 32800 1 3 ∷ [])
    (k_record 1
    ∷ k_record_1 3
    ∷ k_record_2 5
    ∷ entry (0 ∷ 1 ∷ 5 ∷ 4 ∷ []) 0 (4 ∷ 2 ∷ 0 ∷ 0 ∷ []) 1 2 none
    ∷ entry (5 ∷ 1 ∷ 2 ∷ 4 ∷ []) 3 (3 ∷ 5 ∷ 4 ∷ 3 ∷ []) 1 2 none
    ∷ entry (4 ∷ 1 ∷ 2 ∷ 6 ∷ []) 3 (3 ∷ 1 ∷ 0 ∷ 3 ∷ []) 1 2 none
    ∷ entry (4 ∷ 6 ∷ 2 ∷ 3 ∷ []) 5 (5 ∷ 5 ∷ 2 ∷ 1 ∷ []) 1 2 none
    ∷ [])

-- A selection of this job and round that names these records.
abbrev pub selecting : ℕ → ℕ → ℕ → List ℕ → List ℕ
selecting job round count named = selection_bytes version1 (record { job = job; round = round; count = count }) named

-- What refine's answers compute with, named in one place: to unfold this is to unfold them all.
unfoldable pub computed : Bool
unfolding leaves fold_below all_below any_below count_below sum_below first_below list_below joined number number_bytes low_slot high_slot has_slot other_end joins edge_between on_face opposite opposite_on shares shared_slot slot_a slot_b slot_c slot_d edge_c_d other_marks_are type_p set_p unset_p mark_fits lower_end higher_end ends_of same_slot same_slots same_piece new_mark child_flag child_mark child_shape child_of cut_of coordinate coordinate_on_grid on_grid same_place is_halfway halfway_of minor_of determinant_of difference_of differences_of sixfold_of marked mark_bytes right_mark right_length header_from header_bytes or_none stored_or_none held_in vertex_in vertex_from vertex_bytes record_in record_from record_bytes laid_out right_selection_mark right_selection_length selection_of selection_bytes named_in tables_of has_parents vertex_with hangs sixfold_at wrong_length wrong_mark wrong_counts bad_vertices bad_vertex bad_base_vertex place_twice bad_made_vertex pair_twice bad_base_records bad_base_record bad_piece bad_corners left_handed_records left_handed_record left_handed equal_corners corner_not_in_base bad_base_marks bad_marks bad_base_faces bad_faces bad_with bad_together face_in_three face_before has_face same_face face_within face_has same_corners corners_within has_corner two_marks two_marks_on same_mark same_ends unused_vertices unused_vertex hanging_vertices vertex_hangs hangs_on lies_in bad_cuts bad_record bad_cut bad_children is_child_of not_child_of_one too_deep is_midpoint_of no_midpoint hangs_at leaf_hangs hanging_edge table_rows rows first_broken wrong_selection_length wrong_selection_mark another_job another_round bad_number bad_numbers selection_rows names_cut names_last round_row is_named midpoint_of with_midpoint with_children cut_at exceeds turn pass_below pass closing refined closed result_of refine_selection_rows result_rows refine_number refine_bytes
computed = true
