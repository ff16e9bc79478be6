-- "For the second row of the next section the whole output is", computed from the definitions.
use Rattle.std.specs.Prelude.{◌≡◌, refl}
use Rattle.laws.specs.Below.{fold_below, all_below, any_below, count_below, sum_below, greatest_below, first_below, list_below}
use Rattle.laws.specs.Lists.{joined}
use Rattle.laws.specs.Numbers.{number, number_bytes}
use Rattle.piece_edges.specs.Edges.{low_slot, high_slot, has_slot, other_end, joins, edge_between, on_face, opposite, opposite_on, shares, shared_slot}
use Rattle.piece.specs.Shape.{slot_a, slot_b, slot_c, slot_d, edge_c_d, other_marks_are, type_p, set_p, unset_p, mark_fits}
use Rattle.piece.specs.Ends.{lower_end, higher_end, ends_of}
use Rattle.piece.specs.Same.{same_slot, same_slots, same_piece}
use Rattle.piece_cut.specs.Cut.{new_mark, child_flag, child_mark, child_shape, child_of, cut_of}
use Rattle.grid.specs.Places.{coordinate, coordinate_on_grid, on_grid, same_place, is_halfway, halfway_of}
use Rattle.grid_volume.specs.Volume.{minor_of, determinant_of, difference_of, differences_of, left_handed, sixfold_of}
use Rattle.grid_inside.specs.Inside.{lies_in}
use Rattle.stored.specs.Layout.{marked, mark_bytes, right_mark, right_length, header_from, header_bytes, or_none, stored_or_none, held_in, vertex_in, vertex_from, vertex_bytes, record_in, record_from, record_bytes, laid_out}
use Rattle.mesh_tables.specs.Tables.{tables_of, has_parents, vertex_with, hangs, sixfold_at, hangs_at, leaf_hangs, hanging_edge}
use Rattle.check_refusals.specs.Refusals.{wrong_length, wrong_mark, wrong_counts, bad_vertices, bad_vertex, bad_base_vertex, place_twice, bad_made_vertex, pair_twice, bad_base_records, bad_base_record, bad_piece, bad_corners, left_handed_records, left_handed_record, equal_corners, corner_not_in_base, bad_base_marks, bad_marks, bad_base_faces, bad_faces, bad_with, bad_together, face_in_three, face_before, has_face, same_face, face_within, face_has, same_corners, corners_within, has_corner, two_marks, two_marks_on, same_mark, same_ends, unused_vertices, unused_vertex, hanging_vertices, vertex_hangs, hangs_on, bad_cuts, bad_record, bad_cut, bad_children, is_child_of, not_child_of_one, too_deep, is_midpoint_of, no_midpoint}
use Rattle.laws.specs.Order.{first_broken}
use Rattle.check_refusals.specs.Check.{table_rows, rows, check_number, report_of, check_of, leaves, leaf_generation, deepest, leaf_sixfold, sixfold}
use Rattle.refine_meaning.specs.Rows.{k_cut}
use Rattle.list_text.specs.Text.{word, line_feed, digit, decimal_in, decimal, figures}
use Rattle.list_lines.specs.Lines.{refused_line, count_figures, check_figures, heading_line, corner_figures, edge_figures, leaf_line}
use Rattle.list_service.specs.Listing.{leaf_lines, mesh_lines, judged_lines, lines_of, listing_of}

pub whole_output : listing_of k_cut ≡ word "job 7 round 1 vertices 5 records 3 leaves 2 deepest 1 sixfold 262144\n1 0 1 2 4 edge 0 2 gen 1\n2 4 1 2 3 edge 1 3 gen 1\n"
unfolding leaves fold_below all_below any_below count_below sum_below first_below list_below joined number number_bytes low_slot high_slot has_slot other_end joins edge_between on_face opposite opposite_on shares shared_slot slot_a slot_b slot_c slot_d edge_c_d other_marks_are type_p set_p unset_p mark_fits lower_end higher_end ends_of same_slot same_slots same_piece new_mark child_flag child_mark child_shape child_of cut_of coordinate coordinate_on_grid on_grid same_place is_halfway halfway_of minor_of determinant_of difference_of differences_of sixfold_of marked mark_bytes right_mark right_length header_from header_bytes or_none stored_or_none held_in vertex_in vertex_from vertex_bytes record_in record_from record_bytes laid_out tables_of has_parents vertex_with hangs sixfold_at wrong_length wrong_mark wrong_counts bad_vertices bad_vertex bad_base_vertex place_twice bad_made_vertex pair_twice bad_base_records bad_base_record bad_piece bad_corners left_handed_records left_handed_record left_handed equal_corners corner_not_in_base bad_base_marks bad_marks bad_base_faces bad_faces bad_with bad_together face_in_three face_before has_face same_face face_within face_has same_corners corners_within has_corner two_marks two_marks_on same_mark same_ends unused_vertices unused_vertex hanging_vertices vertex_hangs hangs_on lies_in bad_cuts bad_record bad_cut bad_children is_child_of not_child_of_one too_deep is_midpoint_of no_midpoint hangs_at leaf_hangs hanging_edge table_rows rows first_broken greatest_below check_number report_of check_of leaf_generation deepest leaf_sixfold sixfold word line_feed digit decimal_in decimal figures refused_line count_figures check_figures heading_line corner_figures edge_figures leaf_line leaf_lines mesh_lines judged_lines lines_of listing_of
whole_output = refl
