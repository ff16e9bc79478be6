-- What the worked rows of build compute with.
use Rattle.std.specs.Prelude.{Bool, true}
use Rattle.laws.specs.Below.{fold_below, any_below, first_below, list_below}
use Rattle.laws.specs.Lists.{joined}
use Rattle.laws.specs.Numbers.{number, number_bytes}
use Rattle.piece_edges.specs.Edges.{low_slot, high_slot, has_slot, on_face}
use Rattle.piece.specs.Ends.{lower_end, higher_end, ends_of}
use Rattle.grid.specs.Places.{coordinate, coordinate_on_grid, on_grid, same_place}
use Rattle.grid_lengths.specs.Lengths.{squared_length, ranks_before}
use Rattle.grid_volume.specs.Volume.{minor_of, determinant_of, difference_of, differences_of, left_handed, sixfold_of}
use Rattle.grid_inside.specs.Inside.{lies_in}
use Rattle.stored.specs.Layout.{laid_out, header_bytes, mark_bytes, header_from, held_in, or_none, stored_or_none, vertex_in, vertex_from, vertex_bytes, record_in, record_from, record_bytes}
use Rattle.mesh_tables.specs.Tables.{tables_of, sixfold_at}
use Rattle.check_refusals.specs.Refusals.{wrong_counts, bad_vertices, bad_vertex, bad_base_vertex, place_twice, bad_piece, bad_corners, equal_corners, corner_not_in_base, bad_base_faces, bad_faces, bad_with, unused_vertices, unused_vertex, hanging_vertices, vertex_hangs, hangs_on, has_corner}
use Rattle.laws.specs.Order.{first_broken}
use Rattle.build_marks.specs.Marking.{plain_place, plain_vertex, plain_piece, last_exchanged, righted_piece, rank_of, outranked, first_ranked, marked_piece, plain_record}
use Rattle.build_service.specs.Build.{not_whole, plain_header, plain_mesh, plain_bytes, bad_given_pieces, build_rows, build_number, build_bytes}

-- What build's answers compute with, named in one place: to unfold this is to unfold them all.
unfoldable pub computed : Bool
unfolding build_number build_rows first_broken not_whole wrong_counts bad_vertices bad_vertex bad_base_vertex place_twice bad_given_pieces bad_piece bad_corners equal_corners corner_not_in_base bad_base_faces bad_faces bad_with unused_vertices unused_vertex hanging_vertices vertex_hangs hangs_on lies_in has_corner sixfold_at sixfold_of differences_of difference_of determinant_of minor_of on_grid coordinate_on_grid coordinate same_place any_below fold_below tables_of plain_bytes plain_mesh plain_header plain_vertex plain_place plain_record marked_piece righted_piece last_exchanged left_handed plain_piece first_ranked outranked rank_of ends_of lower_end higher_end low_slot high_slot has_slot on_face first_below squared_length ranks_before laid_out header_bytes mark_bytes header_from held_in or_none stored_or_none vertex_in vertex_from vertex_bytes record_in record_from record_bytes list_below joined number number_bytes build_bytes
computed = true
