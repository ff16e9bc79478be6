-- Of specs/Starred.antt, the theorems that an edit of a definition breaks, and what only they need.
use Rattle.std.specs.Prelude.{refl}
use Rattle.piece.specs.Shape.{type_a, type_o, type_m, flag_fits, valid_shape}
use Rattle.piece_cut.proofs.Theorems.{unset_p_gives_set_p, set_p_gives_a, others_give_unset_p}
use Rattle.build_meaning.specs.Rows.{computed as build_computed}
use Rattle.refine_meaning.specs.Rows.{computed as refine_computed}
use Rattle.demands.specs.Starred.{StarredRows}

-- The table holds.
pub starred : StarredRows
unfolding build_computed refine_computed valid_shape flag_fits type_a type_o type_m
starred =
    record {
      build_accepts = refl;
      build_edge = refl;
      build_marks_lem = refl;
      build_type = refl;
      build_bytes_lem = refl;
      build_length = refl;
      halved_accepted = refl;
      halved_place = refl;
      halved_parent_p = refl;
      halved_parent_q = refl;
      halved_corners_1 = refl;
      halved_edge_1 = refl;
      halved_marks_1 = refl;
      halved_corners_2 = refl;
      halved_edge_2 = refl;
      halved_marks_2 = refl;
      halved_sixfold_1 = refl;
      halved_sixfold_2 = refl;
      halved_bytes = refl;
      halved_length = refl;
      halved_short = refl;
      quartered_accepted = refl;
      quartered_records = refl;
      quartered_next_3 = refl;
      quartered_next_4 = refl;
      quartered_next_5 = refl;
      quartered_next_6 = refl;
      quartered_bytes = refl;
      with_four_accepted = refl;
      with_four_cut = refl;
      with_four_cut_too = refl;
      with_four_vertices = refl;
      with_four_records = refl;
      with_four_leaves = refl;
      with_all_accepted = refl;
      with_all_vertices = refl;
      with_all_records = refl;
      with_all_leaves = refl;
      with_all_sixfold = refl;
      unset_p_lem = refl;
      set_p_lem = refl;
      type_a_lem = refl;
      type_o_lem = refl;
      type_m_lem = refl;
      unset_p_gives = refl;
      set_p_gives = refl;
      a_gives = refl;
      o_gives = refl;
      m_gives = refl;
      every_unset_p_gives = unset_p_gives_set_p;
      every_set_p_gives = set_p_gives_a;
      every_a_o_m_gives = others_give_unset_p;
      empty_accepted = refl;
      empty_bytes = refl;
      expired = refl;
      of_another_job = refl;
    }
