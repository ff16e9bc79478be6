-- Every statement of `Statements`, proved.
use Rattle.std.proofs.Common.{sym, ◌∙◌}
use Rattle.cuts.specs.Statements.{Statements}
use Rattle.cuts_names.specs.Names.{mid_not_base_lem, level_base_lem}
use Rattle.cuts_names.proofs.Names.{mid_sym, mid_injective_lem, level_mid_lem}
use Rattle.cuts_names.specs.Pieces.{child_renamed, piece_root_lem, piece_kid_lem}
use Rattle.cuts_names.proofs.Macro.{formal_small, formal_own, formal_unset, formal_new, down_stands, macro_down, down_level, node_valid, node_macro, node_level, corner_level}
use Rattle.cuts.specs.Depth.{deepest_rests_lem, hanging_below_lem}
use Rattle.cuts.specs.Grid.{on_grid_lem, corner_built, ends_even_lem, makes_exact}
use Rattle.cuts.specs.Least.{hanging_is_cut_lem, reached_keeps, reached_least, reached_depth}
use Rattle.cuts.specs.Count.{leaves_count_lem, cuts_fewer_lem, leaves_fewer_lem, made_fewer_lem}
use Rattle.cuts.specs.Fuel.{closed_least_lem, closed_unique_lem}
use Rattle.cuts.proofs.Fuel.{kids_one_less_lem, sum_falls_lem, cuts_at_most_lem, closed_exists_lem}
use Rattle.cuts.specs.Faces.{shared_face_one_mark, node_determined_lem, corners_different_lem}
use Rattle.cuts.specs.LinkNames.{marked, names_distinct_lem}
use Rattle.cuts.specs.LinkNodes.{linked, nodes_distinct_lem}
use Rattle.cuts.specs.LinkSets.{cuts_of, represented, exactly_one, node_cut, node_there, there_node, uncut_leaf_lem, leaf_uncut_lem, cuts_listed_lem, leaves_listed_lem, made_by_lem, makes_made_lem, made_listed_lem, hangs_at_lem, hangs_in_lem, uncut_count_lem}
use Rattle.cuts.specs.LinkAppend.{append_lawful_lem, append_represents_lem, append_adds_lem, nodes_stay}
use Rattle.cuts.specs.LinkGrown.{grown_reaches, grown_rests_lem}

pub statements : Statements
statements =
    record {
      mid_symmetric = mid_sym;
      mid_injective = mid_injective_lem;
      mid_not_base = mid_not_base_lem;
      level_base = level_base_lem;
      level_mid = level_mid_lem;
      cut_renamed = child_renamed;
      piece_root = piece_root_lem;
      piece_kid = piece_kid_lem;
      piece_valid = node_valid;
      three_corners = formal_small;
      three_edges = formal_own;
      three_unset = formal_unset;
      three_new = formal_new;
      three_stand = down_stands;
      macro_kept = macro_down;
      macro_makes = down_level;
      macro_node = node_macro;
      level_made = node_level;
      level_corner = corner_level;
      deepest_rests = deepest_rests_lem;
      hanging_below = hanging_below_lem;
      depth_kept = reached_depth;
      on_grid = on_grid_lem;
      corners_built = corner_built;
      ends_even = ends_even_lem;
      halfway_exact = makes_exact;
      hanging_is_cut = hanging_is_cut_lem;
      old_cuts_stay = reached_keeps;
      least = reached_least;
      leaves_count = leaves_count_lem;
      cuts_fewer = cuts_fewer_lem;
      leaves_fewer = leaves_fewer_lem;
      made_fewer = made_fewer_lem;
      kids_one_less = kids_one_less_lem;
      sum_falls = sum_falls_lem;
      cuts_at_most = cuts_at_most_lem;
      closed_exists = closed_exists_lem;
      closed_least = closed_least_lem;
      closed_unique = closed_unique_lem;
      shared_faces = shared_face_one_mark;
      node_determined = node_determined_lem;
      corners_different = corners_different_lem;
      base_marked = marked;
      names_distinct = names_distinct_lem;
      represents = λ t l. (cuts_of t l, represented t l);
      represents_one = λ t l C c D d n. exactly_one t l C c n ∙ sym (exactly_one t l D d n);
      record_piece = λ t l c h. (linked t l c h).piece;
      record_generation = λ t l c h. (linked t l c h).generation;
      record_there = node_there;
      there_record = there_node;
      nodes_distinct = nodes_distinct_lem;
      record_cut = node_cut;
      uncut_leaf = uncut_leaf_lem;
      leaf_uncut = leaf_uncut_lem;
      made_by = made_by_lem;
      makes_made = makes_made_lem;
      cuts_listed = cuts_listed_lem;
      leaves_listed = leaves_listed_lem;
      made_listed = made_listed_lem;
      uncut_count = uncut_count_lem;
      hangs_alike = λ t l C rep c h e. (hangs_at_lem t l C rep c h e, hangs_in_lem t l C rep c h e);
      append_lawful = append_lawful_lem;
      append_adds = append_adds_lem;
      append_represents = append_represents_lem;
      append_nodes = nodes_stay;
      append_reaches = grown_reaches;
      grown_rests = grown_rests_lem;
    }
