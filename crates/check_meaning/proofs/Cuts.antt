-- Of specs/Cuts.antt, the theorems that an edit of a definition breaks, and what only they need.
use Rattle.std.specs.Prelude.{◌≡◌, ℕ, ◌+◌, ◌≤◌}
use Rattle.laws.specs.Below.{count_below}
use Rattle.piece.specs.declared.Ends.{Ends}
use Rattle.piece.specs.Shape.{last_generation}
use Rattle.piece.specs.Ends.{ends_of}
use Rattle.piece_cut.specs.Cut.{cut_of}
use Rattle.stored.specs.Layout.{none}
use Rattle.mesh_tables.specs.Tables.{Tables, base_vertices, all_vertices, base_records, all_records, piece_at, is_cut, has_parents, vertex_with, hangs, refinement_ends, hangs_at, leaf_hangs, hanging_edge}
use Rattle.check_refusals.specs.Refusals.{bad_children, bad_cut, is_child_of, not_child_of_one, too_deep, bad_record, is_midpoint_of, no_midpoint, bad_cuts}
use Rattle.check_meaning.specs.Tests.{Passes, Fails, reads, equal, at_most, not_at_most, not_below, not_fails, fails_unless, and_passes, and_fails, or_fails, any_passes, none_passes, first_passes}
use Rattle.check_meaning.specs.Accepted.{Made, HasParents, RightVertices, Cut, first_child, RightCut, ChildOf, ExactlyOne, RightCuts, NoneHangs}
use Rattle.check_meaning.specs.Counting.{one_counted}
use Rattle.check_meaning.specs.Vertices.{parents_are}
use Rattle.check_meaning.specs.Cuts.{Four, cut_four, same_piece_lem}
use Rattle.check_meaning.specs.Cuts as Specs

module _ (m : Tables) where
  -- As specs/ has them.
  abbrev vertex_is : RightVertices m → (ends : Ends) (w : ℕ) → Made m w → HasParents m ends w → vertex_with m ends ≡ w
  vertex_is = Specs.vertex_is m

  abbrev is_cut_lem : (n : ℕ) → Passes (is_cut m n) (Cut m n)
  is_cut_lem = Specs.is_cut_lem m

  abbrev child_of_lem : (c n : ℕ) → Passes (is_child_of (m.record_at n) c) (ChildOf m c n)
  child_of_lem = Specs.child_of_lem m

  one_parent_lem : (c : ℕ) → Fails (not_child_of_one m c) (base_records m ≤ c → ExactlyOne (all_records m) (ChildOf m c))
  unfolding not_child_of_one
  one_parent_lem c =
      and_fails (at_most (base_records m) c)
      (not_fails
      (reads (equal (count_below (all_records m) (λ n. is_child_of (m.record_at n) c)) 1)
      (one_counted (λ n. is_child_of (m.record_at n) c) (child_of_lem c) (all_records m)).0
      (one_counted (λ n. is_child_of (m.record_at n) c) (child_of_lem c) (all_records m)).1))

  midpoint_of_lem : (v n : ℕ) → Passes (is_midpoint_of m v n) (Cut m n × ((base_vertices m ≤ v) × HasParents m (refinement_ends (piece_at m n)) v))
  unfolding is_midpoint_of
  midpoint_of_lem v n = and_passes (is_cut_lem n) (parents_are m (refinement_ends (piece_at m n)) v)

  module _ (v : RightVertices m) (four : (n : ℕ) → Four (piece_at m n)) where
    right_cut : (n : ℕ) → Fails (bad_children m n (m.record_at n)) (RightCut m n)
    unfolding bad_children vertex_with
    right_cut n =
        let p = piece_at m n in
        let c = first_child m n in
        let ends = refinement_ends p in
        let w = vertex_with m ends in
        reads
        (or_fails
        (or_fails
        (or_fails (or_fails (not_at_most (all_vertices m) w) (not_at_most c n)) (not_at_most (all_records m) (c + 1)))
        (not_fails (same_piece_lem (piece_at m c) (cut_of p w).first (four c) (cut_four p w (four n)).0)))
        (not_fails (same_piece_lem (piece_at m (c + 1)) (cut_of p w).second (four (c + 1)) (cut_four p w (four n)).1)))
        (λ h.
        let (b, g) = (parents_are m ends w).0 (first_passes (has_parents m ends) (all_vertices m) h.0.0.0.0) in
        record {
          w = w;
          made = record { beyond = b; there = h.0.0.0.0 };
          parents = g;
          above = h.0.0.0.1;
          there = h.0.0.1;
          first = h.0.1;
          second = h.1;
        })
        (λ r. rw (vertex_is v ends r.w r.made r.parents) ((((r.made.there, r.above), r.there), r.first), r.second))

    right_record : (n : ℕ) → Fails (bad_record m n)
        (((Cut m n → RightCut m n) × (base_records m ≤ n → ExactlyOne (all_records m) (ChildOf m n))) × ((piece_at m n).generation ≤ last_generation))
    unfolding bad_record bad_cut too_deep
    right_record n = or_fails (or_fails (and_fails (is_cut_lem n) (right_cut n)) (one_parent_lem n)) (not_below last_generation (piece_at m n).generation)

    -- No parent pair is used twice, as rule 4 has it.
    pub rule9_holds : Fails (bad_cuts m) (RightCuts m)
    unfolding bad_cuts no_midpoint
    rule9_holds =
        reads
        (or_fails
        (none_passes (all_records m) λ n l. right_record n)
        (none_passes (all_vertices m) λ v l. and_fails (at_most (base_vertices m) v) (not_fails (any_passes (all_records m) λ n b. midpoint_of_lem v n))))
        (λ h.
        record {
          cuts = λ n l. (h.0 n l).0.0;
          one_parent_lem = λ c b l. (h.0 c l).0.1 b;
          generations = λ n l. (h.0 n l).1;
          midpoints = λ v d. let (n, l, c) = h.1 v d.there d.beyond in (n, l, c.0, c.1.1);
        })
        (λ r. (
          λ n l. ((r.cuts n l, λ b. r.one_parent_lem n b l), r.generations n l),
          λ v l b. let (n, k, c, h) = r.midpoints v (record { beyond = b; there = l }) in (n, k, (c, (b, h))),
        ))

  -- ---- 10

  pub rule10_holds : Fails (hanging_edge m) (NoneHangs m)
  unfolding hanging_edge leaf_hangs hangs_at hangs
  rule10_holds =
      reads
      (none_passes (all_records m) λ n l. none_passes 6 λ e k. and_fails (equal (first_child m n) none)
      (none_passes (all_vertices m) λ v b. fails_unless (parents_are m (ends_of (piece_at m n) e) v)))
      (λ h n l leaf e k v d p. h n l e k leaf v d.there (d.beyond, p))
      (λ h n l e k leaf v b p. h n l leaf e k v (record { beyond = p.0; there = b }) p.1)
