-- The vertices and the records of tables that have grown from a base are numbered as document 01 asks.
-- Assumes nothing.
use Rattle.std.specs.Prelude.{◌≡◌, true, cond, ℕ, suc, ◌+◌, ◌≤◌, ◌<◌}
use Rattle.std.proofs.Common.{sym, ap, ◌∙◌, arith}
use Rattle.std.proofs.Math.Logic.{⊎_elim}
use Rattle.laws.specs.Below.{either}
use Rattle.grid.specs.Corners.{Midpoint}
use Rattle.mesh_tables.specs.Tables as Check
use Rattle.mesh_tables.specs.Tables.{base_vertices, all_vertices, all_records, is_cut}
use Rattle.check_meaning.specs.Accepted.{point_at, parent_p, parent_q, first_child}
use Rattle.cuts_names.specs.Pieces.{low, high, kid}
use Rattle.cuts.specs.Sets.{Cuts}
use Rattle.cuts.specs.Tables.{Made, Lawful, low_first, child_on, node_of, Represents}
use Rattle.cuts.specs.LinkNames.{name_base, name_made, names_distinct_lem}
use Rattle.cuts.specs.LinkNodes.{node_root, node_kid, linked, nodes_distinct_lem}
use Rattle.cuts.specs.LinkSets.{node_cut, node_there, there_node, made_by_lem, makes_made_lem}
use Rattle.cuts.specs.LinkGrown.{Grown}
use Rattle.demands_words.specs.Words.{BaseMesh, named, MadeVertexNumbered, VerticesNumbered, first_side, second_side, CutRecord, RecordsNumbered}
use Rattle.demands_proofs.specs.Link.{link}
use Rattle.check_meaning.specs.Cuts.{is_leaf}
use Rattle.demands_proofs.specs.BaseOf.{numbers_of, node_makes, record_alike}

module _ (m : Check.Tables) (b : BaseMesh) (D : Cuts b.pieces) (g : Grown (named b) (link m) D) (base_vertices_lem : base_vertices m ≡ b.vertices) where
  abbrev l : Lawful (link m)
  l = g.lawful

  abbrev rep : Represents (link m) D
  rep = g.represents

  -- ---- vertices

  made_vertex : (v : ℕ) → b.vertices ≤ v → v < all_vertices m → Midpoint (point_at m v) (point_at m (parent_p m v)) (point_at m (parent_q m v)) → MadeVertexNumbered b D (numbers_of m) v
  made_vertex v beyond there halfway =
      let made : Made (link m) v = (omega (arith, beyond, base_vertices_lem), there) in
      let x = l.parents v made in
      let (n, c, e) = made_by_lem (link m) l D rep v made in
      record {
        p<q = x.0;
        q<v = x.1;
        name = name_made (link m) l v made;
        halfway = halfway;
        cut = n;
        is_cut_lem = c;
        made_by_lem = sym (node_makes m b D g n c) ∙ e;
      }

  -- Where base vertices stand at their places, and every other halfway between its parents.
  pub grown_vertices_lem : ((v : ℕ) → v < b.vertices → (m.vertex_at v).place ≡ b.place_at v) →
      ((v : ℕ) → b.vertices ≤ v → v < all_vertices m → Midpoint (point_at m v) (point_at m (parent_p m v)) (point_at m (parent_q m v))) → VerticesNumbered b D (numbers_of m)
  grown_vertices_lem placed halfway =
      record {
        base_first = omega (arith, l.vertex_counts, base_vertices_lem);
        base_name = λ v h. name_base (link m) l v (omega (arith, h, base_vertices_lem));
        base_place = placed;
        made = λ v beyond there. made_vertex v beyond there (halfway v beyond there);
        every = λ n c. let (v, d, e) = makes_made_lem (link m) l D rep n c in (v, d.1, e ∙ node_makes m b D g n c);
        once = names_distinct_lem (link m) l;
      }

  -- ---- records

  -- The two sides of a cut record, by its own refinement edge.
  first_side_lem : (r : ℕ) → r < all_records m → first_side (numbers_of m) b r ≡ cond (low_first (link m) r) high low
  first_side_lem r h = rw (← (record_alike m b D g r h).shape)

  second_side_lem : (r : ℕ) → r < all_records m → second_side (numbers_of m) b r ≡ cond (low_first (link m) r) low high
  second_side_lem r h = rw (← (record_alike m b D g r h).shape)

  first_kid : (r : ℕ) → r < all_records m → is_cut m r ≡ true → node_of (link m) (first_child m r) ≡ kid (node_of (link m) r) (cond (low_first (link m) r) high low)
  unfolding child_on
  first_kid r h c =
      let at = node_kid (link m) l r h c in
      ⊎_elim (λ e. rw e (rw e at (at high))) (λ e. rw e (rw e at (at low))) (either (low_first (link m) r))

  second_kid : (r : ℕ) → r < all_records m → is_cut m r ≡ true → node_of (link m) (suc (first_child m r)) ≡ kid (node_of (link m) r) (cond (low_first (link m) r) low high)
  unfolding child_on
  second_kid r h c =
      let at = node_kid (link m) l r h c in
      ⊎_elim (λ e. rw e (rw e at (at low))) (λ e. rw e (rw e at (at high))) (either (low_first (link m) r))

  cut_record_lem : (r : ℕ) → r < all_records m → is_cut m r ≡ true → CutRecord b (numbers_of m) r
  cut_record_lem r h c =
      let x = l.properly_cut r h c in
      let next : first_child m r + 1 ≡ suc (first_child m r) = omega arith in
      record {
        above = x.greater;
        there = omega (arith, x.inside);
        first = first_kid r h c ∙ ap (kid (node_of (link m) r)) (sym (first_side_lem r h));
        second = ap (node_of (link m)) next ∙ second_kid r h c ∙ ap (kid (node_of (link m) r)) (sym (second_side_lem r h));
      }

  pub grown_records_lem : RecordsNumbered b D (numbers_of m)
  grown_records_lem =
      record {
        base_first = omega (arith, l.record_counts, rep.bases);
        base_node = λ r h. node_root (link m) l r (omega (arith, h, rep.bases));
        there = node_there (link m) l D rep;
        every = there_node (link m) l D rep;
        once = nodes_distinct_lem (link m) l;
        corner_there = λ r h. (linked (link m) l r h).corners;
        corner = λ r h. (record_alike m b D g r h).corner;
        uncut = λ r h u. (is_leaf m r).0 (sym (node_cut (link m) l D rep r h) ∙ u);
        cut = λ r h c. cut_record_lem r h (sym (node_cut (link m) l D rep r h) ∙ c);
      }
