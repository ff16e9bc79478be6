-- Rule 4: the vertices.
use Rattle.std.specs.Prelude.{◌≡◌, ℕ, ◌≤◌, ◌<◌, ℤ}
use Rattle.std.proofs.Math.Path.{sym}
use Rattle.std.proofs.Common.{ap}
use native.Mathlib.Omega.{arith}
use Rattle.piece.specs.declared.Ends.{Ends}
use Rattle.grid.specs.Places.{point_of, coordinate_on_grid, on_grid}
use Rattle.grid.specs.GridTheorems.{on_grid_exactly, same_place_exactly, place_once, halfway_exactly}
use Rattle.stored.specs.Layout.{none}
use Rattle.mesh_tables.specs.Tables.{Tables, base_vertices, all_vertices, has_parents}
use Rattle.check_refusals.specs.Refusals.{bad_base_vertex, place_twice, bad_made_vertex, pair_twice, bad_vertex, bad_vertices}
use Rattle.check_meaning.specs.Tests.{Passes, Fails, reads, equal, below, not_below, at_most, not_fails, fails_unless, and_passes, or_fails, cond_fails, none_passes}
use Rattle.check_meaning.specs.Accepted.{OnGrid, BaseVertex, MadeVertex, RightVertices, HasParents, point_at, parent_p, parent_q}

coordinate_on_grid_lem : (c : ℤ) → Passes (coordinate_on_grid c) (OnGrid c)
coordinate_on_grid_lem c = reads (on_grid_exactly c) (λ h. record { multiple = h.0; within = h.1 }) (λ r. (r.multiple, r.within))

-- Two numbers of which neither is before the other are one.
one_of : (u v : ℕ) → ¬ (u < v) → ¬ (v < u) → u ≡ v
one_of u v h k = omega arith

module _ (m : Tables) where
  -- The test for a vertex with these parents.
  pub parents_are : (ends : Ends) (v : ℕ) → Passes (has_parents m ends v) ((base_vertices m ≤ v) × HasParents m ends v)
  unfolding has_parents
  parents_are ends v =
      reads (and_passes (at_most (base_vertices m) v) (and_passes (equal (parent_p m v) ends.lower) (equal (parent_q m v) ends.higher)))
      (λ h. (h.0, record { p = h.1.0; q = h.1.1 }))
      (λ r. (r.0, (r.1.p, r.1.q)))

  base_vertex : (v : ℕ) → Fails (bad_base_vertex (m.vertex_at v)) (BaseVertex m v)
  unfolding bad_base_vertex on_grid
  base_vertex v =
      let c = point_at m v in
      reads
      (or_fails
      (or_fails
      (not_fails (and_passes (and_passes (coordinate_on_grid_lem c.x) (coordinate_on_grid_lem c.y)) (coordinate_on_grid_lem c.z)))
      (not_fails (equal (parent_p m v) none)))
      (not_fails (equal (parent_q m v) none)))
      (λ h. record { x = h.0.0.0.0; y = h.0.0.0.1; z = h.0.0.1; p = h.0.1; q = h.1 })
      (λ r. ((((r.x, r.y), r.z), r.p), r.q))

  made_vertex : (v : ℕ) → Fails (bad_made_vertex m.vertex_at v) (MadeVertex m v)
  unfolding bad_made_vertex
  made_vertex v =
      let p = parent_p m v in
      let q = parent_q m v in
      reads
      (or_fails
      (or_fails (not_fails (below p q)) (not_fails (below q v)))
      (not_fails (halfway_exactly (m.vertex_at v).place (m.vertex_at p).place (m.vertex_at q).place)))
      (λ h. record { p<q = h.0.0; q<v = h.0.1; halfway = h.1 })
      (λ r. ((r.p<q, r.q<v), r.halfway))

  place_once_before : (v : ℕ) → Fails (place_twice m.vertex_at v) ((u : ℕ) → u < v → point_at m u ≡ point_at m v → ⊥)
  unfolding place_twice
  place_once_before v =
      none_passes v λ u l. fails_unless
      (reads (same_place_exactly (m.vertex_at u).place (m.vertex_at v).place) (ap point_of) (place_once (m.vertex_at u).place (m.vertex_at v).place))

  pair_once_before : (v : ℕ) → Fails (pair_twice m v) ((u : ℕ) → u < v → (base_vertices m ≤ u) × HasParents m (record { lower = parent_p m v; higher = parent_q m v }) u → ⊥)
  unfolding pair_twice
  pair_once_before v = none_passes v λ u l. fails_unless (parents_are (record { lower = parent_p m v; higher = parent_q m v }) u)

  -- The base vertices are among all, as rule 3 has it.
  pub rule4_holds : base_vertices m ≤ all_vertices m → Fails (bad_vertices m) (RightVertices m)
  unfolding bad_vertices bad_vertex
  rule4_holds within =
      reads
      (none_passes (all_vertices m) λ v l. cond_fails (below v (base_vertices m)) (not_below v (base_vertices m))
      (or_fails (base_vertex v) (place_once_before v))
      (or_fails (made_vertex v) (pair_once_before v)))
      (λ h.
      record {
        base = λ v l. ((h v (omega arith)).0 l).0;
        one_place = λ u v hu hv e. one_of u v (λ l. ((h v (omega arith)).0 hv).1 u l e) (λ l. ((h u (omega arith)).0 hu).1 v l (sym e));
        made = λ v d. ((h v d.there).1 d.beyond).0;
        one_pair = λ u v hu hv p q. one_of u v
            (λ l. ((h v hv.there).1 hv.beyond).1 u l (hu.beyond, record { p = p; q = q }))
            (λ l. ((h u hu.there).1 hu.beyond).1 v l (hv.beyond, record { p = sym p; q = sym q }));
      })
      (λ r v l. (
        λ b. (r.base v b, λ u lu e. let same : u ≡ v = r.one_place u v (omega arith) b e in omega arith),
        λ b. (
          r.made v (record { beyond = b; there = l }),
          λ u lu d. let same : u ≡ v = r.one_pair u v (record { beyond = d.0; there = omega arith }) (record { beyond = b; there = l }) d.1.p d.1.q in omega arith,
        ),
      ))
