-- The mesh that refine writes stores the set that it reaches. Assumes nothing.
use Rattle.std.specs.Prelude.{◌≡◌, Bool, false, cond, ◌≢◌, [], ℕ, ◌+◌, ◌≤◌, ◌<◌}
use Rattle.std.proofs.Math.Path.{refl, sym, ap, ap₂}
use Rattle.std.proofs.Common.{subst, ◌∙◌, arith, lt-ltb}
use Rattle.std.proofs.Math.Logic.{⊎_elim}
use Rattle.stored.specs.Fitting.{U16, round_rises}
use Rattle.piece.specs.Shape.{last_generation}
use Rattle.piece.specs.declared.Piece.{Piece}
use Rattle.grid.specs.declared.Place.{Place}
use Rattle.grid.specs.Places.{point_of, halfway_of}
use Rattle.grid.specs.Corners.{Midpoint}
use Rattle.grid.specs.GridTheorems.{halfway_exactly, halfway_only}
use Rattle.stored.specs.declared.Vertex.{Vertex}
use Rattle.stored.specs.Layout.{none, last_round, round_after, mesh_bytes, Stored, of_kind, StoredSelection, stored_as}
use Rattle.stored.specs.Meshes.{Counted, one_buffer}
use Rattle.mesh_tables.specs.Tables as Check
use Rattle.mesh_tables.specs.Tables.{base_vertices, all_vertices, all_records, piece_at}
use Rattle.check_meaning.specs.Accepted.{point_at, parent_p, parent_q}
use Rattle.check_meaning.specs.Cuts.{Four}
use Rattle.refine_pass.specs.Passes.{exceeds}
use Rattle.refine_pass.specs.Law.{within}
use Rattle.refine_pass.proofs.Stays.{base_vertices_stay, job_stays, round_stays}
use Rattle.refine_service.specs.Refine.{closed, result_of}
use Rattle.refine_meaning.specs.Kept.{Keeps, closed_keeps}
use Rattle.cuts_names.specs.Names.{mid}
use Rattle.cuts.specs.Sets.{Cuts}
use Rattle.cuts.specs.Depth.{there_below}
use Rattle.cuts.specs.Smaller.{by_smaller}
use Rattle.cuts.specs.Tables.{name_of}
use Rattle.cuts.specs.LinkNames.{base_or_beyond, name_base, name_made}
use Rattle.cuts.specs.LinkSets.{made_by_lem}
use Rattle.cuts.specs.LinkGrown.{Grown}
use Rattle.demands_words.specs.Words.{BaseMesh, named, VerticesNumbered, Stores, RightSet, StoredMesh, place_of, GoodSelection}
use Rattle.demands_proofs.specs.Link.{link}
use Rattle.demands_proofs.specs.BaseOf.{numbers_of, node_makes}
use Rattle.demands_proofs.specs.Numbered.{grown_vertices_lem, grown_records_lem}
use Rattle.demands_proofs.specs.SetOf.{grown_fits}
use Rattle.demands_proofs.specs.GrownStores.{grown_holds, grown_written, grown_stores}
use Rattle.demands_proofs.specs.Read.{written_counted}
use Rattle.demands_proofs.specs.Exact.{place_mid, exact_midpoint}
use Rattle.demands_proofs.specs.Materials.{Materials}
use Rattle.demands_proofs.specs.HeldEntries.{base_material}
use Rattle.demands_proofs.specs.FromStored as From
use Rattle.demands_proofs.specs.Inside.{after, set}

module _ (s : Stored) (x : StoredMesh s) (selection : StoredSelection) (good : GoodSelection x.job x.round x.base x.cuts x.stores.numbers selection) where
  abbrev b : BaseMesh
  b = x.base

  abbrev m : Check.Tables
  m = From.m s x

  abbrev t : Check.Tables
  t = after s x selection good

  abbrev D : Cuts b.pieces
  D = set s x selection good

  abbrev g : Grown (named b) (link t) D
  g = (From.made s x selection good).grown

  -- These are the tables that refine's definition has.
  pub is_closed : closed s selection ≡ t
  unfolding closed
  is_closed = refl

  keeps : Keeps m t
  keeps = subst (Keeps m) is_closed (closed_keeps s selection)

  pub base_vertices_lem : base_vertices t ≡ b.vertices
  base_vertices_lem = base_vertices_stay s.kind.limits (From.chosen s x selection good) m ∙ (From.holds s x).base_vertices_lem

  -- ---- the base vertices stay

  old : (v : ℕ) → v < all_vertices m → t.vertex_at v ≡ m.vertex_at v
  old = keeps.vertex_at

  base_old : (v : ℕ) → v < b.vertices → v < x.stores.numbers.vertices
  base_old v l = omega (arith, l, x.stores.vertices_numbered.base_first)

  base_place : (v : ℕ) → v < b.vertices → (t.vertex_at v).place ≡ b.place_at v
  base_place v l =
      ap (λ (u : Vertex). u.place) (old v (omega (arith, base_old v l, (From.holds s x).vertices)) ∙ (From.holds s x).vertex_at v (base_old v l))
      ∙ x.stores.vertices_numbered.base_place v l

  base_parents : (v : ℕ) → v < b.vertices → (parent_p t v ≡ none) × (parent_q t v ≡ none)
  base_parents v l =
      let N = x.stores.numbers in
      let is = old v (omega (arith, base_old v l, (From.holds s x).vertices)) ∙ (From.holds s x).vertex_at v (base_old v l) in (
        ap (λ (u : Vertex). u.p) is ∙ ap (λ (c : Bool). cond c none (N.p_at v)) (lt-ltb v b.vertices l),
        ap (λ (u : Vertex). u.q) is ∙ ap (λ (c : Bool). cond c none (N.q_at v)) (lt-ltb v b.vertices l),
      )

  -- ---- every vertex stands where its name says

  -- A made vertex stands at half the sum of its parents' places: an old one exactly, a new one as it was made.
  halved : (v : ℕ) → b.vertices ≤ v → v < all_vertices t → (t.vertex_at v).place ≡ halfway_of (t.vertex_at (parent_p t v)).place (t.vertex_at (parent_q t v)).place
  halved v beyond l =
      ⊎_elim
      (λ before.
      let a = (From.accepted s x).mesh.vertices.made v (record { beyond = omega (arith, beyond, (From.holds s x).base_vertices_lem); there = before }) in
      let exact = halfway_only (m.vertex_at v).place (m.vertex_at (parent_p m v)).place (m.vertex_at (parent_q m v)).place ((halfway_exactly (m.vertex_at v).place (m.vertex_at (parent_p m v)).place (m.vertex_at (parent_q m v)).place).1 a.halfway) in
      let is = old v before in
      let p = ap (λ (u : Vertex). u.p) is in
      let q = ap (λ (u : Vertex). u.q) is in
      let at_p = old (parent_p m v) (omega (arith, a.p<q, a.q<v)) in
      let at_q = old (parent_q m v) (omega (arith, a.q<v)) in
      ap (λ (u : Vertex). u.place) is ∙ exact
      ∙ sym (ap₂ halfway_of (ap (λ (k : ℕ). (t.vertex_at k).place) p ∙ ap (λ (u : Vertex). u.place) at_p) (ap (λ (k : ℕ). (t.vertex_at k).place) q ∙ ap (λ (u : Vertex). u.place) at_q)))
      (λ new. (From.made s x selection good).halfway v new l)
      (base_or_beyond v (all_vertices m))

  pub place_named : (v : ℕ) → v < all_vertices t → (t.vertex_at v).place ≡ place_of b (name_of (link t) v)
  unfolding place_of
  place_named = by_smaller (λ v. v < all_vertices t → (t.vertex_at v).place ≡ place_of b (name_of (link t) v)) step
    where
      step : (v : ℕ) → ((u : ℕ) → u < v → u < all_vertices t → (t.vertex_at u).place ≡ place_of b (name_of (link t) u)) → v < all_vertices t → (t.vertex_at v).place ≡ place_of b (name_of (link t) v)
      step v below l =
          ⊎_elim
          (λ base. base_place v base ∙ ap (place_of b) (sym (name_base (link t) g.lawful v (omega (arith, base, base_vertices_lem)))))
          (λ beyond.
          let made : (base_vertices t ≤ v) × (v < all_vertices t) = (omega (arith, beyond, base_vertices_lem), l) in
          let order = g.lawful.parents v made in
          halved v beyond l
          ∙ ap₂ halfway_of (below (parent_p t v) (omega (arith, order.0, order.1)) (omega (arith, order.0, order.1))) (below (parent_q t v) order.1 (omega (arith, order.1)))
          ∙ sym (place_mid b (name_of (link t) (parent_p t v)) (name_of (link t) (parent_q t v)))
          ∙ ap (place_of b) (sym (name_made (link t) g.lawful v made)))
          (base_or_beyond v b.vertices)

  -- A made vertex stands exactly halfway.
  exactly : (v : ℕ) → b.vertices ≤ v → v < all_vertices t → Midpoint (point_at t v) (point_at t (parent_p t v)) (point_at t (parent_q t v))
  exactly v beyond l =
      let made : (base_vertices t ≤ v) × (v < all_vertices t) = (omega (arith, beyond, base_vertices_lem), l) in
      let order = g.lawful.parents v made in
      let (n, c, e) = made_by_lem (link t) g.lawful D g.represents v made in
      let name = name_made (link t) g.lawful v made in
      let mp = exact_midpoint b x.right.marked n (D.rooted n c) ((From.made s x selection good).below n c) (name_of (link t) (parent_p t v)) (name_of (link t) (parent_q t v)) (sym name ∙ sym e ∙ node_makes t b D g n c) in
      let at_v = place_named v l ∙ ap (place_of b) name in
      let at_p = place_named (parent_p t v) (omega (arith, order.0, order.1)) in
      let at_q = place_named (parent_q t v) (omega (arith, order.1)) in
      subst (λ (w : Place). Midpoint (point_of w) (point_at t (parent_p t v)) (point_at t (parent_q t v))) (sym at_v)
      (subst (λ (w : Place). Midpoint (point_of (place_of b (mid (name_of (link t) (parent_p t v)) (name_of (link t) (parent_q t v))))) (point_of w) (point_at t (parent_q t v))) (sym at_p)
      (subst (λ (w : Place). Midpoint (point_of (place_of b (mid (name_of (link t) (parent_p t v)) (name_of (link t) (parent_q t v))))) (point_of (place_of b (name_of (link t) (parent_p t v)))) (point_of w)) (sym at_q) mp))

  -- ---- the numbering, and what is stored

  four : (n : ℕ) → n < all_records t → Four (piece_at t n)
  four = (From.made s x selection good).four

  -- Base records keep their material, and children have their parent's.
  materials : Materials t b
  materials =
      record {
        base = λ r l.
            ap (λ (p : Piece). p.material) (keeps.piece_at r (omega (arith, l, x.stores.records_numbered.base_first, (From.holds s x).records)))
            ∙ base_material m b x.cuts x.stores.numbers (From.holds s x) x.stores.records_numbered r l;
        down = (From.made s x selection good).down;
      }

  numbered : VerticesNumbered b D (numbers_of t)
  numbered = grown_vertices_lem t b D g base_vertices_lem base_place exactly

  not_last : x.round < last_round
  not_last = let apart : x.round ≢ last_round = good.not_last_round in omega (arith, x.stores.round_fits)

  round_fits : U16 (x.round + 1)
  round_fits = omega (arith, not_last)

  same_job : (result_of t).header.job ≡ x.job
  unfolding result_of
  same_job = job_stays s.kind.limits (From.chosen s x selection good) m ∙ From.stored_job s x

  next_round_lem : (result_of t).header.round ≡ x.round + 1
  unfolding result_of
  next_round_lem = ap round_after (round_stays s.kind.limits (From.chosen s x selection good) m ∙ From.stored_round s x) ∙ round_rises x.round not_last

  pub result_stores : Stores (stored_as s.kind s.right (result_of t)) x.job (x.round + 1) b D
  result_stores = grown_stores t b D g base_vertices_lem s.kind s.right x.job (x.round + 1) x.stores.job_fits round_fits same_job next_round_lem base_parents four materials x.stores.materials numbered

  -- Where the tables do not exceed their limits, the set is a right one.
  module _ (few : exceeds s.kind.limits t.header ≡ false) where
    pub result_right : RightSet s.kind.limits b D
    result_right =
        let h = within s.kind.limits t.header few in
        record {
          marked = x.right.marked;
          none_hangs = (From.made s x selection good).rests few;
          fits = grown_fits t b D g base_vertices_lem s.kind.limits h.0 h.1 x.right.fits.base_records_lem;
          shallow = there_below last_generation D (From.made s x selection good).below;
        }

    unfoldable pub result_mesh : StoredMesh (stored_as s.kind s.right (result_of t))
    unfolding stored_as
    result_mesh = record { job = x.job; round = x.round + 1; base = b; cuts = D; right = result_right; stores = result_stores }

    -- In one buffer it is the mesh's own bytes, one after the other.
    result_counted : Counted s.kind (result_of t)
    result_counted =
        subst (Counted s.kind) (sym (grown_written t b (numbers_of t) (grown_holds t b D g base_vertices_lem base_parents four materials) x.job (x.round + 1) same_job next_round_lem))
        (written_counted s.kind s.right x.job (x.round + 1) b D result_right (numbers_of t) numbered (grown_records_lem t b D g base_vertices_lem) x.stores.job_fits round_fits)

    pub result_in_one : s.kind.two ≡ false → stored_as s.kind s.right (result_of t) ≡ of_kind s (mesh_bytes s.kind.format (result_of t)) []
    result_in_one one = one_buffer s.kind s.right one (result_of t) result_counted
