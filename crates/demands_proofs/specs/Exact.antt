-- Cutting a piece of generation below 15 makes a vertex that stands exactly halfway between its parents: no sum of places is odd there.
-- Assumes nothing.
use Rattle.std.specs.Prelude.{◌≡◌, refl, List, [], ◌∷◌, ℕ, ◌+◌, ◌/◌, ◌%◌, ◌<◌, eqb}
use Rattle.std.proofs.Common.{sym, ◌∙◌, add_comm, arith, eqb-true, eq-eqb}
use Rattle.std.proofs.Math.Path.{ap, subst}
use Rattle.std.proofs.lemmas.Bool.{false≢true, eqb-false}
use Rattle.std.proofs.Math.Logic.{⊎_elim}
use Rattle.piece.specs.Shape.{last_generation}
use Rattle.laws.specs.Below.{either}
use Rattle.piece_edges.specs.Edges.{low_slot, high_slot, slots_small}
use Rattle.grid.specs.declared.Place.{Place}
use Rattle.grid.specs.Places.{coordinate, point_of, is_halfway, halfway_of}
use Rattle.grid.specs.PlaceLaws.{off_multiple}
use Rattle.grid.specs.Corners.{Midpoint}
use Rattle.grid.specs.GridTheorems.{on_grid_exactly, halfway_exactly}
use Rattle.grid_volume.specs.VolumeTheorems.{midpoint_turned}
use Rattle.check_meaning.specs.Accepted.{OnGrid}
use Rattle.cuts_names.specs.Lists.{either_has}
use Rattle.cuts_names.specs.Names as Names
use Rattle.cuts_names.specs.Names.{Name, mid}
use Rattle.cuts_names.proofs.Names.{mid_which, mid_injective_lem}
use Rattle.cuts_names.specs.Pieces.{Piece, Side, end_at, child_with, child, Node, generation, piece_down, piece_at, makes}
use Rattle.cuts.specs.Grid.{MultipleOf2, low_end, high_end, makes_exact}
use Rattle.demands_words.specs.Words.{BaseMesh, named, ProperlyMarked, place_of}
use Rattle.demands_proofs.specs.MarkedBase.{properly_marked}

-- ---- places

-- Half the sum of two places does not ask which comes first.
halfway_either : (p q : Place) → halfway_of p q ≡ halfway_of q p
unfolding halfway_of
halfway_either p q =
    λ i. record { x = add_comm p.x q.x i / 2; y = add_comm p.y q.y i / 2; z = add_comm p.z q.z i / 2 }

-- A midpoint's place is half the sum of its parents' places.
pub place_mid : (b : BaseMesh) (x y : Name) → place_of b (mid x y) ≡ halfway_of (place_of b x) (place_of b y)
unfolding place_of
place_mid b x y = ⊎_elim (λ e. ap (place_of b) e) (λ e. ap (place_of b) e ∙ halfway_either (place_of b y) (place_of b x)) (mid_which x y)

-- A coordinate on the grid stands at a place that is a multiple of 32.
grid_remainder : (p : ℕ) → OnGrid (coordinate p) → p % 32 ≡ 0
grid_remainder p g =
    ⊎_elim
    (λ t. eqb-true (p % 32) 0 t)
    (λ f. absurd (false≢true (off_multiple p (eqb-false (p % 32) 0 f) ∙ (on_grid_exactly (coordinate p)).1 (g.multiple, g.within))))
    (either (eqb (p % 32) 0))

-- The same as a multiple of 2 ^ 5.
grid_multiple : (p : ℕ) → OnGrid (coordinate p) → MultipleOf2 5 p
grid_multiple p g = (p / 32, omega (arith, grid_remainder p g))

-- A place stands exactly halfway where in each coordinate twice it is the sum.
halfway_of_sums : (w p q : Place) → w.x + w.x ≡ p.x + q.x → w.y + w.y ≡ p.y + q.y → w.z + w.z ≡ p.z + q.z →
    Midpoint (point_of w) (point_of p) (point_of q)
unfolding is_halfway
halfway_of_sums w p q x y z = (halfway_exactly w p q).0 (simp (eq-eqb _ _ x, eq-eqb _ _ y, eq-eqb _ _ z))

-- ---- names over the base

module _ (b : BaseMesh) where
  -- Every base name in the name is a vertex of the base.
  unfoldable Known : Name → Type 0
  Known (Names.base v) = v < b.vertices
  Known (Names.made x y) = Known x × Known y

  -- The parents of a known midpoint are known.
  parents_known : (x y : Name) → Known (mid x y) → Known x × Known y
  unfolding Known
  parents_known x y k =
      ⊎_elim (λ e. subst Known e k) (λ e. let (ky, kx) : Known y × Known x = subst Known e k in (kx, ky)) (mid_which x y)

  -- A midpoint of known names is known.
  mid_known : (x y : Name) → Known x → Known y → Known (mid x y)
  unfolding Known
  mid_known x y kx ky = ⊎_elim (λ e. subst Known (sym e) (kx, ky)) (λ e. subst Known (sym e) (ky, kx)) (mid_which x y)

  -- So is what cutting a piece with known corners makes.
  makes_known : (p : Piece Name) → ((j : ℕ) → j < 4 → Known (p.corner j)) → Known (makes p)
  makes_known p corners =
      let ends = slots_small p.shape.edge in
      mid_known (low_end p) (high_end p) (corners (low_slot p.shape.edge) ends.0) (corners (high_slot p.shape.edge) ends.1)

  -- The vertex named w stands exactly halfway between those named x and y.
  abbrev Halfway : Name → Name → Name → Type 0
  Halfway w x y = Midpoint (point_of (place_of b w)) (point_of (place_of b x)) (point_of (place_of b y))

  -- Of equal names the same holds.
  halfway_named : (w : Name) {x y u v : Name} → x ≡ u → y ≡ v → Halfway w u v → Halfway w x y
  halfway_named w {x} {y} {u} {v} d e m = subst (λ (x : Name). Halfway w x y) (sym d) (subst (λ (y : Name). Halfway w u y) (sym e) m)

  module _ (marked : ProperlyMarked b) where
    -- The corners of every piece that cutting the base can give are known.
    corner_known : (n : Node) → n.root < b.pieces → (j : ℕ) → j < 4 → Known ((piece_at (named b) n).corner j)
    unfolding Known piece_at piece_down child child_with
    corner_known n h j l = down n.path j l
      where
        step : (p : Piece Name) (side : Side) → ((j : ℕ) → j < 4 → Known (p.corner j)) → (j : ℕ) → j < 4 → Known ((child p side).corner j)
        step p side below j l = either_has Known (eqb j (end_at p.shape side)) (makes p) (p.corner j) (makes_known p below) (below j l)

        down : (path : List Side) (j : ℕ) → j < 4 → Known ((piece_down (named b n.root) path).corner j)
        down [] j l = (marked.pieces n.root h).corners j l
        down (side ∷ path) j l = step (piece_down (named b n.root) path) side (down path) j l

    -- ---- exactly halfway

    module _ (n : Node) (h : n.root < b.pieces) (g : generation n < last_generation) where
      -- In one coordinate of which base vertices are on the grid, twice the made vertex's place is the sum of the ends' places.
      field_exact : (f : Place → ℕ) → ((p q : Place) → f (halfway_of p q) ≡ (f p + f q) / 2) → ((v : ℕ) → v < b.vertices → OnGrid (coordinate (f (b.place_at v)))) →
          let p = piece_at (named b) n in
          f (place_of b (makes p)) + f (place_of b (makes p)) ≡ f (place_of b (low_end p)) + f (place_of b (high_end p))
      unfolding Known place_of
      field_exact f half grid =
          makes_exact 5 (λ x. f (place_of b x)) Known parents_known
          (λ v k. grid_multiple (f (b.place_at v)) (grid v k))
          (λ x y k. ap f (place_mid b x y) ∙ half (place_of b x) (place_of b y))
          (properly_marked b marked) n h g
          (makes_known (piece_at (named b) n) (corner_known n h))

      -- The vertex that cutting a piece of generation below 15 makes stands exactly halfway between the ends of its refinement edge.
      pub exact_halfway : let p = piece_at (named b) n in Midpoint (point_of (place_of b (makes p))) (point_of (place_of b (low_end p))) (point_of (place_of b (high_end p)))
      unfolding halfway_of
      exact_halfway =
          let p = piece_at (named b) n in
          halfway_of_sums (place_of b (makes p)) (place_of b (low_end p)) (place_of b (high_end p))
          (field_exact (λ p. p.x) (λ p q. refl) (λ v l. (marked.on_grid_lem v l).0))
          (field_exact (λ p. p.y) (λ p q. refl) (λ v l. (marked.on_grid_lem v l).1))
          (field_exact (λ p. p.z) (λ p q. refl) (λ v l. (marked.on_grid_lem v l).2))

      -- So does a vertex that is named by its parents, where that cut makes it.
      pub exact_midpoint : (x y : Name) → mid x y ≡ makes (piece_at (named b) n) → Midpoint (point_of (place_of b (mid x y))) (point_of (place_of b x)) (point_of (place_of b y))
      exact_midpoint x y e =
          let p = piece_at (named b) n in
          let whole : Halfway (mid x y) (low_end p) (high_end p) = subst (λ (w : Name). Halfway w (low_end p) (high_end p)) (sym e) exact_halfway in
          ⊎_elim
          (λ s. halfway_named (mid x y) s.0 s.1 whole)
          (λ s. halfway_named (mid x y) s.0 s.1 (midpoint_turned _ _ _ whole))
          (mid_injective_lem x y (low_end p) (high_end p) e)
