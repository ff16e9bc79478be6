-- Halving stays on the grid: of vertices that stand halfway between their parents, no piece that may be cut has an odd sum at its refinement edge.
use Rattle.std.specs.Prelude.{◌≡◌, refl, List, [], ◌∷◌, ℕ, zero, suc, ◌+◌, ◌-◌, ◌*◌, ◌/◌, ◌^◌, ◌<◌, ◌≤◌, max, eqb}
use Rattle.std.proofs.Common.{sym, ◌∙◌, arith, mul_assoc, mul-add, add-mul, pow-suc}
use Rattle.std.proofs.Math.Nat.{two-pow-succ}
use Rattle.piece_edges.specs.Edges.{low_slot, high_slot, slots_small}
use Rattle.cuts_names.specs.Lists.{either_has}
use Rattle.cuts_names.specs.Names as Names
use Rattle.cuts_names.specs.Names.{Name, mid, level}
use Rattle.cuts_names.proofs.Names.{level_mid_lem}
use Rattle.cuts_names.specs.Pieces.{Piece, Side, end_at, child_with, child, Node, generation, piece_down, piece_at, makes}
use Rattle.cuts_names.specs.Base.{Marked}
use Rattle.cuts_names.proofs.Macro.{node_level}

-- ---- multiples of powers of two

-- x is a multiple of 2 ^ n.
abbrev pub MultipleOf2 : ℕ → ℕ → Type 0
MultipleOf2 n x = (q : ℕ) × (x ≡ 2 ^ n * q)

-- A multiple of a power is one of each lower power.
multiple_lower : (d n x : ℕ) → MultipleOf2 (d + n) x → MultipleOf2 n x
multiple_lower zero n x m = let z : 0 + n ≡ n = omega arith in rw z at m
multiple_lower (suc d) n x m =
    let s : suc d + n ≡ suc (d + n) = omega arith in
    multiple_lower d n x (2 * m.0, m.1 ∙ rw (s, pow-suc, mul_assoc))

-- Half the sum of two multiples of a power is exact, and a multiple of the next lower power.
pub half_exact : (n x y : ℕ) → MultipleOf2 (suc n) x → MultipleOf2 (suc n) y → MultipleOf2 n ((x + y) / 2) × ((x + y) / 2 + (x + y) / 2 ≡ x + y)
half_exact n x y (p, e) (q, f) =
    let twice : (r : ℕ) → 2 ^ suc n * r ≡ 2 ^ n * r + 2 ^ n * r = λ r. rw (two-pow-succ, add-mul) in
    let halved : (x + y) / 2 ≡ 2 ^ n * p + 2 ^ n * q = omega (arith, twice p, twice q) in
    ((p + q, halved ∙ sym (mul-add (2 ^ n) p q)), omega (arith, twice p, twice q))

-- ---- names that halving can give

-- Built from base vertices by midpoints.
pub data Built : Name → Type 0 where
  start : (n : ℕ) → Built (Names.base n)
  halfway : {a b x : Name} → Built a → Built b → x ≡ mid a b → Built x

-- The corners of every piece that cutting a marked base can give are built so.
pub corner_built : {count : ℕ} {base : ℕ → Piece Name} → Marked count base → (n : Node) → n.root < count → (j : ℕ) → j < 4 → Built ((piece_at base n).corner j)
unfolding piece_at piece_down child child_with
corner_built {count} {base} marked n h j l = down n.path j l
  where
    first : (x : Name) (m : ℕ) → x ≡ Names.base m → Built x
    first x m e = rw e (start m)

    step : (p : Piece Name) (side : Side) → ((j : ℕ) → j < 4 → Built (p.corner j)) → (j : ℕ) → j < 4 → Built ((child p side).corner j)
    step p side below j l =
        let ends = slots_small p.shape.edge in
        either_has Built (eqb j (end_at p.shape side)) (makes p) (p.corner j) (halfway (below (low_slot p.shape.edge) ends.0) (below (high_slot p.shape.edge) ends.1) refl) (below j l)

    down : (path : List Side) (j : ℕ) → j < 4 → Built ((piece_down (base n.root) path).corner j)
    down [] j l = let (m, e) = marked.corners n.root h j l in first _ m e
    down (side ∷ path) j l = step (piece_down (base n.root) path) side (down path) j l

-- ---- places

-- The end of the refinement edge in its first slot.
abbrev pub low_end : Piece Name → Name
low_end p = p.corner (low_slot p.shape.edge)

-- The end in its second slot.
abbrev pub high_end : Piece Name → Name
high_end p = p.corner (high_slot p.shape.edge)

-- One coordinate's places v: 2 ^ G is the grid of the base vertices; of the names that are known, of which the parents are known too, each midpoint
-- stands halfway between its parents, rounded down.
module _ (G : ℕ) (v : Name → ℕ) (Known : Name → Type 0)
    (parents : (a b : Name) → Known (mid a b) → Known a × Known b)
    (gridded : (n : ℕ) → Known (Names.base n) → MultipleOf2 G (v (Names.base n)))
    (halved : (a b : Name) → Known (mid a b) → v (mid a b) ≡ (v a + v b) / 2)
  where
    -- A vertex that has n levels left is on the grid of 2 ^ n.
    on_finer : (n : ℕ) {x : Name} → Built x → Known x → n + level x ≤ G → MultipleOf2 n (v x)
    on_finer n (start m) k h =
        let d : G - n + n ≡ G = omega arith in
        multiple_lower (G - n) n (v (Names.base m)) (rw d (gridded m k))
    on_finer n (halfway {a} {b} {x} s t e) k h =
        let known : Known (mid a b) = rw e at k in
        let (ka, kb) = parents a b known in
        let l : n + suc (max (level a) (level b)) ≤ G = rw (e, level_mid_lem) at h in
        rw (e, halved a b known) (half_exact n (v a) (v b) (on_finer (suc n) s ka (omega arith)) (on_finer (suc n) t kb (omega arith))).0

    -- A known vertex of level l is a multiple of 2 ^ (G - l).
    pub on_grid_lem : {x : Name} → Built x → Known x → level x ≤ G → MultipleOf2 (G - level x) (v x)
    on_grid_lem {x} s k h = on_finer (G - level x) s k (omega arith)

    module _ {count : ℕ} {base : ℕ → Piece Name} (marked : Marked count base) (n : Node) (h : n.root < count) (g : generation n < 3 * G) where
      -- A piece of generation below 3G has an even sum at the ends of its refinement edge: half of it is exact.
      pub ends_even_lem : let p = piece_at base n in Known (low_end p) → Known (high_end p) → (v (low_end p) + v (high_end p)) / 2 + (v (low_end p) + v (high_end p)) / 2 ≡ v (low_end p) + v (high_end p)
      ends_even_lem kl kh =
          let p = piece_at base n in
          let ends = slots_small p.shape.edge in
          let l : suc (max (level (low_end p)) (level (high_end p))) ≡ suc (generation n / 3) = sym (level_mid_lem (low_end p) (high_end p)) ∙ node_level marked n h in
          (half_exact 0 (v (low_end p)) (v (high_end p)) (on_finer 1 (corner_built marked n h _ ends.0) kl (omega arith)) (on_finer 1 (corner_built marked n h _ ends.1) kh (omega arith))).1

      -- So the vertex that cutting it makes stands exactly halfway.
      pub makes_exact : let p = piece_at base n in Known (makes p) → v (makes p) + v (makes p) ≡ v (low_end p) + v (high_end p)
      makes_exact k =
          let p = piece_at base n in
          let (kl, kh) = parents (low_end p) (high_end p) k in
          rw (halved (low_end p) (high_end p) k) (ends_even_lem kl kh)
