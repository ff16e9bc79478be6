-- What is found in the cells that a right-handed piece's box meets is what a search through all vertices would find. Assumes nothing.
use Rattle.std.specs.Prelude.{◌≡◌, refl, Bool, true, false, ◌&&◌, List, [], ◌∷◌, length, replicate, pos, ◌<ℤ◌, ltb}
use Rattle.std.proofs.Common.{sym, ap, ◌∙◌, le_refl, mul-le-mul}
use Rattle.std.proofs.Math.Path.{subst, fun_ext}
use Rattle.std.proofs.Math.Bool.{not}
use Prim.Native.Nat.{ℕ, zero, suc, ◌+◌, ◌-◌, ◌≤◌, ◌<◌}
use native.Mathlib.Omega.{arith}
use Rattle.std.proofs.Math.ListN.{get_or}
use Rattle.std.proofs.lemmas.List.{length-replicate}
use Rattle.std.specs.Float.Ieee.Nearest.{div_mono}
use borrow.Author.Tests.{ltb-true, lt-ltb, le-leb}
use Rattle.laws.specs.Below.{and_left, and_right, same_tests, any_below, any_none, any_suc, any_is, any_where, any_same, fold_below, all_below}
use Rattle.laws.specs.Links.{any_along_where, chain_finds, Chain, Links, links_of, links_are, linked_below, linked_heads_long, zeros_at, chain_linked, key_among, key_within, Roomy}
use Rattle.piece.specs.declared.Piece.{Piece}
use Rattle.grid.specs.declared.Place.{Place}
use Rattle.grid.specs.Places.{Point, point_of}
use Rattle.grid_volume.specs.Volume.{differences_of, signed_of, left_handed}
use Rattle.grid_inside.specs.Inside.{lies_in}
use Rattle.grid_inside.proofs.Box.{box_x, box_y, box_z}
use Rattle.stored.specs.declared.Vertex.{Vertex}
use Rattle.check_inside.specs.declared.Slabs.{Slabs}
use Rattle.check_inside.specs.declared.Asking.{Asking}
use Rattle.check_refusals.specs.Refusals.{has_corner, hangs_on}
use Rattle.check_inside.specs.Cells.{slab_of, slabs_of, cell_number, place_key, lower_of, upper_of, asking_of, low_of, high_of, is_within, is_corner, standing, hangs_among, hangs_within, hangs_below, any_within, in_cell, in_row, in_layer, in_block}

-- ---- tests

and_both : (a b : Bool) → a ≡ true → b ≡ true → (a && b) ≡ true
and_both a b e f = rw (e, f)

-- ---- from one number to another

module _ (from to : ℕ) (P : ℕ → Bool) where
  pub within_is : (x : ℕ) → from ≤ x → x ≤ to → P x ≡ true → any_within from to P ≡ true
  unfolding any_within
  within_is x l h e =
      let at : from + (x - from) ≡ x = omega arith in
      any_is (λ i. P (from + i)) (to + 1 - from) (x - from) (omega arith) (ap P at ∙ e)

  within_where : any_within from to P ≡ true → (x : ℕ) × (P x ≡ true)
  unfolding any_within
  within_where e = let (i, l, h) = any_where (λ i. P (from + i)) (to + 1 - from) e in (from + i, h)

  -- As a loop goes through them: none before x.
  pub within_none : any_below (from - from) (λ i. P (from + i)) ≡ false
  within_none = let none : from - from ≡ 0 = omega arith in rw none (any_none (λ i. P (from + i)))

  pub within_next : (x : ℕ) → from ≤ x → any_below (x - from) (λ i. P (from + i)) ≡ false → P x ≡ false → any_below (x + 1 - from) (λ i. P (from + i)) ≡ false
  within_next x l none here =
      let more : x + 1 - from ≡ suc (x - from) = omega arith in
      let at : from + (x - from) ≡ x = omega arith in
      rw (more, any_suc (λ i. P (from + i)) (x - from), none) (ap P at ∙ here)

  pub within_end : (x : ℕ) → to < x → from ≤ x → x - from ≤ to + 1 - from → any_below (x - from) (λ i. P (from + i)) ≡ false → any_within from to P ≡ false
  unfolding any_within
  within_end x past l least none =
      let same : x - from ≡ to + 1 - from = omega arith in
      subst (λ (n : ℕ). any_below n (λ i. P (from + i)) ≡ false) same none

-- ---- in a block of cells

module _ (heads nexts : List ℕ) (P : ℕ → Bool) (from to : Slabs) where
  block_where : in_block heads nexts P from to ≡ true → (u : ℕ) × (P u ≡ true)
  unfolding in_block in_layer in_row in_cell
  block_where e =
      let (z, ez) = within_where from.z to.z (in_layer heads nexts P from to) e in
      let (y, ey) = within_where from.y to.y (λ y. in_row heads nexts P from to y z) ez in
      let (x, ex) = within_where from.x to.x (λ x. in_cell heads nexts P x y z) ey in
      let head = get_or heads (key_among (length heads) (cell_number x y z)) 0 in
      any_along_where nexts P head ex

  block_is : (s : Slabs) → from.x ≤ s.x → s.x ≤ to.x → from.y ≤ s.y → s.y ≤ to.y → from.z ≤ s.z → s.z ≤ to.z →
      in_cell heads nexts P s.x s.y s.z ≡ true → in_block heads nexts P from to ≡ true
  unfolding in_block in_layer in_row
  block_is s fx tx fy ty fz tz e =
      within_is from.z to.z (in_layer heads nexts P from to) s.z fz tz
      (within_is from.y to.y (λ y. in_row heads nexts P from to y s.z) s.y fy ty
      (within_is from.x to.x (λ x. in_cell heads nexts P x s.y s.z) s.x fx tx e))

-- ---- cells rise with coordinates

slab_rises : (width x y : ℕ) → x ≤ y → slab_of width x ≤ slab_of width y
unfolding slab_of
slab_rises width x y l = div_mono x (width + 1) y (width + 1) (omega arith) (omega arith) (mul-le-mul l (le_refl (width + 1)))

module _ (width : ℕ) (p r : Place) where
  slab_x : p.x ≤ r.x → (slabs_of width p).x ≤ (slabs_of width r).x
  unfolding slabs_of
  slab_x = slab_rises width p.x r.x

  slab_y : p.y ≤ r.y → (slabs_of width p).y ≤ (slabs_of width r).y
  unfolding slabs_of
  slab_y = slab_rises width p.y r.y

  slab_z : p.z ≤ r.z → (slabs_of width p).z ≤ (slabs_of width r).z
  unfolding slabs_of
  slab_z = slab_rises width p.z r.z

-- ---- the box

-- The corners' places by their slots.
abbrev places_of : Asking → ℕ → Place
places_of q k = get_or (q.a.place ∷ q.b.place ∷ q.c.place ∷ q.d.place ∷ []) k q.a.place

stand_so : (q : Asking) → (λ (k : ℕ). point_of (places_of q k)) ≡ standing q
stand_so q = fun_ext at
  where
    at : (k : ℕ) → point_of (places_of q k) ≡ standing q k
    at zero = refl
    at (suc zero) = refl
    at (suc (suc zero)) = refl
    at (suc (suc (suc zero))) = refl
    at (suc (suc (suc (suc k)))) = refl

module _ (q : Asking) where
  low_least : (k : ℕ) → k < 4 → ((low_of q).x ≤ (places_of q k).x) × ((low_of q).y ≤ (places_of q k).y) × ((low_of q).z ≤ (places_of q k).z)
  unfolding low_of lower_of
  low_least zero l = (omega arith, omega arith, omega arith)
  low_least (suc zero) l = (omega arith, omega arith, omega arith)
  low_least (suc (suc zero)) l = (omega arith, omega arith, omega arith)
  low_least (suc (suc (suc zero))) l = (omega arith, omega arith, omega arith)
  low_least (suc (suc (suc (suc k)))) l = absurd (omega arith)

  high_most : (k : ℕ) → k < 4 → ((places_of q k).x ≤ (high_of q).x) × ((places_of q k).y ≤ (high_of q).y) × ((places_of q k).z ≤ (high_of q).z)
  unfolding high_of upper_of
  high_most zero l = (omega arith, omega arith, omega arith)
  high_most (suc zero) l = (omega arith, omega arith, omega arith)
  high_most (suc (suc zero)) l = (omega arith, omega arith, omega arith)
  high_most (suc (suc (suc zero))) l = (omega arith, omega arith, omega arith)
  high_most (suc (suc (suc (suc k)))) l = absurd (omega arith)

  module _ (right : pos 0 <ℤ signed_of (standing q)) (p : Place) (lies : lies_in (standing q) (point_of p) ≡ true) where
    right' : pos 0 <ℤ signed_of (λ k. point_of (places_of q k))
    right' = subst (λ (f : ℕ → Point). pos 0 <ℤ signed_of f) (sym (stand_so q)) right

    lies' : lies_in (λ k. point_of (places_of q k)) (point_of p) ≡ true
    lies' = subst (λ (f : ℕ → Point). lies_in f (point_of p) ≡ true) (sym (stand_so q)) lies

    in_x : ((low_of q).x ≤ p.x) × (p.x ≤ (high_of q).x)
    in_x = box_x (places_of q) p right' lies' (low_of q).x (high_of q).x (λ k l. (low_least k l).0) (λ k l. (high_most k l).0)

    in_y : ((low_of q).y ≤ p.y) × (p.y ≤ (high_of q).y)
    in_y = box_y (places_of q) p right' lies' (low_of q).y (high_of q).y (λ k l. (low_least k l).1) (λ k l. (high_most k l).1)

    in_z : ((low_of q).z ≤ p.z) × (p.z ≤ (high_of q).z)
    in_z = box_z (places_of q) p right' lies' (low_of q).z (high_of q).z (λ k l. (low_least k l).2) (λ k l. (high_most k l).2)

    pub is_within_lem : is_within (low_of q) (high_of q) p ≡ true
    unfolding is_within
    is_within_lem =
        rw (le-leb _ _ in_x.0, le-leb _ _ in_x.1, le-leb _ _ in_y.0, le-leb _ _ in_y.1, le-leb _ _ in_z.0, le-leb _ _ in_z.1)

-- ---- what a right-handed piece finds

module _ (vertex_at : ℕ → Vertex) (count : ℕ) (q : Asking) (width : ℕ) (heads nexts : List ℕ) (some : 0 < length heads)
    (c : Chain (λ v. place_key (length heads) width (vertex_at v).place) count heads nexts) (right : pos 0 <ℤ signed_of (standing q)) where
  abbrev asked : ℕ → Bool
  asked = hangs_below vertex_at count q (low_of q) (high_of q)

  abbrev plain : ℕ → Bool
  plain u = hangs_among q u (vertex_at u).place

  asked_plain : (u : ℕ) → asked u ≡ true → (u < count) × (plain u ≡ true)
  unfolding hangs_below hangs_within hangs_among
  asked_plain u e =
      let corner = not (is_corner q u) in
      let box = is_within (low_of q) (high_of q) (vertex_at u).place in
      let lies = lies_in (standing q) (point_of (vertex_at u).place) in
      let both = and_right (ltb u count) (corner && box && lies) e in (
        ltb-true u count (and_left (ltb u count) (corner && box && lies) e),
        and_both corner lies (and_left corner box (and_left (corner && box) lies both)) (and_right (corner && box) lies both),
      )

  plain_asked : (u : ℕ) → u < count → plain u ≡ true → asked u ≡ true
  unfolding hangs_below hangs_within hangs_among
  plain_asked u l e =
      let corner = not (is_corner q u) in
      let place = (vertex_at u).place in
      let lies = lies_in (standing q) (point_of place) in
      let in_it = and_right corner lies e in
      and_both (ltb u count) _ (lt-ltb u count l)
      (and_both (corner && is_within (low_of q) (high_of q) place) lies (and_both corner _ (and_left corner lies e) (is_within_lem q right place in_it)) in_it)

  -- What is asked is found in its own cell.
  in_own_cell : (u : ℕ) → u < count → asked u ≡ true → let s = slabs_of width (vertex_at u).place in in_cell heads nexts asked s.x s.y s.z ≡ true
  unfolding in_cell place_key
  in_own_cell u l e =
      let s = slabs_of width (vertex_at u).place in
      chain_finds (λ v. place_key (length heads) width (vertex_at v).place) count heads nexts c asked u l (key_within (length heads) (cell_number s.x s.y s.z) some) e

  -- A vertex that hangs on the piece is in a cell that its box meets.
  found : (u : ℕ) → u < count → plain u ≡ true → in_block heads nexts asked (slabs_of width (low_of q)) (slabs_of width (high_of q)) ≡ true
  unfolding hangs_among
  found u l e =
      let place = (vertex_at u).place in
      let lies = and_right (not (is_corner q u)) (lies_in (standing q) (point_of place)) e in
      let x = in_x q right place lies in
      let y = in_y q right place lies in
      let z = in_z q right place lies in
      block_is heads nexts asked (slabs_of width (low_of q)) (slabs_of width (high_of q)) (slabs_of width place)
      (slab_x width (low_of q) place x.0) (slab_x width place (high_of q) x.1)
      (slab_y width (low_of q) place y.0) (slab_y width place (high_of q) y.1)
      (slab_z width (low_of q) place z.0) (slab_z width place (high_of q) z.1)
      (in_own_cell u l (plain_asked u l e))

  pub block_found : in_block heads nexts (hangs_below vertex_at count q (low_of q) (high_of q)) (slabs_of width (low_of q)) (slabs_of width (high_of q)) ≡ any_below count (λ u. hangs_among q u (vertex_at u).place)
  block_found =
      same_tests _ _
      (λ e. let (u, a) = block_where heads nexts asked (slabs_of width (low_of q)) (slabs_of width (high_of q)) e in
      let (l, p) = asked_plain u a in
      any_is plain count u l p)
      (λ e. let (u, l, p) = any_where plain count e in found u l p)

-- ---- a record's piece asks as it is

pub asking_hangs : (vertex_at : ℕ → Vertex) (p : Piece) (v : ℕ) → hangs_among (asking_of vertex_at p) v (vertex_at v).place ≡ hangs_on vertex_at p v
unfolding hangs_among asking_of hangs_on is_corner has_corner lies_in left_handed differences_of any_below all_below fold_below
asking_hangs vertex_at p v = refl

-- So what all vertices answer is what the definition asks.
pub all_asked : (vertex_at : ℕ → Vertex) (p : Piece) (count : ℕ) {q : Asking} → q ≡ asking_of vertex_at p →
    any_below count (λ u. hangs_among q u (vertex_at u).place) ≡ any_below count (hangs_on vertex_at p)
all_asked vertex_at p count is =
    ap (λ (q : Asking). any_below count (λ u. hangs_among q u (vertex_at u).place)) is
    ∙ any_same count (λ u. hangs_among (asking_of vertex_at p) u (vertex_at u).place) (hangs_on vertex_at p) (λ u l. asking_hangs vertex_at p u)

-- And what the cells answer.
pub cells_asked : (vertex_at : ℕ → Vertex) (p : Piece) (count : ℕ) {q : Asking} (width : ℕ) (heads nexts : List ℕ) {low high : Place} {from to : Slabs} →
    q ≡ asking_of vertex_at p → 0 < length heads → Chain (λ v. place_key (length heads) width (vertex_at v).place) count heads nexts → pos 0 <ℤ signed_of (standing q) →
    low ≡ low_of q → high ≡ high_of q → from ≡ slabs_of width low → to ≡ slabs_of width high →
    in_block heads nexts (hangs_below vertex_at count q low high) from to ≡ any_below count (hangs_on vertex_at p)
cells_asked vertex_at p count {q} width heads nexts is some c right least most from_is to_is =
    (λ i. in_block heads nexts (hangs_below vertex_at count q (least i) (most i)) ((from_is ∙ ap (slabs_of width) least) i) ((to_is ∙ ap (slabs_of width) most) i))
    ∙ block_found vertex_at count q width heads nexts some c right
    ∙ all_asked vertex_at p count is

-- ---- the links

-- Where there is room, what is linked from cleared heads on is a chain by cells.
pub cells_filled : (vertex_at : ℕ → Vertex) (width : ℕ) (count : ℕ) (heads nexts : List ℕ) (start links : Links) → Roomy heads nexts count → start ≡ links_of (replicate (length heads) 0) nexts →
    links ≡ linked_below (λ v. place_key (length start.heads) width (vertex_at v).place) start count →
    (0 < length links.heads) × Chain (λ v. place_key (length links.heads) width (vertex_at v).place) count links.heads links.nexts
cells_filled vertex_at width count heads nexts start links room clear are =
    let key : ℕ → ℕ → ℕ = λ keys v. place_key keys width (vertex_at v).place in
    let same : length links.heads ≡ length start.heads = ap (λ (l : Links). length l.heads) are ∙ linked_heads_long (key (length start.heads)) start count in
    let long : length start.heads ≡ length heads = ap (λ (l : Links). length l.heads) clear ∙ length-replicate {A = ℕ} (length heads) 0 in
    let zeros : (k : ℕ) → get_or start.heads k 0 ≡ 0 = λ k. ap (λ (l : Links). get_or l.heads k 0) clear ∙ zeros_at (length heads) k in
    let places : count ≤ length start.nexts = rw clear room.places in (
      omega (arith, same, long, room.keys),
      subst (λ (keys : ℕ). Chain (key keys) count links.heads links.nexts) (sym same)
          (subst (λ (l : Links). Chain (key (length start.heads)) count l.heads l.nexts) (sym are)
          (chain_linked (key (length start.heads)) start count zeros places room.fits)),
    )

-- The same of four lists.
pub cells_linked : (vertex_at : ℕ → Vertex) (width : ℕ) (count : ℕ) (heads nexts cleared heads' nexts' : List ℕ) → Roomy heads nexts count → cleared ≡ replicate (length heads) 0 →
    heads' ≡ (linked_below (λ v. place_key (length cleared) width (vertex_at v).place) (links_of cleared nexts) count).heads →
    nexts' ≡ (linked_below (λ v. place_key (length cleared) width (vertex_at v).place) (links_of cleared nexts) count).nexts →
    (0 < length heads') × Chain (λ v. place_key (length heads') width (vertex_at v).place) count heads' nexts'
cells_linked vertex_at width count heads nexts cleared heads' nexts' room clear heads_are nexts_are =
    cells_filled vertex_at width count heads nexts (links_of cleared nexts) (links_of heads' nexts') room (ap (λ (t : List ℕ). links_of t nexts) clear)
    (links_are _ _ _ heads_are nexts_are)
