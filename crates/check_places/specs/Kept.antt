-- Refusal 4's links: base vertices are kept by their places and made ones by their parents, in one chain, so that only those with one key are looked at.
use Rattle.std.specs.Prelude.{◌≡◌, Bool, true, cond, ◌&&◌, List, ℕ, ◌+◌, ◌*◌, ◌/◌, ◌%◌, ◌<◌, length, get_or, eqb, ltb, leb}
use Rattle.std.proofs.Common.{le_refl, add-one, arith, eqb-true, leb-true, lt-ltb, le-ltb}
use Rattle.laws.specs.Below.{and_left, and_right}
use Rattle.laws.specs.Links.{greatest, key_among, key_within, Chain, links_of, pushed, pushed_heads_long, chain_pushed, chain_start, zeros_at, Empty, chain_any, any_along}
use Rattle.piece.specs.declared.Ends.{Ends}
use Rattle.grid.specs.declared.Place.{Place}
use Rattle.grid.specs.Places.{same_place}
use Rattle.stored.specs.declared.Vertex.{Vertex}
use Rattle.stored.specs.Layout.{parents_of}
use Rattle.mesh_tables.specs.Tables.{Tables, base_vertices, has_parents}
use Rattle.check_refusals.specs.Refusals.{place_twice, pair_twice}
use Rattle.mesh_parents.specs.Pairs.{pair_key, parents_are, any_with_is}

-- The key of a place, one of so many: modulo a prime first, so that places that are far apart on the grid have keys of their own too.
unfoldable pub place_key : ℕ → Place → ℕ
place_key keys p = key_among keys ((p.x / 32 * 37 + p.y / 32 * 101 + p.z / 32 * 3) % 8191)

-- The key of vertex v: that of its place, and of its parents if it is made.
unfoldable pub vertex_key : ℕ → Tables → ℕ → ℕ
vertex_key keys m v =
    let placed = place_key keys (m.vertex_at v).place in
    let made = pair_key keys (parents_of (m.vertex_at v)) in
    cond (ltb v (base_vertices m)) placed made

-- What stands at one place has one key.
same_key : (keys : ℕ) (a b : Place) → same_place a b ≡ true → place_key keys a ≡ place_key keys b
unfolding same_place place_key
same_key keys a b t =
    let x = eqb a.x b.x in
    let y = eqb a.y b.y in
    let z = eqb a.z b.z in
    let xy = and_left (x && y) z t in
    rw (eqb-true a.x b.x (and_left x y xy), eqb-true a.y b.y (and_right x y xy), eqb-true a.z b.z (and_right (x && y) z t))

-- A vertex that has a pair as its parents has the pair's key.
has_key : (keys : ℕ) (m : Tables) (ends : Ends) (v : ℕ) → has_parents m ends v ≡ true → vertex_key keys m v ≡ pair_key keys ends
unfolding has_parents vertex_key
has_key keys m ends v t =
    let made = leb (base_vertices m) v in
    let parents = eqb (m.vertex_at v).p ends.lower && eqb (m.vertex_at v).q ends.higher in
    rw (le-ltb v (base_vertices m) (leb-true (base_vertices m) v (and_left made parents t)), parents_are m ends v t)

-- ---- what is kept of the vertices before v

pub record VerticesKept (m : Tables) (v : ℕ) (heads nexts : List ℕ) : Type 0 where
  pub chain : Chain (vertex_key (length heads) m) v heads nexts
  pub keys : 0 < length heads

-- In empty heads, of none.
pub none_kept : (m : Tables) (heads nexts : List ℕ) → 0 < length heads → Empty heads → VerticesKept m 0 heads nexts
none_kept m heads nexts some empty = record { chain = chain_start (vertex_key (length heads) m) heads nexts (λ k. rw empty (zeros_at (length heads) k)); keys = some }

-- Of one vertex more.
pub vertex_kept : (m : Tables) (v : ℕ) (heads nexts heads' nexts' : List ℕ) → VerticesKept m v heads nexts → v < length nexts → v < greatest →
    heads' ≡ (pushed (links_of heads nexts) (vertex_key (length heads) m v) v).heads → nexts' ≡ (pushed (links_of heads nexts) (vertex_key (length heads) m v) v).nexts →
    VerticesKept m (v + 1) heads' nexts'
vertex_kept m v heads nexts heads' nexts' k room small h t =
    let links = links_of heads nexts in
    let key = vertex_key (length heads) m in
    let long : length heads' ≡ length heads = rw h (pushed_heads_long links (key v) v) in
    record { chain = rw (long, add-one v, h, t) (chain_pushed key v links k.chain room small); keys = rw long k.keys }

-- ---- what is found there

-- Whether a vertex along the links stands at this place.
unfoldable pub place_along : (ℕ → Vertex) → List ℕ → List ℕ → Place → Bool
place_along vertex_at heads nexts p = any_along nexts (λ u. same_place (vertex_at u).place p) (get_or heads (place_key (length heads) p) 0)

-- Where base vertex v stands another one before it does, or none.
pub place_twice_lem : (m : Tables) (v : ℕ) (heads nexts : List ℕ) → VerticesKept m v heads nexts → v < base_vertices m → place_along m.vertex_at heads nexts (m.vertex_at v).place ≡ place_twice m.vertex_at v
unfolding place_along place_twice place_key vertex_key
place_twice_lem m v heads nexts k in_base =
    chain_any (vertex_key (length heads) m) v heads nexts k.chain (λ u. same_place (m.vertex_at u).place place) (place_key (length heads) place) within only
  where
    place : Place
    place = (m.vertex_at v).place

    within : place_key (length heads) place < length heads
    within = key_within (length heads) ((place.x / 32 * 37 + place.y / 32 * 101 + place.z / 32 * 3) % 8191) k.keys

    only : (u : ℕ) → u < v → same_place (m.vertex_at u).place place ≡ true → vertex_key (length heads) m u ≡ place_key (length heads) place
    only u l t = rw (lt-ltb u (base_vertices m) (omega arith)) (same_key (length heads) (m.vertex_at u).place place t)

-- A vertex before v has v's parents, or none.
pub pair_twice_lem : (m : Tables) (v : ℕ) (heads nexts : List ℕ) → VerticesKept m v heads nexts →
    any_along nexts (λ u. ltb u v && has_parents m (parents_of (m.vertex_at v)) u) (get_or heads (pair_key (length heads) (parents_of (m.vertex_at v))) 0) ≡ pair_twice m v
unfolding pair_twice
pair_twice_lem m v heads nexts k =
    let ends = parents_of (m.vertex_at v) in
    any_with_is m (vertex_key (length heads) m) v heads nexts k.chain k.keys ends (λ u t. has_key (length heads) m ends u t) v (le_refl v)
