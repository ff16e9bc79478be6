-- Links by parent pair: the made vertices with one key are linked, so that the vertex with a pair is found without a search through all.
use Rattle.std.specs.Prelude.{◌≡◌, Bool, true, cond, ◌&&◌, List, ℕ, suc, ◌+◌, ◌*◌, ◌≤◌, ◌<◌, length, get_or, replicate, eqb, leb, ltb}
use Rattle.std.proofs.Common.{ap, ◌∙◌, eqb-true, leb-true, lt-ltb, le-ltb}
use Rattle.std.proofs.lemmas.List.{length-replicate}
use Rattle.std.proofs.Math.Nat.{ℕ_set}
use Rattle.std.specs.Coded.{Π_prop, le_prop}
use Rattle.laws.specs.Below.{any_below, any_same, and_left, and_right}
use Rattle.laws.specs.Links.{greatest, key_among, key_within, Roomy, Chain, Links, links_of, zeros_at, pushed, linked_below, linked_none, linked_suc, linked_heads_long, linked_nexts_long, chain_same, chain_linked, chain_any, chain_first, any_gap, any_along, first_along}
use Rattle.piece.specs.declared.Ends.{Ends}
use Rattle.stored.specs.Layout.{parents_of}
use Rattle.mesh_tables.specs.Tables.{Tables, base_vertices, all_vertices, has_parents, vertex_with}

-- The number whose key a pair of vertices has.
unfoldable pub pair_sum : Ends → ℕ
pair_sum ends = ends.lower * 31 + ends.higher

-- That key, one of so many.
unfoldable pub pair_key : ℕ → Ends → ℕ
pair_key keys ends = key_among keys (pair_sum ends)

-- The key of vertex v: that of its parents, and none if it is a base vertex.
unfoldable pub key_of : ℕ → Tables → ℕ → ℕ
key_of keys m v = let key = pair_key keys (parents_of (m.vertex_at v)) in cond (ltb v (base_vertices m)) keys key

-- The links of the vertices below n, with as many keys as there are heads.
unfoldable pub pair_links : Tables → Links → ℕ → Links
pair_links m start n = linked_below (key_of (length start.heads) m) start n

module _ (m : Tables) (start : Links) where
  -- Those of no vertex.
  pub pairs_none : pair_links m start 0 ≡ start
  unfolding pair_links
  pairs_none = linked_none (key_of (length start.heads) m) start

  -- One vertex more.
  pub pairs_suc : (n : ℕ) → pair_links m start (suc n) ≡ pushed (pair_links m start n) (key_of (length start.heads) m n) n
  unfolding pair_links
  pairs_suc n = linked_suc (key_of (length start.heads) m) start n

  -- The lists stay as long as they are.
  pub pairs_heads_long : (n : ℕ) → length (pair_links m start n).heads ≡ length start.heads
  unfolding pair_links
  pairs_heads_long n = linked_heads_long (key_of (length start.heads) m) start n

  pub pairs_nexts_long : (n : ℕ) → length (pair_links m start n).nexts ≡ length start.nexts
  unfolding pair_links
  pairs_nexts_long n = linked_nexts_long (key_of (length start.heads) m) start n

  -- From empty links on they are a chain.
  pub pairs_chain : (n : ℕ) → ((k : ℕ) → get_or start.heads k 0 ≡ 0) → n ≤ length start.nexts → n ≤ greatest →
      Chain (key_of (length start.heads) m) n (pair_links m start n).heads (pair_links m start n).nexts
  unfolding pair_links
  pairs_chain n clear room small = chain_linked (key_of (length start.heads) m) start n clear room small

-- A pair's key is one of the heads', where there are some.
pub pair_key_within : (keys : ℕ) (ends : Ends) → 0 < keys → pair_key keys ends < keys
unfolding pair_key
pair_key_within keys ends some = key_within keys (pair_sum ends) some

-- The parents of a vertex that has a pair as its parents.
pub parents_are : (m : Tables) (ends : Ends) (v : ℕ) → has_parents m ends v ≡ true → parents_of (m.vertex_at v) ≡ ends
unfolding has_parents
parents_are m ends v t =
    let made = leb (base_vertices m) v in
    let lower = eqb (m.vertex_at v).p ends.lower in
    let higher = eqb (m.vertex_at v).q ends.higher in
    let both = and_right made (lower && higher) t in
    let p = eqb-true (m.vertex_at v).p ends.lower (and_left lower higher both) in
    let q = eqb-true (m.vertex_at v).q ends.higher (and_right lower higher both) in
    λ i. record { lower = p i; higher = q i }

-- It has the pair's key.
pub has_key : (keys : ℕ) (m : Tables) (ends : Ends) (v : ℕ) → has_parents m ends v ≡ true → key_of keys m v ≡ pair_key keys ends
unfolding has_parents key_of
has_key keys m ends v t =
    let made = leb (base_vertices m) v in
    let parents = eqb (m.vertex_at v).p ends.lower && eqb (m.vertex_at v).q ends.higher in
    rw (le-ltb v (base_vertices m) (leb-true (base_vertices m) v (and_left made parents t))) (ap (pair_key keys) (parents_are m ends v t))

-- A vertex's key goes by the base vertices' count and by the vertex alone.
pub key_same : (keys : ℕ) (m other : Tables) (v : ℕ) → base_vertices m ≡ base_vertices other → m.vertex_at v ≡ other.vertex_at v → key_of keys m v ≡ key_of keys other v
unfolding key_of
key_same keys m other v base same = rw (base, same)

-- So the links of the vertices below n are those of other tables with these vertices too.
pub pairs_same : (keys : ℕ) (m other : Tables) (n : ℕ) (heads nexts : List ℕ) → base_vertices m ≡ base_vertices other → ((u : ℕ) → u < n → m.vertex_at u ≡ other.vertex_at u) → Chain (key_of keys m) n heads nexts → Chain (key_of keys other) n heads nexts
pairs_same keys m other n heads nexts base same c = chain_same (key_of keys m) (key_of keys other) n heads nexts (λ u l. key_same keys m other u base (same u l)) c

-- What is found along the links of a chain, in which a vertex with a pair for parents has the pair's key.
module _ (m : Tables) (key : ℕ → ℕ) (n : ℕ) (heads nexts : List ℕ) (c : Chain key n heads nexts) (some : 0 < length heads) (ends : Ends)
    (has : (u : ℕ) → has_parents m ends u ≡ true → key u ≡ pair_key (length heads) ends)
  where
    within : pair_key (length heads) ends < length heads
    within = pair_key_within (length heads) ends some

    -- Whether a vertex below count has these parents.
    pub any_with_is : (count : ℕ) → count ≤ n → any_along nexts (λ u. ltb u count && has_parents m ends u) (get_or heads (pair_key (length heads) ends) 0) ≡ any_below count (has_parents m ends)
    any_with_is count up =
        chain_any key n heads nexts c P (pair_key (length heads) ends) within (λ u l t. has u (and_right (ltb u count) (has_parents m ends u) t))
        ∙ any_gap P count n up (λ u l h. rw (le-ltb u count l))
        ∙ any_same count P (has_parents m ends) (λ u l. rw (lt-ltb u count l))
      where
        P : ℕ → Bool
        P u = ltb u count && has_parents m ends u

-- ---- the links of all vertices

pub record Linked (m : Tables) (heads nexts : List ℕ) : Type 0 where
  pub chain : Chain (key_of (length heads) m) (all_vertices m) heads nexts
  pub keys : 0 < length heads

-- Any two proofs of it are equal.
pub Linked_prop : (m : Tables) (heads nexts : List ℕ) → IsProp (Linked m heads nexts)
Linked_prop m heads nexts a b i = record {
  chain = record {
    first = Π_prop (λ k. Π_prop (λ l. ℕ_set _ _)) a.chain.first b.chain.first i;
    next = Π_prop (λ v. Π_prop (λ l. Π_prop (λ w. ℕ_set _ _))) a.chain.next b.chain.next i;
  };
  keys = le_prop a.keys b.keys i;
}

-- Links of no vertex, in lists of this length.
abbrev pub cleared : List ℕ → List ℕ → Links
cleared heads nexts = links_of (replicate (length heads) 0) nexts

-- Filled with all vertices.
pub all_linked : (m : Tables) (heads₀ nexts₀ : List ℕ) → Roomy heads₀ nexts₀ (all_vertices m) → (heads nexts : List ℕ) →
    heads ≡ (pair_links m (cleared heads₀ nexts₀) (all_vertices m)).heads → nexts ≡ (pair_links m (cleared heads₀ nexts₀) (all_vertices m)).nexts → Linked m heads nexts
all_linked m heads₀ nexts₀ room heads nexts h n =
    let start = cleared heads₀ nexts₀ in
    let long = ap length h ∙ pairs_heads_long m start (all_vertices m) in
    let as_many : length start.heads ≡ length heads₀ = length-replicate {A = ℕ} (length heads₀) 0 in
    record {
      chain = rw (long, h, n) (pairs_chain m start (all_vertices m) (zeros_at (length heads₀)) room.places room.fits);
      keys = rw (long, as_many) room.keys;
    }

-- The same of the two lists as one.
pub links_linked : (m : Tables) (heads₀ nexts₀ : List ℕ) → Roomy heads₀ nexts₀ (all_vertices m) → (links : Links) → links ≡ pair_links m (cleared heads₀ nexts₀) (all_vertices m) → Linked m links.heads links.nexts
links_linked m heads₀ nexts₀ room links is = all_linked m heads₀ nexts₀ room _ _ (ap (λ (l : Links). l.heads) is) (ap (λ (l : Links). l.nexts) is)

-- The vertex with these parents.
pub vertex_with_is : (m : Tables) (heads nexts : List ℕ) → Linked m heads nexts → (ends : Ends) →
    first_along nexts (has_parents m ends) (get_or heads (pair_key (length heads) ends) 0) (all_vertices m) ≡ vertex_with m ends
unfolding vertex_with
vertex_with_is m heads nexts k ends =
    chain_first (key_of (length heads) m) (all_vertices m) heads nexts k.chain (has_parents m ends) (pair_key (length heads) ends) (pair_key_within (length heads) ends k.keys)
    (λ u l t. has_key (length heads) m ends u t)
