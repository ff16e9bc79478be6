-- The links of the vertices' parent pairs, kept along with the passes: a vertex that a cut appends is put into them, so that they stay those of all vertices.
use Rattle.std.specs.Prelude.{◌≡◌, refl, Bool, true, false, ◌⊎◌, List, ℕ, suc, ◌+◌, ◌*◌, ◌≤◌, ◌<◌, length, get_or}
use Rattle.std.proofs.Common.{sym, ◌∙◌, subst, inl, inr, ⊎_elim, arith}
use Rattle.std.proofs.Math.Path.{ap}
use Rattle.laws.specs.Below.{first_at_most}
use Rattle.laws.specs.Lists.{Bytes}
use Rattle.laws.specs.Links.{greatest, Chain, links_of, pushed, pushed_heads_long, chain_pushed, short, Roomy, roomy, first_along}
use Rattle.piece.specs.declared.Ends.{Ends}
use Rattle.stored.specs.declared.Limits.{Limits}
use Rattle.stored.specs.declared.Kind.{Kind}
use Rattle.stored.specs.declared.Layout.{Layout}
use Rattle.stored.specs.Layout.{numbers_reach, vertex_width, record_width, record_in}
use Rattle.mesh_tables.specs.Tables.{Tables, all_vertices, has_parents, vertex_with, refinement_ends}
use Rattle.mesh_parents.specs.Pairs.{pair_key, key_of, pair_links, pairs_nexts_long, pairs_same, Linked, cleared, all_linked, vertex_with_is}
use Rattle.refine_cut.specs.Cut.{cut_at}
use Rattle.refine_cut.specs.Slices.{Slices, tables_in, cut_with, cut_put}
use Rattle.refine_cut.proofs.Law.{cut_tables}
use Rattle.refine_pass.specs.Passes.{exceeds}
use Rattle.refine_pass.specs.Puts.{refined_put, work, too_short, refined_within}
use Rattle.refine_pass.specs.Steps.{cut_header, refined_within_lem, long_enough}
use Rattle.refine_pass.specs.Law.{Working, within, can_begin, ready, cut_working, cut_vertices_stay}

-- What the passes work on: the tables, and the links of all their vertices, which have room for one vertex more than there may be, and whose entries hold its number.
pub record AtWork (most : Limits) (l : Layout) (s : Slices) (heads nexts : List ℕ) : Type 0 where
  pub working : Working most l s
  pub linked : Linked (tables_in l s) heads nexts
  pub room : most.vertices < length nexts
  pub small : most.vertices < greatest

-- The vertices up to `was` are linked, and there may be one more, which has room.
pub record Linking (m : Tables) (was : ℕ) (heads nexts : List ℕ) : Type 0 where
  pub chain : Chain (key_of (length heads) m) was heads nexts
  pub keys : 0 < length heads
  pub one_more : (all_vertices m ≡ was) ⊎ (all_vertices m ≡ suc was)
  pub room : was < length nexts
  pub small : was < greatest

module _ (m : Tables) (was : ℕ) (heads nexts : List ℕ) (g : Linking m was heads nexts) where
  -- There is none, or it is put before the others with its key.
  pub none_fresh : all_vertices m ≤ was → Linked m heads nexts
  none_fresh e =
      let none : was ≡ all_vertices m = ⊎_elim (λ a. sym a) (λ b. absurd (omega arith)) g.one_more in
      record { chain = subst (λ (n : ℕ). Chain (key_of (length heads) m) n heads nexts) none g.chain; keys = g.keys }

  pub fresh_linked : was < all_vertices m → (heads' nexts' : List ℕ) → heads' ≡ (pushed (links_of heads nexts) (key_of (length heads) m was) was).heads → nexts' ≡ (pushed (links_of heads nexts) (key_of (length heads) m was) was).nexts →
      Linked m heads' nexts'
  fresh_linked e heads' nexts' h n =
      let key = key_of (length heads) m in
      let more : all_vertices m ≡ suc was = ⊎_elim (λ a. absurd (omega arith)) (λ b. b) g.one_more in
      let long : length heads' ≡ length heads = ap length h ∙ pushed_heads_long (links_of heads nexts) (key was) was in
      record {
        chain = subst (λ (k : ℕ). Chain (key_of (length heads') m) k heads' nexts') (sym more) (rw (long, h, n) (chain_pushed key was (links_of heads nexts) g.chain g.room g.small));
        keys = rw long g.keys;
      }

module _ (l : Layout) (s : Slices) (heads nexts : List ℕ) (k : Linked (tables_in l s) heads nexts) where
  -- The vertex found along the links is the one with these parents.
  found_is : (ends : Ends) (w : ℕ) → w ≡ first_along nexts (has_parents (tables_in l s) ends) (get_or heads (pair_key (length heads) ends) 0) s.header.vertices → w ≡ vertex_with (tables_in l s) ends
  found_is ends w is = is ∙ vertex_with_is (tables_in l s) heads nexts k ends

  pub found_within : (ends : Ends) (w : ℕ) → w ≡ first_along nexts (has_parents (tables_in l s) ends) (get_or heads (pair_key (length heads) ends) 0) s.header.vertices → w ≤ s.header.vertices
  unfolding vertex_with
  found_within ends w is = omega (arith, found_is ends w is, first_at_most (has_parents (tables_in l s) ends) s.header.vertices)

  -- So a cut there is the cut.
  pub cut_found : (n : ℕ) (ends : Ends) → ends ≡ refinement_ends (record_in l s.base s.grown n).piece → (w : ℕ) → w ≡ first_along nexts (has_parents (tables_in l s) ends) (get_or heads (pair_key (length heads) ends) 0) s.header.vertices →
      (t : Slices) → t ≡ cut_with l s n w → t ≡ cut_put l s n
  unfolding cut_put
  cut_found n ends these w is t cut = cut ∙ ap (cut_with l s n) (found_is ends w is ∙ ap (vertex_with (tables_in l s)) these)

module _ (most : Limits) (l : Layout) (s : Slices) (heads nexts : List ℕ) (k : AtWork most l s heads nexts) (few : exceeds most s.header ≡ false) (n : ℕ) (there : n < s.header.records)
    (t : Slices) (is : t ≡ cut_put l s n) where
  -- A cut appends a vertex or none.
  one_more : ((cut_put l s n).header.vertices ≡ s.header.vertices) ⊎ ((cut_put l s n).header.vertices ≡ suc s.header.vertices)
  one_more = cut_header l s n (λ h. (h.vertices ≡ s.header.vertices) ⊎ (h.vertices ≡ suc s.header.vertices)) (inl refl) (inl refl) (inr (omega arith))

  -- After it the links are those of the vertices that were there before it.
  pub cut_linking : Linking (tables_in l t) s.header.vertices heads nexts
  cut_linking =
      let (v, r) = within most s.header few in
      let same : tables_in l t ≡ cut_at (tables_in l s) n = ap (tables_in l) is ∙ cut_tables l s n (ready most l s n k.working few there) in
      record {
        chain = pairs_same (length heads) (tables_in l s) (tables_in l t) s.header.vertices heads nexts (sym ((λ i. (is i).header.base_vertices) ∙ cut_header l s n (λ h. h.base_vertices ≡ s.header.base_vertices) refl refl refl))
            (λ u b. sym ((λ i. (same i).vertex_at u) ∙ cut_vertices_stay (tables_in l s) n u b)) k.linked.chain;
        keys = k.linked.keys;
        one_more = subst (λ (x : Slices). (x.header.vertices ≡ s.header.vertices) ⊎ (x.header.vertices ≡ suc s.header.vertices)) (sym is) one_more;
        room = omega (arith, k.room);
        small = omega (arith, k.small);
      }

  -- And with the vertex that it appended, if it did, those of all vertices.
  pub cut_linked : (heads' nexts' : List ℕ) → Linked (tables_in l t) heads' nexts' → length nexts' ≡ length nexts → AtWork most l t heads' nexts'
  cut_linked heads' nexts' linked long =
      record {
        working = subst (Working most l) (sym is) (cut_working most l s n k.working few there);
        linked = linked;
        room = omega (arith, k.room);
        small = k.small;
      }

-- ---- all passes, for every input

-- In slices that have the tables to work on, and with lists that are long enough.
module _ (k : Kind) (reach : numbers_reach k ≡ true) (l : Layout) (laid : l ≡ work k) (s : Slices) (small : exceeds k.limits s.header ≡ false)
    (long : vertex_width k.format * (k.limits.vertices + 1) ≤ length s.base) (deep : record_width k.format * (k.limits.records + 2) ≤ length s.grown)
    (heads nexts table : List ℕ) (linkable : short heads nexts (k.limits.vertices + 1) ≡ false) (places : k.limits.records ≤ length table) where
  room : Roomy heads nexts (k.limits.vertices + 1)
  room = roomy heads nexts (k.limits.vertices + 1) linkable

  -- Empty links, filled with all vertices. The records all have a place in the table, also those to come.
  pub passes_begin : Bytes s.base × Bytes s.grown → (heads' nexts' : List ℕ) →
      heads' ≡ (pair_links (tables_in l s) (cleared heads nexts) s.header.vertices).heads → nexts' ≡ (pair_links (tables_in l s) (cleared heads nexts) s.header.vertices).nexts →
      AtWork k.limits l s heads' nexts' × ((s.header.records ≤ length table) × (k.limits.records ≤ length table))
  passes_begin bytes heads' nexts' h n =
      let (v, r) = within k.limits s.header small in
      let filled = pairs_nexts_long (tables_in l s) (cleared heads nexts) s.header.vertices in
      let all : Roomy heads nexts s.header.vertices = record { keys = room.keys; places = omega (arith, room.places); fits = omega (arith, room.fits) } in (
        record {
          working = subst (λ (x : Layout). Working k.limits x s) (sym laid) (can_begin k reach s long deep bytes);
          linked = all_linked (tables_in l s) heads nexts all heads' nexts' h n;
          room = omega (arith, ap length n, room.places);
          small = omega (arith, room.fits);
        },
        (omega arith, places),
      )

  pub passes_end : (chosen : ℕ → Bool) (t : Slices) → t ≡ refined_put k.limits l chosen s → t ≡ refined_within k (too_short k.limits heads nexts table) chosen s
  passes_end chosen t is =
      is
      ∙ ap (λ (x : Layout). refined_put k.limits x chosen s) laid
      ∙ sym (refined_within_lem k (too_short k.limits heads nexts table) chosen s reach (long_enough k.limits heads nexts table room places) small long deep)
