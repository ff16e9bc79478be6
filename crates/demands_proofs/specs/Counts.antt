-- How many vertices and records a numbering has: no more than the set of cuts gives, and so no more than the limits say. Assumes nothing.
use Rattle.std.specs.Prelude.{◌≡◌, Bool, true, not, ◌||◌, List, ◌++◌, ℕ, ◌+◌, ◌≤◌, ◌<◌, length, ltb}
use Rattle.std.proofs.Common.{ap, ◌∙◌, subst, ⊎_elim, arith, length-append, ltb-false}
use Rattle.std.proofs.lemmas.Bool.{not-true}
use Rattle.laws.specs.Below.{either, or_true}
use Rattle.cuts_names.specs.Lists.{Equality, among, among_append, no_longer}
use Rattle.cuts_names.specs.Names.{Name, same_name, name_equality}
use Rattle.cuts_names.specs.Pieces.{Node}
use Rattle.cuts.specs.Sets.{Cuts, There}
use Rattle.cuts.specs.Least.{same_node, node_equality}
use Rattle.cuts.specs.Count.{CutList, leaves_of, leaves_listed_lem, leaves_count_lem}
use Rattle.cuts.specs.LinkLists.{list_where, where_length, where_which, where_distinct}
use Rattle.cuts.specs.LinkSets.{count_beyond}
use Rattle.stored.specs.declared.Limits.{Limits}
use Rattle.demands_words.specs.Words.{BaseMesh, Fits, Numbering, VerticesNumbered, RecordsNumbered}

-- Different things, one for each number from b to n, all on a list: there are no more of them than it is long.
pub numbered_fewer : {A : Type 0} {same : A → A → Bool} → Equality same → (f : ℕ → A) (b n : ℕ) (m : List A) → b ≤ n →
    ((j k : ℕ) → j < n → k < n → f j ≡ f k → j ≡ k) → ((k : ℕ) → b ≤ k → k < n → among same (f k) m ≡ true) → n ≤ b + length m
numbered_fewer {A} {same} eq f b n m within apart inside =
    let beyond : ℕ → Bool = λ k. not (ltb k b) in
    let fewer = no_longer eq (list_where beyond f n) m
    (where_distinct eq beyond f n (λ j k hj hk tj tk. apart j k hj hk))
    (λ x t. let (k, l, o, e) = where_which eq beyond f x n t in subst (λ (y : A). among same y m ≡ true) e (inside k (ltb-false k b (not-true (ltb k b) o)) l)) in
    omega (arith, fewer, where_length beyond f n, count_beyond b n within)

-- A node that is there is a leaf or a cut.
there_listed : {count : ℕ} (C : Cuts count) (cuts : List Node) → CutList C cuts → (n : Node) → There C n → among same_node n (leaves_of C cuts ++ cuts) ≡ true
there_listed C cuts listed n t =
    among_append node_equality n (leaves_of C cuts) cuts
    ∙ ⊎_elim
    (λ c. ap (λ (b : Bool). among same_node n (leaves_of C cuts) || b) (listed.exact n ∙ c) ∙ or_true (among same_node n (leaves_of C cuts)))
    (λ f. ap (λ (b : Bool). b || among same_node n cuts) ((leaves_listed_lem C cuts listed).all n (record { there = t; uncut = f })))
    (either (C.has n))

module _ (most : Limits) (b : BaseMesh) (C : Cuts b.pieces) (fits : Fits most b C) (N : Numbering) where
  -- No more vertices than the limit has.
  pub vertices_within : VerticesNumbered b C N → N.vertices ≤ most.vertices
  vertices_within v =
      let fewer = numbered_fewer name_equality N.name_at b.vertices N.vertices fits.made v.base_first v.once
      (λ k l h. let m = v.made k l h in subst (λ (x : Name). among same_name x fits.made ≡ true) m.made_by_lem (fits.made_listed_lem.all m.cut m.is_cut_lem)) in
      omega (arith, fewer, fits.vertices)

  -- No more records than the limit has.
  pub records_within : RecordsNumbered b C N → N.records ≤ most.records
  records_within r =
      let l = fits.cuts in
      let listed = fits.cuts_listed_lem in
      let leaves = leaves_of C l in
      let fewer = numbered_fewer node_equality N.node_at 0 N.records (leaves ++ l) (omega arith) r.once (λ k _ h. there_listed C l listed (N.node_at k) (r.there k h)) in
      omega (arith, fewer, length-append leaves l, leaves_count_lem C l listed leaves (leaves_listed_lem C l listed), fits.records)
