-- Of specs/Fuel.antt, the theorems that an edit of a definition breaks, and what only they need.
use Rattle.std.specs.Prelude.{◌≡◌, Bool, true, false, ◌||◌, ◌⊎◌, List, [], ◌∷◌, ℕ, zero, suc, ◌+◌, ◌-◌, ◌*◌, ◌<◌, ◌≤◌}
use Rattle.std.proofs.Math.Path.{sym}
use Rattle.std.proofs.Common.{ap, ◌∙◌, inl, inr, ⊎_elim, arith}
use Rattle.std.proofs.lemmas.Bool.{false≢true}
use Rattle.std.proofs.Math.Nat.{two-pow-succ, one-le-pow}
use Rattle.laws.specs.Below.{any_is, any_where, or_true, or_second, either}
use Rattle.cuts_names.specs.Lists.{both_ways, among, without, any_of, any_of_where, any_of_is}
use Rattle.cuts_names.specs.Names.{Name}
use Rattle.cuts_names.specs.Pieces.{Piece, low, high, Node, generation, kid}
use Rattle.cuts.specs.Sets.{Cuts, There, Leaf, HangsAt, Hangs}
use Rattle.cuts_names.specs.Base.{Marked}
use Rattle.cuts.specs.Depth.{CutsBelow, hanging_below_lem}
use Rattle.cuts.specs.Least.{same_node, node_equality, there_within, adding, adding_is, more_keeps, more_has, Reaches, stop, cut, reached_keeps, reached_below}
use Rattle.cuts.specs.Count.{CutList, LeafList, leaves_of, leaves_listed_lem}
use Rattle.cuts.specs.Fuel.{cuts_under, cuts_left, split, cuts_after, leaves_after, hangs_on, hangs_in, Closing}
use Rattle.cuts.specs.Fuel as Specs

-- The two children of a node have one less than it, together.
pub kids_one_less_lem : (B : ℕ) (n : Node) → generation n < B → cuts_under B n ≡ suc (cuts_under B (kid n low) + cuts_under B (kid n high))
unfolding cuts_under
kids_one_less_lem B n h =
    let m = B - suc (generation n) in
    let e : B - generation n ≡ suc m = omega arith in
    rw (e, two-pow-succ m) (omega (arith, one-le-pow m 2 (omega arith)))

-- Taking a node out takes its part out.
without_less : (B : ℕ) (n : Node) (l : List Node) → among same_node n l ≡ true → cuts_left B l ≡ cuts_under B n + cuts_left B (without same_node n l)
unfolding cuts_left
without_less B n [] t = absurd (false≢true t)
without_less B n (m ∷ l) t =
    ⊎_elim
    (λ (e : same_node n m ≡ true). rw (e) (ap (λ (x : Node). cuts_under B x + cuts_left B l) (sym (node_equality.only n m e))))
    (λ (f : same_node n m ≡ false). rw (f) (omega (arith, without_less B n l (or_second (same_node n m) (among same_node n l) f t))))
    (either (same_node n m))

-- Each cut leaves one less.
pub split_one_less : (B : ℕ) (n : Node) (leaves : List Node) → among same_node n leaves ≡ true → generation n < B → cuts_left B leaves ≡ suc (cuts_left B (split n leaves))
unfolding cuts_left
split_one_less B n leaves t h = omega (arith, without_less B n leaves t, kids_one_less_lem B n h)

module _ (base : ℕ → Piece Name) (S : Node → Type 0) where
  -- As specs/ has it.
  abbrev cuts_made : {count : ℕ} {C D : Cuts count} → Reaches base S C D → ℕ
  cuts_made = Specs.cuts_made base S

  -- The sum over the leaves fell by one at each.
  pub sum_falls_lem : {count : ℕ} {C D : Cuts count} (r : Reaches base S C D) (B : ℕ) → CutsBelow B D → (leaves : List Node) → LeafList C leaves →
      (after : List Node) × LeafList D after × (cuts_left B leaves ≡ cuts_made r + cuts_left B after)
  unfolding Specs.cuts_made
  sum_falls_lem stop B below leaves all = (leaves, all, omega arith)
  sum_falls_lem (cut {D} {E} r n l why more) B below leaves all =
      let (before, listed, e) = sum_falls_lem r B (λ m t. below m (more_keeps D n E more m t)) leaves all in (
        split n before,
        leaves_after D n E more before listed l,
        omega (arith, e, split_one_less B n before (listed.all n l) (below n (more_has D n E more))),
      )

  -- So no more cuts can be made than that sum says.
  pub cuts_at_most_lem : {count : ℕ} {C D : Cuts count} (r : Reaches base S C D) (B : ℕ) → CutsBelow B D → (leaves : List Node) → LeafList C leaves → cuts_made r ≤ cuts_left B leaves
  cuts_at_most_lem r B below leaves all = let (after, listed, e) = sum_falls_lem r B below leaves all in omega arith

module _ (base : ℕ → Piece Name) {count : ℕ} (C : Cuts count) (cuts : List Node) (listed : CutList C cuts) (n : Node) where
  -- As specs/ has them.
  abbrev edge_found : (e : ℕ) → HangsAt base C n e → hangs_on base cuts n e ≡ true
  edge_found = Specs.edge_found base C cuts listed n

  abbrev found_edge : (e : ℕ) → e < 6 → hangs_on base cuts n e ≡ true → HangsAt base C n e
  found_edge = Specs.found_edge base C cuts listed n

  -- A node that hangs passes the test.
  pub hangs_found : Hangs base C n → hangs_in base cuts n ≡ true
  unfolding hangs_in
  hangs_found (e, x) = any_is (hangs_on base cuts n) 6 e x.edge (edge_found e x)

  -- A node that passes the test hangs.
  pub found_hangs : hangs_in base cuts n ≡ true → Hangs base C n
  unfolding hangs_in
  found_hangs t = let (e, l, u) = any_where (hangs_on base cuts n) 6 t in (e, found_edge e l u)

-- A node that is selected or hangs.
abbrev wants : (ℕ → Piece Name) → (Node → Bool) → List Node → Node → Bool
wants base pick cuts n = pick n || hangs_in base cuts n

-- All cuts of C and all selected pieces have generations below 3K, and the selected pieces are there.
module _ {count : ℕ} {base : ℕ → Piece Name} (marked : Marked count base) (K : ℕ) (C : Cuts count) (below : CutsBelow (3 * K) C) (pick : Node → Bool)
    (shallow : (n : Node) → pick n ≡ true → generation n < 3 * K)
    (there : (n : Node) → pick n ≡ true → There C n)
  where
    module _ (D : Cuts count) (r : Reaches base (λ n. pick n ≡ true) C D) (cuts leaves : List Node) (listed : CutList D cuts) (all : LeafList D leaves) where
      -- Where no leaf is selected or hangs, the set is closed.
      finished : any_of (wants base pick cuts) leaves ≡ false → Closing base C pick
      finished f =
          let none : (n : Node) → Leaf D n → wants base pick cuts n ≡ true → ⊥ = λ n l w. both_ways (any_of_is node_equality (wants base pick cuts) leaves n (all.all n l) w) f in
          record {
            set = D;
            reached = r;
            cuts = cuts;
            listed = listed;
            selected =
                λ n p.
                ⊎_elim
                (λ t. t)
                (λ u. absurd (none n (record { there = there_within C D (reached_keeps base (λ n. pick n ≡ true) r) n (there n p); uncut = u }) (ap (λ (b : Bool). b || hangs_in base cuts n) p)))
                (either (D.has n));
            rests = λ n l x. none n l (ap (λ (b : Bool). pick n || b) (hangs_found base D cuts listed n x) ∙ or_true (pick n));
          }

      -- A leaf that is selected or hangs has a generation below 3K.
      next : any_of (wants base pick cuts) leaves ≡ true → (n : Node) × (among same_node n leaves ≡ true) × ((pick n ≡ true) ⊎ Hangs base D n) × (generation n < 3 * K)
      next t =
          let (n, a, w) = any_of_where node_equality (wants base pick cuts) leaves t in
          ⊎_elim
          (λ p. (n, a, inl p, shallow n p))
          (λ f.
          let x = found_hangs base D cuts listed n (or_second (pick n) (hangs_in base cuts n) f w) in
          (n, a, inr x, hanging_below_lem marked K D (reached_below base (λ n. pick n ≡ true) r marked K below shallow) n (all.leaf n a) x))
          (either (pick n))

    -- With fuel for the cuts that are left: cut a leaf that is selected or hangs, until there is none.
    closing : (fuel : ℕ) (D : Cuts count) → Reaches base (λ n. pick n ≡ true) C D → (cuts leaves : List Node) → CutList D cuts → LeafList D leaves → cuts_left (3 * K) leaves ≤ fuel → Closing base C pick
    closing zero D r cuts leaves listed all h =
        ⊎_elim
        (λ t. let (n, a, why, g) = next D r cuts leaves listed all t in absurd (omega (arith, split_one_less (3 * K) n leaves a g)))
        (λ f. finished D r cuts leaves listed all f)
        (either (any_of (wants base pick cuts) leaves))
    closing (suc fuel) D r cuts leaves listed all h =
        ⊎_elim
        (λ t.
        let (n, a, why, g) = next D r cuts leaves listed all t in
        let l = all.leaf n a in
        let E = adding D n l.there in
        let more = adding_is D n l.there in
        closing fuel E (cut r n l why more) (n ∷ cuts) (split n leaves) (cuts_after D n E more cuts listed l.uncut) (leaves_after D n E more leaves all l) (omega (arith, split_one_less (3 * K) n leaves a g)))
        (λ f. finished D r cuts leaves listed all f)
        (either (any_of (wants base pick cuts) leaves))

    -- From a set with finitely many cuts a closed set is reached in which every selected piece is cut.
    pub closed_exists_lem : (cuts : List Node) → CutList C cuts → Closing base C pick
    closed_exists_lem cuts listed = closing (cuts_left (3 * K) (leaves_of C cuts)) C stop cuts (leaves_of C cuts) listed (leaves_listed_lem C cuts listed) (omega arith)
