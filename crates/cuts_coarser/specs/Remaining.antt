-- What remains exists and is one set; it is finite, and has one cut and one leaf less for each cut that is taken back.
use Rattle.std.specs.Prelude.{◌≡◌, refl, Bool, ◌||◌, ◌↔◌, List, ◌++◌, ℕ, ◌+◌, length}
use Rattle.std.proofs.Math.Path.{sym, ap₂}
use Rattle.std.proofs.Common.{ap, ◌∙◌, ⊎_elim, arith, length-append}
use Rattle.std.proofs.Math.Bool.{true, false, not, ◌&&◌}
use borrow.Author.Tests.{not-true}
use Rattle.laws.specs.Below.{and_left, and_right, or_second, either, same_tests}
use Rattle.cuts_names.specs.Lists.{both_ways, not_so, among, Distinct, any_of, any_of_is, passing, passing_among, passing_distinct, among_append, distinct_append, no_longer}
use Rattle.cuts_names.specs.Names.{Name, same_name, name_equality}
use Rattle.cuts_names.specs.Pieces.{Piece, Side, low, high, Node, kid, piece_at, makes}
use Rattle.cuts.specs.Sets.{Cuts, CutsWithin}
use Rattle.cuts.specs.Least.{same_node, node_equality}
use Rattle.cuts.specs.Count.{CutList, LeafList, leaves_count_lem}
use Rattle.cuts_coarser.specs.TakenAway.{LeafChildren, CutAt, Remains}

-- ---- it is one set

module _ (base : ℕ → Piece Name) {count : ℕ} (C : Cuts count) (Named : Node → Type 0) where
  -- Two sets that remain are the same.
  pub remains_one : (D E : Cuts count) → Remains base C Named D → Remains base C Named E → (n : Node) → D.has n ≡ E.has n
  remains_one D E d e n = same_tests (D.has n) (E.has n) (into D E d e) (into E D e d)
    where
      into : (D E : Cuts count) → Remains base C Named D → Remains base C Named E → D.has n ≡ true → E.has n ≡ true
      into D E d e t =
          let cut = d.within n t in
          ⊎_elim (λ u. u) (λ f. absurd (both_ways t ((d.gone n cut).1 ((e.gone n cut).0 f)))) (either (E.has n))

  -- ---- it exists, where the cuts can be listed and there is a test for the named ones

  module _ (is_named : Node → Bool) where
    -- A piece that is named and has leaves as children.
    unfoldable pub freed : Node → Bool
    freed n = is_named n && (not (C.has (kid n low)) && not (C.has (kid n high)))

    -- Some cut of the list at x is not freed: it holds x.
    unfoldable pub held : List Node → Name → Bool
    held cuts x = any_of (λ n. same_name (makes (piece_at base n)) x && not (freed n)) cuts

    module _ (exactly : (n : Node) → C.has n ≡ true → (is_named n ≡ true) ↔ Named n) (cuts : List Node) (listed : CutList C cuts) where
      -- A cut that is not freed holds its vertex.
      pub holds : (x : Name) (n : Node) → CutAt base C x n → freed n ≡ false → held cuts x ≡ true
      unfolding held
      holds x n a f =
          let same : same_name (makes (piece_at base n)) x ≡ true = rw a.makes_it (name_equality.self x) in
          any_of_is node_equality (λ n. same_name (makes (piece_at base n)) x && not (freed n)) cuts n (listed.exact n ∙ a.is_cut_lem)
          (ap₂ ◌&&◌ same (ap not f))

      -- A cut piece is freed exactly where it is named and has leaves as children.
      pub freed_named : (n : Node) → C.has n ≡ true → freed n ≡ true → Named n × LeafChildren C n
      unfolding freed
      freed_named n t f =
          let both = and_right (is_named n) _ f in (
            (exactly n t).0 (and_left (is_named n) _ f),
            λ side. record { there = t; uncut = uncut side both },
          )
        where
          uncut : (side : Side) → (not (C.has (kid n low)) && not (C.has (kid n high))) ≡ true → C.has (kid n side) ≡ false
          uncut low both = not-true (C.has (kid n low)) (and_left (not (C.has (kid n low))) _ both)
          uncut high both = not-true (C.has (kid n high)) (and_right (not (C.has (kid n low))) _ both)

      -- The cuts at vertices that some cut holds.
      unfoldable pub remaining : Cuts count
      remaining = record { has = has'; rooted = λ n t. C.rooted n (and_left (C.has n) _ t); closed = closed' }
        where
          has' : Node → Bool
          has' n = C.has n && held cuts (makes (piece_at base n))

          closed' : (n : Node) (side : Side) → has' (kid n side) ≡ true → has' n ≡ true
          closed' n side t =
              let kid_cut = and_left (C.has (kid n side)) _ t in
              let cut = C.closed n side kid_cut in
              let busy : freed n ≡ false = not_so (freed n) (λ f. both_ways kid_cut ((freed_named n cut f).1 side).uncut) in
              ap₂ ◌&&◌ cut (holds (makes (piece_at base n)) n (record { is_cut_lem = cut; makes_it = refl }) busy)

-- ---- how many

-- A list of all cuts that are taken back: those of C that D does not have.
pub record TakenList {count : ℕ} (C D : Cuts count) (l : List Node) : Type 0 where
  pub distinct : Distinct same_node l
  pub exact : (n : Node) → among same_node n l ≡ (C.has n && not (D.has n))

module _ {count : ℕ} (C D : Cuts count) (inside : CutsWithin D C) where
  -- The cuts that remain, of a list of all cuts, are a list of all that remain; so a finite set stays finite.
  pub remaining_listed : (cuts : List Node) → CutList C cuts → CutList D (passing D.has cuts)
  remaining_listed cuts listed =
      record {
        distinct = passing_distinct node_equality D.has cuts listed.distinct;
        exact =
            λ n.
            passing_among node_equality D.has n cuts
            ∙ ap (λ (b : Bool). b && D.has n) (listed.exact n)
            ∙ same_tests (C.has n && D.has n) (D.has n) (λ t. and_right (C.has n) (D.has n) t) (λ t. ap₂ ◌&&◌ (inside n t) t);
      }

  -- The others are a list of all that are taken back.
  pub taken_listed : (cuts : List Node) → CutList C cuts → TakenList C D (passing (λ n. not (D.has n)) cuts)
  taken_listed cuts listed =
      record {
        distinct = passing_distinct node_equality (λ n. not (D.has n)) cuts listed.distinct;
        exact = λ n. passing_among node_equality (λ m. not (D.has m)) n cuts ∙ ap (λ (b : Bool). b && not (D.has n)) (listed.exact n);
      }

  module _ (cuts after taken : List Node) (listed : CutList C cuts) (remain : CutList D after) (back : TakenList C D taken) where
    -- Each that is taken back is one cut less.
    pub one_cut_less : length cuts ≡ length after + length taken
    one_cut_less =
        let is_either : (n : Node) → among same_node n (after ++ taken) ≡ (D.has n || (C.has n && not (D.has n))) =
        λ n. among_append node_equality n after taken ∙ ap₂ ◌||◌ (remain.exact n) (back.exact n) in
        let apart = distinct_append node_equality after taken remain.distinct back.distinct
        (λ n t. back.exact n ∙ not_so _ (λ u. both_ways (sym (remain.exact n) ∙ t) (not-true (D.has n) (and_right (C.has n) _ u)))) in
        let more = no_longer node_equality (after ++ taken) cuts apart
        (λ n t.
        listed.exact n
        ∙ ⊎_elim
        (λ d. inside n d)
        (λ f. and_left (C.has n) _ (or_second (D.has n) _ f (sym (is_either n) ∙ t)))
        (either (D.has n))) in
        let less = no_longer node_equality cuts (after ++ taken) listed.distinct
        (λ n t.
        is_either n
        ∙ ⊎_elim
        (λ (d : D.has n ≡ true). rw d)
        (λ (f : D.has n ≡ false). rw f (ap₂ ◌&&◌ (sym (listed.exact n) ∙ t) refl))
        (either (D.has n))) in
        omega (arith, more, less, length-append after taken)

    -- And one leaf less.
    pub one_leaf_less : (leaves remaining : List Node) → LeafList C leaves → LeafList D remaining → length leaves ≡ length remaining + length taken
    one_leaf_less leaves remaining all rest = omega (arith, one_cut_less, leaves_count_lem C cuts listed leaves all, leaves_count_lem D after remain remaining rest)
