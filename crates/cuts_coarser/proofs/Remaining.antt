-- Of specs/Remaining.antt, the theorems that an edit of a definition breaks, and what only they need.
use Rattle.std.specs.Prelude.{◌≡◌, refl, Bool, ◌↔◌, List, ℕ}
use Rattle.std.proofs.Math.Path.{sym, ap₂}
use Rattle.std.proofs.Common.{ap, ◌∙◌, ⊎_elim}
use Rattle.std.proofs.Math.Bool.{true, false, not, ◌&&◌}
use borrow.Author.Tests.{not-true}
use Rattle.laws.specs.Below.{and_left, and_right, either, same_tests}
use Rattle.cuts_names.specs.Lists.{both_ways, not_so, any_of_where}
use Rattle.cuts_names.specs.Names.{Name, same_name, name_equality}
use Rattle.cuts_names.specs.Pieces.{Piece, low, high, Node, piece_at, makes}
use Rattle.cuts.specs.Sets.{Cuts}
use Rattle.cuts.specs.Least.{node_equality}
use Rattle.cuts.specs.Count.{CutList}
use Rattle.cuts_coarser.specs.TakenAway.{LeafChildren, CutAt, TakenAway, Remains}
use Rattle.cuts_coarser.specs.Remaining as Specs

module _ (base : ℕ → Piece Name) {count : ℕ} (C : Cuts count) (Named : Node → Type 0) where
  -- Where no piece is named all cuts remain.
  pub none_named : ((n : Node) → C.has n ≡ true → Named n → ⊥) → (D : Cuts count) → Remains base C Named D → (n : Node) → D.has n ≡ C.has n
  none_named none D d n =
      same_tests (D.has n) (C.has n) (d.within n)
      (λ t. ⊎_elim (λ u. u) (λ f. absurd (none n t (((d.gone n t).0 f).named n (record { is_cut_lem = t; makes_it = refl })))) (either (D.has n)))

  module _ (is_named : Node → Bool) where
    -- As specs/ has them.
    abbrev freed : Node → Bool
    freed = Specs.freed base C Named is_named

    abbrev held : List Node → Name → Bool
    held = Specs.held base C Named is_named

    module _ (exactly : (n : Node) → C.has n ≡ true → (is_named n ≡ true) ↔ Named n) (cuts : List Node) (listed : CutList C cuts) where
      -- As specs/ has them.
      abbrev holds : (x : Name) (n : Node) → CutAt base C x n → freed n ≡ false → held cuts x ≡ true
      holds = Specs.holds base C Named is_named exactly cuts listed

      abbrev freed_named : (n : Node) → C.has n ≡ true → freed n ≡ true → Named n × LeafChildren C n
      freed_named = Specs.freed_named base C Named is_named exactly cuts listed

      abbrev remaining : Cuts count
      remaining = Specs.remaining base C Named is_named exactly cuts listed

      -- A vertex that is held is held by such a cut.
      holder : (x : Name) → held cuts x ≡ true → (n : Node) × CutAt base C x n × (freed n ≡ false)
      unfolding Specs.held
      holder x h =
          let (n, a, t) = any_of_where node_equality (λ n. same_name (makes (piece_at base n)) x && not (freed n)) cuts h in (
            n,
            record { is_cut_lem = sym (listed.exact n) ∙ a; makes_it = name_equality.only (makes (piece_at base n)) x (and_left (same_name (makes (piece_at base n)) x) _ t) },
            not-true (freed n) (and_right (same_name (makes (piece_at base n)) x) _ t),
          )

      named_freed : (n : Node) → C.has n ≡ true → Named n → LeafChildren C n → freed n ≡ true
      unfolding Specs.freed
      named_freed n t named leaves = ap₂ ◌&&◌ ((exactly n t).1 named) (ap₂ ◌&&◌ (ap not (leaves low).uncut) (ap not (leaves high).uncut))

      -- A made vertex is taken away exactly where nothing holds it.
      pub taken_exactly : (n : Node) → C.has n ≡ true → (held cuts (makes (piece_at base n)) ≡ false) ↔ TakenAway base C Named (makes (piece_at base n))
      taken_exactly n t = (there, back)
        where
          x : Name
          x = makes (piece_at base n)

          free : held cuts x ≡ false → (m : Node) → CutAt base C x m → freed m ≡ true
          free h m a = ⊎_elim (λ f. f) (λ f. absurd (both_ways (holds x m a f) h)) (either (freed m))

          there : held cuts x ≡ false → TakenAway base C Named x
          there h =
              record {
                cut = n;
                made = record { is_cut_lem = t; makes_it = refl };
                leaf_children_lem = λ m a. (freed_named m a.is_cut_lem (free h m a)).1;
                named = λ m a. (freed_named m a.is_cut_lem (free h m a)).0;
              }

          back : TakenAway base C Named x → held cuts x ≡ false
          back taken =
              not_so (held cuts x)
              (λ h. let (m, a, f) = holder x h in both_ways (named_freed m a.is_cut_lem (taken.named m a) (taken.leaf_children_lem m a)) f)

      -- They are what remains.
      pub remaining_remains : Remains base C Named remaining
      unfolding Specs.remaining
      remaining_remains =
          record {
            within = λ n t. and_left (C.has n) _ t;
            gone = λ n t. (
              λ f. (taken_exactly n t).0 (rw t at f),
              λ taken. rw t ((taken_exactly n t).1 taken),
            );
          }
