-- What remains has no hanging edge, and nothing coarser can be had from named cuts that have leaves as children.
use Rattle.std.specs.Prelude.{◌≡◌, true, ℕ}
use Rattle.cuts_names.specs.Lists.{both_ways}
use Rattle.cuts_names.specs.Names.{Name}
use Rattle.cuts_names.specs.Pieces.{Piece, makes, Node, piece_at}
use Rattle.cuts_names.specs.Base.{Marked}
use Rattle.cuts.specs.Sets.{Cuts}
use Rattle.cuts_coarser.specs.TakenAway.{TakenAway, Remains}

-- ---- the edges of a piece that its cut leaves whole

module _ {count : ℕ} {base : ℕ → Piece Name} (marked : Marked count base) (C : Cuts count) (Named : Node → Type 0) where
  module _ (D : Cuts count) (r : Remains base C Named D) where
    -- No cut that remains is at a vertex that is taken away.
    pub none_at_taken : (x : Name) → TakenAway base C Named x → (n : Node) → D.has n ≡ true → makes (piece_at base n) ≡ x → ⊥
    none_at_taken x t n is_cut e = both_ways is_cut ((r.gone n (r.within n is_cut)).1 (rw e t))
