-- From a stored set and a good request: the set that remains, and that the bytes of its numbering are taken back.
use Rattle.std.specs.Prelude.{◌≡◌, Bool, true, ◌↔◌, ℕ, ◌+◌}
use Rattle.laws.specs.Below.{any_below, any_is, any_where}
use Rattle.stored.specs.Layout.{Stored, stored_as, StoredSelection}
use Rattle.cuts_names.specs.Base.{Marked}
use Rattle.cuts_names.specs.Pieces.{Node}
use Rattle.cuts.specs.Sets.{Cuts}
use Rattle.cuts.specs.Least.{same_node, node_equality}
use Rattle.cuts_coarser.specs.TakenAway.{Remains}
use Rattle.cuts_coarser.proofs.Coarser.{remains_rests}
use Rattle.cuts_coarser.specs.Remaining.{remaining}
use Rattle.cuts_coarser.proofs.Remaining.{remaining_remains}
use Rattle.demands_words.specs.Words.{BaseMesh, named, Numbering, written, RightSet, StoredMesh, node_named, count_in}
use Rattle.demands_proofs.specs.MarkedBase.{properly_marked}
use Rattle.demands_taken_back.specs.Words.{GoodRequestFor, NamedPiece}
use Rattle.demands_taken_back.specs.Renumbered.{StillThere, numbers_left}
use Rattle.demands_taken_back.specs.Smaller.{smaller_right}

module _ (s : Stored) (x : StoredMesh s) (request : StoredSelection) where
  abbrev pub b : BaseMesh
  b = x.base

  abbrev pub C : Cuts b.pieces
  C = x.cuts

  abbrev pub N : Numbering
  N = x.stores.numbers

  abbrev pub Named : Node → Type 0
  Named = NamedPiece N request

  pub marked : Marked b.pieces (named b)
  marked = properly_marked b x.right.marked

  -- ---- the set that remains

  -- A piece is named, as a test.
  is_named : Node → Bool
  is_named n = any_below (count_in request) (λ i. same_node (node_named N request i) n)

  named_exactly : (n : Node) → (is_named n ≡ true) ↔ Named n
  unfolding is_named
  named_exactly n = (
    λ t. let (i, l, e) = any_where (λ i. same_node (node_named N request i) n) (count_in request) t in (i, l, node_equality.only (node_named N request i) n e),
    λ (i, l, e). any_is (λ i. same_node (node_named N request i) n) (count_in request) i l (rw e (node_equality.self n)),
  )

  -- The set without the cuts at vertices that are taken away.
  pub set : Cuts b.pieces
  set = remaining (named b) C Named is_named (λ n t. named_exactly n) x.right.fits.cuts x.right.fits.cuts_listed_lem

  pub set_remains : Remains (named b) C Named set
  unfolding set
  set_remains = remaining_remains (named b) C Named is_named (λ n t. named_exactly n) x.right.fits.cuts x.right.fits.cuts_listed_lem

  -- ---- what is stored

  module _ (good : GoodRequestFor x request) (D : Cuts b.pieces) (remains : Remains (named b) C Named D) where
    pub remains_right : RightSet s.kind.limits b D
    remains_right = smaller_right b C D remains.within s.kind.limits x.right (remains_rests marked C Named D remains x.right.none_hangs)

    -- The tests for what is still there may be any: the tables have their own.
    module _ (vertex_stays record_stays : ℕ → Bool) (still : StillThere b D N vertex_stays record_stays) where
      abbrev pub numbers : Numbering
      numbers = numbers_left b D N vertex_stays record_stays

      abbrev pub mesh : Stored
      mesh = stored_as s.kind s.right (written x.job (x.round + 1) b numbers)
