-- Two meshes that are taken back from one stored mesh by one request are the same bytes.
use Rattle.std.specs.Prelude.{◌≡◌, ℕ, ◌<◌}
use Rattle.std.proofs.Common.{sym, ◌∙◌}
use Rattle.laws_remaining.specs.InOrder.{same_count}
use Rattle.cuts_names.specs.Pieces.{Node}
use Rattle.cuts.specs.Sets.{Cuts, CutsWithin}
use Rattle.cuts.specs.Least.{there_within}
use Rattle.demands_words.specs.Words.{BaseMesh, Numbering, VerticesNumbered, RecordsNumbered}
use Rattle.demands_taken_back.specs.Words.{SameOrder}

-- ---- what a numbering of a smaller set finds in one of a larger, and in another of its own

-- So has every record.
pub record_in_lem : (b : BaseMesh) (D C : Cuts b.pieces) → CutsWithin D C → (N M : Numbering) → RecordsNumbered b D N → RecordsNumbered b C M → (r : ℕ) → r < N.records → (q : ℕ) × (q < M.records) × (M.node_at q ≡ N.node_at r)
record_in_lem b D C inside N M nr mr r h = mr.every (N.node_at r) (there_within D C inside (N.node_at r) (nr.there r h))

-- ---- two numberings of one set in one order

module _ (b : BaseMesh) (D D' : Cuts b.pieces) (same : (n : Node) → D.has n ≡ D'.has n) (N N' : Numbering)
    (nv : VerticesNumbered b D N) (nr : RecordsNumbered b D N) (nv' : VerticesNumbered b D' N') (nr' : RecordsNumbered b D' N') (order : SameOrder N N')
  where
    pub into : CutsWithin D D'
    into n t = sym (same n) ∙ t

    pub back : CutsWithin D' D
    back n t = same n ∙ t

    pub records : N.records ≡ N'.records
    records = same_count N.records N'.records N.node_at N'.node_at nr.once nr'.once (record_in_lem b D D' into N N' nr nr') (record_in_lem b D' D back N' N nr' nr) order.records
