-- The words of "Taken back". "The request names cut records in the selection's layout. A made vertex is taken away exactly when every record cut at it has two leaves as
-- children and all those records are named; named records that don't meet this stay cut. Records and vertices that remain close up in their order, and
-- the round rises by 1. The result is accepted by check and keeps the summed volume."
--
-- Read with demand 2's words beside it (`demands_words/specs/Words`), and with `cuts_coarser/specs/TakenAway`: `TakenAway`, over names; `Remains`: exactly the cuts at
-- vertices that are not taken away; `Coarser`: the sets that taking back named cuts with leaves as children can give, with no hanging edge.
use Rattle.std.specs.Prelude.{◌≡◌, true, false, ◌↔◌, ◌≢◌, ◌⊎◌, List, [], ℕ, ◌+◌, ◌≤◌, ◌<◌, length, replicate}
use Rattle.laws.specs.Lists.{zero_past}
use Rattle.stored.specs.Layout.{last_round, Stored, of_kind, StoredSelection, selection_of, named_in}
use Rattle.cuts_names.specs.Pieces.{Node}
use Rattle.cuts.specs.Sets.{Cuts, CutsWithin}
use Rattle.cuts.specs.Count.{LeafList}
use Rattle.cuts_coarser.specs.TakenAway.{Remains, Coarser}
use Rattle.cuts_coarser.specs.Remaining.{TakenList}
use Rattle.demands_words.specs.Words.{BaseMesh, named, Numbering, Stores, RightSet, StoredMesh, sixfold_at, sum_of, count_in, RightSelectionLength, RightSelectionMark, node_named, SelectedPiece}

-- ---- a request

-- A request that earns none of 11 to 15, 30 and 18, of a set C that is stored with this job, this round and these numbers.
pub record GoodRequest (job round : ℕ) (b : BaseMesh) (C : Cuts b.pieces) (N : Numbering) (request : StoredSelection) : Type 0 where
  -- not 11: "selection under 13 bytes, or length not 13 + 2n"
  pub length : RightSelectionLength request
  -- not 12: "selection's mark or version wrong"
  pub mark : RightSelectionMark request
  -- not 13: "another job"
  pub same_job : (selection_of request).job ≡ job
  -- not 14: "another round"
  pub same_round : (selection_of request).round ≡ round
  -- not 15: "numbers not strictly rising, or one not below the record count"
  pub rising : (i j : ℕ) → i < j → j < count_in request → named_in request i < named_in request j
  pub there : (i : ℕ) → i < count_in request → named_in request i < N.records
  -- not 30: "a named record that is uncut"
  pub cut : (i : ℕ) → i < count_in request → C.has (node_named N request i) ≡ true
  -- not 18: "the round is 65,535"
  pub not_last_round : round ≢ last_round

-- The pieces whose records are named.
abbrev pub NamedPiece : Numbering → StoredSelection → Node → Type 0
NamedPiece = SelectedPiece

-- The same of a stored mesh x: the request is good for it.
abbrev pub GoodRequestFor : {s : Stored} → StoredMesh s → StoredSelection → Type 0
GoodRequestFor x request = GoodRequest x.job x.round x.base x.cuts x.stores.numbers request

-- ---- what is handed back

-- "Records and vertices that remain close up in their order": of two vertices, or of two records, the one with the lower number before has the lower
-- number after. A vertex is known by its name, a record by its node.
pub record SameOrder (N N' : Numbering) : Type 0 where
  pub vertices : (u v u' v' : ℕ) → u < N.vertices → v < N.vertices → u' < N'.vertices → v' < N'.vertices →
      N.name_at u ≡ N'.name_at u' → N.name_at v ≡ N'.name_at v' → u < v → u' < v'
  pub records : (q r q' r' : ℕ) → q < N.records → r < N.records → q' < N'.records → r' < N'.records →
      N.node_at q ≡ N'.node_at q' → N.node_at r ≡ N'.node_at r' → q < r → q' < r'

-- The mesh that is left of a set C, stored with this job, this round and the numbers N, without the named cuts that can go.
pub record TakenBack (job round : ℕ) (b : BaseMesh) (C : Cuts b.pieces) (N : Numbering) (Named : Node → Type 0) (mesh : Stored) : Type 0 where
  pub set : Cuts b.pieces
  -- the same job, the same base; "the round rises by 1"
  pub stores : Stores mesh job (round + 1) b set
  -- no hanging edge, within 01's limits, or those of its kind: "accepted by check"
  pub right : RightSet mesh.kind.limits b set
  -- "A made vertex is taken away exactly when every record cut at it has two leaves as children and all those records are named": the set has exactly the
  -- cuts at vertices that are not taken away
  pub remains : Remains (named b) C Named set
  -- it is one of the coarser sets, and nothing coarser can be had
  pub coarser : Coarser (named b) C Named set
  pub nothing_coarser : (X : Cuts b.pieces) → Coarser (named b) C Named X → CutsWithin set X
  -- each cut that is taken back is one leaf less
  pub one_leaf_less : (before after taken : List Node) → LeafList C before → LeafList set after → TakenList C set taken → length before ≡ length after + length taken
  -- "Records and vertices that remain close up in their order"
  pub in_order : SameOrder N stores.numbers
  -- "keeps the summed volume"
  pub volume : (before after : List Node) → LeafList C before → LeafList set after → sum_of (sixfold_at b) after ≡ sum_of (sixfold_at b) before

-- The answer's number and bytes in one buffer: a mesh of the same kind as s, and zeros past it, or 20 and zeros where the buffer is shorter.
pub record TakenBackOrShort (s : Stored) (job round : ℕ) (b : BaseMesh) (C : Cuts b.pieces) (N : Numbering) (Named : Node → Type 0) (number : ℕ) (bytes : List ℕ) (room : ℕ) : Type 0 where
  pub mesh : List ℕ
  pub taken_back : TakenBack job round b C N Named (of_kind s mesh [])
  pub accepted_or_short : (number ≡ 0) ⊎ (number ≡ 20)
  pub fits : (number ≡ 0) ↔ (length mesh ≤ room)
  pub written : number ≡ 0 → bytes ≡ zero_past room mesh
  pub zeros : number ≡ 20 → bytes ≡ replicate room 0

-- The same of a stored mesh x and a request.
abbrev pub TakenBackFrom : {s : Stored} → StoredMesh s → StoredSelection → Stored → Type 0
TakenBackFrom x request mesh = TakenBack x.job x.round x.base x.cuts x.stores.numbers (NamedPiece x.stores.numbers request) mesh

abbrev pub TakenBackOrShortFrom : {s : Stored} → StoredMesh s → StoredSelection → ℕ → List ℕ → ℕ → Type 0
TakenBackOrShortFrom {s} x request number bytes room =
    TakenBackOrShort s x.job x.round x.base x.cuts x.stores.numbers (NamedPiece x.stores.numbers request) number bytes room

-- ---- what is asked of a service that takes cuts back, by its number and all bytes of its output buffer, for a mesh, a request and a buffer of so many bytes

pub record MeetsTakenBack (take_back : Stored → StoredSelection → ℕ → ℕ) (take_back_out : Stored → StoredSelection → ℕ → List ℕ) : Type 0 where
  -- For every stored mesh of a kind in one buffer, every good request and every buffer.
  pub taken_back : (s : Stored) → s.kind.two ≡ false → (x : StoredMesh s) (request : StoredSelection) → GoodRequestFor x request → (room : ℕ) →
      TakenBackOrShortFrom x request (take_back s request room) (take_back_out s request room) room
  -- A request is good exactly when the answer is 0 or 20 for every buffer.
  pub good_exactly : (s : Stored) (x : StoredMesh s) (request : StoredSelection) →
      GoodRequestFor x request ↔ ((room : ℕ) → (take_back s request room ≡ 0) ⊎ (take_back s request room ≡ 20))
