-- Demand 3. "From an accepted mesh, a full-size output buffer and a selection that earns none of refusals 11 to 18, consider every set of further
-- cuts that cuts each selected piece and leaves no hanging edge. Ours is one of them and is inside all of them, so none has fewer pieces; “tables
-- full” is answered exactly when none fits. Shared faces carry one mark, the summed volume is unchanged, and no piece is deeper than the least
-- multiple of three that reaches both the deepest piece before and the children of the selected ones."
--
-- The words are in `Words`: `GoodSelection`, `Closes` (the sets that close).
use Rattle.std.specs.Prelude.{◌≡◌, true, false, ◌↔◌, ◌≢◌, ◌⊎◌, List, [], ℕ, suc, ◌+◌, ◌*◌, ◌/◌, ◌≤◌, ◌<◌, max, length, replicate}
use Rattle.std.proofs.Common.{sym, ap, subst, ◌∙◌, arith}
use Rattle.laws.specs.Lists.{zero_past}
use Rattle.stored.specs.Layout.{mesh_bytes, Stored, of_kind, header_of, stored_as, StoredSelection, selection_of}
use Rattle.mesh_tables.specs.Tables.{Tables}
use Rattle.refine_pass.specs.Passes.{exceeds}
use Rattle.refine_service.specs.Refine.{closed, result_of}
use Rattle.refine_meaning.specs.Answer.{accepted_bytes}
use Rattle.cuts_names.specs.Base.{SameFace, marked_at}
use Rattle.cuts_names.specs.Pieces.{Node, generation, piece_at}
use Rattle.cuts.specs.Sets.{Cuts, Leaf, CutsWithin}
use Rattle.cuts.specs.Count.{LeafList}
use Rattle.demands_words.specs.Words.{BaseMesh, named, Fits, full_size, Stores, RightSet, StoredMesh, sixfold_at, sum_of, RightSelectionLength, RightSelectionMark, SelectedPiece, Closes, GoodFor}
use Rattle.demands_words.specs.Services.{Services, ours}
use Rattle.demands_proofs.specs.Inside.{set, set_inside, set_one_mark, set_no_deeper, set_none_fewer}
use Rattle.demands_proofs.specs.Result.{is_closed, result_stores, result_right, result_in_one}
use Rattle.demands_proofs.specs.Outcomes.{refined_within_lem}
use Rattle.demands_proofs.specs.ClosedProof as Proof
use Rattle.demands.specs.Demand2.{demand_2}

-- ---- of every kind: the least set that closes, or none

-- The mesh that the closing gives, of the kind that was read.
abbrev pub closed_mesh : Stored → StoredSelection → Stored
closed_mesh s selection = stored_as s.kind s.right (result_of (closed s selection))

-- The mesh stores a set D of cuts of the same base, with the same job and the next round.
pub record Least (job round : ℕ) (b : BaseMesh) (C : Cuts b.pieces) (selected : Node → Type 0) (mesh : Stored) : Type 0 where
  pub set : Cuts b.pieces
  pub stores : Stores mesh job (round + 1) b set
  -- no hanging edge, within 01's limits, or those of the kind
  pub right : RightSet mesh.kind.limits b set
  -- "Ours is one of them"
  pub one_of_them : Closes b C selected set
  -- "and is inside all of them"
  pub inside : (X : Cuts b.pieces) → Closes b C selected X → CutsWithin set X
  -- "so none has fewer pieces"
  pub none_fewer : (X : Cuts b.pieces) → Closes b C selected X → (ours theirs : List Node) → LeafList set ours → LeafList X theirs → length ours ≤ length theirs
  -- "Shared faces carry one mark": `marked_at` is the midpoint of the marked edge, by which the edge is named
  pub one_mark : (n m : Node) → Leaf set n → Leaf set m → (i j : ℕ) → i < 4 → j < 4 → SameFace (piece_at (named b) n) i (piece_at (named b) m) j →
      marked_at (piece_at (named b) n) i ≡ marked_at (piece_at (named b) m) j
  -- "the summed volume is unchanged"
  pub volume : (before after : List Node) → LeafList C before → LeafList set after → sum_of (sixfold_at b) after ≡ sum_of (sixfold_at b) before
  -- "no piece is deeper than the least multiple of three that reaches both the deepest piece before and the children of the selected ones": whatever
  -- multiple reaches both reaches every piece
  pub no_deeper : (k : ℕ) → ((n : Node) → Leaf C n → generation n ≤ 3 * k) → ((n : Node) → selected n → suc (generation n) ≤ 3 * k) → (n : Node) → Leaf set n → generation n ≤ 3 * k

-- The same of a stored mesh x and a selection.
abbrev pub LeastFrom : {s : Stored} → StoredMesh s → StoredSelection → Stored → Type 0
LeastFrom x selection mesh = Least x.job x.round x.base x.cuts (SelectedPiece x.stores.numbers selection) mesh

-- Where the closed tables don't exceed the kind's limits, what is written of them is the least; they exceed them "exactly when none fits".
pub record LeastOrNone (s : Stored) (x : StoredMesh s) (selection : StoredSelection) : Type 0 where
  pub least : exceeds s.kind.limits (closed s selection).header ≡ false → LeastFrom x selection (closed_mesh s selection)
  pub none : (exceeds s.kind.limits (closed s selection).header ≡ true)
      ↔ ((X : Cuts x.base.pieces) → Closes x.base x.cuts (SelectedPiece x.stores.numbers selection) X → Fits s.kind.limits x.base X → ⊥)

-- "Prove the cut, the closing and demand 3 once over the two limits and the number width" (document 02): for every kind, every stored mesh of it and every good selection.
pub least_or_none : (s : Stored) (x : StoredMesh s) (selection : StoredSelection) → GoodFor x selection → LeastOrNone s x selection
unfolding stored_as
least_or_none s x selection good =
    let same = Proof.few_of_closed s x selection good in
    record {
      least = λ within.
          let few = sym same ∙ within in
          let closes = Proof.closes s x selection good few in
          subst (λ (m : Tables). LeastFrom x selection (stored_as s.kind s.right (result_of m))) (sym (is_closed s x selection good))
          (record {
            set = set s x selection good;
            stores = result_stores s x selection good;
            right = result_right s x selection good few;
            one_of_them = closes;
            inside = set_inside s x selection good;
            none_fewer = set_none_fewer s x selection good closes.cuts closes.cuts_listed_lem;
            one_mark = set_one_mark s x selection good;
            volume = Proof.result_volume s x selection good few;
            no_deeper = set_no_deeper s x selection good;
          });
      none = (λ e. (Proof.exceeds_exactly s x selection good).0 (sym same ∙ e), λ n. same ∙ (Proof.exceeds_exactly s x selection good).1 n);
    }

-- ---- what is handed back in one buffer

-- What refine hands back where it accepts: the buffer holds a mesh of the same kind as s, all of it, and zeros past it.
pub record Refined (s : Stored) (job round : ℕ) (b : BaseMesh) (C : Cuts b.pieces) (selected : Node → Type 0) (bytes : List ℕ) (room : ℕ) : Type 0 where
  pub mesh : List ℕ
  pub fits_room : length mesh ≤ room
  pub written : bytes ≡ zero_past room mesh
  pub least : Least job round b C selected (of_kind s mesh [])

-- Demand 3, of refine's number and bytes.
pub record LeastOrFull (s : Stored) (job round : ℕ) (b : BaseMesh) (C : Cuts b.pieces) (selected : Node → Type 0) (number : ℕ) (bytes : List ℕ) (room : ℕ) : Type 0 where
  pub accepted_or_full : (number ≡ 0) ⊎ (number ≡ 19)
  -- "“tables full” is answered exactly when none fits"
  pub full : (number ≡ 19) ↔ ((X : Cuts b.pieces) → Closes b C selected X → Fits s.kind.limits b X → ⊥)
  pub full_zeros : number ≡ 19 → bytes ≡ replicate room 0
  pub refined : number ≡ 0 → Refined s job round b C selected bytes room

-- The same of a stored mesh x and a selection: what is accepted; number and bytes.
abbrev pub RefinedFrom : {s : Stored} → StoredMesh s → StoredSelection → List ℕ → ℕ → Type 0
RefinedFrom {s} x selection bytes room = Refined s x.job x.round x.base x.cuts (SelectedPiece x.stores.numbers selection) bytes room

abbrev pub LeastOrFullFrom : {s : Stored} → StoredMesh s → StoredSelection → ℕ → List ℕ → ℕ → Type 0
LeastOrFullFrom {s} x selection number bytes room = LeastOrFull s x.job x.round x.base x.cuts (SelectedPiece x.stores.numbers selection) number bytes room

-- ---- the demand

pub record MeetsDemand3 (S : Services) : Type 0 where
  -- For every stored mesh of a kind in one buffer, every good selection and every full-size buffer.
  pub least_or_full : (s : Stored) → s.kind.two ≡ false → (x : StoredMesh s) (selection : StoredSelection) → GoodFor x selection → (room : ℕ) → full_size s.kind ≤ room →
      LeastOrFullFrom x selection (S.refine s selection room) (S.refine_out s selection room) room

refined_least : (s : Stored) → s.kind.two ≡ false → (x : StoredMesh s) (selection : StoredSelection) → GoodFor x selection → (room : ℕ) → ours.refine s selection room ≡ 0 → RefinedFrom x selection (ours.refine_out s selection room) room
refined_least s one x selection good room e =
    let few = Proof.accepted_few s x selection good room e in
    record {
      mesh = mesh_bytes s.kind.format (result_of (closed s selection));
      fits_room = refined_within_lem s selection room e;
      written = accepted_bytes s selection room e;
      least =
          subst (LeastFrom x selection)
          (ap (λ (m : Tables). stored_as s.kind s.right (result_of m)) (is_closed s x selection good) ∙ result_in_one s x selection good few one ∙ ap (λ (m : Tables). of_kind s (mesh_bytes s.kind.format (result_of m)) []) (sym (is_closed s x selection good)))
          ((least_or_none s x selection good).least (Proof.few_of_closed s x selection good ∙ few));
    }

-- Ours meet it.
pub demand_3 : MeetsDemand3 ours
demand_3 =
    record {
      least_or_full = λ s one x selection good room full_size.
          record {
            accepted_or_full = Proof.zero_or_full s x selection good room full_size;
            full = Proof.full_exactly s x selection good room;
            full_zeros = Proof.full_clear s x selection good room;
            refined = refined_least s one x selection good room;
          };
    }

-- ---- what follows

-- With a buffer of any length, what is accepted is the same: full size is needed only for "0 or 19".
pub any_room : (s : Stored) → s.kind.two ≡ false → (x : StoredMesh s) (selection : StoredSelection) (room : ℕ) → ours.refine s selection room ≡ 0 → RefinedFrom x selection (ours.refine_out s selection room) room
any_room s one x selection room e = refined_least s one x selection (Proof.accepted_good s x selection room e) room e

-- "a selection that earns none of refusals 11 to 18": a good one is one whose number is none of them, whatever the buffer.
pub good_exactly : (s : Stored) (x : StoredMesh s) (selection : StoredSelection) →
    GoodFor x selection ↔ ((room : ℕ) → 11 ≤ ours.refine s selection room → ours.refine s selection room ≤ 18 → ⊥)
good_exactly = Proof.earned

-- What refine writes is a stored mesh again, with the same job and base and the next round: check accepts it.
abbrev pub result : (s : Stored) (x : StoredMesh s) (selection : StoredSelection) (bytes : List ℕ) (room : ℕ) (r : RefinedFrom x selection bytes room) → StoredMesh (of_kind s r.mesh [])
result s x selection bytes room r = record { job = x.job; round = x.round + 1; base = x.base; cuts = r.least.set; right = r.least.right; stores = r.least.stores }

-- As a number: the least multiple of three that reaches the depth reported before and every selected piece's child.
pub no_deeper_than : (s : Stored) (x : StoredMesh s) (selection : StoredSelection) (bytes : List ℕ) (room : ℕ) (r : RefinedFrom x selection bytes room)
    (children : ℕ) → ((n : Node) → SelectedPiece x.stores.numbers selection n → suc (generation n) ≤ children) →
    (ours.check (of_kind s r.mesh [])).deepest ≤ 3 * ((max (ours.check s).deepest children + 2) / 3)
no_deeper_than s x selection bytes room r children kids =
    let before = demand_2.figures s x in
    let after = demand_2.figures (of_kind s r.mesh []) (result s x selection bytes room r) in
    let (n, leaf, is) = after.deepest_reached in
    let k = (max (ours.check s).deepest children + 2) / 3 in
    let reach = r.least.no_deeper k (λ m l. let d = before.deepest_most m l in omega (arith, d)) (λ m c. let d = kids m c in omega (arith, d)) n leaf in
    omega (arith, is, reach)

-- "a choice of pieces belongs to one job and one round": a whole selection of another job gets 13 from a stored mesh, and one of another round 14, with any
-- buffer; so what is accepted is of this job and this round (`accepted_good`).
pub another_job_lem : (s : Stored) (x : StoredMesh s) (selection : StoredSelection) (room : ℕ) → RightSelectionLength selection → RightSelectionMark selection → (selection_of selection).job ≢ x.job → ours.refine s selection room ≡ 13
another_job_lem = Proof.gets_13

pub another_round_lem : (s : Stored) (x : StoredMesh s) (selection : StoredSelection) (room : ℕ) → RightSelectionLength selection → RightSelectionMark selection → (selection_of selection).job ≡ x.job → (selection_of selection).round ≢ x.round →
    ours.refine s selection room ≡ 14
another_round_lem = Proof.gets_14

pub accepted_good : (s : Stored) (x : StoredMesh s) (selection : StoredSelection) (room : ℕ) → ours.refine s selection room ≡ 0 → GoodFor x selection
accepted_good = Proof.accepted_good

-- "dead as soon as a refinement is accepted": a selection that was used gets 14 from every accepted mesh of that job with a higher round, with any
-- buffer. The result's round is one higher; no round is higher than 65,535, where 18 stops every further one, so it never comes round again.
pub used_is_dead : (s : Stored) (selection : StoredSelection) (room : ℕ) → ours.refine s selection room ≡ 0 →
    (later : Stored) → (ours.check later).number ≡ 0 → (header_of later).job ≡ (header_of s).job → (header_of s).round < (header_of later).round →
    (room' : ℕ) → ours.refine later selection room' ≡ 14
used_is_dead = Proof.used_refused
