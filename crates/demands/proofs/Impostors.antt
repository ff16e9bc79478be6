-- "Four impostors have to be turned away." Each is a habit of some services, and a theorem says that services with that habit don't meet the demand to
-- which document 01 has them fall.
use Rattle.std.specs.Prelude.{◌≡◌, refl, true, false, ◌≢◌, ◌↔◌, List, [], ℕ, ◌≤◌, ◌<◌, get_or, ℤ}
use Rattle.std.proofs.Common.{sym, ap, ◌∙◌, ⊎_elim, arith}
use Rattle.laws.specs.Lists.{zero_past}
use Rattle.laws.specs.Below.{same_tests}
use Rattle.stored.specs.Layout.{kind1, Stored, of_kind, stored1, StoredSelection, named_in}
use Rattle.refine_meaning.specs.Rows.{k_coordinates, k_corners, K}
use Rattle.cuts_names.specs.Lists.{both_ways}
use Rattle.cuts_names.specs.Pieces.{Node}
use Rattle.cuts.specs.Sets.{Leaf}
use Rattle.demands_words.specs.Words.{full_size, StoredMesh, ArgumentTypes, count_in, SelectedPiece, Closes, GoodFor}
use Rattle.demands_words.specs.Services.{Services, ours}
use Rattle.demands.specs.Demand2.{MeetsDemand2, demand_2}
use Rattle.demands.specs.Demand3.{RefinedFrom, MeetsDemand3, demand_3, any_room, accepted_good, result}
use Rattle.demands_proofs.specs.WorkedMeshes.{k_types, k_accepts, k_job_7, k_job_8, k_next, none_named, first_named, k_raised, k_raised_again, k_next_cut, k_copied_round, k_raised_round, k_raised_again_round, none_counted, first_counted, k_stored, k_next_stored, k_first_round, k_later_round}

-- The selections are good.
none_good : GoodFor k_stored (none_named 0)
none_good = accepted_good (stored1 K) k_stored (none_named 0) 77 k_raised

none_good_again : GoodFor k_next_stored (none_named 1)
none_good_again = accepted_good (stored1 k_next) k_next_stored (none_named 1) 77 k_raised_again

first_good : GoodFor k_next_stored first_named
first_good = accepted_good (stored1 k_next) k_next_stored first_named 121 k_next_cut

-- ======== demand 2

module _ (S : Services) (m : MeetsDemand2 S) where
  -- Whoever meets demand 2 reports ours, on every stored mesh.
  pub reports_ours : (s : Stored) → StoredMesh s →
      ((S.check s).leaves ≡ (ours.check s).leaves) × ((S.check s).deepest ≡ (ours.check s).deepest) × ((S.check s).sixfold ≡ (ours.check s).sixfold)
  reports_ours s x =
      let theirs = m.figures s x in
      let own = demand_2.figures s x in
      let (n, leaf, is) = theirs.deepest_reached in
      let (n', leaf', is') = own.deepest_reached in
      let up = own.deepest_most n leaf in
      let down = theirs.deepest_most n' leaf' in (
        sym (theirs.leaves_are own.list own.listed) ∙ own.leaves_are own.list own.listed,
        omega (arith, is, is', up, down),
        sym (theirs.sixfold_is own.list own.listed) ∙ own.sixfold_is own.list own.listed,
      )

  -- It builds ours, for all arguments of build's types,
  pub builds_ours : (job : ℕ) (coordinates : List ℤ) (corners : List ℕ) → ArgumentTypes job coordinates corners → (room : ℕ) →
      ((S.build job coordinates corners room ≡ 0) ↔ (ours.build job coordinates corners room ≡ 0))
      × (S.build job coordinates corners room ≡ 0 → S.build_out job coordinates corners room ≡ ours.build_out job coordinates corners room)
  builds_ours job coordinates corners types room =
      let theirs = m.build_accepts job coordinates corners types room in
      let own = demand_2.build_accepts job coordinates corners types room in (
        (λ e. own.1 (theirs.0 e), λ e. theirs.1 (own.0 e)),
        λ e. m.marking job coordinates corners types room e ∙ sym (demand_2.marking job coordinates corners types room (own.1 (theirs.0 e))),
      )

  -- and refines to ours, from every stored mesh and good selection.
  pub refines_ours : (s : Stored) (x : StoredMesh s) (selection : StoredSelection) → GoodFor x selection → (room : ℕ) →
      ((S.refine s selection room ≡ 0) ↔ (ours.refine s selection room ≡ 0))
      × (S.refine s selection room ≡ 0 → S.refine_out s selection room ≡ ours.refine_out s selection room)
  refines_ours s x selection good room =
      let theirs = m.refine_accepts s x selection good room in
      let own = demand_2.refine_accepts s x selection good room in (
        (λ e. own.1 (theirs.0 e), λ e. theirs.1 (own.0 e)),
        λ e. m.closing s x selection good room e ∙ sym (demand_2.closing s x selection good room (own.1 (theirs.0 e))),
      )

  accepts_k : (job : ℕ) → job < 4294967296 → S.build job k_coordinates k_corners 77 ≡ 0
  accepts_k job small = (m.build_accepts job k_coordinates k_corners (k_types job small) 77).1 k_accepts

  builds_k : (job : ℕ) (small : job < 4294967296) → S.build_out job k_coordinates k_corners 77 ≡ ours.build_out job k_coordinates k_corners 77
  builds_k job small = (builds_ours job k_coordinates k_corners (k_types job small) 77).1 (accepts_k job small)

  raises_k : S.refine (stored1 K) (none_named 0) 77 ≡ 0
  raises_k = (refines_ours (stored1 K) k_stored (none_named 0) none_good 77).0.1 k_raised

  raises_k_again : S.refine (stored1 k_next) (none_named 1) 77 ≡ 0
  raises_k_again = (refines_ours (stored1 k_next) k_next_stored (none_named 1) none_good_again 77).0.1 k_raised_again

  -- "One that refuses everything": every mesh,
  pub refuses_every_mesh : ((s : Stored) → (S.check s).number ≢ 0) → ⊥
  refuses_every_mesh refuses = refuses (stored1 K) ((m.accepted_exactly (stored1 K)).1 k_stored).1

  -- every list,
  pub refuses_every_list : ((job : ℕ) (coordinates : List ℤ) (corners : List ℕ) (room : ℕ) → S.build job coordinates corners room ≢ 0) → ⊥
  refuses_every_list refuses = refuses 7 k_coordinates k_corners 77 (accepts_k 7 (omega arith))

  -- every selection.
  pub refuses_every_selection : ((mesh : Stored) (selection : StoredSelection) (room : ℕ) → S.refine mesh selection room ≢ 0) → ⊥
  refuses_every_selection refuses = refuses (stored1 K) (none_named 0) 77 raises_k

  -- "one that always hands back the same mesh": build, of jobs 7 and 8;
  pub builds_the_same_mesh : (same : List ℕ) →
      ((job : ℕ) (coordinates : List ℤ) (corners : List ℕ) (room : ℕ) → S.build job coordinates corners room ≡ 0 → S.build_out job coordinates corners room ≡ zero_past room same) → ⊥
  builds_the_same_mesh same habit =
      let seven = sym (habit 7 k_coordinates k_corners 77 (accepts_k 7 (omega arith))) ∙ builds_k 7 (omega arith) in
      let eight = sym (habit 8 k_coordinates k_corners 77 (accepts_k 8 (omega arith))) ∙ builds_k 8 (omega arith) in
      let both = ap (λ (l : List ℕ). get_or l 5 0) (sym seven ∙ eight) in
      omega (arith, both, k_job_7, k_job_8)

  -- refine, in rounds 0 and 1.
  pub refines_to_the_same_mesh : (same : List ℕ) →
      ((mesh : Stored) (selection : StoredSelection) (room : ℕ) → S.refine mesh selection room ≡ 0 → S.refine_out mesh selection room ≡ zero_past room same) → ⊥
  refines_to_the_same_mesh same habit =
      let first = sym (habit (stored1 K) (none_named 0) 77 raises_k) ∙ (refines_ours (stored1 K) k_stored (none_named 0) none_good 77).1 raises_k in
      let second = sym (habit (stored1 k_next) (none_named 1) 77 raises_k_again) ∙ (refines_ours (stored1 k_next) k_next_stored (none_named 1) none_good_again 77).1 raises_k_again in
      let both = ap (λ (l : List ℕ). get_or l 9 0) (sym first ∙ second) in
      omega (arith, both, k_raised_round, k_raised_again_round)

  -- "or copies its input".
  pub copies_its_input : ((mesh : Stored) (selection : StoredSelection) (room : ℕ) → S.refine mesh selection room ≡ 0 → S.refine_out mesh selection room ≡ zero_past room mesh.base) → ⊥
  copies_its_input habit =
      let out = sym (habit (stored1 K) (none_named 0) 77 raises_k) ∙ (refines_ours (stored1 K) k_stored (none_named 0) none_good 77).1 raises_k in
      let both = ap (λ (l : List ℕ). get_or l 9 0) out in
      omega (arith, both, k_raised_round, k_copied_round)

  -- "So does one that reports invented leaves, depth or volume": other than the set's, of some stored mesh.
  pub invents_leaves : (s : Stored) → StoredMesh s → (S.check s).leaves ≢ (ours.check s).leaves → ⊥
  invents_leaves s x other = other (reports_ours s x).0

  pub invents_depth : (s : Stored) → StoredMesh s → (S.check s).deepest ≢ (ours.check s).deepest → ⊥
  invents_depth s x other = other (reports_ours s x).1

  pub invents_volume : (s : Stored) → StoredMesh s → (S.check s).sixfold ≢ (ours.check s).sixfold → ⊥
  invents_volume s x other = other (reports_ours s x).2

-- ======== demand 3

module _ (S : Services) (m : MeetsDemand3 S) where
  -- Where something that closes fits, it is accepted.
  accepts : (s : Stored) (one : s.kind.two ≡ false) (x : StoredMesh s) (selection : StoredSelection) (good : GoodFor x selection) {bytes : List ℕ} {room' : ℕ} → RefinedFrom x selection bytes room' → (room : ℕ) (full_size : full_size s.kind ≤ room) → S.refine s selection room ≡ 0
  accepts s one x selection good r room full_size =
      let theirs = m.least_or_full s one x selection good room full_size in
      ⊎_elim (λ e. e) (λ e. absurd (theirs.full.0 e r.least.set r.least.one_of_them r.least.right.fits)) theirs.accepted_or_full

  -- Whoever meets demand 3 gives our number, and cuts just what ours cuts.
  pub cuts_ours : (s : Stored) (one : s.kind.two ≡ false) (x : StoredMesh s) (selection : StoredSelection) (good : GoodFor x selection) (room : ℕ) (full_size : full_size s.kind ≤ room) →
      ((S.refine s selection room ≡ 0) ↔ (ours.refine s selection room ≡ 0))
      × ((theirs : S.refine s selection room ≡ 0) (own : ours.refine s selection room ≡ 0) (n : Node) →
      ((m.least_or_full s one x selection good room full_size).refined theirs).least.set.has n ≡ ((demand_3.least_or_full s one x selection good room full_size).refined own).least.set.has n)
  cuts_ours s one x selection good room full_size =
      let theirs = m.least_or_full s one x selection good room full_size in
      let own = demand_3.least_or_full s one x selection good room full_size in (
        (
          λ e. let r = theirs.refined e in ⊎_elim (λ z. z) (λ full. absurd (own.full.0 full r.least.set r.least.one_of_them r.least.right.fits)) own.accepted_or_full,
          λ e. accepts s one x selection good (own.refined e) room full_size,
        ),
        λ e e' n.
            let r = theirs.refined e in
            let r' = own.refined e' in
            same_tests (r.least.set.has n) (r'.least.set.has n) (r.least.inside r'.least.set r'.least.one_of_them n) (r'.least.inside r.least.set r.least.one_of_them n),
      )

  -- "One that cuts everything fine in the first round": every leaf of a mesh of round 0 is cut in what it hands back, whatever is selected. "Its cuts aren't
  -- inside every other closing set": with an empty selection the old set closes.
  pub cuts_everything_at_first :
      ((s : Stored) (x : StoredMesh s) (selection : StoredSelection) (room : ℕ) → x.round ≡ 0 → S.refine s selection room ≡ 0 →
      (mesh : List ℕ) (y : StoredMesh (of_kind s mesh [])) → S.refine_out s selection room ≡ zero_past room mesh → (n : Node) → Leaf x.cuts n → y.cuts.has n ≡ true) → ⊥
  cuts_everything_at_first habit =
      let x = k_stored in
      let accepted = accepts (stored1 K) refl x (none_named 0) none_good (any_room (stored1 K) refl x (none_named 0) 77 k_raised) (full_size kind1) (omega arith) in
      let r = (m.least_or_full (stored1 K) refl x (none_named 0) none_good (full_size kind1) (omega arith)).refined accepted in
      let (n, leaf, is) = (demand_2.figures (stored1 K) x).deepest_reached in
      let cut = habit (stored1 K) x (none_named 0) (full_size kind1) k_first_round accepted r.mesh (result (stored1 K) x (none_named 0) (S.refine_out (stored1 K) (none_named 0) (full_size kind1)) (full_size kind1) r) r.written n leaf in
      both_ways (r.least.inside x.cuts old_closes n cut) leaf.uncut
    where
      old_closes : Closes k_stored.base k_stored.cuts (SelectedPiece k_stored.stores.numbers (none_named 0)) k_stored.cuts
      old_closes =
          record {
            keeps = λ n t. t;
            selected_cut = λ n (i, l, is). absurd (omega (arith, l, none_counted));
            none_hangs = k_stored.right.none_hangs;
            cuts = k_stored.right.fits.cuts;
            cuts_listed_lem = k_stored.right.fits.cuts_listed_lem;
          }

  -- "and afterwards only raises the round": in later rounds what was not cut is not cut in what it hands back. "In later rounds the selected pieces stay
  -- uncut."
  pub only_raises_later :
      ((s : Stored) (x : StoredMesh s) (selection : StoredSelection) (room : ℕ) → 0 < x.round → S.refine s selection room ≡ 0 →
      (mesh : List ℕ) (y : StoredMesh (of_kind s mesh [])) → S.refine_out s selection room ≡ zero_past room mesh → (n : Node) → x.cuts.has n ≡ false → y.cuts.has n ≡ false) → ⊥
  only_raises_later habit =
      let x = k_next_stored in
      let accepted = accepts (stored1 k_next) refl x first_named first_good (any_room (stored1 k_next) refl x first_named 121 k_next_cut) (full_size kind1) (omega arith) in
      let r = (m.least_or_full (stored1 k_next) refl x first_named first_good (full_size kind1) (omega arith)).refined accepted in
      let first : 0 < count_in first_named = omega (arith, first_counted) in
      let n = x.stores.numbers.node_at (named_in first_named 0) in
      let stays = habit (stored1 k_next) x first_named (full_size kind1) k_later_round accepted r.mesh (result (stored1 k_next) x first_named (S.refine_out (stored1 k_next) first_named (full_size kind1)) (full_size kind1) r) r.written n (first_good.uncut 0 first) in
      both_ways (r.least.one_of_them.selected_cut n (0, first, λ i. n)) stays
