-- Document 02: "a child has its parent's" material. So in tables the material of a record is that of the base record from which it comes; check sees to it that
-- children have their parent's, and a cut does. Assumes nothing.
use Rattle.std.specs.Prelude.{◌≡◌, true, false, not, ◌≢◌, eqb}
use Rattle.std.proofs.Math.Path.{sym, ap}
use Rattle.std.proofs.Common.{◌∙◌, subst, ⊎_elim, eqb-true}
use Prim.Native.Nat.{ℕ, suc, ◌+◌, ◌≤◌, ◌<◌}
use native.Mathlib.Omega.{arith}
use Rattle.std.proofs.lemmas.Bool.{eqb-false}
use Rattle.laws.specs.Below.{either}
use Rattle.piece.specs.declared.Piece.{Piece}
use Rattle.piece_cut.specs.Cut.{child_of, cut_of}
use Rattle.stored.specs.declared.Record.{Record}
use Rattle.mesh_tables.specs.Tables as Check
use Rattle.mesh_tables.specs.Tables.{all_records, piece_at, is_cut}
use Rattle.check_meaning.specs.Accepted.{RightMesh, first_child}
use Rattle.check_meaning.specs.Cuts.{is_cut_lem}
use Rattle.refine_cut.specs.Cut.{cut_at}
use Rattle.refine_pass.specs.Law.{cut_record_count, cut_records_stay}
use Rattle.cuts_names.specs.Lists.{both_ways}
use Rattle.cuts_names.specs.Pieces.{Node}
use Rattle.cuts.specs.Tables.{Lawful, child_on, node_of}
use Rattle.cuts.specs.LinkNames.{base_or_beyond}
use Rattle.cuts.specs.LinkNodes.{child_which, node_root, node_kid, every_record, linked}
use Rattle.cuts.specs.Sets.{Cuts}
use Rattle.cuts.specs.LinkGrown.{Grown}
use Rattle.demands_words.specs.Words.{BaseMesh, named}
use Rattle.demands_proofs.specs.Link.{link}
use Rattle.demands_proofs.specs.CutAppends.{first_record, second_record, cut_record_lem, piece_stays}

abbrev material_in : Check.Tables → ℕ → ℕ
material_in m r = (piece_at m r).material

-- Both children of cut record n have its material.
pub record HandsDown (m : Check.Tables) (n : ℕ) : Type 0 where
  pub first : (piece_at m (first_child m n)).material ≡ (piece_at m n).material
  pub second : (piece_at m (first_child m n + 1)).material ≡ (piece_at m n).material

abbrev pub AllHandDown : Check.Tables → Type 0
AllHandDown m = (n : ℕ) → n < all_records m → is_cut m n ≡ true → HandsDown m n

-- ---- the base record's material

-- Where children have their parent's material, a record has the material of the base record that its node's root names: it is handed down from cut to cut.
pub material_of_root : (m : Check.Tables) → Lawful (link m) → AllHandDown m → (r : ℕ) → r < all_records m → (piece_at m r).material ≡ (piece_at m (node_of (link m) r).root).material
material_of_root m l down =
    every_record (link m) l (λ r. material_in m r ≡ material_in m (node_of (link m) r).root)
    (λ r h. ap (λ (n : Node). material_in m n.root) (sym (node_root (link m) l r h)))
    (λ r h c same side.
    let d = down r h c in
    let child : material_in m (child_on (link m) r side) ≡ material_in m r =
    ⊎_elim
    (λ e. ap (material_in m) e ∙ d.first)
    (λ e. let next : suc (first_child m r) ≡ first_child m r + 1 = omega arith in ap (material_in m) (e ∙ next) ∙ d.second)
    (child_which (link m) r side) in
    child ∙ same ∙ ap (λ (n : Node). material_in m n.root) (sym (node_kid (link m) l r h c side)))

-- The tables have the materials of the base mesh b: each base record its piece's, and each child its parent's.
pub record Materials (m : Check.Tables) (b : BaseMesh) : Type 0 where
  pub base : (r : ℕ) → r < b.pieces → (piece_at m r).material ≡ b.material_at r
  pub down : AllHandDown m

-- So in tables that have grown from b every record has the material of the piece of b from which it comes.
pub material_of_base : (m : Check.Tables) (b : BaseMesh) (D : Cuts b.pieces) → Grown (named b) (link m) D → Materials m b → (r : ℕ) → r < all_records m → (piece_at m r).material ≡ b.material_at (node_of (link m) r).root
material_of_base m b D g x r h =
    material_of_root m g.lawful x.down r h
    ∙ x.base (node_of (link m) r).root (omega (arith, (linked (link m) g.lawful r h).rooted, g.represents.bases))

-- ---- what check accepts

-- "A child with another number gets 9."
pub right_hands_down : (m : Check.Tables) → RightMesh m → AllHandDown m
unfolding cut_of child_of
right_hands_down m a n h c =
    let x = a.cuts.cuts n h ((is_cut_lem m n).0 c) in
    record { first = ap (λ (p : Piece). p.material) x.first; second = ap (λ (p : Piece). p.material) x.second }

-- ---- what a cut leaves

module _ (m : Check.Tables) (lawful : Lawful (link m)) (n : ℕ) (there : n < all_records m) (down : AllHandDown m) where
  abbrev m' : Check.Tables
  m' = cut_at m n

  -- The record that is cut.
  itself : HandsDown m' n
  unfolding cut_of child_of
  itself =
      let number : first_child m' n ≡ all_records m = ap (λ (r : Record). r.first_child) (cut_record_lem m n there) in
      let next : first_child m' n + 1 ≡ suc (all_records m) = omega arith in
      let own = sym (ap (λ (p : Piece). p.material) (piece_stays m n there n there)) in
      record {
        first = ap (material_in m') number ∙ ap (λ (r : Record). r.piece.material) (first_record m n) ∙ own;
        second = ap (material_in m') next ∙ ap (λ (r : Record). r.piece.material) (second_record m n) ∙ own;
      }

  -- A record that was cut before.
  before : (k : ℕ) → k < all_records m → k ≢ n → is_cut m' k ≡ true → HandsDown m' k
  before k l ne c =
      let stays = cut_records_stay m n k l ne in
      let was : is_cut m k ≡ true = sym (ap (λ (r : Record). not (Check.uncut r)) stays) ∙ c in
      let inside = (lawful.properly_cut k l was).inside in
      let number : first_child m' k ≡ first_child m k = ap (λ (r : Record). r.first_child) stays in
      let own = sym (ap (λ (r : Record). r.piece.material) stays) in
      let child : (j : ℕ) → j < all_records m → material_in m' j ≡ material_in m j = λ j h. ap (λ (p : Piece). p.material) (piece_stays m n there j h) in
      record {
        first = ap (material_in m') number ∙ child (first_child m k) (omega arith) ∙ (down k l was).first ∙ own;
        second = ap (λ (j : ℕ). material_in m' (j + 1)) number ∙ child (first_child m k + 1) (omega arith) ∙ (down k l was).second ∙ own;
      }

  -- The two new records are leaves.
  leaves : (k : ℕ) → all_records m ≤ k → k < all_records m' → is_cut m' k ≡ false
  leaves k b h =
      ⊎_elim
      (λ t. ap (is_cut m') (eqb-true k (all_records m) t) ∙ ap (λ (r : Record). not (Check.uncut r)) (first_record m n))
      (λ f.
      let ne : k ≢ all_records m = eqb-false k (all_records m) f in
      let second : k ≡ suc (all_records m) = omega (arith, cut_record_count m n) in
      ap (is_cut m') second ∙ ap (λ (r : Record). not (Check.uncut r)) (second_record m n))
      (either (eqb k (all_records m)))

  -- After a cut children have their parent's material still.
  pub cut_hands_down : AllHandDown (cut_at m n)
  cut_hands_down k h c =
      ⊎_elim
      (λ l. ⊎_elim (λ t. subst (HandsDown m') (sym (eqb-true k n t)) itself) (λ f. before k l (eqb-false k n f) c) (either (eqb k n)))
      (λ b. absurd (both_ways c (leaves k b h)))
      (base_or_beyond k (all_records m))
