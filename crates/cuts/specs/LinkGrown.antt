-- Tables that were grown cut by cut: they represent a set of cuts of the base that they were grown from.
use Rattle.std.specs.Prelude.{◌≡◌, false, ◌⊎◌, ℕ, ◌<◌}
use Rattle.std.proofs.Common.{inl, inr, ⊎_elim, arith}
use Rattle.cuts_names.specs.Names.{Name}
use Rattle.cuts_names.specs.Pieces.{Piece, Node}
use Rattle.cuts.specs.Sets.{Cuts, HangsAt, Hangs, NoneHangs}
use Rattle.cuts_names.specs.Macro.{Alike}
use Rattle.cuts.specs.Least.{OneMore, adding, adding_is, Reaches, cut}
use Rattle.cuts.specs.Tables.{Tables, Lawful, HangsIn, piece_of, node_of, Represents, Appended}
use Rattle.cuts.specs.LinkAlike.{alike_back, alike_then, hangs_alike_lem}
use Rattle.cuts.specs.LinkSets.{node_there, uncut_leaf_lem, leaf_uncut_lem, hangs_at_lem, hangs_in_lem}
use Rattle.cuts.specs.LinkAppend.{append_lawful_lem, append_represents_lem, pieces_stay}

-- Lawful tables that represent the set D of cuts of this base.
pub record Grown (base : ℕ → Piece Name) (t : Tables) {count : ℕ} (D : Cuts count) : Type 0 where
  pub lawful : Lawful t
  pub represents : Represents t D
  pub alike : (r : ℕ) → r < count → Alike (piece_of t r) (base r)

module _ {base : ℕ → Piece Name} {t : Tables} {count : ℕ} {D : Cuts count} (g : Grown base t D) where
  -- An edge of a record that hangs in the tables hangs in the set, over this base.
  pub grown_hangs : (n : ℕ) → n < t.records → (e : ℕ) → HangsIn t n e → HangsAt base D (node_of t n) e
  grown_hangs n h e x =
      hangs_alike_lem (piece_of t) base g.alike D (node_of t n) (node_there t g.lawful D g.represents n h) e (hangs_at_lem t g.lawful D g.represents n h e x)

  -- An edge that hangs in the set hangs in the tables.
  pub hangs_grown : (n : ℕ) → n < t.records → (e : ℕ) → HangsAt base D (node_of t n) e → HangsIn t n e
  hangs_grown n h e x =
      hangs_in_lem t g.lawful D g.represents n h e
      (hangs_alike_lem base (piece_of t) (λ r b. alike_back (g.alike r b)) D (node_of t n) (node_there t g.lawful D g.represents n h) e x)

  -- Where no uncut record hangs, no leaf of the set does.
  pub grown_rests_lem : ((n e : ℕ) → n < t.records → t.cut n ≡ false → HangsIn t n e → ⊥) → NoneHangs base D
  grown_rests_lem none n f (e, x) =
      let (c, h, u, q) = leaf_uncut_lem t g.lawful D g.represents n f in none c e h u (hangs_grown c h e (rw q x))

  module _ {n w : ℕ} {t' : Tables} (h : n < t.records) (u : t.cut n ≡ false) (a : Appended t n w t') where
    -- Appending one cut to the tables adds its node to the set.
    pub grown_append : (E : Cuts count) → OneMore D (node_of t n) E → Grown base t' E
    grown_append E more =
        record {
          lawful = append_lawful_lem g.lawful h u a;
          represents = append_represents_lem g.lawful h u a D g.represents E more;
          alike = λ r b. alike_then (pieces_stay g.lawful h u a r (omega (arith, g.represents.bases, g.lawful.record_counts))) (g.alike r b);
        }

    -- A selected or a hanging record may be cut: what the new tables represent is reached too.
    pub grown_reaches : {S : Node → Type 0} {C : Cuts count} → Reaches base S C D → S (node_of t n) ⊎ ((e : ℕ) × HangsIn t n e) → (E : Cuts count) × Reaches base S C E × Grown base t' E
    grown_reaches {S} {C} reached why =
        let leaf = uncut_leaf_lem t g.lawful D g.represents n h u in
        let E = adding D (node_of t n) leaf.there in
        let more : OneMore D (node_of t n) E = adding_is D (node_of t n) leaf.there in
        let ground : S (node_of t n) ⊎ Hangs base D (node_of t n) = ⊎_elim (λ s. inl s) (λ (e, x). inr (e, grown_hangs n h e x)) why in
        (E, cut reached (node_of t n) leaf ground more, grown_append E more)
