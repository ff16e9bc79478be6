-- Records and nodes: every record's shape, corners and generation are those of its node, and no two records have the same node.
use Rattle.std.specs.Prelude.{◌≡◌, refl, Bool, false, ◌||◌, ◌⊎◌, length}
use Rattle.std.proofs.Math.Path.{sym, ap}
use Rattle.std.proofs.Common.{ap₂, ◌∙◌, subst, arith, eqb-true, eq-eqb, ne_eqb, lt-ltb, le-ltb}
use Rattle.std.proofs.Math.Bool.{true, cond, ◌&&◌}
use Rattle.std.proofs.Math.Logic.{inl, inr, ⊎_elim}
use mathlib.Core.List.{List, [], ◌∷◌}
use Prim.Native.Nat.{ℕ, suc, ◌≤◌, ◌<◌}
use Rattle.std.proofs.Math.Dec.{eqb}
use Rattle.laws.specs.Below.{either, and_left, and_right, or_true, or_second, any_is, first_where}
use Rattle.piece_edges.specs.Edges.{low_slot, high_slot}
use Rattle.piece.specs.Shape.{slot_a, slot_b, Valid}
use Rattle.cuts_names.specs.Lists.{either_has}
use Rattle.cuts_names.specs.Names.{Name, mid}
use Rattle.cuts_names.specs.Pieces.{Piece, Side, low, high, end_at, renamed, child_renamed, child_with, child, Node, kid, makes, piece_at, piece_root_lem, piece_kid_lem}
use Rattle.cuts_names.specs.Macro.{Alike, side_valid}
use Rattle.cuts_names.proofs.Macro.{child_alike}
use Rattle.cuts.specs.LinkAlike.{alike_self, alike_then, kids_alike}
use Rattle.cuts.specs.Smaller.{by_smaller, one_step}
use Rattle.cuts.specs.Tables.{Tables, low_first, lower_end, higher_end, Midpoint, ChildOf, ProperlyCut, IsChild, Lawful, name_of, piece_of, child_on, parent_of, side_of, node_step, node_of}
use Rattle.cuts.specs.LinkNames.{base_or_beyond, pair_mid, name_made}

-- ---- children by side

module _ (t : Tables) (r : ℕ) where
  -- The child on a side is the first child or the second.
  pub child_which : (side : Side) → (child_on t r side ≡ t.first r) ⊎ (child_on t r side ≡ suc (t.first r))
  unfolding child_on
  child_which low = ⊎_elim (λ e. inr (rw e)) (λ e. inl (rw e)) (either (low_first t r))
  child_which high = ⊎_elim (λ e. inl (rw e)) (λ e. inr (rw e)) (either (low_first t r))

  -- Each of the two children is the one on some side.
  pub which_side : (c : ℕ) → (c ≡ t.first r) ⊎ (c ≡ suc (t.first r)) → (side : Side) × (c ≡ child_on t r side)
  unfolding child_on
  which_side c w =
      ⊎_elim
      (λ (e : low_first t r ≡ true). ⊎_elim (λ a. (high, rw e a)) (λ a. (low, rw e a)) w)
      (λ (e : low_first t r ≡ false). ⊎_elim (λ a. (low, rw e a)) (λ a. (high, rw e a)) w)
      (either (low_first t r))

  -- The children on the two sides are not the same record.
  pub sides_apart : child_on t r low ≡ child_on t r high → ⊥
  unfolding child_on
  sides_apart s =
      ⊎_elim
      (λ (e : low_first t r ≡ true). let q : suc (t.first r) ≡ t.first r = rw e at s in omega arith)
      (λ (e : low_first t r ≡ false). let q : t.first r ≡ suc (t.first r) = rw e at s in omega arith)
      (either (low_first t r))

  -- So the child is on one side only.
  pub same_side_lem : (side side' : Side) → child_on t r side ≡ child_on t r side' → side ≡ side'
  same_side_lem low low e = refl
  same_side_lem low high e = absurd (sides_apart e)
  same_side_lem high low e = absurd (sides_apart (sym e))
  same_side_lem high high e = refl

  -- The child on a side has the midpoint in that side's slot.
  pub child_on_lem : (x : ProperlyCut t r) (side : Side) → ChildOf t r x.w (end_at (t.shape r) side) t (child_on t r side)
  unfolding child_on lower_end higher_end slot_a slot_b
  child_on_lem x side = ⊎_elim (λ e. straight e side) (λ e. crossed e side) (either (low_first t r))
    where
      straight : low_first t r ≡ true → (side : Side) → ChildOf t r x.w (end_at (t.shape r) side) t (child_on t r side)
      straight e low = rw e (rw e at x.second_child)
      straight e high = rw e (rw e at x.first_child)

      crossed : low_first t r ≡ false → (side : Side) → ChildOf t r x.w (end_at (t.shape r) side) t (child_on t r side)
      crossed e low = rw e (rw e at x.first_child)
      crossed e high = rw e (rw e at x.second_child)

  -- The midpoint's parents are the two ends of the refinement edge.
  pub midpoint_name : (w : ℕ) → Midpoint t w r → mid (name_of t (t.p w)) (name_of t (t.q w)) ≡ makes (piece_of t r)
  unfolding lower_end higher_end
  midpoint_name w m =
      let a = t.corner r (low_slot (t.shape r).edge) in
      let b = t.corner r (high_slot (t.shape r).edge) in
      pair_mid t (t.p w) (t.q w) a b
      (⊎_elim (λ (e : low_first t r ≡ true). inl (rw e at m.lower, rw e at m.higher)) (λ (e : low_first t r ≡ false). inr (rw e at m.lower, rw e at m.higher)) (either (low_first t r)))

  -- Over names, such a child is the piece's child.
  pub child_piece : (w : ℕ) (side : Side) → ChildOf t r w (end_at (t.shape r) side) t (child_on t r side) → name_of t w ≡ makes (piece_of t r) → Alike (piece_of t (child_on t r side)) (child (piece_of t r) side)
  unfolding child child_with renamed
  child_piece w side y e =
      let q : Piece ℕ = record { shape = t.shape r; corner = t.corner r } in
      let here : Alike (piece_of t (child_on t r side)) (renamed (name_of t) (child_with w q side)) = record { shape = y.shape; corner = λ j b. ap (name_of t) (y.corner j b) } in
      alike_then (subst (λ (x : Piece Name). Alike (piece_of t (child_on t r side)) x) (child_renamed (name_of t) w q side) here) (child_alike (alike_self (piece_of t r)) e side)

-- A record beyond the base: the cut record whose child it is, and the side.
pub record Parent (t : Tables) (c : ℕ) : Type 0 where
  pub number : ℕ
  pub below : number < c
  pub cut : t.cut number ≡ true
  pub side : Side
  pub is : c ≡ child_on t number side

-- What a record and its node have in common.
pub record Linked (t : Tables) (c : ℕ) : Type 0 where
  pub piece : Alike (piece_of t c) (piece_at (piece_of t) (node_of t c))
  pub generation : t.generation c ≡ length (node_of t c).path
  pub rooted : (node_of t c).root < t.base_records
  pub valid : Valid (t.shape c)
  pub corners : (k : ℕ) → k < 4 → t.corner c k < t.vertices

-- Children with the same node are on the same side of parents with the same node.
pub same_kid : {m n : Node} {side side' : Side} → kid m side ≡ kid n side' → (m ≡ n) × (side ≡ side')
same_kid {m} {n} {side} {side'} e =
    let p : side ∷ m.path ≡ side' ∷ n.path = ap (λ (x : Node). x.path) e in
    let q : m.path ≡ n.path = cc in
    (ap₂ (λ (r : ℕ) (l : List Side). record { root = r; path = l }) (ap (λ (x : Node). x.root) e) q, cc)

-- A base piece is no child.
pub root_no_kid : (r : ℕ) (n : Node) (side : Side) → record { root = r; path = [] } ≡ kid n side → ⊥
root_no_kid r n side e = let z : 0 ≡ suc (length n.path) = ap (λ (m : Node). length m.path) e in omega arith

module _ (t : Tables) (l : Lawful t) where
  -- The children of a cut record stand behind it, inside the table.
  pub child_inside : (r : ℕ) → r < t.records → t.cut r ≡ true → (side : Side) → (r < child_on t r side) × (child_on t r side < t.records)
  child_inside r h c side =
      let x = l.properly_cut r h c in
      ⊎_elim (λ e. (omega (arith, x.greater), omega (arith, x.inside))) (λ e. (omega (arith, x.greater), omega (arith, x.inside))) (child_which t r side)

  -- A child has a generation, and so is no base record.
  pub child_beyond : (r : ℕ) → r < t.records → t.cut r ≡ true → (side : Side) → t.base_records ≤ child_on t r side
  child_beyond r h c side =
      ⊎_elim
      (λ b. absurd (omega (arith, l.base_generation (child_on t r side) b, (child_on_lem t r (l.properly_cut r h c) side).generation)))
      (λ b. b)
      (base_or_beyond (child_on t r side) t.base_records)

  is_child : (r : ℕ) → r < t.records → t.cut r ≡ true → (side : Side) → IsChild t r (child_on t r side)
  is_child r h c side = record { inside = h; cut = c; which = child_which t r side }

  -- Each record beyond the base is the child of one cut record.
  pub parent : (c : ℕ) → t.base_records ≤ c → c < t.records → Parent t c
  parent c b h =
      let (r, i) = l.has_parent c b h in
      let (side, e) = which_side t r c i.which in
      record { number = r; below = omega (arith, (child_inside r i.inside i.cut side).0); cut = i.cut; side = side; is = e }

  -- A child belongs to one record and one side.
  pub child_once : (r s : ℕ) → r < t.records → s < t.records → t.cut r ≡ true → t.cut s ≡ true → (side side' : Side) → child_on t r side ≡ child_on t s side' → (r ≡ s) × (side ≡ side')
  child_once r s hr hs cr cs side side' e =
      let q : r ≡ s =
      l.one_parent (child_on t r side) (child_beyond r hr cr side) (child_inside r hr cr side).1 r s (is_child r hr cr side) (rw e (is_child s hs cs side')) in
      (q, same_side_lem t r side side' (e ∙ ap (λ (x : ℕ). child_on t x side') (sym q)))

  -- ---- the search for the parent

  module _ (r : ℕ) (h : r < t.records) (cut : t.cut r ≡ true) (side : Side) where
    abbrev it : ℕ
    it = child_on t r side

    is_parent : ℕ → Bool
    is_parent s = t.cut s && (eqb it (child_on t s low) || eqb it (child_on t s high))

    either_side : (s : ℕ) → (eqb it (child_on t s low) || eqb it (child_on t s high)) ≡ true → (side' : Side) × (it ≡ child_on t s side')
    either_side s e =
        ⊎_elim
        (λ yes. (low, eqb-true it (child_on t s low) yes))
        (λ no. (high, eqb-true it (child_on t s high) (or_second (eqb it (child_on t s low)) _ no e)))
        (either (eqb it (child_on t s low)))

    some_side : (side' : Side) → it ≡ child_on t r side' → (eqb it (child_on t r low) || eqb it (child_on t r high)) ≡ true
    some_side low e = ap (λ (b : Bool). b || eqb it (child_on t r high)) (eq-eqb it (child_on t r low) e)
    some_side high e = ap (λ (b : Bool). eqb it (child_on t r low) || b) (eq-eqb it (child_on t r high) e) ∙ or_true (eqb it (child_on t r low))

    -- It finds the record.
    parent_found : parent_of t it ≡ r
    unfolding parent_of is_parent
    parent_found =
        let (b, p, none) = first_where is_parent t.records (any_is is_parent t.records r h (ap₂ ◌&&◌ cut (some_side side refl))) in
        let s = parent_of t it in
        let c : t.cut s ≡ true = and_left (t.cut s) _ p in
        let (side', e) = either_side s (and_right (t.cut s) (eqb it (child_on t s low) || eqb it (child_on t s high)) p) in
        sym (child_once r s h b cut c side side' e).0

    -- And the side.
    side_found : side_of t it ≡ side
    unfolding side_of
    side_found = rw parent_found (at side)
      where
        at : (side : Side) → cond (eqb (child_on t r side) (child_on t r low)) low high ≡ side
        at low = rw (eq-eqb (child_on t r low) (child_on t r low) refl)
        at high = rw (ne_eqb (child_on t r high) (child_on t r low) (λ e. sides_apart t r (sym e)))

  -- ---- the nodes of records

  node_step_lem : (c : ℕ) → c < t.records → node_of t c ≡ node_step t (node_of t) c
  unfolding node_of node_step
  node_step_lem c h = one_step (record { root = 0; path = [] }) (node_step t) t.records smaller c h
    where
      smaller : (c : ℕ) → c < t.records → (f g : ℕ → Node) → ((d : ℕ) → d < c → f d ≡ g d) → node_step t f c ≡ node_step t g c
      smaller c h f g same =
          ⊎_elim
          (λ b. rw (lt-ltb c t.base_records b))
          (λ b.
          let x = parent c b h in
          let found : parent_of t c ≡ x.number = ap (parent_of t) x.is ∙ parent_found x.number (omega (arith, x.below)) x.cut x.side in
          rw (le-ltb c t.base_records b) (ap (λ (n : Node). kid n (side_of t c)) (same (parent_of t c) (omega (arith, found, x.below)))))
          (base_or_beyond c t.base_records)

  -- A base record's node is its root.
  pub node_root : (r : ℕ) → r < t.base_records → node_of t r ≡ record { root = r; path = [] }
  unfolding node_step
  node_root r h = node_step_lem r (omega (arith, l.record_counts)) ∙ rw (lt-ltb r t.base_records h)

  -- A child's node is its parent's child on its side.
  pub node_kid : (r : ℕ) → r < t.records → t.cut r ≡ true → (side : Side) → node_of t (child_on t r side) ≡ kid (node_of t r) side
  unfolding node_step
  node_kid r h c side =
      node_step_lem (child_on t r side) (child_inside r h c side).1
      ∙ rw (le-ltb (child_on t r side) t.base_records (child_beyond r h c side), parent_found r h c side, side_found r h c side)

  -- A record beyond the base has its parent's node and a side.
  pub node_parent : (c : ℕ) → (x : Parent t c) → c < t.records → node_of t c ≡ kid (node_of t x.number) x.side
  node_parent c x h = ap (node_of t) x.is ∙ node_kid x.number (omega (arith, x.below)) x.cut x.side

  -- What holds of the base records, and of the children of every record of which it holds, holds of every record.
  pub every_record : (P : ℕ → Type 0) → ((r : ℕ) → r < t.base_records → P r) → ((r : ℕ) → r < t.records → t.cut r ≡ true → P r → (side : Side) → P (child_on t r side)) → (c : ℕ) → c < t.records → P c
  every_record P at_base at_child =
      by_smaller (λ c. c < t.records → P c)
      (λ c below h.
      ⊎_elim (λ b. at_base c b)
      (λ b.
      let x = parent c b h in
      let in_it : x.number < t.records = omega (arith, x.below) in
      rw x.is (at_child x.number in_it x.cut (below x.number x.below in_it) x.side))
      (base_or_beyond c t.base_records))

  -- Every record's shape, corners and generation are those of its node's piece; it is valid, and its corners are vertices.
  pub linked : (c : ℕ) → c < t.records → Linked t c
  linked = every_record (Linked t) at_base at_child
    where
      at_base : (r : ℕ) → r < t.base_records → Linked t r
      at_base r h =
          record {
            piece = rw (node_root r h, piece_root_lem (piece_of t) r) (alike_self (piece_of t r));
            generation = rw (node_root r h) (l.base_generation r h);
            rooted = rw (node_root r h) h;
            valid = l.base_valid r h;
            corners = λ k b. omega (arith, l.base_corners r h k b, l.vertex_counts);
          }

      at_child : (r : ℕ) → r < t.records → t.cut r ≡ true → Linked t r → (side : Side) → Linked t (child_on t r side)
      at_child r h c i side =
          let x = l.properly_cut r h c in
          let y = child_on_lem t r x side in
          let k = end_at (t.shape r) side in
          let made : name_of t x.w ≡ makes (piece_of t r) = name_made t l x.w x.midpoint.made ∙ midpoint_name t r x.w x.midpoint in
          record {
            piece = rw (node_kid r h c side, piece_kid_lem (piece_of t) (node_of t r) side) (alike_then (child_piece t r x.w side y made) (kids_alike i.piece side));
            generation = rw (node_kid r h c side) (y.generation ∙ ap suc i.generation);
            rooted = rw (node_kid r h c side) i.rooted;
            valid = rw y.shape (side_valid (t.shape r) i.valid side);
            corners = λ j b. rw (y.corner j b) (either_has (λ v. v < t.vertices) (eqb j k) x.w (t.corner r j) x.midpoint.made.1 (i.corners j b));
          }

  -- ---- one to one

  -- Two records with the same node are one record.
  pub nodes_distinct_lem : (c d : ℕ) → c < t.records → d < t.records → node_of t c ≡ node_of t d → c ≡ d
  nodes_distinct_lem c d hc hd = every_record (λ c. (d : ℕ) → d < t.records → node_of t c ≡ node_of t d → c ≡ d) at_base at_child c hc d hd
    where
      at_base : (r : ℕ) → r < t.base_records → (d : ℕ) → d < t.records → node_of t r ≡ node_of t d → r ≡ d
      at_base r h d hd e =
          ⊎_elim
          (λ b. ap (λ (n : Node). n.root) (sym (node_root r h) ∙ e ∙ node_root d b))
          (λ b. let x = parent d b hd in absurd (root_no_kid r (node_of t x.number) x.side (sym (node_root r h) ∙ e ∙ node_parent d x hd)))
          (base_or_beyond d t.base_records)

      at_child : (r : ℕ) → r < t.records → t.cut r ≡ true → ((d : ℕ) → d < t.records → node_of t r ≡ node_of t d → r ≡ d) → (side : Side) → (d : ℕ) → d < t.records → node_of t (child_on t r side) ≡ node_of t d → child_on t r side ≡ d
      at_child r h c same side d hd e =
          ⊎_elim
          (λ b. absurd (root_no_kid d (node_of t r) side (sym (node_root d b) ∙ sym e ∙ node_kid r h c side)))
          (λ b.
          let x = parent d b hd in
          let (n, s) = same_kid (sym (node_kid r h c side) ∙ e ∙ node_parent d x hd) in
          ap₂ (child_on t) (same x.number (omega (arith, x.below)) n) s ∙ sym x.is)
          (base_or_beyond d t.base_records)
