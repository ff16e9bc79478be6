-- Of specs/Macro.antt, the theorems that an edit of a definition breaks, and what only they need.
use Rattle.std.specs.Prelude.{◌≡◌, Bool, true, not, cond, ◌&&◌, ◌||◌, ◌⊎◌, eqb}
use Rattle.std.proofs.Math.Path.{refl, sym, ap, ap₂}
use Rattle.std.proofs.Common.{◌∙◌, arith}
use Rattle.std.proofs.Math.Logic.{inl, inr, ⊎_elim}
use mathlib.Core.List.{List, [], ◌∷◌}
use Prim.Native.Nat.{ℕ, zero, suc, ◌+◌, ◌-◌, ◌*◌, ◌/◌, ◌<◌, ◌≤◌}
use Rattle.std.proofs.Math.ListN.{length}
use Rattle.std.proofs.Math.Dec.{ltb}
use borrow.Author.Tests.{eqb-true, ltb-true, ltb-false, not-true}
use Rattle.laws.specs.Below.{all_below, all_at, and_left, and_right, or_second, either}
use Rattle.piece_edges.specs.Edges.{low_slot, high_slot, slots_small}
use Rattle.piece.specs.Shape.{Shape, unset, slot_a, slot_b, Valid}
use Rattle.piece_cut.specs.Cut.{child_shape}
use Rattle.piece.specs.Every.{every_shape}
use Rattle.cuts_names.specs.Names.{Name, mid, level, level_base_lem}
use Rattle.cuts_names.proofs.Names.{level_mid_lem}
use Rattle.cuts_names.specs.Pieces.{Piece, Side, end_at, child_with, renamed, child_renamed, mid_of, makes, child, Node, generation, piece_down, piece_at}
use Rattle.cuts_names.specs.Base.{Marked}
use Rattle.cuts_names.specs.Three.{formal, formal_down, stands_for, Macro}
use Rattle.cuts_names.specs.Macro.{three_down, every_three, computed, edge_below, side_valid, Alike, makes_alike, stands_corner, stands_mid}
use Rattle.cuts_names.specs.Macro as Specs

-- Every formal corner is one of ten.
small : Piece ℕ → Bool
small q = all_below 4 (λ j. ltb (q.corner j) 10)

-- The refinement edge joins two original corners in their own slots.
own : Piece ℕ → Bool
own q = eqb (q.corner (slot_a q.shape)) (slot_a q.shape) && eqb (q.corner (slot_b q.shape)) (slot_b q.shape)

-- An end of edge e is a midpoint.
abbrev new_at : Piece ℕ → ℕ → Bool
new_at q e = not (ltb (q.corner (low_slot e)) 4) || not (ltb (q.corner (high_slot e)) 4)

-- The flag is unset, and an end of every edge is a midpoint.
renewed : Piece ℕ → Bool
renewed q = unset q.shape && all_below 6 (new_at q)

-- What the table says of a piece with so many of the three cuts left.
table : ℕ → Piece ℕ → Bool
table zero q = small q && renewed q
table (suc n) q = small q && own q

table_holds : every_shape (three_down table) ≡ true
unfolding computed table small own renewed
table_holds = refl

module _ (s : Shape) (v : Valid s) (f : s.flag ≡ 0) where
  -- The table at one piece.
  at_path : (path : List Side) (left : ℕ) → length path + left ≡ 3 → table left (formal_down (formal s) path) ≡ true
  at_path = every_three table table_holds s v f

  -- Every formal corner at most three cuts down is one of the four corners and the six midpoints.
  pub formal_small : (path : List Side) → length path ≤ 3 → (j : ℕ) → j < 4 → (formal_down (formal s) path).corner j < 10
  unfolding table small
  formal_small path h j l =
      ltb-true (q.corner j) 10 (all_at (λ i. ltb (q.corner i) 10) 4 j (part (3 - length path) (at_path path (3 - length path) (omega arith))) l)
    where
      q : Piece ℕ
      q = formal_down (formal s) path

      part : (left : ℕ) → table left q ≡ true → small q ≡ true
      part zero t = and_left (small q) (renewed q) t
      part (suc left) t = and_left (small q) (own q) t

  -- A refinement edge met before the third cut joins two original corners in their own slots.
  pub formal_own : (path : List Side) → length path < 3 → let q = formal_down (formal s) path in (q.corner (slot_a q.shape) ≡ slot_a q.shape) × (q.corner (slot_b q.shape) ≡ slot_b q.shape)
  unfolding table own
  formal_own path h =
      let q = formal_down (formal s) path in
      let t = and_right (small q) (own q) (at_path path (suc (2 - length path)) (omega arith)) in (
        eqb-true (q.corner (slot_a q.shape)) (slot_a q.shape) (and_left (eqb (q.corner (slot_a q.shape)) (slot_a q.shape)) _ t),
        eqb-true (q.corner (slot_b q.shape)) (slot_b q.shape) (and_right (eqb (q.corner (slot_a q.shape)) (slot_a q.shape)) _ t),
      )

  module _ (path : List Side) (h : length path ≡ 3) where
    after_three : renewed (formal_down (formal s) path) ≡ true
    unfolding table
    after_three = and_right (small (formal_down (formal s) path)) (renewed (formal_down (formal s) path)) (at_path path 0 (omega arith))

    -- After three cuts the flag is unset again.
    pub formal_unset : (formal_down (formal s) path).shape.flag ≡ 0
    unfolding renewed
    formal_unset = eqb-true (formal_down (formal s) path).shape.flag 0 (and_left (unset (formal_down (formal s) path).shape) _ after_three)

    -- After three cuts every edge has a midpoint for an end.
    pub formal_new : (e : ℕ) → e < 6 → (4 ≤ (formal_down (formal s) path).corner (low_slot e)) ⊎ (4 ≤ (formal_down (formal s) path).corner (high_slot e))
    unfolding renewed
    formal_new e l =
        let q = formal_down (formal s) path in
        let t = all_at (new_at q) 6 e (and_right (unset q.shape) (all_below 6 (new_at q)) after_three) l in
        ⊎_elim
        (λ new. inl (ltb-false (q.corner (low_slot e)) 4 (not-true (ltb (q.corner (low_slot e)) 4) new)))
        (λ old. inr (ltb-false (q.corner (high_slot e)) 4 (not-true (ltb (q.corner (high_slot e)) 4) (or_second (not (ltb (q.corner (low_slot e)) 4)) _ old t))))
        (either (not (ltb (q.corner (low_slot e)) 4)))

-- Every piece below a valid one is valid.
pub down_valid : (p : Piece Name) → Valid p.shape → (path : List Side) → Valid (piece_down p path).shape
unfolding piece_down child child_with
down_valid p v [] = v
down_valid p v (side ∷ path) = side_valid (piece_down p path).shape (down_valid p v path) side

-- So is every formal piece below one.
pub formal_valid : (s : Shape) → Valid s → (path : List Side) → Valid (formal_down (formal s) path).shape
unfolding formal_down child_with
formal_valid s v [] = v
formal_valid s v (side ∷ path) = side_valid (formal_down (formal s) path).shape (formal_valid s v path) side

-- Pieces that are alike have children that are alike.
pub child_alike : {A : Type 0} {p q : Piece A} {w x : A} → Alike p q → w ≡ x → (side : Side) → Alike (child_with w p side) (child_with x q side)
unfolding child_with
child_alike {A} {p} {q} {w} {x} a e side =
    record {
      shape = ap (λ (s : Shape). child_shape s (end_at s side)) a.shape;
      corner =
          λ j l.
          ap₂ (λ (k : ℕ) (y : A). cond (eqb j k) w y) (ap (λ (s : Shape). end_at s side) a.shape) (a.corner j l)
          ∙ ap (λ (y : A). cond (eqb j (end_at q.shape side)) y (q.corner j)) e;
    }

module _ (p : Piece Name) (v : Valid p.shape) (f : p.shape.flag ≡ 0) where
  -- Fewer than three cuts below p, the formal refinement edge stands for an edge of p.
  formal_mid : (path : List Side) → length path < 3 → let q = formal_down (formal p.shape) path in makes (renamed (stands_for p) q) ≡ mid_of p q.shape.edge
  unfolding renamed slot_a slot_b
  formal_mid path h =
      let q = formal_down (formal p.shape) path in
      let e = q.shape.edge in
      let o = formal_own p.shape v f path h in
      ap₂ mid (ap (stands_for p) o.0 ∙ stands_corner p (low_slot e) (slots_small e).0) (ap (stands_for p) o.1 ∙ stands_corner p (high_slot e) (slots_small e).1)

  -- At most three cuts below p, the formal piece stands for the piece.
  pub down_stands : (path : List Side) → length path ≤ 3 → Alike (piece_down p path) (renamed (stands_for p) (formal_down (formal p.shape) path))
  unfolding piece_down formal_down child renamed
  down_stands [] h = record { shape = refl; corner = λ j l. sym (stands_corner p j l) }
  down_stands (side ∷ path) h =
      let q = formal_down (formal p.shape) path in
      let a = down_stands path (omega arith) in
      let w : makes (piece_down p path) ≡ stands_for p (4 + q.shape.edge) = makes_alike a ∙ formal_mid path h ∙ sym (stands_mid p q.shape.edge) in
      rw (child_renamed (stands_for p) (4 + q.shape.edge) q side) (child_alike a w side)

  -- The vertex made fewer than three cuts below p is the midpoint of an edge of p: the formal refinement edge there.
  pub down_makes : (path : List Side) → length path < 3 → makes (piece_down p path) ≡ mid_of p (formal_down (formal p.shape) path).shape.edge
  down_makes path h = makes_alike (down_stands path (omega arith)) ∙ formal_mid path h

module _ (k : ℕ) (p : Piece Name) (m : Macro k p) where
  -- As specs/ has them.
  abbrev old_level : (n : ℕ) → n < 4 → level (stands_for p n) ≤ k
  old_level = Specs.old_level k p m

  abbrev new_level : (n : ℕ) → n < 10 → 4 ≤ n → level (stands_for p n) ≡ suc k
  new_level = Specs.new_level k p m

  -- So every formal corner stands for one of level at most k + 1.
  stands_level : (n : ℕ) → n < 10 → level (stands_for p n) ≤ suc k
  stands_level n h =
      ⊎_elim (λ t. omega (arith, old_level n (ltb-true n 4 t))) (λ f. omega (arith, new_level n h (ltb-false n 4 f))) (either (ltb n 4))

  module _ (path : List Side) where
    abbrev under : Piece ℕ
    under = formal_down (formal p.shape) path

    -- Corners at most three cuts down have level at most k + 1.
    pub down_corners : length path ≤ 3 → (j : ℕ) → j < 4 → level ((piece_down p path).corner j) ≤ suc k
    unfolding renamed
    down_corners h j l =
        rw ((down_stands p m.valid m.unset path h).corner j l)
        (stands_level (under.corner j) (formal_small p.shape m.valid m.unset path h j l))

    -- The vertex made fewer than three cuts down has level k + 1.
    pub down_level : length path < 3 → level (makes (piece_down p path)) ≡ suc k
    down_level h =
        rw (down_makes p m.valid m.unset path h) (m.midpoints under.shape.edge (edge_below under.shape (formal_valid p.shape m.valid path)))

    -- Three cuts down, what holds of a piece of generation 3k holds for k + 1.
    pub macro_down : length path ≡ 3 → Macro (suc k) (piece_down p path)
    unfolding renamed
    macro_down h =
        let a = down_stands p m.valid m.unset path (omega arith) in
        let at : (j : ℕ) → j < 4 → level ((piece_down p path).corner j) ≤ suc k = down_corners (omega arith) in
        let new : (j : ℕ) → j < 4 → 4 ≤ under.corner j → level ((piece_down p path).corner j) ≡ suc k =
        λ j l n. rw (a.corner j l) (new_level (under.corner j) (formal_small p.shape m.valid m.unset path (omega arith) j l) n) in
        record {
          valid = down_valid p m.valid path;
          unset = ap (λ (s : Shape). s.flag) a.shape ∙ formal_unset p.shape m.valid m.unset path h;
          corners = at;
          midpoints =
              λ e l.
              let ends = slots_small e in
              level_mid_lem ((piece_down p path).corner (low_slot e)) ((piece_down p path).corner (high_slot e))
              ∙ ⊎_elim
              (λ n. omega (arith, new (low_slot e) ends.0 n, at (high_slot e) ends.1))
              (λ n. omega (arith, new (high_slot e) ends.1 n, at (low_slot e) ends.0))
              (formal_new p.shape m.valid m.unset path h e l);
        }

-- ---- pieces of a marked base

-- A piece of generation g, fewer than three cuts below one of which Macro holds.
record Over (p : Piece Name) (g : ℕ) : Type 0 where
  k : ℕ
  piece : Piece Name
  top : List Side
  short : length top < 3
  size : g ≡ length top + 3 * k
  macro : Macro k piece
  is : p ≡ piece_down piece top

module _ {count : ℕ} {base : ℕ → Piece Name} (marked : Marked count base) where
  -- A base piece is a piece of generation 3 * 0.
  pub macro_base : (r : ℕ) → r < count → Macro 0 (base r)
  macro_base r h =
      let at : (j : ℕ) → j < 4 → level ((base r).corner j) ≡ 0 = λ j l. let (n, e) = marked.corners r h j l in ap level e ∙ level_base_lem n in
      record {
        valid = marked.valid r h;
        unset = marked.unset r h;
        corners = λ j l. omega (arith, at j l);
        midpoints =
            λ e l.
            level_mid_lem ((base r).corner (low_slot e)) ((base r).corner (high_slot e))
            ∙ omega (arith, at (low_slot e) (slots_small e).0, at (high_slot e) (slots_small e).1);
      }

  over : (r : ℕ) → r < count → (path : List Side) → Over (piece_down (base r) path) (length path)
  unfolding piece_down
  over r h [] = record { k = 0; piece = base r; top = []; short = omega arith; size = omega arith; macro = macro_base r h; is = refl }
  over r h (side ∷ path) =
      let o = over r h path in
      let one : child (piece_down (base r) path) side ≡ child (piece_down o.piece o.top) side = ap (λ (q : Piece Name). child q side) o.is in
      let next : Over (child (piece_down (base r) path) side) (suc (length path)) =
      ⊎_elim
      (λ t.
      record {
        k = o.k;
        piece = o.piece;
        top = side ∷ o.top;
        short = omega (arith, ltb-true (length o.top) 2 t);
        size = omega (arith, o.size);
        macro = o.macro;
        is = one;
      })
      (λ f.
      let three : suc (length o.top) ≡ 3 = omega (arith, ltb-false (length o.top) 2 f, o.short) in
      record {
        k = suc o.k;
        piece = child (piece_down o.piece o.top) side;
        top = [];
        short = omega arith;
        size = omega (arith, o.size);
        macro = macro_down o.k o.piece o.macro (side ∷ o.top) three;
        is = one;
      })
      (either (ltb (length o.top) 2)) in
      next

  module _ (n : Node) (h : n.root < count) where
    o : Over (piece_at base n) (generation n)
    unfolding piece_at
    o = over n.root h n.path

    -- Every piece that cutting the base can give is valid.
    pub node_valid : Valid (piece_at base n).shape
    unfolding piece_at
    node_valid = down_valid (base n.root) (marked.valid n.root h) n.path

    -- What holds of pieces of generation 3k.
    pub node_macro : (k : ℕ) → generation n ≡ 3 * k → Macro k (piece_at base n)
    unfolding piece_down
    node_macro k e = at o.k (omega (arith, o.size, o.short)) o.top (omega (arith, o.size, o.short)) o.piece o.macro o.is
      where
        at : (k' : ℕ) → k' ≡ k → (top : List Side) → length top ≡ 0 → (p : Piece Name) → Macro k' p → piece_at base n ≡ piece_down p top → Macro k (piece_at base n)
        at k' q [] z p m i = rw (i, ← q) m
        at k' q (side ∷ top) z p m i = absurd (omega arith)

    -- The vertex made by cutting a piece of generation 3k, 3k + 1 or 3k + 2 has level k + 1.
    pub node_level : level (makes (piece_at base n)) ≡ suc (generation n / 3)
    node_level =
        let third : o.k ≡ generation n / 3 = omega (arith, o.size, o.short) in
        rw (o.is, ← third) (down_level o.k o.piece o.macro o.top o.short)

    -- Corners of a piece of generation g have level at most a third of g, rounded up.
    pub corner_level : (j : ℕ) → j < 4 → level ((piece_at base n).corner j) ≤ (generation n + 2) / 3
    unfolding piece_down
    corner_level j l = at o.top o.size o.short o.is
      where
        at : (top : List Side) → generation n ≡ length top + 3 * o.k → length top < 3 → piece_at base n ≡ piece_down o.piece top → level ((piece_at base n).corner j) ≤ (generation n + 2) / 3
        at [] s b i = rw i (omega (arith, o.macro.corners j l))
        at (side ∷ top) s b i = rw i (omega (arith, down_corners o.k o.piece o.macro (side ∷ top) (omega arith) j l))
