-- Pieces that are alike, and the pieces that cutting them gives.
use Rattle.std.specs.Prelude.{refl, List, [], ◌∷◌, ℕ, ◌<◌}
use Rattle.std.proofs.Common.{sym, ◌∙◌}
use Rattle.cuts_names.specs.Names.{Name}
use Rattle.cuts_names.specs.Pieces.{Piece, Side, Node, piece_at, child, piece_root_lem, piece_kid_lem}
use Rattle.cuts.specs.Sets.{Cuts, There, HangsAt}
use Rattle.cuts_names.specs.Macro.{Alike, mid_alike, makes_alike}
use Rattle.cuts_names.proofs.Macro.{child_alike}
use Rattle.cuts.specs.Depth.{there_rooted}

-- Every piece is like itself; likeness goes both ways, and on.
pub alike_self : {A : Type 0} (p : Piece A) → Alike p p
alike_self p = record { shape = refl; corner = λ j b. refl }

pub alike_back : {A : Type 0} {p q : Piece A} → Alike p q → Alike q p
alike_back a = record { shape = sym a.shape; corner = λ j b. sym (a.corner j b) }

pub alike_then : {A : Type 0} {p q r : Piece A} → Alike p q → Alike q r → Alike p r
alike_then a b = record { shape = a.shape ∙ b.shape; corner = λ j h. a.corner j h ∙ b.corner j h }

-- Pieces over names that are alike have children that are alike.
pub kids_alike : {p q : Piece Name} → Alike p q → (side : Side) → Alike (child p side) (child q side)
unfolding child
kids_alike a side = child_alike a (makes_alike a) side

module _ {count : ℕ} (base base' : ℕ → Piece Name) (alike : (r : ℕ) → r < count → Alike (base r) (base' r)) where
  -- Bases that are alike give pieces that are alike.
  pub nodes_alike : (n : Node) → n.root < count → Alike (piece_at base n) (piece_at base' n)
  nodes_alike n h = at n.root h n.path
    where
      at : (r : ℕ) → r < count → (path : List Side) → Alike (piece_at base (record { root = r; path = path })) (piece_at base' (record { root = r; path = path }))
      at r h [] = rw (piece_root_lem base r, piece_root_lem base' r) (alike r h)
      at r h (side ∷ path) =
          let n : Node = record { root = r; path = path } in
          rw (piece_kid_lem base n side, piece_kid_lem base' n side) (kids_alike (at r h path) side)

  -- So the same edges hang.
  pub hangs_alike_lem : (C : Cuts count) (n : Node) → There C n → (e : ℕ) → HangsAt base C n e → HangsAt base' C n e
  hangs_alike_lem C n t e x =
      record {
        edge = x.edge;
        cut = x.cut;
        is_cut = x.is_cut;
        halfway = sym (makes_alike (nodes_alike x.cut (C.rooted x.cut x.is_cut))) ∙ x.halfway ∙ mid_alike (nodes_alike n (there_rooted C n t)) e;
      }
