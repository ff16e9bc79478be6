-- Closing does not go deeper than the next multiple of three.
use Rattle.std.specs.Prelude.{◌≡◌, true, List, [], ◌∷◌, ℕ, zero, suc, ◌+◌, ◌*◌, ◌<◌, ◌≤◌, length, ltb}
use Rattle.std.proofs.Common.{ap, ⊎_elim, arith, ltb-true, ltb-false}
use Rattle.laws.specs.Below.{either}
use Rattle.cuts_names.specs.Names.{Name, level}
use Rattle.cuts_names.specs.Pieces.{Piece, Side, low, Node, kid, generation}
use Rattle.cuts.specs.Sets.{Cuts, There, Leaf, HangsAt, Hangs}
use Rattle.cuts_names.specs.Base.{Marked}
use Rattle.cuts_names.proofs.Macro.{node_macro, node_level}

-- Every cut has a generation below B.
abbrev pub CutsBelow : {count : ℕ} → ℕ → Cuts count → Type 0
CutsBelow B C = (n : Node) → C.has n ≡ true → generation n < B

-- A node that is there comes from a base piece.
pub there_rooted : {count : ℕ} (C : Cuts count) (n : Node) → There C n → n.root < count
there_rooted {count} C n t = at n.root n.path t
  where
    at : (r : ℕ) (path : List Side) → There C (record { root = r; path = path }) → r < count
    at r [] h = h
    at r (side ∷ path) h = C.rooted (record { root = r; path = path }) h

-- A cut is a node that is there.
pub cut_there_lem : {count : ℕ} (C : Cuts count) (n : Node) → C.has n ≡ true → There C n
cut_there_lem C n t = at n.root n.path t
  where
    at : (r : ℕ) (path : List Side) → C.has (record { root = r; path = path }) ≡ true → There C (record { root = r; path = path })
    at r [] h = C.rooted (record { root = r; path = [] }) h
    at r (side ∷ path) h = C.closed (record { root = r; path = path }) side h

-- A node that is there has at most the generation B, where all cuts have generations below B.
pub there_below : {count : ℕ} (B : ℕ) (C : Cuts count) → CutsBelow B C → (n : Node) → There C n → generation n ≤ B
there_below B C b n t = at n.root n.path t
  where
    at : (r : ℕ) (path : List Side) → There C (record { root = r; path = path }) → length path ≤ B
    at r [] h = omega arith
    at r (side ∷ path) h = b (record { root = r; path = path }) h

-- Where all leaves have generations of at most B, all cuts have generations below B; that all cuts are below some M says that there is a deepest.
pub cuts_below_leaves : {count : ℕ} (B M : ℕ) (C : Cuts count) → CutsBelow M C → ((n : Node) → Leaf C n → generation n ≤ B) → CutsBelow B C
cuts_below_leaves B M C deepest leaves n t = down M n t (omega arith)
  where
    down : (fuel : ℕ) (n : Node) → C.has n ≡ true → M ≤ generation n + fuel → generation n < B
    down zero n t h = absurd (omega (arith, deepest n t))
    down (suc fuel) n t h =
        ⊎_elim
        (λ cut. let l : suc (generation n) < B = down fuel (kid n low) cut (omega arith) in omega arith)
        (λ uncut. leaves (kid n low) (record { there = t; uncut = uncut }))
        (either (C.has (kid n low)))

module _ {count : ℕ} {base : ℕ → Piece Name} (marked : Marked count base) (K : ℕ) (C : Cuts count) (b : CutsBelow (3 * K) C) where
  -- Where all cuts have generations below 3K, no edge of a piece of generation 3K hangs.
  pub deepest_rests_lem : (n : Node) → n.root < count → generation n ≡ 3 * K → (e : ℕ) → HangsAt base C n e → ⊥
  deepest_rests_lem n h g e x =
      let made = node_level marked x.cut (C.rooted x.cut x.is_cut) in
      let here = (node_macro marked n h K g).midpoints e x.edge in
      omega (arith, ap level x.halfway, made, here, b x.cut x.is_cut)

  -- So a leaf that hangs has a generation below 3K.
  pub hanging_below_lem : (n : Node) → Leaf C n → Hangs base C n → generation n < 3 * K
  hanging_below_lem n l x =
      ⊎_elim
      (λ t. ltb-true (generation n) (3 * K) t)
      (λ f.
      absurd
      (deepest_rests_lem n (there_rooted C n l.there) (omega (arith, there_below (3 * K) C b n l.there, ltb-false (generation n) (3 * K) f)) x.0 x.1))
      (either (ltb (generation n) (3 * K)))
