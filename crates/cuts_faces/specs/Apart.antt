-- Nodes that come from others by further cuts, and nodes of which neither comes from the other.
use Rattle.std.specs.Prelude.{◌≡◌, refl, ◌⊎◌, ◌≢◌, true, ℕ, suc, length}
use Rattle.std.proofs.Common.{sym, ap, ap₂, ◌∙◌, subst, inl, inr, ⊎_elim, arith, length-append}
use mathlib.Core.List.{List, [], ◌∷◌, ◌++◌, append_assoc, head-eq_of_cons-eq, tail-eq_of_cons-eq}
use Rattle.cuts_names.specs.Lists.{both_ways}
use Rattle.cuts_names.specs.Pieces.{Side, low, high, Node, kid}
use Rattle.cuts.specs.Sets.{Cuts, There, Leaf}
use Rattle.cuts.specs.Depth.{cut_there_lem}

-- The other side.
abbrev pub other : Side → Side
other low = high
other high = low

-- The two sides are not the same, and there is no third.
pub other_differs : (side : Side) → side ≢ other side
other_differs low e = let z : ◌≡◌ {A = ℕ} 0 1 = cc in omega arith
other_differs high e = let z : ◌≡◌ {A = ℕ} 0 1 = cc in omega arith

pub this_or_other : (side s : Side) → (s ≡ side) ⊎ (s ≡ other side)
this_or_other low low = inl refl
this_or_other low high = inr refl
this_or_other high low = inr refl
this_or_other high high = inl refl

-- m is n, or comes from it by these further cuts.
abbrev pub After : Node → Node → Type 0
After n m = (steps : List Side) × (m ≡ record { root = n.root; path = steps ++ n.path })

-- Neither comes from the other, and they are not the same.
abbrev pub Apart : Node → Node → Type 0
Apart n m = (After n m → ⊥) × (After m n → ⊥)

-- ---- paths

-- Of at least one step from a path, one was taken first.
first_step : (last : Side) (steps rest : List Side) → (side : Side) × (later : List Side) × (last ∷ (steps ++ rest) ≡ later ++ (side ∷ rest))
first_step last [] rest = (last, [], refl)
first_step last (s ∷ steps) rest = let (side, later, e) = first_step s steps rest in (side, last ∷ later, ap (λ (l : List Side). last ∷ l) e)

-- Of two paths from which one and the same path goes on, one goes on from the other.
one_goes_on : (a b n m : List Side) → a ++ n ≡ b ++ m → ((s : List Side) × (m ≡ s ++ n)) ⊎ ((s : List Side) × (n ≡ s ++ m))
one_goes_on [] b n m e = inr (b, e)
one_goes_on (x ∷ a) [] n m e = inl (x ∷ a, sym e)
one_goes_on (x ∷ a) (y ∷ b) n m e = one_goes_on a b n m (tail-eq_of_cons-eq e)

-- Steps that lead from one child's path to the path of a child of the same node are none, and the sides are the same.
same_length : (steps path : List Side) (side side' : Side) → side' ∷ path ≡ steps ++ (side ∷ path) → side ≡ side'
same_length [] path side side' e = sym (head-eq_of_cons-eq e)
same_length (s ∷ steps) path side side' e =
    let long : suc (length path) ≡ suc (length (steps ++ (side ∷ path))) = ap length e in
    absurd (omega (arith, length-append steps (side ∷ path)))

-- ---- what comes after

-- A node comes after itself.
pub after_self : (n : Node) → After n n
after_self n = ([], refl)

-- A child of what comes after n comes after n.
pub after_kid : (n m : Node) (side : Side) → After n m → After n (kid m side)
after_kid n m side a = (side ∷ a.0, ap (λ (x : Node). kid x side) a.1)

-- What comes after what comes after n comes after n.
pub after_then : (n m o : Node) → After n m → After m o → After n o
after_then n m o a b = (
  b.0 ++ a.0,
  b.1
      ∙ ap (λ (x : Node). record { root = x.root; path = b.0 ++ x.path }) a.1
      ∙ ap (λ (path : List Side). record { root = n.root; path = path }) (sym (append_assoc b.0 a.0 n.path)),
)

-- What comes after n has the same base piece.
pub after_root : (n m : Node) → After n m → m.root ≡ n.root
after_root n m a = ap (λ (x : Node). x.root) a.1

-- What comes after p is p, or comes after one of its two children.
pub after_split : (p m : Node) → After p m → (m ≡ p) ⊎ ((side : Side) × After (kid p side) m)
after_split p m a = at a.0 a.1
  where
    at : (steps : List Side) → m ≡ record { root = p.root; path = steps ++ p.path } → (m ≡ p) ⊎ ((side : Side) × After (kid p side) m)
    at [] e = inl e
    at (last ∷ steps) e =
        let (side, later, q) = first_step last steps p.path in
        inr (side, (later, e ∙ ap (λ (path : List Side). record { root = p.root; path = path }) q))

-- Of two nodes that both come before one, one comes after the other.
pub before_both : (n m o : Node) → After n o → After m o → After n m ⊎ After m n
before_both n m o a b =
    ⊎_elim
    (λ s. inl (s.0, ap₂ (λ (r : ℕ) (path : List Side). record { root = r; path = path }) (sym root) s.1))
    (λ s. inr (s.0, ap₂ (λ (r : ℕ) (path : List Side). record { root = r; path = path }) root s.1))
    (one_goes_on a.0 b.0 n.path m.path (ap (λ (x : Node). x.path) (sym a.1 ∙ b.1)))
  where
    root : n.root ≡ m.root
    root = sym (after_root n o a) ∙ after_root m o b

-- A child of a node comes after no other child of it.
not_beside : (p : Node) (side side' : Side) → side ≢ side' → After (kid p side) (kid p side') → ⊥
not_beside p side side' d a = d (same_length a.0 p.path side side' (ap (λ (x : Node). x.path) a.1))

-- The two children of a node are apart.
pub kids_apart : (p : Node) (side : Side) → Apart (kid p side) (kid p (other side))
kids_apart p side =
    (not_beside p side (other side) (other_differs side), not_beside p (other side) side (λ e. other_differs side (sym e)))

-- To be apart is symmetric.
pub apart_flip : (n m : Node) → Apart n m → Apart m n
apart_flip n m a = (a.1, a.0)

-- What comes after nodes that are apart is apart.
pub apart_down : (n m n' m' : Node) → Apart n m → After n n' → After m m' → Apart n' m'
apart_down n m n' m' a b c = (
  λ d. ⊎_elim a.0 a.1 (before_both n m m' (after_then n n' m' b d) c),
  λ d. ⊎_elim a.0 a.1 (before_both n m n' b (after_then m m' n' c d)),
)

-- What is apart from a child, and does not come after the other child, is apart from the parent.
pub apart_up : (p m : Node) (side : Side) → Apart (kid p side) m → (After (kid p (other side)) m → ⊥) → Apart p m
apart_up p m side a none = (λ b. ⊎_elim same below (after_split p m b), λ b. a.1 (after_kid m p side b))
  where
    same : m ≡ p → ⊥
    same e = a.1 (after_kid m p side ([], sym e))

    below : (s : Side) × After (kid p s) m → ⊥
    below b =
        ⊎_elim
        (λ e. a.0 (subst (λ (s : Side). After (kid p s) m) e b.1))
        (λ e. none (subst (λ (s : Side). After (kid p s) m) e b.1))
        (this_or_other side b.0)

-- Apart nodes are not the same.
pub apart_not_same : (n m : Node) → Apart n m → n ≢ m
apart_not_same n m a e = a.1 ([], e)

-- Base pieces that are not the same are apart.
pub roots_apart : (r s : ℕ) → r ≢ s → Apart (record { root = r; path = [] }) (record { root = s; path = [] })
roots_apart r s d = (
  λ a. d (sym (after_root (record { root = r; path = [] }) (record { root = s; path = [] }) a)),
  λ a. d (after_root (record { root = s; path = [] }) (record { root = r; path = [] }) a),
)

-- ---- leaves

-- What comes before a node that is there is there.
pub before_there : {count : ℕ} (C : Cuts count) (n m : Node) → After n m → There C m → There C n
before_there C n m a t = up a.0 (subst (λ (x : Node). There C x) a.1 t)
  where
    up : (steps : List Side) → There C (record { root = n.root; path = steps ++ n.path }) → There C n
    up [] t = t
    up (s ∷ steps) t = up steps (cut_there_lem C (record { root = n.root; path = steps ++ n.path }) t)

-- What comes before a node that is there, and is not that node, is cut.
pub before_cut : {count : ℕ} (C : Cuts count) (n m : Node) → After n m → m ≢ n → There C m → C.has n ≡ true
before_cut C n m a d t = ⊎_elim (λ e. absurd (d e)) (λ b. before_there C (kid n b.0) m b.1 t) (after_split n m a)

-- Two leaves are apart or the same.
pub leaves_apart : {count : ℕ} (C : Cuts count) (n m : Node) → Leaf C n → Leaf C m → n ≢ m → Apart n m
leaves_apart C n m l l' d =
    (λ a. both_ways (before_cut C n m a (λ e. d (sym e)) l'.there) l.uncut, λ a. both_ways (before_cut C m n a d l.there) l'.uncut)
