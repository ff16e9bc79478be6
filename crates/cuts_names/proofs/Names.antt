-- Of specs/Names.antt, the theorems that an edit of a definition breaks, and what only they need.
use Rattle.std.specs.Prelude.{◌≡◌, refl, ◌⊎◌, suc, max}
use Rattle.std.proofs.Common.{ap, inl, inr}
use Rattle.std.proofs.Math.Nat.{max_comm}
use Rattle.laws.specs.Pairs.{SamePair}
use Rattle.cuts_names.specs.Names.{Name, made, Way, before, same, after, flip, order, order_flip, order_same, in_order, mid, level}

-- It has one of the two for its first parent, and the other for its second.
pub mid_which : (a b : Name) → (mid a b ≡ made a b) ⊎ (mid a b ≡ made b a)
unfolding mid in_order
mid_which a b = go (order a b)
  where
    go : (w : Way) → (in_order w a b ≡ made a b) ⊎ (in_order w a b ≡ made b a)
    go before = inl refl
    go same = inl refl
    go after = inr refl

-- It does not matter which of the two is given first.
pub mid_sym : (a b : Name) → mid a b ≡ mid b a
unfolding mid in_order flip
mid_sym a b = go (order a b) refl
  where
    go : (w : Way) → order a b ≡ w → in_order (order a b) a b ≡ in_order (order b a) b a
    go before e = rw (e, order_flip a b, e)
    go same e = let q = order_same a b e in rw q
    go after e = rw (e, order_flip a b, e)

-- A midpoint belongs to one pair of vertices.
pub mid_injective_lem : (a b c d : Name) → mid a b ≡ mid c d → SamePair a b c d
unfolding mid in_order flip
mid_injective_lem a b c d e = go (order a b) (order c d) e
  where
    go : (v w : Way) → in_order v a b ≡ in_order w c d → SamePair a b c d
    go before before q = inl (cc, cc)
    go before same q = inl (cc, cc)
    go before after q = inr (cc, cc)
    go same before q = inl (cc, cc)
    go same same q = inl (cc, cc)
    go same after q = inr (cc, cc)
    go after before q = inr (cc, cc)
    go after same q = inr (cc, cc)
    go after after q = inl (cc, cc)

pub level_mid_lem : (a b : Name) → level (mid a b) ≡ suc (max (level a) (level b))
unfolding mid level in_order
level_mid_lem a b = go (order a b)
  where
    go : (w : Way) → level (in_order w a b) ≡ suc (max (level a) (level b))
    go before = refl
    go same = refl
    go after = ap suc (max_comm (level b) (level a))
