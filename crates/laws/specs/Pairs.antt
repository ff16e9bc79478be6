-- Pairs in either order.
use Rattle.std.specs.Prelude.{◌≡◌, refl, ◌⊎◌, ℕ, ◌≤◌}
use Rattle.std.proofs.Common.{sym, ◌∙◌, inl, inr, arith}

-- Two pairs are the same, whichever way round.
abbrev pub SamePair : {A : Type 0} → A → A → A → A → Type 0
SamePair x y x' y' = ((x ≡ x') × (y ≡ y')) ⊎ ((x ≡ y') × (y ≡ x'))

-- Two pairs that are the same as a third; the other way; in order there is one way.
pub pair_through : {A : Type 0} {x y a b c d : A} → SamePair x y a b → SamePair x y c d → SamePair a b c d
pair_through (inl h) (inl k) = inl (sym h.0 ∙ k.0, sym h.1 ∙ k.1)
pair_through (inl h) (inr k) = inr (sym h.0 ∙ k.0, sym h.1 ∙ k.1)
pair_through (inr h) (inl k) = inr (sym h.1 ∙ k.1, sym h.0 ∙ k.0)
pair_through (inr h) (inr k) = inl (sym h.1 ∙ k.1, sym h.0 ∙ k.0)

pub pair_turned : {A : Type 0} {x y a b : A} → SamePair x y a b → SamePair a b x y
pair_turned h = pair_through h (inl (refl, refl))

pub pair_in_order : {x y a b : ℕ} → SamePair x y a b → x ≤ y → a ≤ b → (x ≡ a) × (y ≡ b)
pair_in_order (inl h) l k = h
pair_in_order (inr h) l k = let x = h.0 in let y = h.1 in (omega arith, omega arith)
