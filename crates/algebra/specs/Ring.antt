-- The ring laws of ℤ that the library's integers lack: the product is associative, and distributes over sums and negation.
-- Assumes nothing.
use Rattle.std.specs.Prelude.{◌≡◌, refl, zero, suc, ℤ, pos, negsuc, neg_ℤ, ◌+ℤ◌, ◌-ℤ◌, ◌*ℤ◌}
use Rattle.std.proofs.Common.{sym, ◌∙◌, ap}
use Rattle.std.proofs.Math.IntN.{suc_ℤ, pred_ℤ, neg_ℤ-neg_ℤ, +ℤ_idl, +ℤ_assoc, +ℤ_comm, suc_ℤ-+ℤ, pred_ℤ-+ℤ, zero-*ℤ, suc_ℤ-*ℤ, pred_ℤ-*ℤ, *ℤ_comm, *ℤ-one, one, -ℤ-+ℤ_cancel}

-- what holds of 0, and of one more and one less than any number of which it holds, holds of every integer
by_units : (P : ℤ → Type 0) → P (pos zero) → ((k : ℤ) → P k → P (suc_ℤ k)) → ((k : ℤ) → P k → P (pred_ℤ k)) → (k : ℤ) → P k
by_units P z s p (pos zero) = z
by_units P z s p (pos (suc n)) = s (pos n) (by_units P z s p (pos n))
by_units P z s p (negsuc zero) = p (pos zero) z
by_units P z s p (negsuc (suc n)) = p (negsuc n) (by_units P z s p (negsuc n))

pub neg_times : (a b : ℤ) → neg_ℤ a *ℤ b ≡ neg_ℤ (a *ℤ b)
neg_times (pos zero) b = zero-*ℤ b ∙ sym (ap neg_ℤ (zero-*ℤ b))
neg_times (pos (suc n)) (pos m) = refl
neg_times (pos (suc n)) (negsuc m) = sym (neg_ℤ-neg_ℤ (pos (suc n) *ℤ pos (suc m)))
neg_times (negsuc n) (pos m) = sym (neg_ℤ-neg_ℤ (pos (suc n) *ℤ pos m))
neg_times (negsuc n) (negsuc m) = refl

pub plus_swap : (a b c : ℤ) → a +ℤ b +ℤ c ≡ a +ℤ c +ℤ b
plus_swap a b c = +ℤ_assoc a b c ∙ ap (λ (x : ℤ). a +ℤ x) (+ℤ_comm b c) ∙ sym (+ℤ_assoc a c b)

pub plus_times : (a b c : ℤ) → (a +ℤ b) *ℤ c ≡ a *ℤ c +ℤ b *ℤ c
plus_times a b c =
    by_units (λ (k : ℤ). (k +ℤ b) *ℤ c ≡ k *ℤ c +ℤ b *ℤ c)
    (ap (λ (x : ℤ). x *ℤ c) (+ℤ_idl b) ∙ sym (ap (λ (x : ℤ). x +ℤ b *ℤ c) (zero-*ℤ c) ∙ +ℤ_idl (b *ℤ c)))
    (λ k h. ap (λ (x : ℤ). x *ℤ c) (suc_ℤ-+ℤ k b) ∙ suc_ℤ-*ℤ (k +ℤ b) c ∙ ap (λ (x : ℤ). x +ℤ c) h ∙ plus_swap (k *ℤ c) (b *ℤ c) c ∙ sym (ap (λ (x : ℤ). x +ℤ b *ℤ c) (suc_ℤ-*ℤ k c)))
    (λ k h. ap (λ (x : ℤ). x *ℤ c) (pred_ℤ-+ℤ k b) ∙ pred_ℤ-*ℤ (k +ℤ b) c ∙ ap (λ (x : ℤ). x -ℤ c) h ∙ plus_swap (k *ℤ c) (b *ℤ c) (neg_ℤ c) ∙ sym (ap (λ (x : ℤ). x +ℤ b *ℤ c) (pred_ℤ-*ℤ k c)))
    a

pub times_plus : (a b c : ℤ) → a *ℤ (b +ℤ c) ≡ a *ℤ b +ℤ a *ℤ c
times_plus a b c = *ℤ_comm a (b +ℤ c) ∙ plus_times b c a ∙ ap (λ (x : ℤ). x +ℤ c *ℤ a) (*ℤ_comm b a) ∙ ap (λ (x : ℤ). a *ℤ b +ℤ x) (*ℤ_comm c a)

pub times_assoc : (a b c : ℤ) → a *ℤ b *ℤ c ≡ a *ℤ (b *ℤ c)
times_assoc a b c =
    by_units (λ (k : ℤ). k *ℤ b *ℤ c ≡ k *ℤ (b *ℤ c))
    (ap (λ (x : ℤ). x *ℤ c) (zero-*ℤ b) ∙ zero-*ℤ c ∙ sym (zero-*ℤ (b *ℤ c)))
    (λ k h. ap (λ (x : ℤ). x *ℤ c) (suc_ℤ-*ℤ k b) ∙ plus_times (k *ℤ b) b c ∙ ap (λ (x : ℤ). x +ℤ b *ℤ c) h ∙ sym (suc_ℤ-*ℤ k (b *ℤ c)))
    (λ k h. ap (λ (x : ℤ). x *ℤ c) (pred_ℤ-*ℤ k b) ∙ plus_times (k *ℤ b) (neg_ℤ b) c ∙ ap (λ (x : ℤ). k *ℤ b *ℤ c +ℤ x) (neg_times b c) ∙ ap (λ (x : ℤ). x -ℤ b *ℤ c) h ∙ sym (pred_ℤ-*ℤ k (b *ℤ c)))
    a

pub times_swap : (a b c : ℤ) → a *ℤ (b *ℤ c) ≡ b *ℤ (a *ℤ c)
times_swap a b c = sym (times_assoc a b c) ∙ ap (λ (x : ℤ). x *ℤ c) (*ℤ_comm a b) ∙ times_assoc b a c

pub one_times : (a : ℤ) → pos 1 *ℤ a ≡ a
unfolding one
one_times a = *ℤ_comm (pos 1) a ∙ *ℤ-one a

-- where a difference is 0 the two numbers are equal
pub equal_of_difference : (a b : ℤ) → a -ℤ b ≡ pos zero → a ≡ b
equal_of_difference a b e = sym (-ℤ-+ℤ_cancel a b) ∙ ap (λ (x : ℤ). x +ℤ b) e ∙ +ℤ_idl b
