-- What list's answer is: the listing, or nothing where there is no room for it.
use Rattle.std.specs.Prelude.{◌≡◌, Bool, ◌⊎◌, List, ℕ, ◌≤◌, ◌<◌, length, replicate, eqb}
use Rattle.std.proofs.Math.Path.{refl, sym}
use Rattle.std.proofs.Math.Bool.{true, false, cond}
use Rattle.std.proofs.Math.Logic.{inl, inr}
use native.Mathlib.Omega.{arith}
use Rattle.std.proofs.Common.{eqb-true, lt-ltb, le-ltb}
use Rattle.std.proofs.lemmas.Bool.{eqb-false}
use Rattle.laws.specs.Lists.{zero_past}
use Rattle.list_service.specs.Listing.{listing_of, listed_number, list_number, list_length, list_bytes}

module _ (s : List ℕ) (room : ℕ) where
  -- A buffer that holds the listing: the mesh's own number, the listing and zeros past it.
  pub list_whole : length (listing_of s) ≤ room →
      (list_number s room ≡ listed_number s) × (list_length s room ≡ length (listing_of s)) × (list_bytes s room ≡ zero_past room (listing_of s))
  unfolding list_number list_length list_bytes
  list_whole fits = rw (le-ltb room (length (listing_of s)) fits) (own (listed_number s) (eqb (listed_number s) 0) (eqb-true (listed_number s) 0), refl, refl)
    where
      own : (n : ℕ) (none : Bool) → (none ≡ true → n ≡ 0) → cond none 0 n ≡ n
      own n true is = sym (is refl)
      own n false is = refl

  -- A shorter one: 20 in place of 0, no length, and zeros throughout.
  pub list_short : room < length (listing_of s) →
      ((list_number s room ≡ 20) ⊎ ((1 ≤ list_number s room) × (list_number s room ≡ listed_number s))) × (list_length s room ≡ 0) × (list_bytes s room ≡ replicate room 0)
  unfolding list_number list_length list_bytes
  list_short short = rw (lt-ltb room (length (listing_of s)) short) (own (listed_number s) (eqb (listed_number s) 0) (eqb-false (listed_number s) 0), refl, refl)
    where
      own : (n : ℕ) (none : Bool) → (none ≡ false → n ≡ 0 → ⊥) → (cond {A = ℕ} none 20 n ≡ 20) ⊎ ((1 ≤ cond {A = ℕ} none 20 n) × (cond {A = ℕ} none 20 n ≡ n))
      own n true other = inl refl
      own n false other = let some : n ≡ 0 → ⊥ = other refl in inr (omega arith, refl)
