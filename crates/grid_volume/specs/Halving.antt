-- Why a cut halves the determinant and an exchange of corners changes its sign: two tests over all slots, which the ring solver computes.
-- Assumes nothing.
use Rattle.std.specs.Prelude.{◌≡◌, refl, Bool, true, false, cond, ◌&&◌, List, [], ◌∷◌, ℕ, zero, suc, ◌+◌, ◌*◌, ◌<◌, ◌≢◌, T, eqb, ℤ, pos, neg_ℤ, ◌+ℤ◌, ◌-ℤ◌, ◌*ℤ◌}
use Rattle.std.proofs.Common.{sym, ◌∙◌, ap, eqb→eq}
use Rattle.std.proofs.Math.IntN.{+ℤ_idl}
use Rattle.std.proofs.Math.Facts.{and_yes}
use Rattle.algebra.specs.Solver.{variable, number, plus, minus, times, agree, solve}
use Rattle.grid.specs.Places.{Point}
use Rattle.grid_volume.specs.Volume.{determinant_of, differences_of}
use Rattle.laws.specs.Below.{put_at}
use Rattle.grid.specs.Corners.{exchanged, Midpoint}
use Rattle.grid_volume.specs.Formal.{Formal, point_at, own, put, no_slot, formal_determinant, formal_is, same_corners_lem}

-- ---- a test at every pair of different slots

abbrev pub every_slot : (ℕ → Bool) → Bool
every_slot P = P 0 && (P 1 && (P 2 && P 3))

abbrev pub every_pair : (ℕ → ℕ → Bool) → Bool
every_pair P = every_slot (λ i. every_slot (λ j. let apart = P i j in cond (eqb i j) true apart))

at_slot : (P : ℕ → Bool) → T (every_slot P) → (i : ℕ) → i < 4 → T (P i)
at_slot P t zero h = (and_yes (P 0) (P 1 && (P 2 && P 3)) t).0
at_slot P t (suc zero) h = (and_yes (P 1) (P 2 && P 3) (and_yes (P 0) (P 1 && (P 2 && P 3)) t).1).0
at_slot P t (suc (suc zero)) h = (and_yes (P 2) (P 3) (and_yes (P 1) (P 2 && P 3) (and_yes (P 0) (P 1 && (P 2 && P 3)) t).1).1).0
at_slot P t (suc (suc (suc zero))) h = (and_yes (P 2) (P 3) (and_yes (P 1) (P 2 && P 3) (and_yes (P 0) (P 1 && (P 2 && P 3)) t).1).1).1
at_slot P t (suc (suc (suc (suc i)))) h = absurd (no_slot i h)

at_pair : (P : ℕ → ℕ → Bool) → T (every_pair P) → (i j : ℕ) → i < 4 → j < 4 → i ≢ j → T (P i j)
at_pair P t i j h k n =
    go (eqb i j) (λ e. n (eqb→eq i j e))
    (at_slot (λ l. cond (eqb i l) true (P i l)) (at_slot (λ m. every_slot (λ l. cond (eqb m l) true (P m l))) t i h) j k)
  where
    go : (b : Bool) → (T b → ⊥) → T (cond b true (P i j)) → T (P i j)
    go true f s = absurd (f tt)
    go false f s = s

-- ---- corners and a midpoint as variables

abbrev midpoint : Formal
midpoint = record { x = variable 0; y = variable 1; z = variable 2 }

-- slot j has what makes the midpoint stand halfway between slots i and j
abbrev other : Formal → Formal
other p = record { x = minus (plus (variable 0) (variable 0)) p.x; y = minus (plus (variable 1) (variable 1)) p.y; z = minus (plus (variable 2) (variable 2)) p.z }

abbrev cut_corners : ℕ → ℕ → ℕ → Formal
cut_corners i j = put j (other (own i)) own

abbrev halves : ℕ → ℕ → Bool
halves i j = agree (times (number (pos 2)) (formal_determinant (put i midpoint (cut_corners i j)))) (formal_determinant (cut_corners i j))

abbrev turns : ℕ → ℕ → Bool
turns i j = agree (formal_determinant (put i (own j) (put j (own i) own))) (minus (number (pos 0)) (formal_determinant own))

all_halve : T (every_pair halves)
all_halve = tt

all_turn : T (every_pair turns)
all_turn = tt

-- ---- at four corners f and a point w

module _ (f : ℕ → Point) (w : Point) where
  abbrev values : List ℤ
  values =
      w.x ∷ w.y ∷ w.z ∷ (f 0).x ∷ (f 0).y ∷ (f 0).z ∷ (f 1).x ∷ (f 1).y ∷ (f 1).z ∷ (f 2).x ∷ (f 2).y ∷ (f 2).z ∷ (f 3).x ∷ (f 3).y ∷ (f 3).z ∷ []

  own_is : (k : ℕ) → k < 4 → point_at values (own k) ≡ f k
  own_is zero h = refl
  own_is (suc zero) h = refl
  own_is (suc (suc zero)) h = refl
  own_is (suc (suc (suc zero))) h = refl
  own_is (suc (suc (suc (suc k)))) h = absurd (no_slot k h)

  -- what is put formally is put
  put_is : (i : ℕ) (p : Formal) (q : Point) (corner : ℕ → Formal) (g : ℕ → Point) (k : ℕ) →
      (k ≡ i → point_at values p ≡ q) → point_at values (corner k) ≡ g k → point_at values (put i p corner k) ≡ put_at i q g k
  put_is i p q corner g k here there = go (eqb k i) (λ t. here (eqb→eq k i t))
    where
      go : (b : Bool) → (T b → point_at values p ≡ q) → point_at values (cond b p (corner k)) ≡ cond b q (g k)
      go true f = f tt
      go false f = there

  other_is : (i j : ℕ) → i < 4 → Midpoint w (f i) (f j) → point_at values (other (own i)) ≡ f j
  other_is i j h m =
      let e = own_is i h in
      λ t. record {
        x = (ap (λ (z : ℤ). w.x +ℤ w.x -ℤ z) (ap (λ (p : Point). p.x) e) ∙ left (f i).x m.x) t;
        y = (ap (λ (z : ℤ). w.y +ℤ w.y -ℤ z) (ap (λ (p : Point). p.y) e) ∙ left (f i).y m.y) t;
        z = (ap (λ (z : ℤ). w.z +ℤ w.z -ℤ z) (ap (λ (p : Point). p.z) e) ∙ left (f i).z m.z) t;
      }
    where
      left : (u : ℤ) {s v : ℤ} → s ≡ u +ℤ v → s -ℤ u ≡ v
      left u {s} {v} q =
          ap (λ (z : ℤ). z -ℤ u) q ∙ solve (minus (plus (variable 0) (variable 1)) (variable 0)) (variable 1) tt (u ∷ v ∷ [])

  cut_is : (i j : ℕ) → i < 4 → Midpoint w (f i) (f j) → (k : ℕ) → k < 4 → point_at values (cut_corners i j k) ≡ f k
  cut_is i j h m k l = put_is j (other (own i)) (f j) own f k (λ e. other_is i j h m) (own_is k l) ∙ stays (eqb k j) (eqb→eq k j)
    where
      stays : (b : Bool) → (T b → k ≡ j) → cond b (f j) (f k) ≡ f k
      stays true g = ap f (sym (g tt))
      stays false g = refl

  -- Twice the determinant with an edge's midpoint in place of one of its ends is the determinant.
  pub determinant_halved : (i j : ℕ) → i < 4 → j < 4 → i ≢ j → Midpoint w (f i) (f j) →
      pos 2 *ℤ determinant_of (differences_of (put_at i w f)) ≡ determinant_of (differences_of f)
  determinant_halved i j h l n m =
      sym (ap (λ (z : ℤ). pos 2 *ℤ z) (formal_is values (put i midpoint (cut_corners i j))
      ∙ same_corners_lem (λ k. point_at values (put i midpoint (cut_corners i j) k)) (put_at i w f) (λ k s. put_is i midpoint w (cut_corners i j) f k (λ e. refl) (cut_is i j h m k s))))
      ∙ solve (times (number (pos 2)) (formal_determinant (put i midpoint (cut_corners i j)))) (formal_determinant (cut_corners i j)) (at_pair halves all_halve i j h l n) values
      ∙ formal_is values (cut_corners i j)
      ∙ same_corners_lem (λ k. point_at values (cut_corners i j k)) f (cut_is i j h m)

-- An exchange of two corners changes the determinant's sign.
pub determinant_turned : (f : ℕ → Point) (i j : ℕ) → i < 4 → j < 4 → i ≢ j →
    determinant_of (differences_of (exchanged i j f)) ≡ neg_ℤ (determinant_of (differences_of f))
determinant_turned f i j h l n =
    let zs = values f (f 0) in
    let is = own_is f (f 0) in
    let put_at_lem = put_is f (f 0) in
    sym (formal_is zs (put i (own j) (put j (own i) own))
    ∙ same_corners_lem (λ k. point_at zs (put i (own j) (put j (own i) own) k)) (exchanged i j f)
    (λ k s. put_at_lem i (own j) (f j) (put j (own i) own) (put_at j (f i) f) k (λ e. is j l) (put_at_lem j (own i) (f i) own f k (λ e. is i h) (is k s))))
    ∙ solve (formal_determinant (put i (own j) (put j (own i) own))) (minus (number (pos 0)) (formal_determinant own)) (at_pair turns all_turn i j h l n) zs
    ∙ ap (λ (z : ℤ). pos 0 -ℤ z) (formal_is zs own ∙ same_corners_lem (λ k. point_at zs (own k)) f is)
    ∙ +ℤ_idl (neg_ℤ (determinant_of (differences_of f)))
