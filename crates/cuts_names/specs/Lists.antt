-- Lists over a type with a test for equality: what is among them, lists without repetition, and their lengths.
use Rattle.std.specs.Prelude.{◌≡◌, refl, Bool, true, false, cond, ◌&&◌, ◌||◌, List, [], ◌∷◌, ◌++◌, map, suc, ◌≤◌, length}
use Rattle.std.proofs.Common.{sym, ap, ap₂, ◌∙◌, subst, true≢false, ⊎_elim, arith}
use Rattle.std.proofs.lemmas.Bool.{false≢true}
use Rattle.laws.specs.Below.{and_false, or_true, or_second, either}

-- The test holds of equal things and of no others.
pub record Equality {A : Type 0} (same : A → A → Bool) : Type 0 where
  pub only : (x y : A) → same x y ≡ true → x ≡ y
  pub self : (x : A) → same x x ≡ true

-- Both cannot be.
pub both_ways : {b : Bool} → b ≡ true → b ≡ false → ⊥
both_ways t f = true≢false (sym t ∙ f)

-- A test that is not true is false.
pub not_so : (b : Bool) → (b ≡ true → ⊥) → b ≡ false
not_so true h = absurd (h refl)
not_so false h = refl

-- Where both have a property, whichever is taken has it.
pub either_has : {A : Type 0} (P : A → Type 0) (b : Bool) (x y : A) → P x → P y → P (cond b x y)
either_has P true x y p q = p
either_has P false x y p q = q

module _ {A : Type 0} (same : A → A → Bool) where
  -- x is an element.
  abbrev pub among : A → List A → Bool
  among x [] = false
  among x (y ∷ l) = same x y || among x l

  -- No element stands twice.
  abbrev pub Distinct : List A → Type 0
  Distinct [] = Unit {0}
  Distinct (x ∷ l) = (among x l ≡ false) × Distinct l

  -- Take out the first that is x.
  abbrev pub without : A → List A → List A
  without x [] = []
  without x (y ∷ l) = cond (same x y) l (y ∷ without x l)

-- Some element passes the test.
abbrev pub any_of : {A : Type 0} → (A → Bool) → List A → Bool
any_of test [] = false
any_of test (x ∷ l) = test x || any_of test l

-- The elements that pass the test.
abbrev pub passing : {A : Type 0} → (A → Bool) → List A → List A
passing test [] = []
passing test (x ∷ l) = cond (test x) (x ∷ passing test l) (passing test l)

-- The same elements, each once.
abbrev pub once : {A : Type 0} → (A → A → Bool) → List A → List A
once same [] = []
once same (x ∷ l) = let rest = once same l in cond (among same x rest) rest (x ∷ rest)

module _ {A : Type 0} {same : A → A → Bool} (eq : Equality same) where
  -- What holds of x holds of what the test finds the same.
  moved : (P : A → Bool) (x y : A) (b : Bool) → same x y ≡ true → P x ≡ b → P y ≡ b
  moved P x y b e p = subst (λ (z : A). P z ≡ b) (eq.only x y e) p

  -- The head is among the elements.
  pub among_head : (x : A) (l : List A) → among same x (x ∷ l) ≡ true
  among_head x l = ap (λ (b : Bool). b || among same x l) (eq.self x)

  -- What is among the rest is among the elements.
  pub among_tail : (x y : A) (l : List A) → among same x l ≡ true → among same x (y ∷ l) ≡ true
  among_tail x y l t = ap (λ (b : Bool). same x y || b) t ∙ or_true (same x y)

  -- Among two lists, one behind the other, is what is among either.
  pub among_append : (x : A) (l m : List A) → among same x (l ++ m) ≡ (among same x l || among same x m)
  among_append x [] m = refl
  among_append x (y ∷ l) m = grouped (same x y) (among same x l) (among same x m) (among_append x l m)
    where
      grouped : (a b c : Bool) {d : Bool} → d ≡ (b || c) → (a || d) ≡ ((a || b) || c)
      grouped true b c e = refl
      grouped false b c e = e

  -- Two lists without repetition and without a common element, one behind the other, have no repetition.
  pub distinct_append : (l m : List A) → Distinct same l → Distinct same m → ((x : A) → among same x l ≡ true → among same x m ≡ false) → Distinct same (l ++ m)
  distinct_append [] m d e apart = e
  distinct_append (x ∷ l) m d e apart = (
    among_append x l m ∙ ap₂ ◌||◌ d.0 (apart x (among_head x l)),
    distinct_append l m d.1 e (λ y t. apart y (among_tail y x l t)),
  )

  -- ---- taking one out

  -- One that is there makes the list one shorter.
  pub without_length : (x : A) (l : List A) → among same x l ≡ true → length l ≡ suc (length (without same x l))
  without_length x [] t = absurd (false≢true t)
  without_length x (y ∷ l) t =
      ⊎_elim
      (λ (e : same x y ≡ true). rw e)
      (λ (f : same x y ≡ false). rw f (ap suc (without_length x l (or_second (same x y) (among same x l) f t))))
      (either (same x y))

  -- The others stay.
  pub without_keeps : (x y : A) (l : List A) → among same y l ≡ true → same y x ≡ false → among same y (without same x l) ≡ true
  without_keeps x y [] t d = t
  without_keeps x y (z ∷ l) t d =
      ⊎_elim
      (λ (e : same x z ≡ true). rw e (or_second (same y z) (among same y l) (moved (same y) x z false e d) t))
      (λ (f : same x z ≡ false).
      rw f
      (⊎_elim
      (λ (u : same y z ≡ true). rw u)
      (λ (u : same y z ≡ false). rw u (without_keeps x y l (or_second (same y z) (among same y l) u t) d))
      (either (same y z))))
      (either (same x z))

  -- No new ones come.
  pub without_within : (x y : A) (l : List A) → among same y (without same x l) ≡ true → among same y l ≡ true
  without_within x y [] t = t
  without_within x y (z ∷ l) t =
      ⊎_elim
      (λ (e : same x z ≡ true). among_tail y z l (rw e at t))
      (λ (f : same x z ≡ false).
      let u : (same y z || among same y (without same x l)) ≡ true = rw f at t in
      ⊎_elim (λ (h : same y z ≡ true). rw h) (λ (h : same y z ≡ false). rw h (without_within x y l (or_second (same y z) _ h u))) (either (same y z)))
      (either (same x z))

  -- Nothing is left of it, where it stood once.
  pub without_gone : (x : A) (l : List A) → Distinct same l → among same x (without same x l) ≡ false
  without_gone x [] d = refl
  without_gone x (y ∷ l) d =
      ⊎_elim
      (λ (e : same x y ≡ true). rw e (subst (λ (z : A). among same z l ≡ false) (sym (eq.only x y e)) d.0))
      (λ (f : same x y ≡ false). rw (f, f) (without_gone x l d.1))
      (either (same x y))

  -- A list without repetition stays one.
  pub without_distinct : (x : A) (l : List A) → Distinct same l → Distinct same (without same x l)
  without_distinct x [] d = d
  without_distinct x (y ∷ l) d =
      ⊎_elim
      (λ (e : same x y ≡ true). rw e d.1)
      (λ (f : same x y ≡ false). rw f (not_so _ (λ t. both_ways (without_within x y l t) d.0), without_distinct x l d.1))
      (either (same x y))

  -- ---- lengths

  -- A list without repetition inside another is no longer.
  pub no_longer : (l m : List A) → Distinct same l → ((x : A) → among same x l ≡ true → among same x m ≡ true) → length l ≤ length m
  no_longer [] m d inside = omega arith
  no_longer (x ∷ l) m d inside =
      let here = inside x (among_head x l) in
      let rest : (y : A) → among same y l ≡ true → among same y (without same x m) ≡ true =
      λ y t.
      without_keeps x y m (inside y (among_tail y x l t))
      (not_so (same y x) (λ e. both_ways (moved (λ z. among same z l) y x true e t) d.0)) in
      omega (arith, without_length x m here, no_longer l (without same x m) d.1 rest)

  -- ---- tests

  -- Where some element passes the test, this one does.
  pub any_of_where : (test : A → Bool) (l : List A) → any_of test l ≡ true → (x : A) × (among same x l ≡ true) × (test x ≡ true)
  any_of_where test [] t = absurd (false≢true t)
  any_of_where test (x ∷ l) t =
      ⊎_elim
      (λ (e : test x ≡ true). (x, among_head x l, e))
      (λ (f : test x ≡ false). let (y, a, p) = any_of_where test l (or_second (test x) (any_of test l) f t) in (y, among_tail y x l a, p))
      (either (test x))

  -- Where this element passes the test, some element does.
  pub any_of_is : (test : A → Bool) (l : List A) (x : A) → among same x l ≡ true → test x ≡ true → any_of test l ≡ true
  any_of_is test [] x a p = a
  any_of_is test (y ∷ l) x a p =
      ⊎_elim
      (λ (e : same x y ≡ true). ap (λ (b : Bool). b || any_of test l) (moved test x y true e p))
      (λ (f : same x y ≡ false). ap (λ (b : Bool). test y || b) (any_of_is test l x (or_second (same x y) (among same x l) f a) p) ∙ or_true (test y))
      (either (same x y))

  -- Among the elements that pass are just the elements that pass.
  pub passing_among : (test : A → Bool) (x : A) (l : List A) → among same x (passing test l) ≡ (among same x l && test x)
  passing_among test x [] = refl
  passing_among test x (y ∷ l) =
      ⊎_elim
      (λ (e : same x y ≡ true).
      ⊎_elim
      (λ (t : test y ≡ true). let u : test x ≡ true = rw (eq.only x y e) t in rw (t, e, u))
      (λ (t : test y ≡ false). let u : test x ≡ false = rw (eq.only x y e) t in rw (t, e, passing_among test x l, u) (and_false (among same x l)))
      (either (test y)))
      (λ (f : same x y ≡ false).
      rw f (⊎_elim (λ (t : test y ≡ true). rw (t, f) (passing_among test x l)) (λ (t : test y ≡ false). rw t (passing_among test x l)) (either (test y))))
      (either (same x y))

  -- The elements that pass, of a list without repetition, have none.
  pub passing_distinct : (test : A → Bool) (l : List A) → Distinct same l → Distinct same (passing test l)
  passing_distinct test [] d = d
  passing_distinct test (x ∷ l) d =
      ⊎_elim
      (λ (t : test x ≡ true). rw t (passing_among test x l ∙ ap (λ (b : Bool). b && test x) d.0, passing_distinct test l d.1))
      (λ (t : test x ≡ false). rw t (passing_distinct test l d.1))
      (either (test x))

  -- ---- each once

  -- The elements are the same.
  pub once_among : (x : A) (l : List A) → among same x (once same l) ≡ among same x l
  once_among x [] = refl
  once_among x (y ∷ l) =
      ⊎_elim
      (λ (t : among same y (once same l) ≡ true).
      rw t
      (once_among x l
      ∙ ⊎_elim
      (λ (e : same x y ≡ true). rw e (rw (eq.only x y e) (sym (once_among y l) ∙ t)))
      (λ (f : same x y ≡ false). rw f)
      (either (same x y))))
      (λ (t : among same y (once same l) ≡ false). rw t (ap (λ (b : Bool). same x y || b) (once_among x l)))
      (either (among same y (once same l)))

  -- Each stands there once.
  pub once_distinct : (l : List A) → Distinct same (once same l)
  once_distinct [] = tt
  once_distinct (y ∷ l) =
      ⊎_elim
      (λ (t : among same y (once same l) ≡ true). rw t (once_distinct l))
      (λ (t : among same y (once same l) ≡ false). rw t (t, once_distinct l))
      (either (among same y (once same l)))

-- ---- images

module _ {A B : Type 0} {same : A → A → Bool} {same' : B → B → Bool} (eq : Equality same) (eq' : Equality same') (f : A → B) where
  -- The image of an element is among the images.
  pub map_among : (x : A) (l : List A) → among same x l ≡ true → among same' (f x) (map f l) ≡ true
  map_among x [] t = t
  map_among x (y ∷ l) t =
      ⊎_elim
      (λ (e : same x y ≡ true). subst (λ (v : A). among same' (f v) (map f (y ∷ l)) ≡ true) (sym (eq.only x y e)) (among_head eq' (f y) (map f l)))
      (λ (d : same x y ≡ false). among_tail eq' (f x) (f y) (map f l) (map_among x l (or_second (same x y) (among same x l) d t)))
      (either (same x y))

  -- What is among the images is the image of an element.
  pub map_where : (z : B) (l : List A) → among same' z (map f l) ≡ true → (x : A) × (among same x l ≡ true) × (f x ≡ z)
  map_where z [] t = absurd (false≢true t)
  map_where z (y ∷ l) t =
      ⊎_elim
      (λ (e : same' z (f y) ≡ true). (y, among_head eq y l, sym (eq'.only z (f y) e)))
      (λ (d : same' z (f y) ≡ false). let (x, a, q) = map_where z l (or_second (same' z (f y)) (among same' z (map f l)) d t) in (x, among_tail eq x y l a, q))
      (either (same' z (f y)))
