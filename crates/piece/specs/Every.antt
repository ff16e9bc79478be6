-- A test that is computed over all valid shapes, and the lemma that turns it into the rule at each.
use Rattle.std.specs.Prelude.{◌≡◌, Bool, true, false, List, [], ◌∷◌, ℕ, ◌<◌, length, eqb, ltb}
use Rattle.std.proofs.Common.{sym, ap, subst, ⊎_elim, arith, ltb-true, eqb-true}
use Rattle.std.proofs.lemmas.Bool.{false≢true}
use Rattle.laws.specs.Below.{all_below, all_at, and_left, and_right, or_second, either}
use Rattle.laws.specs.Lists.{four_of}
use Rattle.piece_edges.specs.Edges.{on_face}
use Rattle.piece.specs.Shape.{Shape, mark, unset, type_p, mark_fits, flag_fits, valid_shape}

-- The shape with these marks.
abbrev pub shaped : ℕ → ℕ → ℕ → ℕ → ℕ → ℕ → Shape
shaped e m₀ m₁ m₂ m₃ f = record { edge = e; marks = m₀ ∷ m₁ ∷ m₂ ∷ m₃ ∷ []; flag = f }

-- b, wherever a holds; b is computed only there.
abbrev pub only_if : Bool → Bool → Bool
only_if true b = b
only_if false b = true

pub only_if_holds : (a b : Bool) → only_if a b ≡ true → a ≡ true → b ≡ true
only_if_holds true b e t = e
only_if_holds false b e t = absurd (false≢true t)

-- test holds of every valid shape: edges, marks of the four faces and flags are tried, and given up as soon as one does not fit.
unfoldable pub every_shape : (Shape → Bool) → Bool
every_shape test =
    all_below 6 λ e.
    all_below 6 λ m₀. let rest₀ = (all_below 6 λ m₁. let rest₁ = (all_below 6 λ m₂. let rest₂ = (all_below 6 λ m₃. let rest₃ = (all_below 2 λ f. let s = shaped e m₀ m₁ m₂ m₃ f in let last = test s in only_if (flag_fits s) last) in only_if (mark_fits e m₃ 3) rest₃) in only_if (mark_fits e m₂ 2) rest₂) in only_if (mark_fits e m₁ 1) rest₁) in only_if (mark_fits e m₀ 0) rest₀

-- A shape with four marks is the shape with these.
pub shaped_is : (s : Shape) → length s.marks ≡ 4 → s ≡ shaped s.edge (mark s 0) (mark s 1) (mark s 2) (mark s 3) s.flag
shaped_is s h = ap (λ (ms : List ℕ). record { edge = s.edge; marks = ms; flag = s.flag }) (sym (four_of s.marks 0 h))

below_six : (edge m i : ℕ) → mark_fits edge m i ≡ true → m < 6
unfolding mark_fits on_face
below_six edge m i e = ltb-true m 6 (and_left (ltb m 6) _ (and_left (on_face m i) _ e))

flag_below_two : (s : Shape) → flag_fits s ≡ true → s.flag < 2
unfolding flag_fits
flag_below_two s e =
    ⊎_elim
    (λ z. omega (arith, eqb-true s.flag 0 z))
    (λ n. omega (arith, eqb-true s.flag 1 (and_left (eqb s.flag 1) (type_p s) (or_second (unset s) _ n e))))
    (either (unset s))

-- The rule at each valid shape, from the test over all of them.
pub every_shape_lem : (test : Shape → Bool) → every_shape test ≡ true → (s : Shape) → length s.marks ≡ 4 → valid_shape s ≡ true → test s ≡ true
unfolding every_shape valid_shape
every_shape_lem test all s h v =
    let rest = and_right (ltb s.edge 6) _ v in
    let marks = and_left (all_below 4 (λ i. mark_fits s.edge (mark s i) i)) (flag_fits s) rest in
    let flag = and_right (all_below 4 (λ i. mark_fits s.edge (mark s i) i)) (flag_fits s) rest in
    let fits : (i : ℕ) → i < 4 → mark_fits s.edge (mark s i) i ≡ true = λ i l. all_at (λ i. mark_fits s.edge (mark s i) i) 4 i marks l in
    let s₄ = shaped_is s h in
    let at₀ = all_at _ 6 s.edge all (ltb-true s.edge 6 (and_left (ltb s.edge 6) _ v)) in
    let step : (i : ℕ) → i < 4 → (P : ℕ → Bool) → all_below 6 (λ m. only_if (mark_fits s.edge m i) (P m)) ≡ true → P (mark s i) ≡ true =
    λ i l P t. only_if_holds (mark_fits s.edge (mark s i) i) (P (mark s i)) (all_at (λ m. only_if (mark_fits s.edge m i) (P m)) 6 (mark s i) t (below_six s.edge (mark s i) i (fits i l))) (fits i l) in
    let at₁ = step 0 (omega arith) _ at₀ in
    let at₂ = step 1 (omega arith) _ at₁ in
    let at₃ = step 2 (omega arith) _ at₂ in
    let at₄ = step 3 (omega arith) _ at₃ in
    let at₅ = all_at _ 2 s.flag at₄ (flag_below_two s flag) in
    subst (λ (t : Shape). test t ≡ true) (sym s₄)
    (only_if_holds (flag_fits (shaped s.edge (mark s 0) (mark s 1) (mark s 2) (mark s 3) s.flag)) _ at₅ (subst (λ (t : Shape). flag_fits t ≡ true) s₄ flag))
