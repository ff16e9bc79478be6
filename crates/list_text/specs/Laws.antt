-- Laws of what is put into a line. Assumes nothing.
use Rattle.std.specs.Prelude.{ℕ, ◌+◌, ◌≤◌, min, ◌≡◌, refl, leb, length, take, drop}
use Rattle.std.proofs.Common.{sym, ◌∙◌, ⊎_elim, arith, leb-true, leb-false, length-append, take_at}
use Rattle.std.proofs.Math.Path.{ap}
use Prim.Native.String.{String}
use mathlib.Core.List.{List, [], ◌∷◌, ◌++◌, append_assoc, append-nil}
use Rattle.std.proofs.lemmas.List.Edits.{sets, sets-eq}
use Rattle.std.proofs.Math.Seq.{length-sets}
use Rattle.laws.specs.Below.{either}
use Rattle.laws.specs.Lists.{sets_append, sets_out}
use Rattle.list_text.specs.Text.{word, decimal, figures}
use Rattle.list_text.specs.Line.{Line, line, put}

-- At a place that is held back by the end nothing more is written than at the place itself.
sets_held : (b : List ℕ) (at : ℕ) (t : List ℕ) → sets b (min (length b) at) t ≡ sets b at t
sets_held b at t =
    ⊎_elim
    (λ y. let l = leb-true at (length b) y in let e : min (length b) at ≡ at = omega arith in ap (λ (k : ℕ). sets b k t) e)
    (λ n. let l = leb-false at (length b) n in
    let e : min (length b) at ≡ length b = omega arith in
    ap (λ (k : ℕ). sets b k t) e ∙ sets_out b (length b) t (omega arith) ∙ sym (sets_out b at t (omega arith)))
    (either (leb at (length b)))

-- What is put after something is put behind it.
pub put_put : (s t : List ℕ) (l : Line) → put t (put s l) ≡ put (s ++ t) l
unfolding put
put_put s t l =
    let b : List ℕ = l.bytes in
    let same : length (sets b l.at s) ≡ length b = length-sets b l.at s in
    let bytes : sets (sets b l.at s) (min (length b) (l.at + length s)) t ≡ sets b l.at (s ++ t) =
    ap (λ (k : ℕ). sets (sets b l.at s) (min k (l.at + length s)) t) (sym same)
    ∙ sets_held (sets b l.at s) (l.at + length s) t
    ∙ sym (sets_append b l.at s t) in
    let at : min (length (sets b l.at s)) (min (length b) (l.at + length s) + length t) ≡ min (length b) (l.at + length (s ++ t)) =
    rw (same, length-append s t) (omega arith) in
    λ i. line (bytes i) (at i)

-- The same, from equations.
pub then : (s t : List ℕ) (l : Line) {m n : Line} → m ≡ put s l → n ≡ put t m → n ≡ put (s ++ t) l
then s t l e f = f ∙ ap (put t) e ∙ put_put s t l

-- Figures one after the other.
pub figures_append : (a b : List (String × ℕ)) → figures (a ++ b) ≡ figures a ++ figures b
unfolding figures
figures_append [] b = refl
figures_append ((name, n) ∷ rest) b =
    ap (λ (r : List ℕ). word name ++ (decimal n ++ r)) (figures_append rest b)
    ∙ ap (λ (r : List ℕ). word name ++ r) (sym (append_assoc (decimal n) (figures rest) (figures b)))
    ∙ sym (append_assoc (word name) (decimal n ++ figures rest) (figures b))

module _ (name : String) (n : ℕ) where
  alone : figures ((name, n) ∷ []) ≡ word name ++ decimal n
  unfolding figures
  alone = ap (λ (r : List ℕ). word name ++ r) (append-nil (decimal n))

  -- The first figure, and one more.
  pub first_figure : (l : Line) {m : Line} → m ≡ put (word name ++ decimal n) l → m ≡ put (figures ((name, n) ∷ [])) l
  first_figure l e = e ∙ ap (λ (t : List ℕ). put t l) (sym alone)

  pub next_figure : (a : List (String × ℕ)) (l : Line) {m k : Line} → m ≡ put (figures a) l → k ≡ put (word name ++ decimal n) m → k ≡ put (figures (a ++ ((name, n) ∷ []))) l
  next_figure a l {m} e f =
      then (figures a) (figures ((name, n) ∷ [])) l e (first_figure m f) ∙ ap (λ (t : List ℕ). put t l) (sym (figures_append a ((name, n) ∷ [])))

-- What has room in the line is found in it.
pub put_whole : (b t : List ℕ) → length t ≤ length b → take (put t (line b 0)).at (put t (line b 0)).bytes ≡ t
unfolding put
put_whole b t h =
    let place : min (length b) (0 + length t) ≡ length t = omega arith in
    ap (λ (l : List ℕ). take (min (length b) (0 + length t)) l) (sets-eq t b 0 (omega arith)) ∙ take_at t (drop (0 + length t) b) (min (length b) (0 + length t)) (sym place)
