-- Laws of what a writer has written. Assumes nothing.
use Rattle.std.specs.Prelude.{ℕ, List, [], ◌∷◌, ◌++◌, ◌≡◌}
use Rattle.std.specs.Borrow.{MutBor}
use Rattle.std.proofs.Common.{◌∙◌, ap, sym}
use Prim.Native.String.{String}
use mathlib.Core.List.{append_assoc, append-nil}
use denote.Ref.{at_last}
use Rattle.list_text.specs.Line.{Line, line, put}
use Rattle.list_text.specs.Text.{word, decimal, figures, line_feed}
use Rattle.list_text.specs.Laws.{put_put, figures_append}
use Rattle.list_writer.specs.declared.Writer.{Writer}
use Rattle.list_writer.specs.Written.{written}

-- What is written after something is written behind it.
pub written_written : (w : Writer) (s t : List ℕ) → written (written w s) t ≡ written w (s ++ t)
written_written w s t = ap (λ (l : Line). record { buffer = at_last w.buffer l.bytes; at = l.at }) (put_put s t (line w.buffer.now w.at))

-- The same, from equations.
pub then : (s t : List ℕ) (w : Writer) {m n : Writer} → m ≡ written w s → n ≡ written m t → n ≡ written w (s ++ t)
then s t w e f = f ∙ ap (λ (k : Writer). written k t) e ∙ written_written w s t

module _ (name : String) (n : ℕ) where
  -- The last figure, and one before others.
  pub last_figure : (w : Writer) {m : Writer} → m ≡ written w (word name ++ decimal n) → m ≡ written w (figures ((name, n) ∷ []))
  unfolding figures
  last_figure w e = e ∙ ap (λ (t : List ℕ). written w (word name ++ t)) (sym (append-nil (decimal n)))

  pub figure_before : (rest : List (String × ℕ)) (w : Writer) {m k : Writer} → m ≡ written w (word name ++ decimal n) → k ≡ written m (figures rest) → k ≡ written w (figures ((name, n) ∷ rest))
  unfolding figures
  figure_before rest w e f = then _ _ w e f ∙ ap (written w) (append_assoc (word name) (decimal n) (figures rest))

-- Figures, more figures and the line feed.
pub figures_end : (a b : List (String × ℕ)) (w : Writer) {m k n : Writer} → m ≡ written w (figures a) → k ≡ written m (figures b) → n ≡ written k line_feed → n ≡ written w (figures (a ++ b) ++ line_feed)
figures_end a b w e f g = then _ _ w (then _ _ w e f) g ∙ ap (λ (t : List ℕ). written w (t ++ line_feed)) (sym (figures_append a b))

-- Once a writer that was made of a buffer is no longer needed, the buffer holds what it wrote.
pub written_whole : (t : List ℕ) (w : Writer) {b : MutBor (List ℕ)} {m : Writer} {last : List ℕ} → (w.buffer ≡ b) × (w.at ≡ 0) → m ≡ written w t → (b.ghost_name ≡ m.buffer.ghost_name → last ≡ m.buffer.now) → line last m.at ≡ put t (line b.now 0)
written_whole t w {m = m} made e follows =
    let same = sym (ap (λ (c : MutBor (List ℕ)). c.ghost_name) made.0) ∙ sym (ap (λ (k : Writer). k.buffer.ghost_name) e) in
    (λ i. line (follows same i) m.at)
    ∙ ap (λ (k : Writer). line k.buffer.now k.at) e
    ∙ (λ i. put t (line (made.0 i).now (made.1 i)))
