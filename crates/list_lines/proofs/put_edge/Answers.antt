-- `list_lines::put_edge`: the refinement edge as the piece has it.
-- Assumes nothing.
use mathlib.Core.Path.{◌∙◌, ap}
use mathlib.Core.List.{[], ◌∷◌}
use Rattle.piece.specs.declared.Ends.{Ends}
use Rattle.list_text.specs.Text.{word, figures}
use Rattle.list_writer.specs.Written.{written}
use Rattle.list_writer.specs.Laws.{figure_before, last_figure}
use Rattle.list_lines.specs.Lines.{edge_figures}
use Rattle.list_lines.proofs.put_edge.Goals as goal

pub returns : goal.returns
unfolding word edge_figures
returns c =
    figure_before " edge " _ _ _ c.figure.ensures (figure_before " " _ _ _ c.figure-2.ensures (last_figure " gen " _ _ c.figure-3.ensures))
    ∙ ap (λ (e : Ends). written c.args.w.now (figures ((" edge ", e.lower) ∷ (" ", e.higher) ∷ (" gen ", c.args.p.generation) ∷ []))) c.ends_of-ends.ensures
