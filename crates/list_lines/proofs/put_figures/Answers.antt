-- `list_lines::put_figures`: check's three figures, one behind the other.
-- Assumes nothing.
use Rattle.list_text.specs.Text.{word}
use Rattle.list_writer.specs.Laws.{figure_before, last_figure}
use Rattle.list_lines.specs.Lines.{check_figures}
use Rattle.list_lines.proofs.put_figures.Goals as goal

pub returns : goal.returns
unfolding word check_figures
returns c = figure_before " leaves " _ _ _ c.figure.ensures (figure_before " deepest " _ _ _ c.figure-2.ensures (last_figure " sixfold " _ _ c.figure-3.ensures))
