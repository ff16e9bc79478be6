-- `list_lines::put_counts`: four figures, one behind the other.
-- Assumes nothing.
use Rattle.list_text.specs.Text.{word}
use Rattle.list_writer.specs.Laws.{figure_before, last_figure}
use Rattle.list_lines.specs.Lines.{count_figures}
use Rattle.list_lines.proofs.put_counts.Goals as goal

pub returns : goal.returns
unfolding word count_figures
returns c =
    figure_before "job " _ _ _ c.figure.ensures
    (figure_before " round " _ _ _ c.figure-2.ensures
    (figure_before " vertices " _ _ _ c.figure-3.ensures
    (last_figure " records " _ _ c.figure-4.ensures)))
