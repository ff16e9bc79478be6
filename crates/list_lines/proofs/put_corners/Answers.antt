-- `list_lines::put_corners`: the number, and each corner as the piece has it.
-- Assumes nothing.
use Rattle.list_text.specs.Text.{word}
use Rattle.list_writer.specs.Laws.{figure_before, last_figure}
use Rattle.list_lines.specs.Lines.{corner_figures}
use Rattle.list_lines.proofs.put_corners.Goals as goal

pub returns : goal.returns
unfolding word corner_figures
returns c =
    figure_before "" _ _ _ c.figure.ensures
    (figure_before " " _ _ _ c.figure-2.ensures
    (figure_before " " _ _ _ c.figure-3.ensures
    (figure_before " " _ _ _ c.figure-4.ensures
    (last_figure " " _ _ c.figure-5.ensures))))
