-- `list_lines::set_heading`: the counts, the figures and the line feed.
-- Assumes nothing.
use Rattle.list_writer.specs.Laws.{figures_end, written_whole}
use Rattle.list_lines.specs.Lines.{heading_line}
use Rattle.list_lines.proofs.set_heading.Goals as goal

pub returns : goal.returns
unfolding heading_line
returns c = written_whole _ _ c.new-w.ensures (figures_end _ _ _ c.put_counts.ensures c.put_figures.ensures c.end.ensures) search
