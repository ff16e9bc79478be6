-- `list_lines::set_leaf`: the number and the corners, the edge and the generation, the line feed.
-- Assumes nothing.
use Rattle.list_writer.specs.Laws.{figures_end, written_whole}
use Rattle.list_lines.specs.Lines.{leaf_line}
use Rattle.list_lines.proofs.set_leaf.Goals as goal

pub returns : goal.returns
unfolding leaf_line
returns c = written_whole _ _ c.new-w.ensures (figures_end _ _ _ c.put_corners.ensures c.put_edge.ensures c.end.ensures) search
