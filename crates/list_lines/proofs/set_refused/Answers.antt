-- `list_lines::set_refused`: the word, the number and the line feed.
-- Assumes nothing.
use Rattle.list_text.specs.Text.{word}
use Rattle.list_writer.specs.Laws.{then, last_figure, written_whole}
use Rattle.list_lines.specs.Lines.{refused_line}
use Rattle.list_lines.proofs.set_refused.Goals as goal

pub returns : goal.returns
unfolding word refused_line
returns c = written_whole _ _ c.new-w.ensures (then _ _ _ (last_figure "refused " _ _ c.figure.ensures) c.end.ensures) search
