-- What a writer is once bytes are put: the same borrow, with the bytes at the writer's place as far as there is room, and the place behind
-- them.
use Rattle.std.specs.Prelude.{ℕ, List}
use denote.Ref.{at_last}
use Rattle.list_text.specs.Line.{line, put}
use Rattle.list_writer.specs.declared.Writer.{Writer}

abbrev pub written : Writer → List ℕ → Writer
written w t = let l = put t (line w.buffer.now w.at) in record { buffer = at_last w.buffer l.bytes; at = l.at }
