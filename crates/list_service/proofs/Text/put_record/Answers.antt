-- `list_service::Text::put_record`: a record's line, if it is a leaf.
-- Assumes nothing.
use mathlib.Core.Path.{sym, ◌∙◌}
use Rattle.list_service.specs.Putting.{leaf_text, followed_none}
use Rattle.list_service.proofs.Text.put_record.Goals as goal

pub put_leaf-requires : goal.put_leaf-requires
put_leaf-requires c = record { fits = rw c.record.ensures c.requires.fits; room = c.requires.room }

pub returns-then-is_leaf : goal.returns-then-is_leaf
unfolding leaf_text
returns-then-is_leaf c = rw (sym c.is_leaf.ensures ∙ c.if-is_leaf.true, ← c.record.ensures) c.put_leaf.ensures

pub returns-else-is_leaf : goal.returns-else-is_leaf
unfolding leaf_text
returns-else-is_leaf c = rw (sym c.is_leaf.ensures ∙ c.if-is_leaf.false) (followed_none _)
