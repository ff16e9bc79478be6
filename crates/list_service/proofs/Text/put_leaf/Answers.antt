-- `list_service::Text::put_leaf`: the line is whole in its buffer.
-- Assumes nothing.
use mathlib.Core.Path.{◌∙◌, ap}
use native.Mathlib.Omega.{arith}
use Rattle.list_service.specs.Putting.{set_whole, followed}
use Rattle.list_service.proofs.Text.put_leaf.Goals as goal

pub put_line-requires : goal.put_line-requires
put_line-requires c =
    rw (c.part.ensures ∙ set_whole _ _ _ _ c.requires.fits c.set_leaf-length.ensures) (omega (arith, c.requires.fits, c.requires.room))

pub returns : goal.returns
returns c =
    c.put_line.ensures ∙ ap (followed c.args.self.now) (c.part.ensures ∙ set_whole _ _ _ _ c.requires.fits c.set_leaf-length.ensures)
