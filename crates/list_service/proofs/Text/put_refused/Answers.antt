-- `list_service::Text::put_refused`: the line is whole in its buffer.
-- Assumes nothing.
use mathlib.Core.Path.{◌∙◌, ap}
use native.Mathlib.Omega.{arith}
use Rattle.list_service.specs.Putting.{set_whole, followed}
use Rattle.list_service.specs.Lengths.{refused_long}
use Rattle.list_service.proofs.Text.put_refused.Goals as goal

pub put_line-requires : goal.put_line-requires
put_line-requires c =
    let fits = refused_long c.args.number (omega (arith, c.ranges.number)) in
    rw (c.part.ensures ∙ set_whole _ _ _ _ fits c.set_refused-length.ensures) (omega (arith, fits, c.requires))

pub returns : goal.returns
returns c =
    let fits = refused_long c.args.number (omega (arith, c.ranges.number)) in
    c.put_line.ensures ∙ ap (followed c.args.self.now) (c.part.ensures ∙ set_whole _ _ _ _ fits c.set_refused-length.ensures)
