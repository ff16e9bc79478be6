-- `check_children::no_midpoints` asks each vertex in turn.
-- Assumes nothing.
use mathlib.Core.Path.{refl, ◌∙◌}
use Rattle.std.proofs.Common.{arith, rules, tests}
use Rattle.std.proofs.lemmas.Iterator.{YieldsList-from_range}
use Rattle.std.proofs.lemmas.Iterator.Search.{any_from_yields_List}
use Rattle.laws.specs.Ranges.{any_of_range}
use Rattle.mesh_tables.specs.Tables.{tables_read}
use Rattle.check_children.specs.Midpoints.{no_midpoint_by}
use Rattle.check_children.proofs.no_midpoints.Goals as goal

pub returns : goal.returns
returns c =
    any_from_yields_List (no_midpoint_by (tables_read c.args.linked.now.mesh.now) c.args.midpoints.now) _ _ _ c.any.ensures.ran (YieldsList-from_range 0 c.args.linked.now.mesh.now.header.vertices c.args.linked.now.mesh.now.header.vertices refl (omega arith)) (λ x b q k. search (rules, tests))
    ∙ any_of_range c.args.linked.now.mesh.now.header.vertices _
