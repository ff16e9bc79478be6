-- `check_service::judged_with`: why the base is refused, or what the cuts have. What the base's rules leave in the lists is as long as it was.
-- Assumes nothing.
use mathlib.Core.Path.{◌∙◌}
use Rattle.std.proofs.lemmas.Result.{err_from_is_err_and}
use Rattle.mesh_tables.specs.Tables.{tables_read}
use Rattle.check_service.specs.Order.{base_refused, base_passed}
use Rattle.check_service.proofs.judged_with.Goals as goal

pub judged_base-requires : goal.judged_base-requires
judged_base-requires c = record { lent_to_base = c.requires.lent_to_base; heads_empty = c.requires.heads_empty; face_heads_empty = c.requires.face_heads_empty }

pub returns-in_err-judged_base : goal.returns-in_err-judged_base
returns-in_err-judged_base c =
    let p = err_from_is_err_and c.from_residual.result c.from_residual.ensures.1 in
    rw (p.1, p.2) (base_refused (tables_read c.args.mesh.now) _ c.in_err-judged_base.ensures)

pub judged_cuts-requires : goal.judged_cuts-requires
judged_cuts-requires c =
    let kept = c.judged_base.auto in
    rw (kept.heads, kept.links, kept.uses) c.requires.lent_to_cuts

pub returns : goal.returns
returns c = c.judged_cuts.ensures ∙ base_passed (tables_read c.args.mesh.now) c.in_ok-judged_base.ensures
