-- `check_service::wrong_counts`: one test after the other, as in the definition.
-- Assumes nothing.
use Rattle.std.proofs.Common.{rules}
use Rattle.check_refusals.specs.Refusals.{wrong_counts}
use Rattle.check_service.proofs.wrong_counts.Goals as goal

pub returns-then-h : goal.returns-then-h
unfolding wrong_counts
returns-then-h c = search rules

pub returns-else-h : goal.returns-else-h
unfolding wrong_counts
returns-else-h c = search rules
