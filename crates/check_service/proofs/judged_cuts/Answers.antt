-- `check_service::judged_cuts`: refusal 9, or what the search found; what is lent has room.
-- Assumes nothing.
use mathlib.Core.Path.{◌≡◌, ◌∙◌}
use native.Mathlib.Omega.{arith}
use Rattle.std.specs.Prelude.{Bool, ◌||◌, List, ℕ, length}
use Rattle.stored.specs.declared.Header.{Header}
use Rattle.check_refusals.specs.Lent.{LentToCuts, where_lent}
use Rattle.check_children.specs.Lent.{cramped, not_cramped}
use Rattle.check_service.specs.Order.{cuts_report}
use Rattle.check_service.proofs.judged_cuts.Goals as goal

-- What is lent has room, so what is found is the rule alone.
where_room : (h : Header) (heads links children midpoints : List ℕ) {rule found : Bool} → LentToCuts h (length heads) (length links) (length children) (length midpoints) → found ≡ (cramped h heads links children midpoints || rule) → rule ≡ found
where_room h heads links children midpoints lent e =
    where_lent e
    (not_cramped h heads links children midpoints
    (record {
      links = record { keys = lent.vertices.some; places = lent.vertices.enough; fits = lent.vertices.fits };
      records = lent.each_record;
      vertices = lent.each_vertex;
    }))

pub returns-then-bad_cuts : goal.returns-then-bad_cuts
unfolding cuts_report
returns-then-bad_cuts c = rw (where_room _ _ _ _ _ c.requires c.bad_cuts.ensures.value ∙ c.if-bad_cuts.true)

pub closed-requires : goal.closed-requires
closed-requires c = let v = c.requires.vertices in record { some = omega (arith, v.some); enough = omega (arith, v.enough); fits = v.fits }

pub returns : goal.returns
unfolding cuts_report
returns c = rw (where_room _ _ _ _ _ c.requires c.bad_cuts.ensures.value ∙ c.if-bad_cuts.false) c.closed.ensures
