-- Of specs/Hanging.antt, the theorems that an edit of a definition breaks, and what only they need.
use Rattle.std.specs.Prelude.{◌≡◌, refl, true, pos}
use Rattle.std.proofs.Common.{sym, ◌∙◌, arith}
use Rattle.laws.specs.Lists.{bytes_none}
use Rattle.stored.specs.Layout.{stored1}
use Rattle.check_refusals.specs.Rows.{report_number}
use Rattle.build_meaning.specs.Rows.{computed as build_computed}
use Rattle.refine_meaning.specs.Rows.{computed as refine_computed}
use Rattle.demands_words.specs.Services.{Services}
use Rattle.demands_proofs.specs.WorkedMeshes.{small, small_bytes}
use Rattle.demands.specs.Demand2.{MeetsDemand2, demand_2}
use Rattle.demands.specs.Hanging.{built, moved, moved_refused}

pub in_a_face : built (pos 64) (pos 32) (pos 0) ≡ 23
unfolding build_computed refine_computed
in_a_face = refl

moved_small : small moved ≡ true
unfolding build_computed refine_computed
moved_small = refl

-- So whoever meets demand 2 refuses it. "We accepted a base mesh with a vertex in the middle of a neighbour's edge, because document 01 looks at parent pairs only": such services
-- don't meet it any more.
pub accepts_a_hanging_vertex : (S : Services) → MeetsDemand2 S → (S.check (stored1 moved)).number ≡ 0 → ⊥
accepts_a_hanging_vertex S m e =
    let ours = ((demand_2.accepted_exactly (stored1 moved)).1 ((m.accepted_exactly (stored1 moved)).0 ((small_bytes moved moved_small, bytes_none), e))).1 in
    omega (arith, sym (report_number (stored1 moved)) ∙ ours, moved_refused)
