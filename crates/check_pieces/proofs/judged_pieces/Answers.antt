-- `check_pieces::judged_pieces` has found no bad record before n, and knows whether one was left-handed.
-- Assumes nothing.
use mathlib.Core.Path.{◌≡◌, sym, ap, ◌∙◌}
use Prim.Native.Nat.{ℕ}
use native.Mathlib.Omega.{arith}
use Rattle.std.specs.Prelude.{Result, ◌≢◌}
use borrow.Author.Tests.{eq-eqb}
use Rattle.laws.specs.Below.{any_none, any_next}
use Rattle.mesh_tables.specs.Tables.{tables_read}
use Rattle.check_refusals.specs.declared.Refusal.{Refusal}
use Rattle.check_refusals.specs.Refusals.{bad_base_record}
use Rattle.check_refusals.specs.Outcomes.{outcome_number, refusal_number, only_5, some_number}
use Rattle.check_pieces.specs.Pieces.{record_number, found_5, not_5, left_none, left_next, pieces_5, pieces_end}
use Rattle.check_pieces.proofs.judged_pieces.Goals.{in-Ok, in-Err+in_default}
use Rattle.check_pieces.proofs.judged_pieces.Goals as goal

pub loop-n-init : goal.loop-n-init
loop-n-init c = let m = tables_read c.args.mesh.now in (any_none (bad_base_record m), left_none m)

pub returns-in-BadBaseRecords : goal.returns-in-BadBaseRecords
returns-in-BadBaseRecords c =
    let m = tables_read c.args.mesh.now in
    let is_5 : refusal_number c.in-Err.refusal ≡ 5 = ap refusal_number c.in-BadBaseRecords.is in
    is_5 ∙ pieces_5 m c.loop-n.n c.loop-n-test.true (found_5 m c.loop-n.n c.in-Err.ensures is_5)

pub loop-n-preserved : goal.loop-n-preserved
loop-n-preserved c = let m = tables_read c.args.mesh.now in elim c.match-judged_record.branch [
  | in-Ok w ↦
      let is : 0 ≡ record_number m c.loop-n.n = w.in-Ok.ensures in
      let other : 0 ≢ 5 = λ e. omega (arith, e) in (
        any_next (bad_base_record m) c.loop-n.n c.loop-n.invariant.0 (not_5 m c.loop-n.n is other),
        left_next m c.loop-n.n is other c.loop-n.invariant.1 (ap (λ (r : Result Unit Refusal). outcome_number r) w.found-is),
      )
  | in-Err+in_default w ↦
      let is = w.in-Err.ensures in
      let other = λ (e : refusal_number w.in-Err.refusal ≡ 5). w.in_default.not-BadBaseRecords (only_5 w.in-Err.refusal (eq-eqb _ _ e)) in (
        any_next (bad_base_record m) c.loop-n.n c.loop-n.invariant.0 (not_5 m c.loop-n.n is other),
        left_next m c.loop-n.n is other c.loop-n.invariant.1 (ap (λ (r : Result Unit Refusal). outcome_number r) w.found-is ∙ rw (some_number w.in-Err.refusal)),
      )
]

pub returns : goal.returns
returns c =
    let m = tables_read c.args.mesh.now in
    pieces_end m c.loop-n.n c.loop-n-test.false c.loop-n.auto.n-end c.loop-n.invariant.0 c.loop-n.invariant.1
