-- A report tells which outcome it is of; where the number is not 10, the number alone tells it.
use Rattle.std.specs.Prelude.{◌≡◌, refl, false, cond, Result, Ok, Err, eqb}
use Rattle.std.proofs.Common.{sym, ap, ◌∙◌}
use Rattle.check_refusals.specs.declared.Report.{Report}
use Rattle.check_refusals.specs.declared.Refusal.{Refusal}
use Rattle.check_refusals.specs.declared.Refusal.TheVariants.{WrongLength, WrongMark, WrongCounts, BadVertices, BadBaseRecords, BadBaseMarks, BadBaseFaces, UnusedVertices, BadCuts, HangingEdge, WrongSelectionLength, WrongSelectionMark, AnotherJob, AnotherRound, BadNumbers, NamesCut, NamesLast, LastRound, Exceeds, TooShort, NotWhole, LeftHandedRecords, HangingVertices, NamesUncut}
use Rattle.check_refusals.specs.Check.{refused_with}
use Rattle.check_refusals.specs.Outcomes.{refusal_report, outcome_number, outcome_report, plain_report}

-- The outcome that a report is of, found by its number; past 23 there is one alone.
abbrev outcome_of : Report → Result Unit Refusal
outcome_of r =
    let n = r.number in
    cond (eqb n 0) (Ok tt)
    (cond (eqb n 1) (Err WrongLength)
    (cond (eqb n 2) (Err WrongMark)
    (cond (eqb n 3) (Err WrongCounts)
    (cond (eqb n 4) (Err BadVertices)
    (cond (eqb n 5) (Err BadBaseRecords)
    (cond (eqb n 6) (Err BadBaseMarks)
    (cond (eqb n 7) (Err BadBaseFaces)
    (cond (eqb n 8) (Err UnusedVertices)
    (cond (eqb n 9) (Err BadCuts)
    (cond (eqb n 10) (Err (HangingEdge r.«record» r.edge))
    (cond (eqb n 11) (Err WrongSelectionLength)
    (cond (eqb n 12) (Err WrongSelectionMark)
    (cond (eqb n 13) (Err AnotherJob)
    (cond (eqb n 14) (Err AnotherRound)
    (cond (eqb n 15) (Err BadNumbers)
    (cond (eqb n 16) (Err NamesCut)
    (cond (eqb n 17) (Err NamesLast)
    (cond (eqb n 18) (Err LastRound)
    (cond (eqb n 19) (Err Exceeds)
    (cond (eqb n 20) (Err TooShort)
    (cond (eqb n 21) (Err NotWhole)
    (cond (eqb n 22) (Err LeftHandedRecords)
    (cond (eqb n 23) (Err HangingVertices) (Err NamesUncut))))))))))))))))))))))))

outcome_again : (o : Result Unit Refusal) → outcome_of (outcome_report o) ≡ o
outcome_again (Ok u) = refl
outcome_again (Err r) = of r
  where
    of : (r : Refusal) → outcome_of (refusal_report r) ≡ Err r
    of WrongLength = refl
    of WrongMark = refl
    of WrongCounts = refl
    of BadVertices = refl
    of BadBaseRecords = refl
    of BadBaseMarks = refl
    of BadBaseFaces = refl
    of UnusedVertices = refl
    of BadCuts = refl
    of (HangingEdge n e) = refl
    of WrongSelectionLength = refl
    of WrongSelectionMark = refl
    of AnotherJob = refl
    of AnotherRound = refl
    of BadNumbers = refl
    of NamesCut = refl
    of NamesLast = refl
    of LastRound = refl
    of Exceeds = refl
    of TooShort = refl
    of NotWhole = refl
    of LeftHandedRecords = refl
    of HangingVertices = refl
    of NamesUncut = refl

-- Two outcomes with one report are one.
pub one_outcome : (o o' : Result Unit Refusal) → outcome_report o ≡ outcome_report o' → o ≡ o'
one_outcome o o' e = sym (outcome_again o) ∙ ap outcome_of e ∙ outcome_again o'

-- But for a hanging edge's, the report of an outcome has the number alone.
plain_outcome : (o : Result Unit Refusal) → eqb (outcome_number o) 10 ≡ false → outcome_report o ≡ refused_with (outcome_number o)
plain_outcome (Ok u) e = refl
plain_outcome (Err r) e = plain_report r e

-- So two outcomes with one number, which is not 10, have one report, and are one.
pub same_report : (o o' : Result Unit Refusal) → outcome_number o ≡ outcome_number o' → eqb (outcome_number o) 10 ≡ false → outcome_report o ≡ outcome_report o'
same_report o o' n e = plain_outcome o e ∙ ap refused_with n ∙ sym (plain_outcome o' (rw (← n) e))

pub same_outcome : (o o' : Result Unit Refusal) → outcome_number o ≡ outcome_number o' → eqb (outcome_number o) 10 ≡ false → o ≡ o'
same_outcome o o' n e = one_outcome o o' (same_report o o' n e)
