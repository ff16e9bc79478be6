-- What a service answers, as the documents number it: 0 where nothing is refused.
use Rattle.std.specs.Prelude.{◌≡◌, ℕ, Result, Ok, Err, eqb, refl, true, false}
use Rattle.std.proofs.Common.{sym, true≢false}
use Rattle.check_refusals.specs.declared.Report.{Report}
use Rattle.check_refusals.specs.declared.Refusal.{Refusal}
use Rattle.check_refusals.specs.declared.Refusal.TheVariants.{WrongLength, WrongMark, WrongCounts, BadVertices, BadBaseRecords, BadBaseMarks, BadBaseFaces, UnusedVertices, BadCuts, HangingEdge, WrongSelectionLength, WrongSelectionMark, AnotherJob, AnotherRound, BadNumbers, NamesCut, NamesLast, LastRound, Exceeds, TooShort, NotWhole, LeftHandedRecords, HangingVertices, NamesUncut}
use Rattle.check_refusals.specs.Check.{refused_with}

-- "If an answer is an enum, a definition gives this paper's number and values for each of its cases."
abbrev pub refusal_number : Refusal → ℕ
refusal_number WrongLength = 1
refusal_number WrongMark = 2
refusal_number WrongCounts = 3
refusal_number BadVertices = 4
refusal_number BadBaseRecords = 5
refusal_number BadBaseMarks = 6
refusal_number BadBaseFaces = 7
refusal_number UnusedVertices = 8
refusal_number BadCuts = 9
refusal_number (HangingEdge n e) = 10
refusal_number WrongSelectionLength = 11
refusal_number WrongSelectionMark = 12
refusal_number AnotherJob = 13
refusal_number AnotherRound = 14
refusal_number BadNumbers = 15
refusal_number NamesCut = 16
refusal_number NamesLast = 17
refusal_number LastRound = 18
refusal_number Exceeds = 19
refusal_number TooShort = 20
refusal_number NotWhole = 21
refusal_number LeftHandedRecords = 22
refusal_number HangingVertices = 23
refusal_number NamesUncut = 30

abbrev pub outcome_number : Result Unit Refusal → ℕ
outcome_number (Ok u) = 0
outcome_number (Err r) = refusal_number r

-- What check reports of it before the figures: of a hanging edge its record and its edge code too.
abbrev pub refusal_report : Refusal → Report
refusal_report (HangingEdge n e) = record { number = 10; leaves = 0; deepest = 0; sixfold = 0; «record» = n; edge = e }
refusal_report r = refused_with (refusal_number r)

abbrev pub outcome_report : Result Unit Refusal → Report
outcome_report (Ok u) = refused_with 0
outcome_report (Err r) = refusal_report r

-- No refusal has the number 0.
pub some_number : (r : Refusal) → eqb (refusal_number r) 0 ≡ false
some_number WrongLength = refl
some_number WrongMark = refl
some_number WrongCounts = refl
some_number BadVertices = refl
some_number BadBaseRecords = refl
some_number BadBaseMarks = refl
some_number BadBaseFaces = refl
some_number UnusedVertices = refl
some_number BadCuts = refl
some_number (HangingEdge n e) = refl
some_number WrongSelectionLength = refl
some_number WrongSelectionMark = refl
some_number AnotherJob = refl
some_number AnotherRound = refl
some_number BadNumbers = refl
some_number NamesCut = refl
some_number NamesLast = refl
some_number LastRound = refl
some_number Exceeds = refl
some_number TooShort = refl
some_number NotWhole = refl
some_number LeftHandedRecords = refl
some_number HangingVertices = refl
some_number NamesUncut = refl

-- But for a hanging edge's, a report has the number alone.
pub plain_report : (r : Refusal) → eqb (refusal_number r) 10 ≡ false → refusal_report r ≡ refused_with (refusal_number r)
plain_report WrongLength e = refl
plain_report WrongMark e = refl
plain_report WrongCounts e = refl
plain_report BadVertices e = refl
plain_report BadBaseRecords e = refl
plain_report BadBaseMarks e = refl
plain_report BadBaseFaces e = refl
plain_report UnusedVertices e = refl
plain_report BadCuts e = refl
plain_report (HangingEdge n k) e = absurd (true≢false e)
plain_report WrongSelectionLength e = refl
plain_report WrongSelectionMark e = refl
plain_report AnotherJob e = refl
plain_report AnotherRound e = refl
plain_report BadNumbers e = refl
plain_report NamesCut e = refl
plain_report NamesLast e = refl
plain_report LastRound e = refl
plain_report Exceeds e = refl
plain_report TooShort e = refl
plain_report NotWhole e = refl
plain_report LeftHandedRecords e = refl
plain_report HangingVertices e = refl
plain_report NamesUncut e = refl

-- One refusal alone has the number 5.
pub only_5 : (r : Refusal) → eqb (refusal_number r) 5 ≡ true → r ≡ BadBaseRecords
only_5 WrongLength e = absurd (true≢false (sym e))
only_5 WrongMark e = absurd (true≢false (sym e))
only_5 WrongCounts e = absurd (true≢false (sym e))
only_5 BadVertices e = absurd (true≢false (sym e))
only_5 BadBaseRecords e = refl
only_5 BadBaseMarks e = absurd (true≢false (sym e))
only_5 BadBaseFaces e = absurd (true≢false (sym e))
only_5 UnusedVertices e = absurd (true≢false (sym e))
only_5 BadCuts e = absurd (true≢false (sym e))
only_5 (HangingEdge n k) e = absurd (true≢false (sym e))
only_5 WrongSelectionLength e = absurd (true≢false (sym e))
only_5 WrongSelectionMark e = absurd (true≢false (sym e))
only_5 AnotherJob e = absurd (true≢false (sym e))
only_5 AnotherRound e = absurd (true≢false (sym e))
only_5 BadNumbers e = absurd (true≢false (sym e))
only_5 NamesCut e = absurd (true≢false (sym e))
only_5 NamesLast e = absurd (true≢false (sym e))
only_5 LastRound e = absurd (true≢false (sym e))
only_5 Exceeds e = absurd (true≢false (sym e))
only_5 TooShort e = absurd (true≢false (sym e))
only_5 NotWhole e = absurd (true≢false (sym e))
only_5 LeftHandedRecords e = absurd (true≢false (sym e))
only_5 HangingVertices e = absurd (true≢false (sym e))
only_5 NamesUncut e = absurd (true≢false (sym e))

-- A report has the number that C is given.
pub outcome_reported : (o : Result Unit Refusal) → (outcome_report o).number ≡ outcome_number o
outcome_reported (Ok u) = refl
outcome_reported (Err r) = of r
  where
    of : (r : Refusal) → (refusal_report r).number ≡ refusal_number r
    of WrongLength = refl
    of WrongMark = refl
    of WrongCounts = refl
    of BadVertices = refl
    of BadBaseRecords = refl
    of BadBaseMarks = refl
    of BadBaseFaces = refl
    of UnusedVertices = refl
    of BadCuts = refl
    of (HangingEdge n e) = refl
    of WrongSelectionLength = refl
    of WrongSelectionMark = refl
    of AnotherJob = refl
    of AnotherRound = refl
    of BadNumbers = refl
    of NamesCut = refl
    of NamesLast = refl
    of LastRound = refl
    of Exceeds = refl
    of TooShort = refl
    of NotWhole = refl
    of LeftHandedRecords = refl
    of HangingVertices = refl
    of NamesUncut = refl
