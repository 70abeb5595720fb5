-- Document 01, "The numbered refusals", and those of the change requests: which number each refusal has, and what an operation answers.
use Rattle.std.specs.Prelude.{ℕ, ◌-◌, List, [], ◌∷◌, eqb, codes, slice_index_or, Result, Ok, Err}
use Rattle.stored.specs.declared.refusal.Refusal.{Refusal}
use Rattle.stored.specs.declared.refusal.Refusal.TheVariants.{SheetNotFramed, UnknownSheetVersion, NotARequirement, CountOutOfRange, WrongSheetLength, InvalidNode, InvalidOperand, InvalidClause, UnlistedName, TraceNotFramed, UnknownTraceVersion, OtherSignals, InvalidCycles, ShortOutput, FewWords, NotAFormula, NameOffTrace, TooDeep, OutsideGrammar, TooLarge, InvalidCycle, BoardFull}
use Rattle.stored.specs.Tree.{pick}

unfoldable pub number_of : Refusal → ℕ
number_of SheetNotFramed = 1
number_of UnknownSheetVersion = 2
number_of NotARequirement = 3
number_of CountOutOfRange = 4
number_of WrongSheetLength = 5
number_of InvalidNode = 6
number_of InvalidOperand = 7
number_of InvalidClause = 8
number_of UnlistedName = 9
number_of TraceNotFramed = 10
number_of UnknownTraceVersion = 11
number_of OtherSignals = 12
number_of InvalidCycles = 13
number_of ShortOutput = 14
number_of FewWords = 15
number_of NotAFormula = 16
number_of NameOffTrace = 17
number_of TooDeep = 18
number_of OutsideGrammar = 19
number_of TooLarge = 20
number_of InvalidCycle = 21
number_of BoardFull = 22

-- what is printed of a refusal
unfoldable pub reason_of : Refusal → List ℕ
reason_of SheetNotFramed = codes "the sheet's length is not that of its length field"
reason_of UnknownSheetVersion = codes "the sheet's version is not 1"
reason_of NotARequirement = codes "the sheet is no requirement"
reason_of CountOutOfRange = codes "a count of the sheet is out of range"
reason_of WrongSheetLength = codes "the sheet's length is not that of its counts"
reason_of InvalidNode = codes "a node has a field out of range"
reason_of InvalidOperand = codes "an operand is no earlier node of the right sort"
reason_of InvalidClause = codes "a clause has a field out of range"
reason_of UnlistedName = codes "a part reaches a name that it doesn't list"
reason_of TraceNotFramed = codes "the trace's length is not that of its length field"
reason_of UnknownTraceVersion = codes "the trace's version is not 1"
reason_of OtherSignals = codes "the trace has other signals than the sheet"
reason_of InvalidCycles = codes "the cycles are not 1 to 64 whole words of the signals"
reason_of ShortOutput = codes "the lent bytes are too few"
reason_of FewWords = codes "the lent words are too few"
reason_of NotAFormula = codes "the node asked for is no formula"
reason_of NameOffTrace = codes "a name is put on no cycle of the trace"
reason_of TooDeep = codes "too many round brackets are open"
reason_of OutsideGrammar = codes "the text is outside the grammar"
reason_of TooLarge = codes "the sheet has too many nodes or clauses"
reason_of InvalidCycle = codes "the cycle has a signal that the sheet hasn't"
reason_of BoardFull = codes "the board has no room for a cycle"

-- the numbers are 1 to 22
abbrev pub last_number : ℕ
last_number = 22

-- the refusals in the order of their numbers
unfoldable pub refusals : List Refusal
refusals =
    SheetNotFramed
    ∷ UnknownSheetVersion
    ∷ NotARequirement
    ∷ CountOutOfRange
    ∷ WrongSheetLength
    ∷ InvalidNode
    ∷ InvalidOperand
    ∷ InvalidClause
    ∷ UnlistedName
    ∷ TraceNotFramed
    ∷ UnknownTraceVersion
    ∷ OtherSignals
    ∷ InvalidCycles
    ∷ ShortOutput
    ∷ FewWords
    ∷ NotAFormula
    ∷ NameOffTrace
    ∷ TooDeep
    ∷ OutsideGrammar
    ∷ TooLarge
    ∷ InvalidCycle
    ∷ BoardFull
    ∷ []

-- the refusal with a number from 1 to 22
unfoldable pub refusal_numbered : ℕ → Refusal
refusal_numbered number = slice_index_or refusals (number - 1) SheetNotFramed

-- what an operation answers: the value where no number applies, which 0 says, else the refusal with the number
unfoldable pub answered : {A : Type 0} → ℕ → A → Result A Refusal
answered number value = pick (eqb number 0) (Ok value) (Err (refusal_numbered number))

-- an answer's number, 0 for a value
unfoldable pub answer_number : {A : Type 0} → Result A Refusal → ℕ
answer_number (Ok value) = 0
answer_number (Err refusal) = number_of refusal
