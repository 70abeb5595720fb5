-- Document 01, what the program prints: "BROKEN clause i j k", "HOLDS", "EXCUSED clause" or "REFUSED number", and a newline. A verdict ends with
-- a space and its advice in decimal (request 5).
use Rattle.std.specs.Prelude.{ℕ, List, [], ◌∷◌, ◌++◌, replicate, Result, Ok, Err}
use Rattle.stored.specs.Layout.{least_words}
use Rattle.checker.specs.declared.check.Finding.{Finding}
use Rattle.checker.specs.declared.check.Finding.TheVariants.{Excused, Broken, Holds}
use Rattle.checker.specs.declared.check.Verdict.{Verdict}
use Rattle.stored.specs.declared.refusal.Refusal.{Refusal}
use Rattle.stored.specs.Refusal.{number_of}
use Rattle.checker.specs.Check.{check_answer}
use Rattle.lines.specs.Input.{sheet_of, trace_of}
use Rattle.lines.specs.Lines.{line_with, refused_text}

abbrev pub broken_word : List ℕ
broken_word = 66 ∷ 82 ∷ 79 ∷ 75 ∷ 69 ∷ 78 ∷ []

abbrev pub holds_word : List ℕ
holds_word = 72 ∷ 79 ∷ 76 ∷ 68 ∷ 83 ∷ []

abbrev pub excused_word : List ℕ
excused_word = 69 ∷ 88 ∷ 67 ∷ 85 ∷ 83 ∷ 69 ∷ 68 ∷ []

-- the word of a finding, and its numbers
unfoldable pub word_of : Finding → List ℕ
word_of (Broken p) = broken_word
word_of Holds = holds_word
word_of (Excused clause) = excused_word

unfoldable pub numbers_of : Finding → List ℕ
numbers_of (Broken p) = p.clause ∷ p.i ∷ p.j ∷ p.k ∷ []
numbers_of Holds = []
numbers_of (Excused clause) = clause ∷ []

unfoldable pub verdict_text : Verdict → List ℕ
verdict_text v = line_with (word_of v.finding) (numbers_of v.finding ++ (v.advice ∷ []))

unfoldable pub line_text : Result Verdict Refusal → List ℕ
line_text (Ok v) = verdict_text v
line_text (Err refusal) = refused_text (number_of refusal)

-- the bytes that a line takes at most
abbrev pub most_line : ℕ
most_line = 32

-- the check's answer to the program's input, over words enough
unfoldable pub answer_for : List ℕ → Result Verdict Refusal
answer_for l = check_answer (sheet_of l) (trace_of l) (replicate least_words 0)

unfoldable pub line_for : List ℕ → List ℕ
line_for l = line_text (answer_for l)
