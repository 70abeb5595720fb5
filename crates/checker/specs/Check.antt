-- Document 01, "Verdicts and tables": the check, its answer and its refusals 1 to 13 and 15.
use Rattle.std.specs.Prelude.{ℕ, List, Result}
use Rattle.semantics.specs.Verdict as semantics
use Rattle.semantics.specs.Verdict.{verdict}
use Rattle.stored.specs.Sheet.{header_of, sheet_refusal, clauses_of}
use Rattle.traces.specs.Trace.{cycles_of, trace_refusal}
use Rattle.stored.specs.declared.refusal.Refusal.{Refusal}
use Rattle.stored.specs.Refusal.{answered}
use Rattle.checker.specs.declared.check.Finding.{Finding}
use Rattle.checker.specs.declared.check.Finding.TheVariants.{Excused, Broken, Holds}
use Rattle.checker.specs.declared.check.Verdict.{Verdict}
use Rattle.checker.specs.Table.{or_else, words_refusal}

-- what each case of a finding says: the document's, with its clause or its place
unfoldable pub told : semantics.Finding → Finding
told (semantics.Excused clause) = Excused clause
told (semantics.Broken p) = Broken (record { clause = p.clause; i = p.i; j = p.j; k = p.k })
told semantics.Holds = Holds

-- a verdict's finding and its advice
unfoldable pub told_whole : semantics.Verdict → Verdict
told_whole v = record { finding = told v.finding; advice = v.advice }

-- the lowest number that applies, or 0
unfoldable pub check_refusal : List ℕ → List ℕ → List ℕ → ℕ
check_refusal s t words = or_else (sheet_refusal s) (or_else (trace_refusal (header_of s).signals t) (words_refusal words))

-- the verdict on the trace's cycles, or the refusal with that number
unfoldable pub check_answer : List ℕ → List ℕ → List ℕ → Result Verdict Refusal
check_answer s t words = answered (check_refusal s t words) (told_whole (verdict (clauses_of s) (cycles_of t)))
