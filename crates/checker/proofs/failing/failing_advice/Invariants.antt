-- `checker::failing::failing_advice` meets its contract. The loop's invariant: the byte has the bits of the clauses so far.
use Rattle.std.proofs.Common.{◌≡◌, ◌≤◌, length}
use Rattle.rows.specs.Row.{word}
use Rattle.traces.specs.Columns.{trace_of}
use Rattle.checker.specs.Clauses.{LaidOver, clause_at}
use Rattle.checker.proofs.Verdicts.{advised}
use Rattle.checker.proofs.failing.failing_advice.Given as goal

abbrev pub invariant-loop-number : goal.invariant-loop-number
invariant-loop-number l =
    LaidOver l.parts (trace_of l.parts.sizes.cycles l.initial.columns) l.columns l.words × (length l.columns ≡ length l.initial.columns) × (length l.words ≡ length l.initial.words)
    × (length l.rows ≡ 64) × (l.number ≤ l.parts.sizes.clauses)
    × (l.advice ≡ word l.number (advised (clause_at l.parts.nodes.now l.parts.clauses.now) (trace_of l.parts.sizes.cycles l.initial.columns)))
