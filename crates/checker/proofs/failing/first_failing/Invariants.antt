-- `checker::failing::first_failing` meets its contract.
use Rattle.std.proofs.Common.{◌≡◌, ℕ, ◌≤◌, ◌<◌, false, length}
use Rattle.semantics.specs.Verdict.{fails_as}
use Rattle.stored.specs.Types.{role_number}
use Rattle.stored.specs.Clause.{role_of}
use Rattle.traces.specs.Columns.{trace_of}
use Rattle.checker.specs.Clauses.{LaidOver, clause_at}
use Rattle.checker.proofs.failing.first_failing.Given as goal

abbrev pub invariant-loop-k : goal.invariant-loop-k
invariant-loop-k l =
    LaidOver l.parts (trace_of l.parts.sizes.cycles l.initial.columns) l.columns l.words × (length l.columns ≡ length l.initial.columns) × (length l.words ≡ length l.initial.words)
    × (length l.rows ≡ 64) × (l.k ≤ l.parts.sizes.clauses)
    × ((j : ℕ) → j < l.k → fails_as (role_of (role_number l.role)) (trace_of l.parts.sizes.cycles l.initial.columns) (clause_at l.parts.nodes.now l.parts.clauses.now j) ≡ false)
