-- The cycle of calls {find, walk}: a walk for places comes to `find` once no name is left, and that walks over the names of the answer.
-- A walk's measure is how many names are left, and for places it lies above the other's.
use Rattle.std.proofs.Common.{◌+◌, ◌≡◌, ◌≤◌, length}
use Rattle.semantics.specs.Cycles.{some_from}
use Rattle.traces.specs.Columns.{trace_of}
use Rattle.places.specs.Laid.{LaidFor, Walked}
use Rattle.places.proofs.Walks.{next_over, above}
use Rattle.places.proofs.walk.+find_walk.Given as goal

-- 8 for `find`, and for a walk the names left, with 9 more for one that looks for places
abbrev pub decreases-find : goal.decreases-find
decreases-find l = 8

abbrev pub decreases-walk : goal.decreases-walk
decreases-walk l = l.spot.left + above l.job.aim

abbrev pub invariant-walk-loop-t : goal.invariant-walk-loop-t
invariant-walk-loop-t l =
    LaidFor l.job (trace_of l.job.n l.initial.columns) l.columns l.words
    × (length l.columns ≡ length l.initial.columns) × (length l.words ≡ length l.initial.words) × (length l.rows ≡ 64)
    × (l.first ≤ l.t) × (l.t ≤ l.end)
    × Walked l.job (trace_of l.job.n l.initial.columns) l.best l.least l.initial.rows l.rows
    (λ q. some_from l.first l.t (λ i. next_over l.job l.spot i q))
