-- `intervals::search::search` meets its contract.
use Rattle.std.proofs.Common.{◌-◌, ◌≤◌, ◌<◌, true, ◌≡◌}
use Rattle.semantics.specs.Proposition.{bit}
use Rattle.intervals.specs.Rows.{type_of}
use Rattle.intervals.proofs.Searching.{RowsPassed, EndsPassed, CyclesPassed}
use Rattle.intervals.proofs.search.search.Given as goal

abbrev pub invariant-loop-k : goal.invariant-loop-k
invariant-loop-k l =
    (l.place ≡ l.best) × (l.k < 64 → bit l.to l.k ≡ true) × CyclesPassed (type_of l.clause_type) l.first l.third l.answers l.n l.i l.j l.k

abbrev pub decreases-loop-k : goal.decreases-loop-k
decreases-loop-k l = l.n - l.k

abbrev pub invariant-loop-j : goal.invariant-loop-j
invariant-loop-j l =
    (l.place ≡ l.best) × (l.j < 64 → bit l.from l.j ≡ true) × EndsPassed (type_of l.clause_type) l.first l.third l.answers l.n l.i l.j

abbrev pub decreases-loop-j : goal.decreases-loop-j
decreases-loop-j l = l.n - l.j

abbrev pub invariant-places : goal.invariant-places
invariant-places l =
    (l.place ≡ l.best) × (l.i ≤ l.rows) × RowsPassed (type_of l.clause_type) l.first l.third l.answers l.n l.i
