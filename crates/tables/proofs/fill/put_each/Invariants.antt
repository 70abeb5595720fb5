-- `tables::fill::put_each` meets its contract.
use Rattle.std.proofs.Common.{ℕ, ◌<◌, get_or}
use Rattle.tables.proofs.fill.put_each.Given as goal

abbrev pub invariant-loop-b : goal.invariant-loop-b
invariant-loop-b g l = (k : ℕ) → k < l.b → goal.F-post g l.row k (get_or l.own k 0)
