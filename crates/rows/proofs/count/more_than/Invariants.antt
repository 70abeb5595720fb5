-- `rows::count::more_than` meets its contract.
use Rattle.std.proofs.Common.{◌-◌, ◌<◌}
use lib.Count.{ones}
use Rattle.rows.proofs.Counts.{from, Dropped}
use Rattle.rows.proofs.count.more_than.Given as goal

abbrev pub invariant-loop : goal.invariant-loop
invariant-loop l = (l.number < ones (from l.column l.b)) × Dropped l.column l.b l.number l.left (l.number - l.counter)
