-- `traces::trace::signal_column` meets its contract.
use Rattle.std.proofs.Common.{◌≡◌}
use Rattle.traces.specs.Columns.{signal_column}
use Rattle.traces.proofs.trace.signal_column.Given as goal

abbrev pub invariant-loop-t : goal.invariant-loop-t
invariant-loop-t l = l.out ≡ signal_column l.trace l.t l.k
