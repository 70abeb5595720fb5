-- `tables::fill::fill` meets its contract.
use Rattle.std.proofs.Common.{◌≡◌, ◌-◌, length}
use Rattle.traces.specs.Columns.{trace_of, marks_of}
use Rattle.stored.specs.Node.{node_at}
use Rattle.tables.proofs.Fills.{Sofar}
use Rattle.tables.proofs.fill.fill.Given as goal

abbrev pub invariant-loop-i : goal.invariant-loop-i
invariant-loop-i l = (length l.words ≡ length l.initial.words) × Sofar (node_at l.nodes) l.count (trace_of l.n l.columns) (marks_of l.columns) l.n l.reach l.moved l.i l.words

abbrev pub decreases-loop-i : goal.decreases-loop-i
decreases-loop-i l = l.count - l.i
